-- Which texts are filters, and what is wrong first in the others (OGC 21-065r2, requirements classes Basic CQL2 and CQL2 Text; the order of faults: own profile).
use Rattle.std.specs.Prelude.{ℕ, List, length}
use Rattle.cad_schema.specs.Attributes.{Named}
use Rattle.cql_lexer.specs.Lexed as lexer
use Rattle.cql_lexer.specs.Lexed.{IsSpelt}
use Rattle.cql_lexer.specs.Mark.{Mark}
use Rattle.cql_lexer.specs.declared.fault.SpellingFault.{SpellingFault}
use Rattle.cql_parser.specs.Answer.{IsParsed}
use Rattle.cql_parser.specs.Faults as parser
use Rattle.cql_tree.specs.Syntax.{Syntax}
use Rattle.cql_parser.specs.declared.fault.GrammarFault.{GrammarFault}
use Rattle.cql_types.specs.Kinds.{IsCondition, IsLeast}
use Rattle.cql_types.specs.Means.{IsFilter}
use Rattle.cql_types.specs.declared.fault.Fault.{Fault}
use Rattle.cql_types.specs.declared.filter.Filter.{Filter}
use Rattle.cql_filter.specs.declared.cause.Cause.{Cause}
use Rattle.cql_filter.specs.declared.cause.Cause.TheVariants.{OfLexer, OfParser, OfTypes}

-- the text is spelt by tokens that the grammar reads as the tree, within the limits of length and depth
pub record IsRead (text : List ℕ) (tree : Syntax) : Type 0 where
  pub tokens : List Mark
  pub spelt : IsSpelt text tokens
  pub parsed : IsParsed tokens tree

-- the text is a filter: its tree is a condition
pub record IsAccepted (schema : List Named) (text : List ℕ) : Type 0 where
  pub tree : Syntax
  pub read : IsRead text tree
  pub condition : IsCondition schema tree

-- the filter that the text spells
pub record IsFilterOf (schema : List Named) (text : List ℕ) (filter : Filter) : Type 0 where
  pub tree : Syntax
  pub read : IsRead text tree
  pub means : IsFilter schema tree filter

-- what is wrong first: the spelling, else the depth or the grammar, else the fault of kinds with the least place
pub data IsFirstFault (schema : List Named) (text : List ℕ) : Cause → Type 0 where
  of_spelling : {fault : SpellingFault} → lexer.HasFault text fault → IsFirstFault schema text (OfLexer fault)
  of_grammar : {tokens : List Mark} {fault : GrammarFault} → IsSpelt text tokens → parser.HasFault tokens (length text) fault →
      IsFirstFault schema text (OfParser fault)
  of_kinds : {tree : Syntax} {fault : Fault} → IsRead text tree → IsLeast schema tree fault → IsFirstFault schema text (OfTypes fault)
