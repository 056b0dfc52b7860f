-- A text is a filter or has one first fault.
use Rattle.std.proofs.Common.{◌≡◌, ◌⊎◌, inl, inr, refl, ap, subst, ℕ, List, length}
use Rattle.std.specs.Prelude.{Result, Ok, Err, IsOk}
use Rattle.cad_schema.specs.Attributes.{Named}
use Rattle.cql_lexer.specs.Laws as lexer
use Rattle.cql_lexer.specs.lemmas.OrderLemmas.{ascends}
use Rattle.cql_lexer.specs.Lexed as lexed
use Rattle.cql_lexer.specs.Lexed.{IsSpelt}
use Rattle.cql_lexer.specs.Mark.{Mark}
use Rattle.cql_lexer.specs.declared.fault.SpellingFault.{SpellingFault}
use Rattle.cql_lexer.specs.declared.fault.LexFault.{LexFault}
use Rattle.cql_lexer.specs.declared.fault.LexFault.TheVariants as lex
use Rattle.cql_parser.specs.Answer as parsed
use Rattle.cql_parser.specs.Answer.{IsParsed}
use Rattle.cql_parser.specs.Faults.{HasFault}
use Rattle.cql_parser.specs.Laws as parser
use Rattle.cql_tree.specs.Order.{IsOrdered}
use Rattle.cql_tree.specs.Syntax.{Syntax}
use Rattle.cql_parser.specs.declared.fault.GrammarFault.{GrammarFault}
use Rattle.cql_parser.specs.declared.fault.ParseFault.{ParseFault}
use Rattle.cql_parser.specs.declared.fault.ParseFault.TheVariants as parse
use Rattle.cql_types.specs.Contract.{ForFault}
use Rattle.cql_types.specs.Kinds.{IsCondition, IsLeast}
use Rattle.cql_types.specs.Laws as types
use Rattle.cql_types.specs.Means.{IsFilter}
use Rattle.cql_types.specs.declared.fault.Fault.{Fault}
use Rattle.cql_types.specs.declared.fault.TypeFault.{TypeFault}
use Rattle.cql_types.specs.declared.fault.TypeFault.TheVariants as check
use Rattle.cql_types.specs.declared.filter.Filter.{Filter}
use Rattle.cql_filter.specs.Answer.{Answers, OrMemory}
use Rattle.cql_filter.specs.Causes.{of_lexer, of_parser, of_types}
use Rattle.cql_filter.specs.Filters.{IsRead, IsAccepted, IsFirstFault, of_spelling, of_grammar, of_kinds}
use Rattle.cql_filter.specs.Laws.{HasFilterOrFault, HasFaultOrFilter, HasOneFirstFault, HasFiltersOfAccepted, HasOneFilter}
use Rattle.cql_filter.specs.declared.cause.Cause.{Cause}
use Rattle.cql_filter.specs.declared.cause.Cause.TheVariants.{OfLexer, OfParser, OfTypes}
use Rattle.cql_filter.specs.declared.cause.FilterFault.{FilterFault}
use Rattle.cql_filter.specs.declared.cause.FilterFault.TheVariants.{Refused, Memory}

-- ---- a text has one tree

same_tokens : lexer.HasOneSpelling → {text : List ℕ} {these those : List Mark} → IsSpelt text these → IsSpelt text those → these ≡ those
same_tokens one {text} {these} {those} a b = one text these those a.spells b.spells

same_tree : lexer.HasOneSpelling → parser.HasOneTree → {text : List ℕ} {this that : Syntax} → IsRead text this → IsRead text that → this ≡ that
same_tree one_spelling one_tree {text} {this} {that} a b =
    one_tree b.tokens this that
    (subst (λ (ts : List Mark). IsParsed ts this) (same_tokens one_spelling a.spelt b.spelt) a.parsed).reads b.parsed.reads

-- whose places ascend
pub ordered : lexer.HasPlacesInOrder → parser.HasPlacesInOrder → {text : List ℕ} {tree : Syntax} → IsRead text tree → IsOrdered tree
ordered tokens_ascend trees_ascend {text} {tree} r =
    trees_ascend r.tokens tree r.parsed.reads (ascends 0 (length text) r.tokens (tokens_ascend text r.tokens r.spelt.spells))

-- ---- a filter has no fault

pub fault_or_filter : lexer.HasOneSpelling → lexer.HasFaultOrTokens → parser.HasOneTree → parser.HasFaultOrTree → types.HasFaultOrCondition → HasFaultOrFilter
fault_or_filter one_spelling no_tokens one_tree no_tree no_condition schema text _ (of_spelling {fault} h) a =
    no_tokens text fault a.read.tokens h a.read.spelt
fault_or_filter one_spelling no_tokens one_tree no_tree no_condition schema text _ (of_grammar {tokens} {fault} spelt h) a =
    no_tree tokens (length text) fault a.tree h
    (subst (λ (ts : List Mark). IsParsed ts a.tree) (same_tokens one_spelling a.read.spelt spelt) a.read.parsed)
fault_or_filter one_spelling no_tokens one_tree no_tree no_condition schema text _ (of_kinds {tree} {fault} read least) a =
    no_condition schema tree fault
    (subst (λ (t : Syntax). IsCondition schema t) (same_tree one_spelling one_tree a.read read) a.condition) least.fault

-- ---- and a text one fault at most

-- the laws of the crates below that say so
pub record Below : Type 0 where
  pub one_spelling : lexer.HasOneSpelling
  pub one_spelling_fault : lexer.HasOneFault
  pub no_tokens : lexer.HasFaultOrTokens
  pub tokens_ascend : lexer.HasPlacesInOrder
  pub one_tree : parser.HasOneTree
  pub one_grammar_fault : parser.HasOneFault
  pub no_tree : parser.HasFaultOrTree
  pub trees_ascend : parser.HasPlacesInOrder
  pub one_least : types.HasOneLeastFault

grammar_same : Below → {text : List ℕ} {these those : List Mark} {this that : GrammarFault} → IsSpelt text these → IsSpelt text those →
    HasFault these (length text) this → HasFault those (length text) that → this ≡ that
grammar_same below {text} {these} {those} {this} {that} a b h k =
    below.one_grammar_fault those (length text) this that
    (subst (λ (ts : List Mark). HasFault ts (length text) this) (same_tokens below.one_spelling a b) h) k

kinds_same : Below → {schema : List Named} {text : List ℕ} {t u : Syntax} {f g : Fault} → IsRead text t → IsRead text u →
    IsLeast schema t f → IsLeast schema u g → f ≡ g
kinds_same below {schema} {text} {t} {u} {f} {g} a b h k =
    below.one_least schema u f g (ordered below.tokens_ascend below.trees_ascend b)
    (subst (λ (v : Syntax). IsLeast schema v f) (same_tree below.one_spelling below.one_tree a b) h) k

no_grammar_fault : Below → {text : List ℕ} {tokens : List Mark} {tree : Syntax} (fault : GrammarFault) → IsSpelt text tokens →
    HasFault tokens (length text) fault → IsRead text tree → ⊥
no_grammar_fault below {text} {tokens} {tree} fault spelt h read =
    below.no_tree tokens (length text) fault tree h
    (subst (λ (ts : List Mark). IsParsed ts tree) (same_tokens below.one_spelling read.spelt spelt) read.parsed)

pub one_first_fault : Below → HasOneFirstFault
one_first_fault below schema text _ _ (of_spelling {fault} h) (of_spelling {fault = other} k) = ap OfLexer (below.one_spelling_fault text fault other h k)
one_first_fault below schema text _ _ (of_spelling {fault} h) (of_grammar {tokens} spelt k) = absurd (below.no_tokens text fault tokens h spelt)
one_first_fault below schema text _ _ (of_spelling {fault} h) (of_kinds read k) = absurd (below.no_tokens text fault read.tokens h read.spelt)
one_first_fault below schema text _ _ (of_grammar {tokens} spelt h) (of_spelling {fault} k) = absurd (below.no_tokens text fault tokens k spelt)
one_first_fault below schema text _ _ (of_grammar a h) (of_grammar b k) = ap OfParser (grammar_same below a b h k)
one_first_fault below schema text _ _ (of_grammar {fault = fault} spelt h) (of_kinds read k) = absurd (no_grammar_fault below fault spelt h read)
one_first_fault below schema text _ _ (of_kinds read h) (of_spelling {fault} k) = absurd (below.no_tokens text fault read.tokens k read.spelt)
one_first_fault below schema text _ _ (of_kinds read h) (of_grammar {fault = fault} spelt k) = absurd (no_grammar_fault below fault spelt k read)
one_first_fault below schema text _ _ (of_kinds a h) (of_kinds b k) = ap OfTypes (kinds_same below a b h k)

-- ---- a text is a filter or has a fault

abbrev IsSettled : List Named → List ℕ → Type 0
IsSettled schema text = IsAccepted schema text ⊎ ((cause : Cause) × IsFirstFault schema text cause)

kinds_settled : {schema : List Named} {text : List ℕ} {tree : Syntax} → IsRead text tree →
    IsCondition schema tree ⊎ ((fault : Fault) × IsLeast schema tree fault) → IsSettled schema text
kinds_settled {tree = tree} read (inl h) = inl (record { tree = tree; read = read; condition = h })
kinds_settled read (inr h) = inr (OfTypes h.0, of_kinds read h.1)

grammar_settled : lexer.HasPlacesInOrder → parser.HasPlacesInOrder → types.HasConditionOrFault → {schema : List Named} {text : List ℕ} {tokens : List Mark} →
    IsSpelt text tokens → ((tree : Syntax) × IsParsed tokens tree) ⊎ ((fault : GrammarFault) × HasFault tokens (length text) fault) →
    ¬ ¬ IsSettled schema text
grammar_settled tokens_ascend trees_ascend conditions {schema} {text} {tokens} spelt (inl h) denied =
    let read : IsRead text h.0 = record { tokens = tokens; spelt = spelt; parsed = h.1 } in
    conditions schema h.0 (ordered tokens_ascend trees_ascend read) (λ k. denied (kinds_settled read k))
grammar_settled tokens_ascend trees_ascend conditions spelt (inr h) denied = denied (inr (OfParser h.0, of_grammar spelt h.1))

spelling_settled : lexer.HasPlacesInOrder → parser.HasTreeOrFault → parser.HasPlacesInOrder → types.HasConditionOrFault → {schema : List Named} {text : List ℕ} →
    ((tokens : List Mark) × IsSpelt text tokens) ⊎ ((fault : SpellingFault) × lexed.HasFault text fault) → ¬ ¬ IsSettled schema text
spelling_settled tokens_ascend trees trees_ascend conditions {text = text} (inl h) =
    grammar_settled tokens_ascend trees_ascend conditions h.1 (trees h.0 (length text))
spelling_settled tokens_ascend trees trees_ascend conditions (inr h) = λ denied. denied (inr (OfLexer h.0, of_spelling h.1))

pub filter_or_fault : lexer.HasTokensOrFault → lexer.HasPlacesInOrder → parser.HasTreeOrFault → parser.HasPlacesInOrder → types.HasConditionOrFault → HasFilterOrFault
filter_or_fault spellings tokens_ascend trees trees_ascend conditions schema text =
    spelling_settled tokens_ascend trees trees_ascend conditions (spellings text)

pub filters_of_accepted : types.HasFiltersOfConditions → HasFiltersOfAccepted
filters_of_accepted conditions schema text filter h =
    record { tree = h.tree; read = h.read; condition = conditions schema h.tree filter h.means }

pub one_filter : lexer.HasOneSpelling → parser.HasOneTree → types.HasOneFilter → HasOneFilter
one_filter one_spelling one_tree one_meaning schema text x y a b =
    one_meaning schema b.tree x y (subst (λ (t : Syntax). IsFilter schema t x) (same_tree one_spelling one_tree a.read b.read) a.means) b.means

-- ---- what the answers say

pub of_lexer_answers : (schema : List Named) (text : List ℕ) (why : LexFault) → lexed.Answers text (Err why) → Answers schema text (Err (of_lexer why))
of_lexer_answers schema text (lex.At fault) h = of_spelling h
of_lexer_answers schema text lex.Memory h = tt

pub of_parser_answers : (schema : List Named) (text : List ℕ) (tokens : List Mark) (end : ℕ) (why : ParseFault) → IsSpelt text tokens → end ≡ length text →
    parsed.Answers tokens end (Err why) → Answers schema text (Err (of_parser why))
of_parser_answers schema text tokens end (parse.At fault) spelt e h = of_grammar spelt (subst (λ (n : ℕ). HasFault tokens n fault) e h)
of_parser_answers schema text tokens end parse.Memory spelt e h = tt

pub of_types_answers : (schema : List Named) (text : List ℕ) (tree : Syntax) (why : TypeFault) → IsRead text tree → ForFault (IsLeast schema tree) why →
    Answers schema text (Err (of_types why))
of_types_answers schema text tree (check.At fault) read h = of_kinds read h
of_types_answers schema text tree check.Memory read h = tt

pub accepted : HasFaultOrFilter → (schema : List Named) (text : List ℕ) (result : Result Filter FilterFault) → Answers schema text result →
    IsAccepted schema text → OrMemory result (IsOk result)
accepted law schema text (Ok filter) answer a = inr refl
accepted law schema text (Err Memory) answer a = inl refl
accepted law schema text (Err (Refused cause)) answer a = absurd (law schema text cause answer a)

pub refused : HasFaultOrFilter → HasOneFirstFault → (schema : List Named) (text : List ℕ) (result : Result Filter FilterFault) → Answers schema text result →
    (cause : Cause) → IsFirstFault schema text cause → OrMemory result (result ≡ Err (Refused cause))
refused law one schema text (Ok filter) answer cause h = absurd (law schema text cause h answer.0)
refused law one schema text (Err Memory) answer cause h = inl refl
refused law one schema text (Err (Refused other)) answer cause h = inr (ap (λ c. Err (Refused c)) (one schema text other cause answer h))
