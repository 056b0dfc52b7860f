use Rattle.std.proofs.Common.{◌∙◌, sym, ap}
use Rattle.std.specs.Option.{option_map}
use Rattle.cad_day.specs.Days.{number_of}
use Rattle.cql_types.specs.declared.fault.Misuse.TheVariants.{NotADate}
use Rattle.cql_tree.specs.Syntax.{bound_leaf}
use Rattle.cql_types.specs.Kinds.{kind_of_day}
use Rattle.cql_types.specs.Contract.{leaf_first}
use Rattle.cql_types.specs.Means.{open_text, day_text}
use Rattle.cql_types.proofs.literal.read_end_text.Goals as goal

pub returns-then-eq : goal.returns-then-eq
returns-then-eq c = open_text (sym c.eq.ensures ∙ c.if-eq.true)

pub returns-in-Some : goal.returns-in-Some
returns-in-Some c = day_text _ (sym c.eq.ensures ∙ c.if-eq.false) (sym c.read.ensures ∙ ap (option_map number_of) c.in-Some.is)

pub returns-in-None : goal.returns-in-None
returns-in-None c = rw c.at.ensures (leaf_first {l = bound_leaf c.args.content.now} {c = NotADate} (rw (sym c.eq.ensures ∙ c.if-eq.false) (ap kind_of_day (sym c.read.ensures ∙ ap (option_map number_of) c.in-None.is))))
