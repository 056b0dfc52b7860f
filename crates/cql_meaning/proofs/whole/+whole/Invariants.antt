use Rattle.std.proofs.Common.{◌≡◌, drop, map}
use Rattle.cql_meaning.specs.Arithmetic.{stepped, whole_value}
use Rattle.cql_meaning.specs.lemmas.TermLemmas.{part_of}
use Rattle.cql_meaning.proofs.whole.+whole.Given as goal

-- the parts that are left make of the value so far what the whole term is
abbrev pub invariant-loop-step : goal.invariant-loop-step
invariant-loop-step l =
    stepped l.value (map (part_of l.feature) (drop l.step-index l.step-items)) ≡ whole_value l.feature l.term
