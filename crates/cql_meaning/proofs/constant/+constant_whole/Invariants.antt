use Rattle.std.proofs.Common.{◌≡◌, drop, map}
use Rattle.cad_feature.specs.Features.{Item}
use Rattle.cql_meaning.specs.Arithmetic.{stepped, whole_value}
use Rattle.cql_meaning.specs.lemmas.TermLemmas.{part_of}
use Rattle.cql_meaning.proofs.constant.+constant_whole.Given as goal

-- on every feature the parts that are left make of the value so far what the whole term is
abbrev pub invariant-loop-step : goal.invariant-loop-step
invariant-loop-step l =
    (x : Item) → stepped l.value (map (part_of x) (drop l.step-index l.step-items)) ≡ whole_value x l.term
