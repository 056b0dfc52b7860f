use Rattle.std.proofs.Common.{◌≡◌, ◌∷◌, drop, map}
use Rattle.cql_meaning.specs.Said.{said}
use Rattle.cql_meaning.specs.Sides.{conjunction, disjunction, sides}
use Rattle.cql_meaning.proofs.decide.+truth.Given as goal

-- what is said so far with what is left is what all parts say
abbrev pub invariant-conjunction-loop-part : goal.invariant-conjunction-loop-part
invariant-conjunction-loop-part l =
    conjunction (said l.all ∷ map (sides l.feature) (drop l.part-index l.parts)) ≡ conjunction (map (sides l.feature) l.parts)

abbrev pub invariant-disjunction-loop-part : goal.invariant-disjunction-loop-part
invariant-disjunction-loop-part l =
    disjunction (said l.some ∷ map (sides l.feature) (drop l.part-index l.parts)) ≡ disjunction (map (sides l.feature) l.parts)
