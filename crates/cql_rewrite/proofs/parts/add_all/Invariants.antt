use Rattle.std.proofs.Common.{◌≡◌, ◌≤◌, ◌&&◌, List, min}
use Rattle.std.specs.List.{list_all}
use Rattle.cad_feature.specs.Features.{Item}
use Rattle.cql_rewrite.specs.Costs.{least_of_all}
use Rattle.cql_rewrite.specs.Meets.{Written, meets}
use Rattle.cql_rewrite.specs.Atoms.{HavePlainAtoms}
use Rattle.cql_rewrite.proofs.parts.add_all.Given as goal

-- the parts so far with those that are left are all parts
abbrev pub invariant-loop-part : goal.invariant-loop-part
invariant-loop-part l = record {
  stands : (x : Item) → (list_all (meets x) l.parts.items && list_all (meets x) l.part-iterator.rest.items) ≡ (list_all (meets x) l.fn.parts.items && list_all (meets x) l.fn.inner.items);
  costs : (t : List Written) → min (least_of_all t l.parts.items) (least_of_all t l.part-iterator.rest.items) ≤ min (least_of_all t l.fn.parts.items) (least_of_all t l.fn.inner.items);
  atoms : HavePlainAtoms l.fn.parts.items → HavePlainAtoms l.fn.inner.items → HavePlainAtoms l.parts.items × HavePlainAtoms l.part-iterator.rest.items;
}
