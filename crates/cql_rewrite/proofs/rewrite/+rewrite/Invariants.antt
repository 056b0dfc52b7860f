use Rattle.std.proofs.Common.{List, ◌≡◌, ◌≤◌, ◌+◌, min, ◌&&◌, ◌||◌, drop, map}
use Rattle.std.specs.List.{list_all, list_any}
use Rattle.cql_rewrite.specs.Meets.{Written, in_side, meets}
use Rattle.cql_rewrite.specs.Costs.{bound_on, every, least, least_of_all, min_of, total}
use Rattle.cql_rewrite.specs.Atoms.{HavePlainAtoms}
use Rattle.cql_rewrite.proofs.rewrite.+rewrite.Given as goal

-- the forms so far with the parts that are left are all parts
abbrev pub invariant-normal_parts-loop-part : goal.invariant-normal_parts-loop-part
invariant-normal_parts-loop-part l = record {
  stands : (x : Written) → (list_all (meets x.item) l.forms.items && list_all (in_side l.side x.item) (drop l.part-index l.parts)) ≡ list_all (in_side l.side x.item) l.parts;
  costs : (t : List Written) → min (least_of_all t l.forms.items) (min_of (every t) (map (bound_on l.side t) (drop l.part-index l.parts))) ≤ min_of (every t) (map (bound_on l.side t) l.parts);
  atoms : HavePlainAtoms l.forms.items;
}

abbrev pub invariant-normal_parts-loop-part-else-all : goal.invariant-normal_parts-loop-part-else-all
invariant-normal_parts-loop-part-else-all l = record {
  stands : (x : Written) → (list_any (meets x.item) l.forms.items || list_any (in_side l.side x.item) (drop l.part-index l.parts)) ≡ list_any (in_side l.side x.item) l.parts;
  costs : (t : List Written) → (total (map (least t) l.forms.items) + total (map (bound_on l.side t) (drop l.part-index l.parts))) ≤ total (map (bound_on l.side t) l.parts);
  atoms : HavePlainAtoms l.forms.items;
}
