use Rattle.std.proofs.Common.{◌≡◌, ◌≤◌, List, ◌+◌, ◌||◌, drop, map}
use Rattle.std.specs.List.{list_any}
use Rattle.cad_feature.specs.Features.{Item}
use Rattle.cql_lexer.specs.declared.token.Comparison.TheVariants.{Equal}
use Rattle.cql_rewrite.specs.Costs.{any_equal, count_of, least, total}
use Rattle.cql_rewrite.specs.Meets.{Written, meets}
use Rattle.cql_rewrite.specs.Atoms.{HavePlainAtoms}
use Rattle.cql_rewrite.proofs.members.equal_items.Given as goal

-- the forms so far with the items that are left are all items
abbrev pub invariant-loop-item : goal.invariant-loop-item
invariant-loop-item g l = record {
  stands : (x : Item) → (list_any (meets x) l.forms.items || any_equal (g.T.Term.said Equal) x l.value (drop l.item-index l.items)) ≡ any_equal (g.T.Term.said Equal) x l.value l.items;
  costs : (t : List Written) → (total (map (least t) l.forms.items) + total (map (count_of t (g.T.Term.said Equal) l.value) (drop l.item-index l.items))) ≤ total (map (count_of t (g.T.Term.said Equal) l.value) l.items);
  atoms : HavePlainAtoms l.forms.items;
}
