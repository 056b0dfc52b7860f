use Rattle.std.proofs.Common.{◌≡◌, ◌||◌, drop}
use Rattle.std.specs.List.{list_any}
use Rattle.cad_feature.specs.Features.{Item}
use Rattle.cql_lexer.specs.declared.token.Comparison.TheVariants.{Equal}
use Rattle.cql_rewrite.specs.Atoms.{HavePlainAtoms}
use Rattle.cql_rewrite.specs.Costs.{any_equal}
use Rattle.cql_rewrite.specs.Meets.{meets}
use Rattle.cql_rewrite.specs.Terms.{flag_sides}
use Rattle.cql_rewrite.proofs.flags.equal_flags.Given as goal

-- the forms so far with the items that are left are all items
abbrev pub invariant-loop-item : goal.invariant-loop-item
invariant-loop-item l = record {
  stands : (x : Item) → (list_any (meets x) l.forms.items || any_equal (flag_sides Equal) x l.value (drop l.item-index l.items)) ≡ any_equal (flag_sides Equal) x l.value l.items;
  atoms : HavePlainAtoms l.forms.items;
}
