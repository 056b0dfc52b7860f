use Rattle.std.proofs.Common.{◌≡◌, ◌++◌, drop, map}
use Rattle.cad_lookup.specs.Ways.{counts_of, way_of}
use Rattle.cql_rewrite.specs.Menus.{choice}
use Rattle.cad_plan.proofs.menus.add_choices.Given as goal

-- the plans so far with the choices that are left are all
abbrev pub invariant-loop-part : goal.invariant-loop-part
invariant-loop-part l =
    map way_of l.plans.items ++ map (choice (counts_of l.features.features)) (drop l.part-index l.parts) ≡ map way_of l.fn.plans.items ++ map (choice (counts_of l.features.features)) l.parts
