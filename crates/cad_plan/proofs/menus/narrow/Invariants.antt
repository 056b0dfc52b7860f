use Rattle.std.proofs.Common.{◌≡◌, ◌++◌, drop, map, filter}
use Rattle.cad_lookup.specs.Ways.{counts_of, way_of}
use Rattle.cql_rewrite.specs.Menus.{choice, is_narrow}
use Rattle.cad_plan.proofs.menus.narrow.Given as goal

-- with the choices that are left the plans are all
abbrev pub invariant-loop-part : goal.invariant-loop-part
invariant-loop-part l =
    let counts = counts_of l.features.features in
    map way_of l.narrow.plans.items ++ filter is_narrow (map (choice counts) (drop l.part-index l.parts)) ≡ filter is_narrow (map (choice counts) l.parts)
