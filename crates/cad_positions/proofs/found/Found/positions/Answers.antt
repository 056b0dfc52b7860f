use Rattle.std.proofs.Common.{◌∙◌}
use Rattle.cad_positions.specs.Between.{sorted_part}
use Rattle.cad_positions.proofs.found.Found.positions.Goals as goal

pub returns-in_ok-found : goal.returns-in_ok-found
returns-in_ok-found c =
    let p = c.self.invariant in
    sorted_part _ _ _ _ _ p.inverse p.ordered p.within c.in_ok-found.ensures.same c.in_ok-found.ensures.ascends ∙ c.self.view_is
