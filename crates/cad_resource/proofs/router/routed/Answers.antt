use Rattle.std.proofs.Common.{◌≡◌, Some, codes, sym, ap, ◌∙◌, arith}
use Rattle.matchit.specs.Params.{named, walk}
use Rattle.matchit.specs.Router.{RouteOf}
use Rattle.cad_resource.specs.declared.route.Route.{Route}
use Rattle.cad_resource.specs.RouteRows.{taken}
use Rattle.cad_resource.proofs.ParamLemmas.{route_missing, route_taken}
use Rattle.cad_resource.proofs.router.routed.Goals as goal

pub returns-in-Ok : goal.returns-in-Ok
returns-in-Ok c =
    let path = c.args.path.now in
    let params = c.in-Ok.found.params in
    let key : RouteOf Route = record { pattern = params.pattern.now; text = params.text.now; names = params.names.now; value = c.in-Ok.found.value.now } in
    let path_is : params.path.now ≡ path = rw c.in-Ok.is at c.at.ensures.path in
    let of_path = route_taken path key c.utf8.path (λ i. omega (arith, c.type_inv.path i)) (rw (c.in-Ok.is, c.requires) at c.at.ensures.found) in
    let name : c.taken.result.now ≡ taken (named (codes "c") (walk key.pattern key.text path key.names 0 0)) = (rw path_is at c.taken.ensures) of_path.2.0 in
    let identifier : c.taken-in-Ok.result.now ≡ taken (named (codes "id") (walk key.pattern key.text path key.names 0 0)) = (rw path_is at c.taken-in-Ok.ensures) of_path.2.0 in
    rw (name, identifier) (ap Some of_path.2.1 ∙ sym of_path.1)

pub returns-in-Err : goal.returns-in-Err
returns-in-Err c =
    sym (route_missing c.args.path.now (λ i. omega (arith, c.type_inv.path i)) (rw (c.in-Err.is, c.requires) at c.at.ensures.missing))
