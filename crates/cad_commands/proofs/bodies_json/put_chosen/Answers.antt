use Rattle.std.proofs.Common.{◌≡◌, map, true, false, refl, sym, ◌∙◌}
use Rattle.cad_commands.specs.Writing.{is_among}
use Rattle.cad_commands.proofs.ChosenLemmas.{among_borrowed}
use Rattle.cad_commands.proofs.bodies_json.put_chosen.Goals as goal

pub returns-then-contains : goal.returns-then-contains
returns-then-contains c =
    let among : is_among (map (λ name. name.now) c.args.names.now) c.args.name.now ≡ true = sym (c.contains.ensures.value ∙ among_borrowed c.args.names.now c.args.name.now) ∙ c.if-contains.true in
    rw among c.put.ensures.ok

pub returns-else-contains : goal.returns-else-contains
returns-else-contains c =
    let among : is_among (map (λ name. name.now) c.args.names.now) c.args.name.now ≡ false = sym (c.contains.ensures.value ∙ among_borrowed c.args.names.now c.args.name.now) ∙ c.if-contains.false in
    rw among refl
