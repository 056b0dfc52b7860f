use Rattle.std.proofs.Common.{◌∙◌, ap, sym, ◌∷◌, []}
use Rattle.cad_lookup.specs.Ways.{all_features, counts_of}
use Rattle.cql_rewrite.specs.lemmas.MenuNodeLemmas.{menu_And, menu_Or}
use Rattle.cql_rewrite.specs.Menus.{menu}
use Rattle.cad_plan.proofs.menus.plans_for.Goals as goal

pub returns-in_ok-plans-in-And : goal.returns-in_ok-plans-in-And
returns-in_ok-plans-in-And c =
    let counts = counts_of c.args.features.now.features in
    rw c.deref.ensures.value at c.in_ok-plans-in-And.ensures ∙ sym (ap (menu counts) c.in-And.is ∙ menu_And counts c.in-And.parts)

pub returns-in_ok-plans-in-Or : goal.returns-in_ok-plans-in-Or
returns-in_ok-plans-in-Or c =
    let counts = counts_of c.args.features.now.features in
    c.in_ok-plans-in-Or.ensures ∙ ap (λ w. all_features ∷ w ∷ []) (rw c.deref-in-Or.ensures.value at c.in_ok-joined-in-Or.ensures)
    ∙ sym (ap (menu counts) c.in-Or.is ∙ menu_Or counts c.in-Or.parts)
