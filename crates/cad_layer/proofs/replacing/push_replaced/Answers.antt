use Rattle.std.proofs.Common.{None, Some, [], ◌++◌, ◌∙◌, ◌∷◌, ap, append-nil, subst, sym}
use Rattle.cad_feature.specs.Features.{identifier_of}
use Rattle.cad_layer.specs.Identifiers.{IsTheOne}
use Rattle.cad_layer.proofs.ReplacedLemmas.{no_twin, one_twin}
use Rattle.cad_layer.proofs.replacing.push_replaced.Goals as goal

pub returns-in_default : goal.returns-in_default
returns-in_default g c =
    let change = c.args.change.now in
    let features = g.T.Findable.features c.args.features.now in
    let items = c.args.all.now.items in
    let same = ap identifier_of (c.change.view_is ∙ c.feature-change.ensures) in
    let none = subst (λ wanted. IsTheOne wanted features None) same c.in_default.ensures.one in
    sym (append-nil items) ∙ ap (λ ys. items ++ ys) (sym (no_twin change features none))

pub returns : goal.returns
returns g c =
    let change = c.args.change.now in
    let features = g.T.Findable.features c.args.features.now in
    let items = c.args.all.now.items in
    let same = ap identifier_of (c.change.view_is ∙ c.feature-change.ensures) in
    let one = subst (λ wanted. IsTheOne wanted features (Some c.in-Some.feature.now)) same c.in-Some.ensures.one in
    c.in_ok-push.ensures.items ∙ ap (λ ys. items ++ ys) (ap (λ x. x ∷ []) c.in_ok-feature.ensures ∙ sym (one_twin change features c.in-Some.feature.now c.in-Some.ensures.order one))
