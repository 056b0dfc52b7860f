use Rattle.std.proofs.Common.{◌≡◌, ◌++◌, ◌∷◌, [], sym, ap, ap₂, ◌∙◌, append_assoc, append-nil}
use Rattle.std.proofs.lemmas.List.{nil_from_length}
use Rattle.std.specs.Vec.Iter.{into_iter_items}
use Rattle.cad_layer.proofs.change.as_changes.Goals as goal

pub loop-feature-init : goal.loop-feature-init
loop-feature-init c = record {
  rest = sym c.into_iter-feature-iterator.ensures.into_iter_gives.0;
  so_far = c.in_ok-changes.ensures.items;
}

pub loop-feature-preserved : goal.loop-feature-preserved
loop-feature-preserved c =
    let so_far = c.loop-feature.yielded in
    let x = c.in-Some.feature in
    let later = into_iter_items c.next.new.self in
    let steps : into_iter_items c.loop-feature.feature-iterator ≡ x ∷ later = c.in-Some.ensures.steps.0 in
    record {
      rest = c.loop-feature.invariant.rest ∙ ap (λ is. so_far ++ is) steps ∙ sym (append_assoc so_far (x ∷ []) later);
      so_far = c.in_ok-push.ensures.items ∙ ap₂ (λ v y. v ++ y ∷ []) c.loop-feature.invariant.so_far c.in_ok-change.ensures;
    }

pub returns : goal.returns
returns c =
    let left = c.loop-feature.feature-iterator.rest in
    let none = nil_from_length left.items (sym left.ok.0 ∙ c.in-None.ensures.steps.0) in
    c.loop-feature.invariant.so_far ∙ sym (c.loop-feature.invariant.rest ∙ ap (λ is. c.loop-feature.yielded ++ is) none ∙ append-nil c.loop-feature.yielded)
