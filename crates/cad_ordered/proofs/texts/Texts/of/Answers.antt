use Rattle.std.proofs.Common.{◌∙◌, ◌++◌, ◌∷◌, [], ap, arith, chars, string_bytes, sym}
use Rattle.std.specs.Rc.{rc_value}
use Rattle.std.proofs.lemmas.List.{length-map, map-append}
use Rattle.cad_feature.specs.Values.{a_text}
use Rattle.cad_ordered.proofs.Sampled.{sampled_with, sampled_without}
use Rattle.cad_ordered.proofs.texts.Texts.of.Goals as goal
use Rattle.cad_ordered.proofs.texts.Texts.of.Goals.{then-len-eq0+in_ok-push, else-len-eq0}

pub loop-key-preserved : goal.loop-key-preserved
loop-key-preserved c =
    let i = c.loop-key.invariant in
    let n = length-map c.loop-key.texts.items (λ x. string_bytes (rc_value x)) in
    rw c.in_ok-push-2.ensures.items (
      map-append (λ x. a_text (chars (string_bytes (rc_value x)))) c.loop-key.texts.items (c.in-Some.key.text ∷ []) ∙ ap (λ xs. xs ++ a_text (chars (string_bytes c.in-Some.key.text.value)) ∷ []) i.0 ∙ sym (map-append (λ k. a_text (chars (string_bytes k.text.value))) c.loop-key.yielded (c.in-Some.key ∷ [])),
      elim c.if-len-eq0.branch [
        | then-len-eq0+in_ok-push w ↦ rw (w.samples-is, w.in_ok-push.ensures.items, map-append (λ x. string_bytes (rc_value x)) c.loop-key.texts.items (c.in-Some.key.text ∷ [])) (sampled_with _ _ c.in-Some.key.fronts (string_bytes c.in-Some.key.text.value) (omega (arith, n, w.if-len-eq0.true, c.len-in-loop-key.ensures)) c.in-Some.key.fronted i.1)
        | else-len-eq0 w ↦ rw (w.samples-is, map-append (λ x. string_bytes (rc_value x)) c.loop-key.texts.items (c.in-Some.key.text ∷ [])) (sampled_without _ _ (string_bytes c.in-Some.key.text.value) (λ e. w.if-len-eq0.false (omega (arith, n, e, c.len-in-loop-key.ensures))) i.1)
      ],
    )
