-- The numbers of every sixteenth text, and what follows from them.
use Rattle.std.proofs.Common.{◌≡◌, ◌∙◌, ℕ, zero, suc, ◌+◌, ◌*◌, ◌/◌, ◌%◌, ◌<◌, List, [], ◌∷◌, ◌++◌, length, map, get_or, chars, ap, sym, refl, subst, arith, Some, ◌⊎◌, inl, inr, true}
use Rattle.std.specs.Prelude.{not}
use Rattle.std.specs.Bool.{◌==◌}
use Rattle.std.proofs.lemmas.Bool.{false≢true}
use Rattle.std.proofs.lemmas.List.{length-map, length-append}
use Rattle.std.proofs.Math.ListN.{get_or-append}
use Rattle.std.proofs.Math.Seq.{get_or-append_seam}
use Rattle.std.specs.Str.{IsUtf8}
use Rattle.std.specs.declared.cmp.Ordering.{Ordering}
use Rattle.std.specs.declared.cmp.Ordering.TheVariants.{Less, Equal, Greater}
use Rattle.std.specs.Ordering.{nat_cmp, ordering_index, ordering_then}
use Rattle.std.specs.Cmp.Lexicographic.{slice_cmp}
use Rattle.cql_text.specs.CodePoints.{bytes_cmp}
use Rattle.cad_feature.specs.Values.{a_text, null}
use Rattle.cad_range.specs.Ranges.{compared}
use Rattle.cad_ordered.specs.TwoFronts.{AreFrontsOf, fronts_cmp}
use Rattle.cad_ordered.specs.inner.Samples.{AreSamples}
use Rattle.cad_ordered.specs.lemmas.FrontLemmas.{by_fronts}
use Rattle.cad_ordered.specs.declared.text_key.Fronts.{Fronts}

unlike : (o : Ordering) → true ≡ not (ordering_index o == 1) → o ≡ Equal → ⊥
unlike Less h e = cc
unlike Equal h e = false≢true (sym h)
unlike Greater h e = cc

positive : (n : ℕ) → (n ≡ 0 → ⊥) → 0 < n
positive zero h = absurd (h refl)
positive (suc n) h = omega arith

settled : (answer o rest : Ordering) → answer ≡ o → (answer ≡ Equal → ⊥) → ordering_then o rest ≡ answer
settled answer Less rest e h = sym e
settled answer Equal rest e h = absurd (h e)
settled answer Greater rest e h = sym e

module _ {X : Type 0} (bytes : X → List ℕ) (utf8 : (x : X) → IsUtf8 (bytes x)) where
  sampled_by : (xs : List X) (rank : ℕ) (f g : Fronts) (text : List ℕ) (answer : Ordering) → IsUtf8 text → rank < length xs → AreFrontsOf f (get_or (map bytes xs) rank []) → AreFrontsOf g text → answer ≡ fronts_cmp f g → (answer ≡ Equal → ⊥) → compared (get_or (map (λ x. a_text (chars (bytes x))) xs) rank null) (a_text (chars text)) ≡ Some answer
  sampled_by [] rank f g text answer u l a b e h = absurd (omega arith)
  sampled_by (x ∷ xs) zero f g text answer u l a b e h = ap Some (sym (bytes_cmp (bytes x) text (utf8 x) u) ∙ sym (by_fronts f g (bytes x) text a b) ∙ settled answer (fronts_cmp f g) (slice_cmp nat_cmp (bytes x) text) e h)
  sampled_by (x ∷ xs) (suc rank) f g text answer u l a b e h = sampled_by xs rank f g text answer u (omega arith) a b e h

  -- the text at that rank compares as its numbers do, if these differ
  pub sampled_apart : (xs : List X) (samples : List Fronts) (rank : ℕ) (f g : Fronts) (text : List ℕ) (answer : Ordering) → AreSamples samples (map bytes xs) → rank < length xs → rank % 16 ≡ 0 → f ≡ get_or samples (rank / 16) f → IsUtf8 text → AreFrontsOf g text → answer ≡ fronts_cmp f g → true ≡ not (ordering_index answer == 1) → compared (get_or (map (λ x. a_text (chars (bytes x))) xs) rank null) (a_text (chars text)) ≡ Some answer
  sampled_apart xs samples rank f g text answer s l even is u b e h =
      let n : 16 * (rank / 16) ≡ rank = omega (arith, even) in
      let a = s.fronted (rank / 16) f (omega (arith, s.counted, l, length-map xs bytes)) in
      sampled_by xs rank f g text answer u l (subst (λ k. AreFrontsOf k (get_or (map bytes xs) rank [])) (sym is) (rw n at a)) b e (unlike answer h)

either : (i n : ℕ) → i < n + 1 → (i < n) ⊎ (i ≡ n)
either i n h = grind arith

-- the next text is one of those with numbers
pub sampled_with : (samples : List Fronts) (texts : List (List ℕ)) (f : Fronts) (text : List ℕ) → length texts % 16 ≡ 0 → AreFrontsOf f text → AreSamples samples texts → AreSamples (samples ++ f ∷ []) (texts ++ text ∷ [])
sampled_with samples texts f text even of_text s =
    let n : 16 * length samples ≡ length texts = omega (arith, s.counted, even) in
    record {
      counted = let m = length-append samples (f ∷ []) in let k = length-append texts (text ∷ []) in omega (arith, m, k, n, even);
      fronted = λ i none h. elim (either i (length samples) (let m = length-append samples (f ∷ []) in omega (arith, m, h))) [
        | inl l ↦ rw (get_or-append samples (f ∷ []) none i l, get_or-append texts (text ∷ []) [] (16 * i) (omega (arith, n, l))) (s.fronted i none l)
        | inr e ↦ rw (e, n, get_or-append_seam samples f [] none, get_or-append_seam texts text [] []) of_text
      ];
    }

-- the next text is not
pub sampled_without : (samples : List Fronts) (texts : List (List ℕ)) (text : List ℕ) → (length texts % 16 ≡ 0 → ⊥) → AreSamples samples texts → AreSamples samples (texts ++ text ∷ [])
sampled_without samples texts text odd s = record {
  counted = let k = length-append texts (text ∷ []) in let o : 0 < length texts % 16 = positive (length texts % 16) odd in omega (arith, k, o, s.counted);
  fronted = λ i none h. rw (get_or-append texts (text ∷ []) [] (16 * i) (omega (arith, h, s.counted, positive (length texts % 16) odd))) (s.fronted i none h);
}
