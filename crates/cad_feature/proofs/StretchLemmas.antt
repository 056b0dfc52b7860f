-- Versions by the stretches of their objects' numbers.
use Rattle.std.proofs.Common.{◌≡◌, ℕ, ◌+◌, ◌-◌, ◌/◌, ◌≤◌, ◌<◌, Bool, true, false, List, [], ◌∷◌, ◌++◌, length, length-append, take, drop, filter, refl, sym, ap, ◌∙◌, subst, arith, get_or, replicate}
use Rattle.std.specs.List.{AllWithin}
use Rattle.std.specs.List.Sorted.{IsNonDecreasingBy}
use Rattle.std.proofs.Math.Nat.{div-mul-le_self}
use Rattle.std.proofs.lemmas.Int.{ints}
use Rattle.std.proofs.lemmas.Nat.{le-div}
use Rattle.std.proofs.lemmas.Bool.Decides.{nat_tests}
use Rattle.std.proofs.lemmas.List.{get_or_append_left, get_or-append_right, get_or-replicate, length-replicate, replicate_more, append_assoc, get_or-drop, get_or_default, length-drop}
use Rattle.cad_versions.specs.declared.object_id.ObjectId.{ObjectId}
use Rattle.cad_versions.specs.Objects.{object_number}
use Rattle.cad_versions.specs.VersionedObject.{VersionedObject}
use Rattle.cad_versions.specs.Versions.{is_of, history}
use Rattle.cad_feature.specs.inner.Stretches.{number_in, stretch_in, PartAt, AreStarts}
use Rattle.cad_feature.proofs.ListLemmas.{front_cut, back_cut}
use lib.Dec.{leb, ltb}

-- ---- what a filter leaves out may be cut off

module _ {A : Type 0} (p : A → Bool) where
  -- what stands between two places
  between_is : (us : List A) (start end : ℕ) → start ≤ end → ((j : ℕ) (d : A) → j < start → j < length us → p (get_or us j d) ≡ false) → ((j : ℕ) (d : A) → end ≤ j → j < length us → p (get_or us j d) ≡ false) → filter p (take (end - start) (drop start us)) ≡ filter p us
  between_is us start end h before after =
      back_cut p (drop start us) (end - start) (λ j d k l. subst (λ x. p x ≡ false) (sym (get_or-drop start us j d)) (after (start + j) d (omega (arith, h, k)) (omega (arith, l, length-drop start us))))
      ∙ front_cut p us start before

-- ---- those of one object stand in one stretch

other_stretch : (width : ℕ) (object : ObjectId) (v : VersionedObject) → ¬ (stretch_in width v ≡ object_number object / width) → is_of object v ≡ false
other_stretch width object v other = go (is_of object v) refl
  where
    go : (b : Bool) → is_of object v ≡ b → is_of object v ≡ false
    go false e = e
    go true e = absurd (other (ap (λ n. n / width) (grind (arith, ints, e))))

-- ---- all versions of an object stand between what is of earlier stretches and what is of later ones

module _ (width stretch : ℕ) where
  abbrev pub Earlier : List VersionedObject → ℕ → Type 0
  Earlier vs start = AllWithin (λ v. stretch_in width v < stretch) vs 0 start

  abbrev pub Later : List VersionedObject → ℕ → Type 0
  Later vs end = AllWithin (λ v. stretch < stretch_in width v) vs end (length vs)

  pub in_order : (vs : List VersionedObject) (start end : ℕ) → start ≤ length vs → Earlier vs start → Later vs end → start ≤ end
  in_order [] start end within before after = omega (arith, within)
  in_order (v ∷ vs) start end within before after = go (leb start end) refl
    where
      go : (b : Bool) → leb start end ≡ b → start ≤ end
      go true e = grind (arith, nat_tests)
      go false e = absurd (omega (arith, before end v (omega arith) (grind (arith, nat_tests)), after end v (omega arith) (grind (arith, nat_tests))))

pub near_all : (width stretch : ℕ) (object : ObjectId) (vs : List VersionedObject) (start end : ℕ) → stretch ≡ object_number object / width → start ≤ end → Earlier width stretch vs start → Later width stretch vs end
    → history object (take (end - start) (drop start vs)) ≡ history object vs
near_all width stretch object vs start end is h before after =
    between_is (is_of object) vs start end h
    (λ j d k l. other_stretch width object (get_or vs j d) (λ same. omega (arith, before j d (omega arith) k, is, same)))
    (λ j d k l. other_stretch width object (get_or vs j d) (λ same. omega (arith, after j d k l, is, same)))

-- ---- one start more

pub filled_more : (old xs ys : List ℕ) (p next : ℕ) → length old ≤ next → xs ≡ old ++ replicate (next - length old) p → ys ≡ xs ++ p ∷ [] → ys ≡ old ++ replicate (next + 1 - length old) p
filled_more old xs ys p next h so_far added =
    let more = next - length old in
    let one : more + 1 ≡ next + 1 - length old = omega (arith, h) in
    added ∙ ap (λ zs. zs ++ p ∷ []) so_far ∙ append_assoc old (replicate more p) (p ∷ []) ∙ ap (λ zs. old ++ zs) (replicate_more more p) ∙ ap (λ n. old ++ replicate n p) one

-- ---- one version more

-- the first so many versions are of the first so many stretches
abbrev pub Started : ℕ → List VersionedObject → ℕ → ℕ → Type 0
Started width vs upto count = AllWithin (λ v. stretch_in width v < count) vs 0 upto

module _ (width : ℕ) (wide : 1 ≤ width) (vs : List VersionedObject) (rising : IsNonDecreasingBy number_in vs) where
  stretches_rise : (m n : ℕ) → m ≤ n → m / width ≤ n / width
  stretches_rise m n h = le-div (m / width) n width (omega (arith, wide)) (omega (arith, h, div-mul-le_self m width))

  -- a start is one of the version more, too, if that is of its stretch or of a later one
  part_more : (i k s : ℕ) → i < length vs → PartAt width vs i k s → PartAt width vs (i + 1) k s
  part_more i k s h part = record {
    within = omega (arith, part.within);
    before = part.before;
    after = λ j d l m. go j d l m (ltb j i) refl;
  }
    where
      go : (j : ℕ) (d : VersionedObject) → s ≤ j → j < i + 1 → (b : Bool) → ltb j i ≡ b → k ≤ stretch_in width (get_or vs j d)
      go j d l m true e = part.after j d l (grind (arith, nat_tests))
      go j d l m false e =
          let same : j ≡ i = grind (arith, nat_tests) in
          omega (arith, part.after s d (omega arith) part.within, stretches_rise _ _ (rising s j d l (omega (arith, same, h))))

  part_here : (i k count : ℕ) (v : VersionedObject) → i < length vs → v ≡ get_or vs i v → Started width vs i count → count ≤ k → k ≤ stretch_in width v → PartAt width vs (i + 1) k i
  part_here i k count v h at started l m = record {
    within = omega arith;
    before = λ j d z n. omega (arith, started j d z n, l);
    after = λ j d n o. let same : i ≡ j = omega (arith, n, o) in subst (λ j. k ≤ stretch_in width (get_or vs j d)) same (subst (λ w. k ≤ stretch_in width w) (at ∙ get_or_default vs i v d h) m);
  }

  pub starts_more : (i position : ℕ) (v : VersionedObject) (xs ys : List ℕ) → i < length vs → v ≡ get_or vs i v → position ≡ i → ys ≡ xs ++ replicate (stretch_in width v + 1 - length xs) position → AreStarts width vs i xs → Started width vs i (length xs)
      → AreStarts width vs (i + 1) ys × Started width vs (i + 1) (length ys)
  starts_more i position v xs ys h at same is so_far started =
      ((λ k d l. marked k d l (ltb k (length xs)) refl), λ j d z l. all j d l (ltb j i) refl)
    where
      more : ℕ
      more = stretch_in width v + 1 - length xs

      long : length ys ≡ length xs + more
      long = ap length is ∙ length-append xs (replicate more position) ∙ ap (λ n. length xs + n) (length-replicate more position)

      marked : (k d : ℕ) → k < length ys → (b : Bool) → ltb k (length xs) ≡ b → PartAt width vs (i + 1) k (get_or ys k d)
      marked k d l true e =
          let early : k < length xs = grind (arith, nat_tests) in
          subst (PartAt width vs (i + 1) k) (sym (ap (λ zs. get_or zs k d) is ∙ get_or_append_left xs (replicate more position) d k early)) (part_more i k (get_or xs k d) h (so_far k d early))
      marked k d l false e =
          let late : length xs ≤ k = grind (arith, nat_tests) in
          subst (PartAt width vs (i + 1) k) (sym (ap (λ zs. get_or zs k d) is ∙ get_or-append_right xs (replicate more position) (length xs) k d refl late ∙ get_or-replicate more (k - length xs) position d (omega (arith, l, long, late)) ∙ same))
          (part_here i k (length xs) v h at started late (omega (arith, l, long, late)))

      all : (j : ℕ) (d : VersionedObject) → j < i + 1 → (b : Bool) → ltb j i ≡ b → stretch_in width (get_or vs j d) < length ys
      all j d l true e = omega (arith, started j d (omega arith) (grind (arith, nat_tests)), long)
      all j d l false e =
          let here : i ≡ j = grind (arith, nat_tests) in
          subst (λ j. stretch_in width (get_or vs j d) < length ys) here (subst (λ w. stretch_in width w < length ys) (at ∙ get_or_default vs i v d h) (omega (arith, long)))
