-- Counts in a window, and where counts stand.
use Rattle.std.proofs.Common.{◌≡◌, ◌∙◌, ap, ap₂, refl, sym, ℕ, zero, suc, ◌+◌, ◌-◌, ◌<◌, List, [], ◌∷◌, ◌++◌, append_assoc, append-nil, length, take, drop, get_or, arith, length-append, length-drop, drop-cons}
use Rattle.std.proofs.lemmas.List.{drop-drop, drop_all, take_all}
use Rattle.std.proofs.Math.Seq.{drop-append_seam}
use Rattle.cad_plan.specs.declared.counting.Window.{Window}
use Rattle.cad_plan.specs.inner.Pruned.{StandAt}
use Rattle.cad_plan.specs.inner.Windows.{AreCounted}

-- ---- parts of lists

drop_by : {X : Type 0} (n k : ℕ) (a b : List X) → k ≡ n - length a → drop n (a ++ b) ≡ drop n a ++ drop k b
drop_by zero k [] b e = let z : 0 ≡ k = omega (arith, e) in ap (λ j. drop j b) z
drop_by (suc n) k [] b e = let z : suc n ≡ k = omega (arith, e) in ap (λ j. drop j b) z
drop_by zero k (x ∷ a) b e = let z : 0 ≡ k = omega (arith, e) in ap (λ j. x ∷ (a ++ drop j b)) z
drop_by (suc n) k (x ∷ a) b e = drop_by n k a b (omega (arith, e))

drop_over : {X : Type 0} (n : ℕ) (a b : List X) → drop n (a ++ b) ≡ drop n a ++ drop (n - length a) b
drop_over n a b = drop_by n (n - length a) a b refl

take_by : {X : Type 0} (n k : ℕ) (a b : List X) → k ≡ n - length a → take n (a ++ b) ≡ take n a ++ take k b
take_by zero k [] b e = let z : 0 ≡ k = omega (arith, e) in ap (λ j. take j b) z
take_by (suc n) k [] b e = let z : suc n ≡ k = omega (arith, e) in ap (λ j. take j b) z
take_by zero k (x ∷ a) b e = let z : 0 ≡ k = omega (arith, e) in ap (λ j. take j b) z
take_by (suc n) k (x ∷ a) b e = ap (λ ys. x ∷ ys) (take_by n k a b (omega (arith, e)))

take_over : {X : Type 0} (n : ℕ) (a b : List X) → take n (a ++ b) ≡ take n a ++ take (n - length a) b
take_over n a b = take_by n (n - length a) a b refl

drop_nothing : (n : ℕ) (xs : List ℕ) → length xs ≡ 0 → drop n xs ≡ []
drop_nothing n xs e = drop_all n xs (omega (arith, e))

-- ---- windows

pub none_counted : (counts : List ℕ) (window : Window) → AreCounted [] counts window counts window
none_counted counts window = record {
  counts =
      sym (append-nil counts)
      ∙ ap (λ ys. counts ++ ys) (sym (ap (take window.room) (drop_nothing window.skip [] refl) ∙ take_all window.room [] (omega arith)));
  skip = omega arith;
  room = omega (arith, ap length (drop_nothing window.skip [] refl));
}

-- the costs of more leaves
pub counted_more : (a b first then last : List ℕ) (before between after : Window) → AreCounted a first before then between → AreCounted b then between last after → AreCounted (a ++ b) first before last after
counted_more a b first then last before between after x y =
    let r = before.room in
    let front = drop before.skip a in
    let rest = drop (before.skip - length a) b in
    let whole : drop before.skip (a ++ b) ≡ front ++ rest = drop_over before.skip a b in
    record {
      counts =
          y.counts ∙ ap₂ (λ n m. then ++ take n (drop m b)) x.room x.skip ∙ ap (λ ys. ys ++ take (r - length front) rest) x.counts
          ∙ append_assoc first (take r front) (take (r - length front) rest)
          ∙ ap (λ ys. first ++ ys) (sym (take_over r front rest) ∙ ap (take r) (sym whole));
      skip = omega (arith, x.skip, y.skip, length-append a b);
      room =
          let l = ap length whole in
          let m = length-append front rest in
          let s = ap (λ n. length (drop n b)) x.skip in
          omega (arith, x.room, y.room, l, m, s);
    }

-- ---- where counts stand

pub stand_whole : (counts all : List ℕ) → all ≡ counts → StandAt counts all 0
stand_whole counts all e = e ∙ sym (append-nil counts) ∙ ap (λ ys. counts ++ ys) (sym (drop_all (0 + length counts) all (omega (arith, ap length e))))

module _ (a b all : List ℕ) (at : ℕ) (is : StandAt (a ++ b) all at) where
  rest : List ℕ
  rest = drop (at + length (a ++ b)) all

  behind : drop (at + length a) all ≡ b ++ rest
  unfolding rest
  behind = sym (drop-drop (length a) at all) ∙ ap (drop (length a)) (is ∙ append_assoc a b rest) ∙ drop-append_seam a (b ++ rest)

  pub stand_first : StandAt a all at
  unfolding rest
  stand_first = is ∙ append_assoc a b rest ∙ ap (λ ys. a ++ ys) (sym behind)

  pub stand_rest : StandAt b all (at + length a)
  unfolding rest
  stand_rest =
      let same : at + length (a ++ b) ≡ at + length a + length b = omega (arith, length-append a b) in
      behind ∙ ap (λ n. b ++ drop n all) same

-- one count
module _ (x : ℕ) (all : List ℕ) (at : ℕ) (is : StandAt (x ∷ []) all at) where
  pub one_within : at < length all
  one_within = omega (arith, ap length is, length-drop at all)

  pub one_there : (y : ℕ) → get_or all at y ≡ y → y ≡ x
  one_there y e = sym e ∙ same (get_or all at y) (drop (suc at) all) (drop (at + 1) all) (sym (drop-cons all at y one_within) ∙ is)
    where
      same : (y : ℕ) (ys zs : List ℕ) → y ∷ ys ≡ x ∷ zs → y ≡ x
      same y ys zs e = cc
