-- One step of a walk through a list and what is put into it.
use Rattle.std.proofs.Common.{◌≡◌, List, [], ◌∷◌, length, subst, Ordering, Less, Equal, Greater}
use Rattle.std.specs.Cmp.{IsTotalOrder}
use Rattle.std.specs.List.Sorted.{IsStrictlySortedBy}
use Rattle.std.proofs.lemmas.List.{nil_from_length}
use Rattle.cad_layer.specs.lemmas.MergeLemmas.{change_first, change_before, change_in_place, change_behind}
use Rattle.cad_layer.specs.Merging.{merged}

module _ {X : Type 0} {cmp : X → X → Ordering} (total : IsTotalOrder cmp) where
  pub only_changes : (base changes : List X) (c : X) (cs : List X) → length base ≡ 0 → changes ≡ c ∷ cs → IsStrictlySortedBy cmp changes → merged cmp base changes ≡ c ∷ merged cmp base cs
  only_changes base changes c cs none is rises = rw (nil_from_length base none, is) (change_first cmp total [] c cs tt (subst (IsStrictlySortedBy cmp) is rises))

  module _ (base changes : List X) (b c : X) (bs cs : List X) (is_base : base ≡ b ∷ bs) (is : changes ≡ c ∷ cs) (up : IsStrictlySortedBy cmp base) (rises : IsStrictlySortedBy cmp changes) where
    rising : IsStrictlySortedBy cmp (c ∷ cs)
    rising = subst (IsStrictlySortedBy cmp) is rises

    pub comes_before : cmp c b ≡ Less → merged cmp base changes ≡ c ∷ merged cmp base cs
    comes_before e = rw (is_base, is) (change_before cmp total b bs c cs e (subst (IsStrictlySortedBy cmp) is_base up) rising)

    pub comes_in_place : cmp c b ≡ Equal → merged cmp base changes ≡ c ∷ merged cmp bs cs
    comes_in_place e = rw (is_base, is) (change_in_place cmp total b bs c cs e rising)

    pub comes_behind : cmp c b ≡ Greater → merged cmp base changes ≡ b ∷ merged cmp bs changes
    comes_behind e = rw (is_base, is) (change_behind cmp total b bs c cs e rising)
