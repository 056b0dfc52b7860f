-- What changes stand in the place of: found by a search, and after later changes.
use Rattle.std.proofs.Common.{◌≡◌, ℕ, zero, suc, ◌<◌, false, List, [], ◌∷◌, ◌++◌, cond, get_or, length, refl, sym, ap, ap₂, subst, ◌∙◌, arith, ◌⊎◌, inl, inr, Ordering, Less, Equal, Greater, is_eq, Some, None}
use Rattle.std.specs.Ordering.{ordering_reverse}
use Rattle.std.specs.Cmp.{IsTotalOrder}
use Rattle.std.specs.List.{AllByRecursion}
use Rattle.std.specs.List.Sorted.{IsStrictlySortedBy}
use Rattle.std.proofs.lemmas.Cmp.{tied_itself, alike_right}
use Rattle.std.proofs.lemmas.List.Elements.{All-from_recursion, recursion_from_All}
use Rattle.cad_versions.specs.lemmas.ListLemmas.{all_weaker, all_filtered}
use Rattle.cad_schema.specs.declared.collection.Collection.{Collection}
use Rattle.cad_feature.specs.Features.{AreFeaturesOf, IsFeatureOf, Item, identifier_of, by_identifier}
use Rattle.cad_layer.specs.lemmas.CountLemmas.{no_twins, twins_at}
use Rattle.cad_layer.specs.Identifiers.{IsTheOne}
use Rattle.cad_layer.specs.lemmas.ItemLemmas.{items_total}
use Rattle.cad_layer.specs.Merging.{put, put_at, merged}
use Rattle.cad_layer.specs.lemmas.MergeLemmas.{put_front, merged_ascends, put_behind}
use Rattle.cad_layer.specs.inner.Replaced.{twins, replaced_in}
use Rattle.cad_layer.specs.lemmas.SearchLemmas.{equal_is, is_equal}

-- ---- a search

module _ {X : Type 0} (cmp : X → X → Ordering) (total : IsTotalOrder cmp) where
  -- where it ends between two neighbours there is none
  pub twins_none : (c : X) (base : List X) → AllByRecursion (λ b. is_eq (cmp c b) ≡ false) base → twins cmp c base ≡ []
  twins_none c [] all = refl
  twins_none c (b ∷ base) all = ap (λ e. cond e (b ∷ twins cmp c base) (twins cmp c base)) all.0 ∙ twins_none c base all.1

  -- where it ends at an element, that is the one
  pub twins_one : (c : X) (base : List X) (i : ℕ) (d : X) → IsStrictlySortedBy cmp base → i < length base → cmp c (get_or base i d) ≡ Equal → twins cmp c base ≡ get_or base i d ∷ []
  unfolding IsStrictlySortedBy
  twins_one c [] i d up h e = absurd (omega (arith, h))
  twins_one c (b ∷ base) zero d up h e =
      twins_at cmp total c b base Equal e
      ∙ ap (λ bs. b ∷ bs) (no_twins cmp total c base (all_weaker (λ z. cmp b z ≡ Less) (λ z. cmp c z ≡ Less) (λ z k. total.congr c b z e ∙ k) base up.0))
  twins_one c (b ∷ base) (suc i) d up h e =
      let inside : i < length base = omega (arith, h) in
      let less : cmp b (get_or base i d) ≡ Less = All-from_recursion (λ z. cmp b z ≡ Less) base up.0 i d inside in
      let over : cmp c b ≡ Greater = total.congr c (get_or base i d) b e ∙ total.antisymm (get_or base i d) b ∙ ap ordering_reverse less in
      twins_at cmp total c b base Greater over ∙ twins_one c base i d up.1 inside e

  -- ---- what changes replace

  all_twins : (P : X → Type 0) (c : X) (base : List X) → ((y : X) → cmp c y ≡ Equal → P y) → AllByRecursion P (twins cmp c base)
  all_twins P c [] f = tt
  all_twins P c (b ∷ base) f = go (cmp c b) refl (all_twins P c base f)
    where
      go : (o : Ordering) → cmp c b ≡ o → AllByRecursion P (twins cmp c base) → AllByRecursion P (cond (is_eq o) (b ∷ twins cmp c base) (twins cmp c base))
      go Less e all = all
      go Equal e all = (f b e, all)
      go Greater e all = all

  same_twins : (c d : X) (base : List X) → cmp c d ≡ Equal → twins cmp c base ≡ twins cmp d base
  same_twins c d [] e = refl
  same_twins c d (b ∷ base) e = ap₂ (λ (o : Ordering) (bs : List X). cond (is_eq o) (b ∷ bs) bs) (total.congr c d b e) (same_twins c d base e)

  few_twins : (c : X) (base : List X) → IsStrictlySortedBy cmp base → (twins cmp c base ≡ []) ⊎ ((b : X) × (twins cmp c base ≡ b ∷ []) × (cmp c b ≡ Equal))
  unfolding IsStrictlySortedBy
  few_twins c [] up = inl refl
  few_twins c (b ∷ base) up = go (cmp c b) refl (few_twins c base up.1)
    where
      go : (o : Ordering) → cmp c b ≡ o → (twins cmp c base ≡ []) ⊎ ((d : X) × (twins cmp c base ≡ d ∷ []) × (cmp c d ≡ Equal))
          → (cond (is_eq o) (b ∷ twins cmp c base) (twins cmp c base) ≡ []) ⊎ ((d : X) × (cond (is_eq o) (b ∷ twins cmp c base) (twins cmp c base) ≡ d ∷ []) × (cmp c d ≡ Equal))
      go Less e more = more
      go Equal e more = inr (b, ap (λ bs. b ∷ bs) (no_twins cmp total c base (all_weaker (λ z. cmp b z ≡ Less) (λ z. cmp c z ≡ Less) (λ z k. total.congr c b z e ∙ k) base up.0)), e)
      go Greater e more = more

  -- what stands after x replaces what stands after x
  all_replaced : (x : X) (base cs : List X) → IsStrictlySortedBy cmp base → AllByRecursion (λ c. cmp x c ≡ Less) cs → AllByRecursion (λ y. cmp x y ≡ Less) (replaced_in cmp base cs)
  all_replaced x base [] up all = tt
  all_replaced x base (c ∷ cs) up all = by (few_twins c base up) (all_replaced x base cs up all.1)
    where
      by : (twins cmp c base ≡ []) ⊎ ((b : X) × (twins cmp c base ≡ b ∷ []) × (cmp c b ≡ Equal)) → AllByRecursion (λ y. cmp x y ≡ Less) (replaced_in cmp base cs) → AllByRecursion (λ y. cmp x y ≡ Less) (twins cmp c base ++ replaced_in cmp base cs)
      by (inl none) more = subst (λ xs. AllByRecursion (λ y. cmp x y ≡ Less) (xs ++ replaced_in cmp base cs)) (sym none) more
      by (inr p) more = subst (λ xs. AllByRecursion (λ y. cmp x y ≡ Less) (xs ++ replaced_in cmp base cs)) (sym p.1) (sym (alike_right total c p.0 x p.2) ∙ all.0, more)

  pub replaced_rises : (base cs : List X) → IsStrictlySortedBy cmp base → IsStrictlySortedBy cmp cs → IsStrictlySortedBy cmp (replaced_in cmp base cs)
  unfolding IsStrictlySortedBy
  replaced_rises base [] up rises = tt
  replaced_rises base (c ∷ cs) up rises = by (few_twins c base up) (replaced_rises base cs up rises.1)
    where
      by : (twins cmp c base ≡ []) ⊎ ((b : X) × (twins cmp c base ≡ b ∷ []) × (cmp c b ≡ Equal)) → IsStrictlySortedBy cmp (replaced_in cmp base cs) → IsStrictlySortedBy cmp (twins cmp c base ++ replaced_in cmp base cs)
      by (inl none) more = subst (λ xs. IsStrictlySortedBy cmp (xs ++ replaced_in cmp base cs)) (sym none) more
      by (inr p) more =
          subst (λ xs. IsStrictlySortedBy cmp (xs ++ replaced_in cmp base cs)) (sym p.1)
          (all_replaced p.0 base cs up (all_weaker (λ z. cmp c z ≡ Less) (λ z. cmp p.0 z ≡ Less) (λ z k. sym (total.congr c p.0 z p.2) ∙ k) cs rises.0), more)

  -- ---- a later change

  put_none : (base : List X) (t : X) (ms : List X) → twins cmp t base ≡ [] → replaced_in cmp base (put cmp t ms) ≡ replaced_in cmp base ms
  put_none base t [] none = ap (λ xs. xs ++ []) none
  put_none base t (m ∷ ms) none = go (cmp t m) refl (put_none base t ms none)
    where
      go : (o : Ordering) → cmp t m ≡ o → replaced_in cmp base (put cmp t ms) ≡ replaced_in cmp base ms → replaced_in cmp base (put_at o t m ms (put cmp t ms)) ≡ replaced_in cmp base (m ∷ ms)
      go Less e more = ap (λ xs. xs ++ replaced_in cmp base (m ∷ ms)) none
      go Equal e more = ap (λ xs. xs ++ replaced_in cmp base ms) (same_twins t m base e)
      go Greater e more = ap (λ xs. twins cmp m base ++ xs) more

  put_one : (base : List X) (t b : X) (ms : List X) → IsStrictlySortedBy cmp base → IsStrictlySortedBy cmp ms → twins cmp t base ≡ b ∷ [] → cmp t b ≡ Equal → replaced_in cmp base (put cmp t ms) ≡ put cmp b (replaced_in cmp base ms)
  unfolding IsStrictlySortedBy
  put_one base t b [] up rises one e = ap (λ xs. xs ++ []) one
  put_one base t b (m ∷ ms) up rises one e = go (cmp t m) refl (put_one base t b ms up rises.1 one e)
    where
      go : (o : Ordering) → cmp t m ≡ o → replaced_in cmp base (put cmp t ms) ≡ put cmp b (replaced_in cmp base ms) → replaced_in cmp base (put_at o t m ms (put cmp t ms)) ≡ put cmp b (replaced_in cmp base (m ∷ ms))
      go Less k more =
          let behind = all_replaced t base (m ∷ ms) up (k, all_weaker (λ z. cmp m z ≡ Less) (λ z. cmp t z ≡ Less) (λ z l. total.trans t m z k l) ms rises.0) in
          ap (λ xs. xs ++ replaced_in cmp base (m ∷ ms)) one
          ∙ sym (put_front cmp b (replaced_in cmp base (m ∷ ms)) (all_weaker (λ y. cmp t y ≡ Less) (λ y. cmp b y ≡ Less) (λ y l. sym (total.congr t b y e) ∙ l) (replaced_in cmp base (m ∷ ms)) behind))
      go Equal k more =
          ap (λ xs. xs ++ replaced_in cmp base ms) one
          ∙ sym (ap (λ xs. put cmp b (xs ++ replaced_in cmp base ms)) (sym (same_twins t m base k) ∙ one) ∙ ap (λ o. put_at o b b (replaced_in cmp base ms) (put cmp b (replaced_in cmp base ms))) (tied_itself total b))
      go Greater k more =
          ap (λ xs. twins cmp m base ++ xs) more
          ∙ sym (put_behind cmp total b (twins cmp m base) (replaced_in cmp base ms) (all_twins (λ y. cmp b y ≡ Greater) m base (λ y f. sym (total.congr t b y e) ∙ sym (alike_right total m y t f) ∙ k)))

  -- with what later changes replace they are those of all
  pub replaced_merged : (base cs ts : List X) → IsStrictlySortedBy cmp base → IsStrictlySortedBy cmp cs → replaced_in cmp base (merged cmp cs ts) ≡ merged cmp (replaced_in cmp base cs) (replaced_in cmp base ts)
  replaced_merged base cs [] up rises = refl
  replaced_merged base cs (t ∷ ts) up rises = by (few_twins t base up) (replaced_merged base cs ts up rises)
    where
      by : (twins cmp t base ≡ []) ⊎ ((b : X) × (twins cmp t base ≡ b ∷ []) × (cmp t b ≡ Equal)) → replaced_in cmp base (merged cmp cs ts) ≡ merged cmp (replaced_in cmp base cs) (replaced_in cmp base ts)
          → replaced_in cmp base (put cmp t (merged cmp cs ts)) ≡ merged cmp (replaced_in cmp base cs) (twins cmp t base ++ replaced_in cmp base ts)
      by (inl none) more = put_none base t (merged cmp cs ts) none ∙ more ∙ sym (ap (λ xs. merged cmp (replaced_in cmp base cs) (xs ++ replaced_in cmp base ts)) none)
      by (inr p) more =
          put_one base t p.0 (merged cmp cs ts) up (merged_ascends cmp total cs ts rises) p.1 p.2 ∙ ap (put cmp p.0) more
          ∙ sym (ap (λ xs. merged cmp (replaced_in cmp base cs) (xs ++ replaced_in cmp base ts)) p.1)

  both : (xs ys zs : List X) → xs ++ (ys ++ zs) ≡ (xs ++ ys) ++ zs
  both [] ys zs = refl
  both (x ∷ xs) ys zs = ap (λ us. x ∷ us) (both xs ys zs)

  -- what was found so far, with what the changes replace that are left, is all
  pub one_more : (base all new : List X) (c : X) (left rest whole : List X) → left ≡ c ∷ rest → new ≡ all ++ twins cmp c base
      → whole ≡ all ++ replaced_in cmp base left → whole ≡ new ++ replaced_in cmp base rest
  one_more base all new c left rest whole e more so_far =
      so_far ∙ ap (λ cs. all ++ replaced_in cmp base cs) e ∙ both all (twins cmp c base) (replaced_in cmp base rest) ∙ ap (λ xs. xs ++ replaced_in cmp base rest) (sym more)

  pub all_in_place : (P : X → Type 0) (base cs : List X) → AllByRecursion P base → AllByRecursion P (replaced_in cmp base cs)
  all_in_place P base [] all = tt
  all_in_place P base (c ∷ cs) all = joined (twins cmp c base) (replaced_in cmp base cs) (all_filtered P (λ b. is_eq (cmp c b)) base all) (all_in_place P base cs all)
    where
      joined : (xs ys : List X) → AllByRecursion P xs → AllByRecursion P ys → AllByRecursion P (xs ++ ys)
      joined [] ys some more = more
      joined (x ∷ xs) ys some more = (some.0, joined xs ys some.1 more)

-- ---- of features

module _ (c : Item) (xs : List Item) where
  other : (x : Item) → ¬ (identifier_of x ≡ identifier_of c) → is_eq (by_identifier c x) ≡ false
  other x h = go (by_identifier c x) refl
    where
      go : (o : Ordering) → by_identifier c x ≡ o → is_eq o ≡ false
      go Less e = refl
      go Equal e = absurd (h (sym (equal_is (identifier_of c) (identifier_of x) e)))
      go Greater e = refl

  -- where none has its identifier, there is none
  pub no_twin : IsTheOne (identifier_of c) xs None → twins by_identifier c xs ≡ []
  no_twin none =
      let Other : Item → Type 0 = λ x. ¬ (identifier_of x ≡ identifier_of c) in
      twins_none by_identifier items_total c xs (all_weaker Other (λ x. is_eq (by_identifier c x) ≡ false) other xs (recursion_from_All Other xs none))

  -- and else the one that has
  pub one_twin : (x : Item) → IsStrictlySortedBy by_identifier xs → IsTheOne (identifier_of c) xs (Some x) → twins by_identifier c xs ≡ x ∷ []
  one_twin x up ((i, h, at), same) =
      let equal = subst (λ y. by_identifier c y ≡ Equal) (sym at) (is_equal (identifier_of c) (identifier_of x) (sym same)) in
      twins_one by_identifier items_total c xs i x up h equal ∙ ap (λ y. y ∷ []) at

-- what is replaced of features of a collection is some of them
pub replaced_listed : (collection : Collection) (base cs : List Item) → AreFeaturesOf collection base → IsStrictlySortedBy by_identifier cs → AreFeaturesOf collection (replaced_in by_identifier base cs)
replaced_listed collection base cs all rises = record {
  each = All-from_recursion (IsFeatureOf collection) (replaced_in by_identifier base cs) (all_in_place by_identifier items_total (IsFeatureOf collection) base cs (recursion_from_All (IsFeatureOf collection) base all.each));
  ascending = replaced_rises by_identifier items_total base cs all.ascending rises;
}
