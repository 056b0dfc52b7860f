-- Changes that are put into a list, one after the other.
use Rattle.std.proofs.Common.{◌≡◌, Bool, true, false, cond, List, [], ◌∷◌, ◌++◌, map, filter, find, Some, None, refl, sym, ap, ap₂, ◌∙◌, subst, Ordering, Less, Equal, Greater, is_eq, is_gt, true≢false}
use Rattle.std.specs.List.{AllByRecursion}
use Rattle.std.specs.List.Sorted.{IsStrictlySortedBy}
use Rattle.std.specs.Cmp.{IsTotalOrder}
use Rattle.std.specs.Ordering.{ordering_reverse}
use Rattle.cad_versions.specs.lemmas.ListLemmas.{all_weaker, all_filtered}
use Rattle.cad_versions.specs.Sorting.{insert_sorted, sort_by}
use Rattle.cad_layer.specs.Merging.{put_at, put, merged}

module _ {X : Type 0} (cmp : X → X → Ordering) where
  put_less : (n y : X) (ys : List X) → cmp n y ≡ Less → put cmp n (y ∷ ys) ≡ n ∷ y ∷ ys
  put_less n y ys e = ap (λ o. put_at o n y ys (put cmp n ys)) e

  put_equal : (n y : X) (ys : List X) → cmp n y ≡ Equal → put cmp n (y ∷ ys) ≡ n ∷ ys
  put_equal n y ys e = ap (λ o. put_at o n y ys (put cmp n ys)) e

  put_greater : (n y : X) (ys : List X) → cmp n y ≡ Greater → put cmp n (y ∷ ys) ≡ y ∷ put cmp n ys
  put_greater n y ys e = ap (λ o. put_at o n y ys (put cmp n ys)) e

  pub put_front : (n : X) (ys : List X) → AllByRecursion (λ y. cmp n y ≡ Less) ys → put cmp n ys ≡ n ∷ ys
  put_front n [] all = refl
  put_front n (y ∷ ys) all = put_less n y ys all.0

  -- no element of the list has its place
  abbrev pub IsNew : X → List X → Type 0
  IsNew n xs = AllByRecursion (λ y. is_eq (cmp n y) ≡ false) xs

  not_equal : (n y : X) → is_eq (cmp n y) ≡ false → cmp n y ≡ Equal → ⊥
  not_equal n y h e = absurd (true≢false (sym (ap is_eq e) ∙ h))

  -- ---- filters

  pub find_put : (p : X → Bool) (n : X) (ys : List X) → p n ≡ false → IsNew n ys → find p (put cmp n ys) ≡ find p ys
  find_put p n [] h new = ap (λ b. cond b (Some n) None) h
  find_put p n (y ∷ ys) h new = go (cmp n y) refl (find_put p n ys h new.1)
    where
      go : (o : Ordering) → cmp n y ≡ o → find p (put cmp n ys) ≡ find p ys → find p (put_at o n y ys (put cmp n ys)) ≡ find p (y ∷ ys)
      go Less e more = ap (λ b. cond b (Some n) (find p (y ∷ ys))) h
      go Equal e more = absurd (not_equal n y new.0 e)
      go Greater e more = ap (λ l. cond (p y) (Some y) l) more

  pub filter_put_out : (p : X → Bool) (n : X) (ys : List X) → p n ≡ false → IsNew n ys → filter p (put cmp n ys) ≡ filter p ys
  filter_put_out p n [] h new = ap (λ b. cond b (n ∷ []) []) h
  filter_put_out p n (y ∷ ys) h new = go (cmp n y) refl (filter_put_out p n ys h new.1)
    where
      go : (o : Ordering) → cmp n y ≡ o → filter p (put cmp n ys) ≡ filter p ys → filter p (put_at o n y ys (put cmp n ys)) ≡ filter p (y ∷ ys)
      go Less e more = ap (λ b. cond b (n ∷ filter p (y ∷ ys)) (filter p (y ∷ ys))) h
      go Equal e more = absurd (not_equal n y new.0 e)
      go Greater e more = ap (λ l. cond (p y) (y ∷ l) l) more

  pub map_put : {Y : Type 0} (to : Y → Y → Ordering) (g : X → Y) → ((a b : X) → to (g a) (g b) ≡ cmp a b) → (n : X) (ys : List X) → map g (put cmp n ys) ≡ put to (g n) (map g ys)
  map_put to g same n [] = refl
  map_put to g same n (y ∷ ys) = go (cmp n y) (map_put to g same n ys) ∙ ap (λ o. put_at o (g n) (g y) (map g ys) (put to (g n) (map g ys))) (sym (same n y))
    where
      go : (o : Ordering) → map g (put cmp n ys) ≡ put to (g n) (map g ys) → map g (put_at o n y ys (put cmp n ys)) ≡ put_at o (g n) (g y) (map g ys) (put to (g n) (map g ys))
      go Less more = refl
      go Equal more = refl
      go Greater more = ap (λ l. g y ∷ l) more

  module _ (total : IsTotalOrder cmp) where
    above : (x y : X) → cmp x y ≡ Less → cmp y x ≡ Greater
    above x y e = total.antisymm y x ∙ ap ordering_reverse e

    below : (x y : X) → cmp x y ≡ Greater → cmp y x ≡ Less
    below x y e = total.antisymm y x ∙ ap ordering_reverse e

    pub filter_put : (p : X → Bool) (n : X) (ys : List X) → p n ≡ true → IsNew n ys → IsStrictlySortedBy cmp ys → filter p (put cmp n ys) ≡ put cmp n (filter p ys)
    unfolding IsStrictlySortedBy
    filter_put p n [] h new up = ap (λ b. cond b (n ∷ []) []) h
    filter_put p n (y ∷ ys) h new up = go (cmp n y) refl (filter_put p n ys h new.1 up.1)
      where
        behind : (b : Bool) → cmp n y ≡ Greater → cond b (y ∷ put cmp n (filter p ys)) (put cmp n (filter p ys)) ≡ put cmp n (cond b (y ∷ filter p ys) (filter p ys))
        behind true e = sym (put_greater n y (filter p ys) e)
        behind false e = refl

        go : (o : Ordering) → cmp n y ≡ o → filter p (put cmp n ys) ≡ put cmp n (filter p ys) → filter p (put_at o n y ys (put cmp n ys)) ≡ put cmp n (filter p (y ∷ ys))
        go Less e more =
            ap (λ b. cond b (n ∷ filter p (y ∷ ys)) (filter p (y ∷ ys))) h
            ∙ sym (put_front n (filter p (y ∷ ys)) (all_filtered (λ z. cmp n z ≡ Less) p (y ∷ ys) (e, all_weaker (λ z. cmp y z ≡ Less) (λ z. cmp n z ≡ Less) (λ z k. total.trans n y z e k) ys up.0)))
        go Equal e more = absurd (not_equal n y new.0 e)
        go Greater e more = ap (λ l. cond (p y) (y ∷ l) l) more ∙ behind (p y) e

    -- ---- one change after the other

    put_again : (n c : X) (ys : List X) → cmp n c ≡ Equal → put cmp n (put cmp c ys) ≡ put cmp n ys
    put_again n c [] h = put_equal n c [] h
    put_again n c (y ∷ ys) h = go (cmp c y) refl (put_again n c ys h)
      where
        go : (o : Ordering) → cmp c y ≡ o → put cmp n (put cmp c ys) ≡ put cmp n ys → put cmp n (put_at o c y ys (put cmp c ys)) ≡ put cmp n (y ∷ ys)
        go Less e more = put_equal n c (y ∷ ys) h ∙ sym (put_less n y ys (total.congr n c y h ∙ e))
        go Equal e more = put_equal n c ys h ∙ sym (put_equal n y ys (total.congr n c y h ∙ e))
        go Greater e more = put_greater n y (put cmp c ys) (total.congr n c y h ∙ e) ∙ ap (λ l. y ∷ l) more ∙ sym (put_greater n y ys (total.congr n c y h ∙ e))

    put_swap : (c n : X) (ys : List X) → cmp c n ≡ Less → put cmp n (put cmp c ys) ≡ put cmp c (put cmp n ys)
    put_swap c n [] h = put_greater n c [] (above c n h) ∙ sym (put_less c n [] h)
    put_swap c n (y ∷ ys) h = go (cmp c y) refl (put_swap c n ys h)
      where
        first : (o : Ordering) → cmp c y ≡ Less → c ∷ put_at o n y ys (put cmp n ys) ≡ put cmp c (put_at o n y ys (put cmp n ys))
        first Less e = sym (put_less c n (y ∷ ys) h)
        first Equal e = sym (put_less c n ys h)
        first Greater e = sym (put_less c y (put cmp n ys) e)

        go : (o : Ordering) → cmp c y ≡ o → put cmp n (put cmp c ys) ≡ put cmp c (put cmp n ys) → put cmp n (put_at o c y ys (put cmp c ys)) ≡ put cmp c (put cmp n (y ∷ ys))
        go Less e more = put_greater n c (y ∷ ys) (above c n h) ∙ first (cmp n y) e
        go Equal e more =
            let over : cmp n y ≡ Greater = above y n (sym (total.congr c y n e) ∙ h) in
            put_greater n c ys (above c n h) ∙ sym (put_equal c y (put cmp n ys) e) ∙ ap (put cmp c) (sym (put_greater n y ys over))
        go Greater e more =
            let over : cmp n y ≡ Greater = above y n (total.trans y c n (below c y e) h) in
            put_greater n y (put cmp c ys) over ∙ ap (λ l. y ∷ l) more ∙ sym (put_greater c y (put cmp n ys) e) ∙ ap (put cmp c) (sym (put_greater n y ys over))

    pub merged_put : (base : List X) (n : X) (cs : List X) → merged cmp base (put cmp n cs) ≡ put cmp n (merged cmp base cs)
    merged_put base n [] = refl
    merged_put base n (c ∷ cs) = go (cmp n c) refl (merged_put base n cs)
      where
        go : (o : Ordering) → cmp n c ≡ o → merged cmp base (put cmp n cs) ≡ put cmp n (merged cmp base cs) → merged cmp base (put_at o n c cs (put cmp n cs)) ≡ put cmp n (put cmp c (merged cmp base cs))
        go Less e more = refl
        go Equal e more = sym (put_again n c (merged cmp base cs) e)
        go Greater e more = ap (put cmp c) more ∙ sym (put_swap c n (merged cmp base cs) (below n c e))

    -- changes to changes are changes
    pub merged_merged : (base cs ts : List X) → merged cmp base (merged cmp cs ts) ≡ merged cmp (merged cmp base cs) ts
    merged_merged base cs [] = refl
    merged_merged base cs (t ∷ ts) = merged_put base t (merged cmp cs ts) ∙ ap (put cmp t) (merged_merged base cs ts)

    merged_behind : (b : X) (bs cs : List X) → AllByRecursion (λ c. cmp b c ≡ Less) cs → merged cmp (b ∷ bs) cs ≡ b ∷ merged cmp bs cs
    merged_behind b bs [] all = refl
    merged_behind b bs (c ∷ cs) all = ap (put cmp c) (merged_behind b bs cs all.1) ∙ put_greater c b (merged cmp bs cs) (above b c all.0)

    pub put_behind : (n : X) (xs ys : List X) → AllByRecursion (λ x. cmp n x ≡ Greater) xs → put cmp n (xs ++ ys) ≡ xs ++ put cmp n ys
    put_behind n [] ys all = refl
    put_behind n (x ∷ xs) ys all = put_greater n x (xs ++ ys) all.0 ∙ ap (λ l. x ∷ l) (put_behind n xs ys all.1)

    -- ---- what is merged, from its front

    pub all_put : (P : X → Type 0) (n : X) (ys : List X) → P n → AllByRecursion P ys → AllByRecursion P (put cmp n ys)
    all_put P n [] h all = (h, tt)
    all_put P n (y ∷ ys) h all = go (cmp n y) (all_put P n ys h all.1)
      where
        go : (o : Ordering) → AllByRecursion P (put cmp n ys) → AllByRecursion P (put_at o n y ys (put cmp n ys))
        go Less more = (h, all)
        go Equal more = (h, all.1)
        go Greater more = (all.0, more)

    pub all_merged : (P : X → Type 0) (base cs : List X) → AllByRecursion P base → AllByRecursion P cs → AllByRecursion P (merged cmp base cs)
    all_merged P base [] all some = all
    all_merged P base (c ∷ cs) all some = all_put P c (merged cmp base cs) some.0 (all_merged P base cs all some.1)

    pub put_ascends : (n : X) (ys : List X) → IsStrictlySortedBy cmp ys → IsStrictlySortedBy cmp (put cmp n ys)
    unfolding IsStrictlySortedBy
    put_ascends n [] up = (tt, tt)
    put_ascends n (y ∷ ys) up = go (cmp n y) refl (put_ascends n ys up.1)
      where
        go : (o : Ordering) → cmp n y ≡ o → IsStrictlySortedBy cmp (put cmp n ys) → IsStrictlySortedBy cmp (put_at o n y ys (put cmp n ys))
        go Less e more = ((e, all_weaker (λ z. cmp y z ≡ Less) (λ z. cmp n z ≡ Less) (λ z k. total.trans n y z e k) ys up.0), up)
        go Equal e more = (all_weaker (λ z. cmp y z ≡ Less) (λ z. cmp n z ≡ Less) (λ z k. total.congr n y z e ∙ k) ys up.0, up.1)
        go Greater e more = (all_put (λ z. cmp y z ≡ Less) n ys (below n y e) up.0, more)

    -- a merge into a list that ascends ascends
    pub merged_ascends : (base cs : List X) → IsStrictlySortedBy cmp base → IsStrictlySortedBy cmp (merged cmp base cs)
    merged_ascends base [] up = up
    merged_ascends base (c ∷ cs) up = put_ascends c (merged cmp base cs) (merged_ascends base cs up)

    -- a change that is before all of the base
    pub change_first : (base : List X) (c : X) (cs : List X) → AllByRecursion (λ y. cmp c y ≡ Less) base → IsStrictlySortedBy cmp (c ∷ cs) → merged cmp base (c ∷ cs) ≡ c ∷ merged cmp base cs
    unfolding IsStrictlySortedBy
    change_first base c cs all up = put_front c (merged cmp base cs) (all_merged (λ y. cmp c y ≡ Less) base cs all up.0)

    pub change_before : (b : X) (bs : List X) (c : X) (cs : List X) → cmp c b ≡ Less → IsStrictlySortedBy cmp (b ∷ bs) → IsStrictlySortedBy cmp (c ∷ cs) → merged cmp (b ∷ bs) (c ∷ cs) ≡ c ∷ merged cmp (b ∷ bs) cs
    unfolding IsStrictlySortedBy
    change_before b bs c cs e up rising = change_first (b ∷ bs) c cs (e, all_weaker (λ z. cmp b z ≡ Less) (λ z. cmp c z ≡ Less) (λ z k. total.trans c b z e k) bs up.0) rising

    pub change_in_place : (b : X) (bs : List X) (c : X) (cs : List X) → cmp c b ≡ Equal → IsStrictlySortedBy cmp (c ∷ cs) → merged cmp (b ∷ bs) (c ∷ cs) ≡ c ∷ merged cmp bs cs
    unfolding IsStrictlySortedBy
    change_in_place b bs c cs e rising =
        ap (put cmp c) (merged_behind b bs cs (all_weaker (λ z. cmp c z ≡ Less) (λ z. cmp b z ≡ Less) (λ z k. sym (total.congr c b z e) ∙ k) cs rising.0)) ∙ put_equal c b (merged cmp bs cs) e

    pub change_behind : (b : X) (bs : List X) (c : X) (cs : List X) → cmp c b ≡ Greater → IsStrictlySortedBy cmp (c ∷ cs) → merged cmp (b ∷ bs) (c ∷ cs) ≡ b ∷ merged cmp bs (c ∷ cs)
    unfolding IsStrictlySortedBy
    change_behind b bs c cs e rising =
        let less = below c b e in
        merged_behind b bs (c ∷ cs) (less, all_weaker (λ z. cmp c z ≡ Less) (λ z. cmp b z ≡ Less) (λ z k. total.trans b c z less k) cs rising.0)

    -- ---- a filter that does not distinguish equal elements

    module _ (p : X → Bool) (alike : (x y : X) → cmp x y ≡ Equal → p x ≡ p y) where
      filter_put_alike : (n : X) (ys : List X) → IsStrictlySortedBy cmp ys → filter p (put cmp n ys) ≡ cond (p n) (put cmp n (filter p ys)) (filter p ys)
      unfolding IsStrictlySortedBy
      filter_put_alike n [] up = refl
      filter_put_alike n (y ∷ ys) up = go (cmp n y) refl (filter_put_alike n ys up.1)
        where
          in_place : cmp n y ≡ Equal → (b : Bool) → cond b (n ∷ filter p ys) (filter p ys) ≡ cond b (put cmp n (cond b (y ∷ filter p ys) (filter p ys))) (cond b (y ∷ filter p ys) (filter p ys))
          in_place e true = sym (put_equal n y (filter p ys) e)
          in_place e false = refl

          behind : cmp n y ≡ Greater → (b a : Bool) → cond b (y ∷ cond a (put cmp n (filter p ys)) (filter p ys)) (cond a (put cmp n (filter p ys)) (filter p ys)) ≡ cond a (put cmp n (cond b (y ∷ filter p ys) (filter p ys))) (cond b (y ∷ filter p ys) (filter p ys))
          behind e true true = sym (put_greater n y (filter p ys) e)
          behind e true false = refl
          behind e false a = refl

          go : (o : Ordering) → cmp n y ≡ o → filter p (put cmp n ys) ≡ cond (p n) (put cmp n (filter p ys)) (filter p ys) → filter p (put_at o n y ys (put cmp n ys)) ≡ cond (p n) (put cmp n (filter p (y ∷ ys))) (filter p (y ∷ ys))
          go Less e more =
              ap (λ l. cond (p n) l (filter p (y ∷ ys)))
              (sym (put_front n (filter p (y ∷ ys)) (all_filtered (λ z. cmp n z ≡ Less) p (y ∷ ys) (e, all_weaker (λ z. cmp y z ≡ Less) (λ z. cmp n z ≡ Less) (λ z k. total.trans n y z e k) ys up.0))))
          go Equal e more =
              subst (λ (b : Bool). cond (p n) (n ∷ filter p ys) (filter p ys) ≡ cond (p n) (put cmp n (cond b (y ∷ filter p ys) (filter p ys))) (cond b (y ∷ filter p ys) (filter p ys)))
              (alike n y e) (in_place e (p n))
          go Greater e more = ap (λ l. cond (p y) (y ∷ l) l) more ∙ behind e (p y) (p n)

      pub filter_merged : (base cs : List X) → IsStrictlySortedBy cmp base → filter p (merged cmp base cs) ≡ merged cmp (filter p base) (filter p cs)
      filter_merged base [] up = refl
      filter_merged base (c ∷ cs) up = filter_put_alike c (merged cmp base cs) (merged_ascends base cs up) ∙ go (p c) (filter_merged base cs up)
        where
          go : (b : Bool) → filter p (merged cmp base cs) ≡ merged cmp (filter p base) (filter p cs) → cond b (put cmp c (filter p (merged cmp base cs))) (filter p (merged cmp base cs)) ≡ merged cmp (filter p base) (cond b (c ∷ filter p cs) (filter p cs))
          go true e = ap (put cmp c) e
          go false e = e

    -- the changed elements in the places of the old ones
    pub replaced : {A : Type 0} (f g : A → X) (p : A → Bool) → ((a : A) → cmp (g a) (f a) ≡ Equal) → ((x : X) (a : A) → cmp x (f a) ≡ cmp x (g a)) → ((a : A) → p a ≡ false → f a ≡ g a)
        → (us : List A) → IsStrictlySortedBy (λ a b. cmp (f a) (f b)) us → merged cmp (map f us) (map g (filter p us)) ≡ map g us
    unfolding IsStrictlySortedBy
    replaced {A = A} f g p same alike stays [] up = refl
    replaced {A = A} f g p same alike stays (u ∷ us) up = go (p u) refl (replaced f g p same alike stays us up.1)
      where
        all_later : (vs : List A) → AllByRecursion (λ b. cmp (f u) (f b) ≡ Less) vs → AllByRecursion (λ c. cmp (f u) c ≡ Less) (map g vs)
        all_later [] all = tt
        all_later (v ∷ vs) all = (sym (alike (f u) v) ∙ all.0, all_later vs all.1)

        later : merged cmp (f u ∷ map f us) (map g (filter p us)) ≡ f u ∷ merged cmp (map f us) (map g (filter p us))
        later = merged_behind (f u) (map f us) (map g (filter p us)) (all_later (filter p us) (all_filtered (λ b. cmp (f u) (f b) ≡ Less) p us up.0))

        go : (b : Bool) → p u ≡ b → merged cmp (map f us) (map g (filter p us)) ≡ map g us → merged cmp (map f (u ∷ us)) (map g (cond b (u ∷ filter p us) (filter p us))) ≡ map g (u ∷ us)
        go true e more = ap (put cmp (g u)) later ∙ put_equal (g u) (f u) (merged cmp (map f us) (map g (filter p us))) (same u) ∙ ap (λ l. g u ∷ l) more
        go false e more = later ∙ ap₂ ◌∷◌ (stays u e) more

    -- ---- sorting

    insert_put : (v n : X) (ys : List X) → is_eq (cmp n v) ≡ false → insert_sorted cmp v (put cmp n ys) ≡ put cmp n (insert_sorted cmp v ys)
    insert_put v n [] h = go (cmp n v) refl
      where
        go : (o : Ordering) → cmp n v ≡ o → insert_sorted cmp v (n ∷ []) ≡ put_at o n v [] (n ∷ [])
        go Less e = ap (λ o. cond (is_gt o) (n ∷ v ∷ []) (v ∷ n ∷ [])) (above n v e)
        go Equal e = absurd (not_equal n v h e)
        go Greater e = ap (λ o. cond (is_gt o) (n ∷ v ∷ []) (v ∷ n ∷ [])) (below n v e)
    insert_put v n (y ∷ ys) h = go (cmp n y) refl (cmp n v) refl (cmp v y) refl (insert_put v n ys h)
      where
        before : (z : X) (zs : List X) (o : Ordering) → cmp v z ≡ o → is_gt o ≡ false → insert_sorted cmp v (z ∷ zs) ≡ v ∷ z ∷ zs
        before z zs o e k = ap (λ b. cond b (z ∷ insert_sorted cmp v zs) (v ∷ z ∷ zs)) (ap is_gt e ∙ k)

        behind : (z : X) (zs : List X) → cmp v z ≡ Greater → insert_sorted cmp v (z ∷ zs) ≡ z ∷ insert_sorted cmp v zs
        behind z zs e = ap (λ b. cond b (z ∷ insert_sorted cmp v zs) (v ∷ z ∷ zs)) (ap is_gt e)

        under : (q : Ordering) → cmp v y ≡ q → is_gt q ≡ false → cmp n v ≡ Less → cmp n y ≡ Less
        under Less k t e = total.trans n v y e k
        under Equal k t e = total.antisymm n y ∙ ap ordering_reverse (sym (total.congr v y n k)) ∙ sym (total.antisymm n v) ∙ e
        under Greater k t e = absurd (true≢false t)

        -- v is before y
        early : (q : Ordering) → cmp v y ≡ q → is_gt q ≡ false → (o : Ordering) → cmp n v ≡ o → insert_sorted cmp v (put cmp n (y ∷ ys)) ≡ put cmp n (v ∷ y ∷ ys)
        early q k t Less e =
            ap (insert_sorted cmp v) (put_less n y ys (under q k t e)) ∙ behind n (y ∷ ys) (above n v e) ∙ ap (λ l. n ∷ l) (before y ys q k t)
            ∙ sym (put_less n v (y ∷ ys) e)
        early q k t Equal e = absurd (not_equal n v h e)
        early q k t Greater e = first (cmp n y) ∙ sym (put_greater n v (y ∷ ys) e)
          where
            first : (o : Ordering) → insert_sorted cmp v (put_at o n y ys (put cmp n ys)) ≡ v ∷ put_at o n y ys (put cmp n ys)
            first Less = before n (y ∷ ys) Less (below n v e) refl
            first Equal = before n ys Less (below n v e) refl
            first Greater = before y (put cmp n ys) q k t

        go : (o : Ordering) → cmp n y ≡ o → (r : Ordering) → cmp n v ≡ r → (q : Ordering) → cmp v y ≡ q → insert_sorted cmp v (put cmp n ys) ≡ put cmp n (insert_sorted cmp v ys) → insert_sorted cmp v (put cmp n (y ∷ ys)) ≡ put cmp n (insert_sorted cmp v (y ∷ ys))
        go o e r f Less k more = early Less k refl r f ∙ ap (put cmp n) (sym (before y ys Less k refl))
        go o e r f Equal k more = early Equal k refl r f ∙ ap (put cmp n) (sym (before y ys Equal k refl))
        go Less e r f Greater k more =
            ap (insert_sorted cmp v) (put_less n y ys e) ∙ behind n (y ∷ ys) (above n v (total.trans n y v e (below v y k))) ∙ ap (λ l. n ∷ l) (behind y ys k)
            ∙ sym (put_less n y (insert_sorted cmp v ys) e) ∙ ap (put cmp n) (sym (behind y ys k))
        go Equal e r f Greater k more =
            ap (insert_sorted cmp v) (put_equal n y ys e) ∙ behind n ys (above n v (total.congr n y v e ∙ below v y k))
            ∙ sym (put_equal n y (insert_sorted cmp v ys) e) ∙ ap (put cmp n) (sym (behind y ys k))
        go Greater e r f Greater k more =
            ap (insert_sorted cmp v) (put_greater n y ys e) ∙ behind y (put cmp n ys) k ∙ ap (λ l. y ∷ l) more
            ∙ sym (put_greater n y (insert_sorted cmp v ys) e) ∙ ap (put cmp n) (sym (behind y ys k))

    pub sort_put : (n : X) (vs : List X) → IsNew n vs → sort_by cmp (vs ++ n ∷ []) ≡ put cmp n (sort_by cmp vs)
    sort_put n [] new = refl
    sort_put n (v ∷ vs) new = ap (insert_sorted cmp v) (sort_put n vs new.1) ∙ insert_put v n (sort_by cmp vs) new.0
