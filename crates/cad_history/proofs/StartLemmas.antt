-- The rows that a start makes show each revision.
use Rattle.std.proofs.Common.{◌≡◌, ℕ, ℤ, ◌≤◌, ◌<◌, nat_le, nat_lt, Bool, true, false, cond, ◌&&◌, List, [], ◌∷◌, ◌++◌, map, filter, refl, sym, ap, ap₂, ◌∙◌, subst, arith, append-nil, append_assoc, Ordering, Less, Equal, Greater, ◌⊎◌, inl, inr, pos, int_le}
use Rattle.std.specs.List.{AllByRecursion}
use Rattle.std.specs.Cmp.{IsTotalOrder}
use Rattle.std.specs.Ordering.{ordering_reverse}
use Rattle.std.proofs.lemmas.Bool.Decides.{nat_tests}
use Rattle.std.proofs.lemmas.Int.{ints}
use Rattle.cad_versions.specs.Entries.{Entry}
use Rattle.cad_versions.specs.Identifiers.{identifier_cmp, identifier_of as identifier_of_version}
use Rattle.cad_versions.specs.lemmas.ListLemmas.{all_weaker, all_filtered}
use Rattle.cad_schema.specs.declared.collection.Collection.{Collection}
use Rattle.cad_feature.specs.Features.{Item, identifier_of, by_identifier}
use Rattle.cad_feature.specs.FeaturesThen.{entry_in, feature_at}
use Rattle.cad_feature.specs.Periods.{always}
use Rattle.cad_feature.specs.VersionRows.{IsRowOf, RunOn, AreRowsOfVersion}
use Rattle.cad_layer.specs.Merging.{put_at, put, merged}
use Rattle.cad_layer.specs.Walks.{all_in}
use Rattle.cad_layer.specs.lemmas.ItemLemmas.{items_total}
use Rattle.cad_layer.specs.lemmas.MergeLemmas.{put_behind, all_merged}
use Rattle.cad_history.specs.Rows.{is_shown_at, rows_at, earlier_at, bare, shown_at}
use Rattle.cad_history.specs.inner.Starting.{pushed, layers_of, rows_of, is_by, seen_of}

-- ---- one element behind the others

module _ {X : Type 0} (cmp : X → X → Ordering) where
  put_before : (c x : X) (zs : List X) → cmp c x ≡ Less → put cmp c (zs ++ x ∷ []) ≡ put cmp c zs ++ x ∷ []
  put_before c x [] e = ap (λ o. put_at o c x [] (c ∷ [])) e
  put_before c x (z ∷ zs) e = go (cmp c z) (put_before c x zs e)
    where
      go : (o : Ordering) → put cmp c (zs ++ x ∷ []) ≡ put cmp c zs ++ x ∷ [] → put_at o c z (zs ++ x ∷ []) (put cmp c (zs ++ x ∷ [])) ≡ put_at o c z zs (put cmp c zs) ++ x ∷ []
      go Less more = refl
      go Equal more = refl
      go Greater more = ap (λ l. z ∷ l) more

  base_last : (xs cs : List X) (x : X) → AllByRecursion (λ c. cmp c x ≡ Less) cs → merged cmp (xs ++ x ∷ []) cs ≡ merged cmp xs cs ++ x ∷ []
  base_last xs [] x all = refl
  base_last xs (c ∷ cs) x all = ap (put cmp c) (base_last xs cs x all.1) ∙ put_before c x (merged cmp xs cs) all.0

  change_last : (total : IsTotalOrder cmp) (xs cs : List X) (x : X) → AllByRecursion (λ y. cmp x y ≡ Greater) xs → AllByRecursion (λ c. cmp c x ≡ Less) cs
      → merged cmp xs (cs ++ x ∷ []) ≡ merged cmp xs cs ++ x ∷ []
  change_last total xs [] x above below = ap (put cmp x) (sym (append-nil xs)) ∙ put_behind cmp total x xs [] above
  change_last total xs (c ∷ cs) x above below = ap (put cmp c) (change_last total xs cs x above below.1) ∙ put_before c x (merged cmp xs cs) below.0

-- ---- rows of one version, and rows of versions before it

module _ (id : ℤ × ℤ) where
  abbrev pub IsOf : Item → Type 0
  IsOf x = identifier_of x ≡ id

  abbrev pub IsUnder : Item → Type 0
  IsUnder y = identifier_cmp (identifier_of y) id ≡ Less

  pub less : (y x : Item) → IsOf x → IsUnder y → by_identifier y x ≡ Less
  less y x of under = ap (identifier_cmp (identifier_of y)) of ∙ under

  pub greater : (y x : Item) → IsOf x → IsUnder y → by_identifier x y ≡ Greater
  greater y x of under = items_total.antisymm x y ∙ ap ordering_reverse (less y x of under)

  pub all_less : (x : Item) (ys : List Item) → IsOf x → AllByRecursion IsUnder ys → AllByRecursion (λ y. by_identifier y x ≡ Less) ys
  all_less x ys of all = all_weaker IsUnder (λ y. by_identifier y x ≡ Less) (λ y under. less y x of under) ys all

  all_greater : (x : Item) (ys : List Item) → IsOf x → AllByRecursion IsUnder ys → AllByRecursion (λ y. by_identifier x y ≡ Greater) ys
  all_greater x ys of all = all_weaker IsUnder (λ y. by_identifier x y ≡ Greater) (λ y under. greater y x of under) ys all

  -- no row, or one of the version
  abbrev pub AreFew : List Item → Type 0
  AreFew xs = (xs ≡ []) ⊎ ((x : Item) × IsOf x × (xs ≡ x ∷ []))

  joined : (bs es ps qs : List Item) → AllByRecursion IsUnder bs → AllByRecursion IsUnder es → (ps ≡ []) ⊎ (qs ≡ []) → AreFew ps → AreFew qs → all_in (bs ++ ps) (es ++ qs) ≡ all_in bs es ++ (ps ++ qs)
  joined bs es ps qs a e apart few some = go apart few some
    where
      Goal : List Item → List Item → Type 0
      Goal ps qs = all_in (bs ++ ps) (es ++ qs) ≡ all_in bs es ++ (ps ++ qs)

      none : Goal [] []
      none = ap₂ all_in (append-nil bs) (append-nil es) ∙ sym (append-nil (all_in bs es))

      first : (x : Item) → IsOf x → Goal (x ∷ []) []
      first x of = ap (all_in (bs ++ x ∷ [])) (append-nil es) ∙ base_last by_identifier bs es x (all_less x es of e)

      second : (x : Item) → IsOf x → Goal [] (x ∷ [])
      second x of = ap (λ zs. all_in zs (es ++ x ∷ [])) (append-nil bs) ∙ change_last by_identifier items_total bs es x (all_greater x bs of a) (all_less x es of e)

      at : (xs ys : List Item) → ps ≡ xs → qs ≡ ys → Goal xs ys → Goal ps qs
      at xs ys is are done = subst (λ p. Goal p qs) (sym is) (subst (Goal xs) (sym are) done)

      go : (ps ≡ []) ⊎ (qs ≡ []) → AreFew ps → AreFew qs → Goal ps qs
      go (inl h) f (inl k) = at [] [] h k none
      go (inl h) f (inr k) = at [] (k.0 ∷ []) h k.2 (second k.0 k.1)
      go (inr h) (inl k) g = at [] [] k h none
      go (inr h) (inr k) g = at (k.0 ∷ []) [] k.2 h (first k.0 k.1)

-- ---- which rows are shown

hidden_before : (start end r : ℕ) → r < start → (nat_le start r && nat_lt r end) ≡ false
hidden_before start end r h = grind (arith, nat_tests)

hidden_after : (start end r : ℕ) → end ≤ r → (nat_le start r && nat_lt r end) ≡ false
hidden_after start end r h = grind (arith, nat_tests)

shown_within : (start end r : ℕ) → start ≤ r → r < end → (nat_le start r && nat_lt r end) ≡ true
shown_within start end r h k = grind (arith, nat_tests)

parted : (r n : ℕ) → (r < n) ⊎ (n ≤ r)
parted r n = grind arith

module _ (r : ℕ) where
  one_row : (x : Item) (b : Bool) → is_shown_at r x ≡ b → rows_at r (x ∷ []) ≡ cond b (x ∷ []) []
  one_row x b e = ap (λ c. cond c (x ∷ []) []) e

  front_row : (x : Item) (xs : List Item) → rows_at r (x ∷ xs) ≡ rows_at r (x ∷ []) ++ rows_at r xs
  front_row x xs = go (is_shown_at r x)
    where
      go : (b : Bool) → cond b (x ∷ rows_at r xs) (rows_at r xs) ≡ cond b (x ∷ []) [] ++ rows_at r xs
      go true = refl
      go false = refl

  rows_more : (xs : List Item) (x : Item) → rows_at r (xs ++ x ∷ []) ≡ rows_at r xs ++ rows_at r (x ∷ [])
  rows_more [] x = refl
  rows_more (y ∷ ys) x =
      front_row y (ys ++ x ∷ []) ∙ ap (λ zs. rows_at r (y ∷ []) ++ zs) (rows_more ys x) ∙ sym (append_assoc (rows_at r (y ∷ [])) (rows_at r ys) (rows_at r (x ∷ [])))
      ∙ ap (λ zs. zs ++ rows_at r (x ∷ [])) (sym (front_row y ys))

  hidden : (x : Item) → is_shown_at r x ≡ false → rows_at r (x ∷ []) ≡ []
  hidden x e = one_row x false e

  few_of : (id : ℤ × ℤ) (x : Item) → IsOf id x → AreFew id (rows_at r (x ∷ []))
  few_of id x of = go (is_shown_at r x) refl
    where
      go : (b : Bool) → is_shown_at r x ≡ b → AreFew id (rows_at r (x ∷ []))
      go true e = inr (x, of, one_row x true e)
      go false e = inl (one_row x false e)

-- ---- a run of rows

pub run_rises : (start end : ℕ) (xs : List Item) → RunOn start end xs → start ≤ end
run_rises start end [] run = omega (arith, run)
run_rises start end (x ∷ xs) run = let more = run_rises x.period.end end xs run.2 in omega (arith, more, run.1)

module _ (r : ℕ) where
  before_run : (start end : ℕ) (xs : List Item) → RunOn start end xs → r < start → rows_at r xs ≡ []
  before_run start end [] run h = refl
  before_run start end (x ∷ xs) run h =
      front_row r x xs ∙ ap₂ ◌++◌ (hidden r x (hidden_before x.period.start x.period.end r (omega (arith, h, run.0)))) (before_run x.period.end end xs run.2 (omega (arith, h, run.1)))

  after_run : (start end : ℕ) (xs : List Item) → RunOn start end xs → end ≤ r → rows_at r xs ≡ []
  after_run start end [] run h = refl
  after_run start end (x ∷ xs) run h =
      front_row r x xs ∙ ap₂ ◌++◌ (hidden r x (hidden_after x.period.start x.period.end r (omega (arith, h, run_rises x.period.end end xs run.2)))) (after_run x.period.end end xs run.2 h)

  -- the one row that is shown
  in_run : (P : Item → Type 0) (start end : ℕ) (xs : List Item) → RunOn start end xs → AllByRecursion P xs → start ≤ r → r < end → (x : Item) × P x × (is_shown_at r x ≡ true) × (rows_at r xs ≡ x ∷ [])
  in_run P start end [] run all h k = absurd (omega (arith, run, h, k))
  in_run P start end (x ∷ xs) run all h k = go (parted r x.period.end) (λ j. in_run P x.period.end end xs run.2 all.1 j k)
    where
      go : (r < x.period.end) ⊎ (x.period.end ≤ r) → (x.period.end ≤ r → (y : Item) × P y × (is_shown_at r y ≡ true) × (rows_at r xs ≡ y ∷ [])) → (y : Item) × P y × (is_shown_at r y ≡ true) × (rows_at r (x ∷ xs) ≡ y ∷ [])
      go (inl j) later =
          let shown = shown_within x.period.start x.period.end r (omega (arith, h, run.0)) j in
          (x, all.0, shown, front_row r x xs ∙ ap₂ ◌++◌ (one_row r x true shown) (before_run x.period.end end xs run.2 j))
      go (inr j) later =
          let more = later j in
          (more.0, more.1, more.2, front_row r x xs ∙ ap₂ ◌++◌ (hidden r x (hidden_after x.period.start x.period.end r j)) more.3)

  few_in : (id : ℤ × ℤ) (start end : ℕ) (xs : List Item) → RunOn start end xs → AllByRecursion (IsOf id) xs → AreFew id (rows_at r xs)
  few_in id start end xs run all = go (parted r start) (parted r end)
    where
      go : (r < start) ⊎ (start ≤ r) → (r < end) ⊎ (end ≤ r) → AreFew id (rows_at r xs)
      go (inl h) k = inl (before_run start end xs run h)
      go (inr h) (inl k) = let one = in_run (IsOf id) start end xs run all h k in inr (one.0, one.1, one.3)
      go (inr h) (inr k) = inl (after_run start end xs run k)

  apart_in : (x : Item) (start end : ℕ) (xs : List Item) → RunOn start end (x ∷ xs) → (rows_at r (x ∷ []) ≡ []) ⊎ (rows_at r xs ≡ [])
  apart_in x start end xs run = go (parted r x.period.end)
    where
      go : (r < x.period.end) ⊎ (x.period.end ≤ r) → (rows_at r (x ∷ []) ≡ []) ⊎ (rows_at r xs ≡ [])
      go (inl h) = inr (before_run x.period.end end xs run.2 h)
      go (inr h) = inl (hidden r x (hidden_after x.period.start x.period.end r h))

  -- ---- the lists with the rows

  module _ (c : Collection) (id : ℤ × ℤ) where
    under_rows : (xs : List Item) → AllByRecursion (IsUnder id) xs → AllByRecursion (IsUnder id) (rows_at r xs)
    under_rows xs all = all_filtered (IsUnder id) (is_shown_at r) xs all

    under_earlier : (ls : List (List Item)) → AllByRecursion (AllByRecursion (IsUnder id)) ls → AllByRecursion (IsUnder id) (earlier_at r (layers_of c ls))
    under_earlier [] all = tt
    under_earlier (l ∷ ls) all = all_merged by_identifier items_total (IsUnder id) (rows_at r l) (earlier_at r (layers_of c ls)) (under_rows l all.0) (under_earlier ls all.1)

    earlier_pushed : (start end : ℕ) (xs : List Item) (ls : List (List Item)) → RunOn start end xs → AllByRecursion (IsOf id) xs → AllByRecursion (AllByRecursion (IsUnder id)) ls
        → earlier_at r (layers_of c (pushed xs ls)) ≡ earlier_at r (layers_of c ls) ++ rows_at r xs
    earlier_pushed start end [] ls run of all = sym (append-nil (earlier_at r (layers_of c ls)))
    earlier_pushed start end (x ∷ xs) [] run of all =
        ap (all_in (rows_at r (x ∷ []))) (earlier_pushed x.period.end end xs [] run.2 of.1 tt)
        ∙ joined id [] [] (rows_at r (x ∷ [])) (rows_at r xs) tt tt (apart_in x start end xs run) (few_of r id x of.0) (few_in id x.period.end end xs run.2 of.1)
        ∙ sym (front_row r x xs)
    earlier_pushed start end (x ∷ xs) (l ∷ ls) run of all =
        ap₂ all_in (rows_more r l x) (earlier_pushed x.period.end end xs ls run.2 of.1 all.1)
        ∙ joined id (rows_at r l) (earlier_at r (layers_of c ls)) (rows_at r (x ∷ [])) (rows_at r xs) (under_rows l all.0) (under_earlier ls all.1) (apart_in x start end xs run) (few_of r id x of.0)
        (few_in id x.period.end end xs run.2 of.1)
        ∙ ap (λ zs. all_in (rows_at r l) (earlier_at r (layers_of c ls)) ++ zs) (sym (front_row r x xs))

map_append : {X Y : Type 0} (f : X → Y) (xs ys : List X) → map f (xs ++ ys) ≡ map f xs ++ map f ys
map_append f [] ys = refl
map_append f (x ∷ xs) ys = ap (λ zs. f x ∷ zs) (map_append f xs ys)

-- ---- the rows of a version

module _ (last : ℕ) (all : List Entry) (c : Collection) (e : Entry) where
  abbrev pub id_of : ℤ × ℤ
  id_of = identifier_of_version e.version

  pub row_of : (x : Item) → IsRowOf last all c e x → IsOf id_of x
  row_of x is = λ i. identifier_of (record { object = is.object i; number = is.number i; values = x.values; period = x.period })

  bare_is : (x : Item) (r : ℕ) → r ≤ last → IsRowOf last all c e x → is_shown_at r x ≡ true → bare x ≡ feature_at all c e r
  bare_is x r low is shown = λ i. record { object = is.object i; number = is.number i; values = is.values r shown low i; period = always }

  by_then : (n r : ℕ) → n ≤ r → int_le (pos n) (pos r) ≡ true
  by_then n r h = grind (arith, ints)

  not_by_then : (n r : ℕ) → r < n → int_le (pos n) (pos r) ≡ false
  not_by_then n r h = grind (arith, ints)

  module _ (xs : List Item) (n : Item) (are : AreRowsOfVersion last all c e xs n) (r : ℕ) (low : r ≤ last) (few : last < 4294967295) where
    newest_shown : n.period.start ≤ r → is_shown_at r n ≡ true
    newest_shown h = shown_within n.period.start n.period.end r h (omega (arith, low, few, are.endless))

    pub newest_apart : (rows_at r xs ≡ []) ⊎ (rows_at r (n ∷ []) ≡ [])
    newest_apart = go (parted r n.period.start)
      where
        go : (r < n.period.start) ⊎ (n.period.start ≤ r) → (rows_at r xs ≡ []) ⊎ (rows_at r (n ∷ []) ≡ [])
        go (inl h) = inr (hidden r n (hidden_before n.period.start n.period.end r h))
        go (inr h) = inl (after_run r e.entered n.period.start xs are.run h)

    -- what they show is what the entry shows
    pub version_shown : entry_in c e ≡ true → map bare (rows_at r xs ++ rows_at r (n ∷ [])) ≡ seen_of all c r (e ∷ [])
    version_shown inside = go (parted r e.entered) (parted r n.period.start)
      where
        seen_if : Bool → Bool → List Item
        seen_if there own = map (λ entry. feature_at all c entry r) (cond there (cond own (e ∷ []) []) [])

        seen_is : (there : Bool) → is_by r e ≡ there → seen_of all c r (e ∷ []) ≡ seen_if there true
        seen_is there is = ap (λ b. map (λ entry. feature_at all c entry r) (filter (entry_in c) (cond b (e ∷ []) []))) is ∙ turn there
          where
            turn : (b : Bool) → map (λ entry. feature_at all c entry r) (filter (entry_in c) (cond b (e ∷ []) [])) ≡ seen_if b true
            turn true = ap (λ b. map (λ entry. feature_at all c entry r) (cond b (e ∷ []) [])) inside
            turn false = refl

        go : (r < e.entered) ⊎ (e.entered ≤ r) → (r < n.period.start) ⊎ (n.period.start ≤ r) → map bare (rows_at r xs ++ rows_at r (n ∷ [])) ≡ seen_of all c r (e ∷ [])
        go (inl h) k =
            ap₂ (λ ps qs. map bare (ps ++ qs)) (before_run r e.entered n.period.start xs are.run h)
            (hidden r n (hidden_before n.period.start n.period.end r (omega (arith, h, run_rises e.entered n.period.start xs are.run)))) ∙ sym (seen_is false (not_by_then e.entered r h))
        go (inr h) (inl k) =
            let one = in_run r (IsRowOf last all c e) e.entered n.period.start xs are.run are.each h k in
            ap₂ (λ ps qs. map bare (ps ++ qs)) one.3 (hidden r n (hidden_before n.period.start n.period.end r k)) ∙ ap (λ y. y ∷ []) (bare_is one.0 r low one.1 one.2) ∙ sym (seen_is true (by_then e.entered r h))
        go (inr h) (inr k) =
            ap₂ (λ ps qs. map bare (ps ++ qs)) (after_run r e.entered n.period.start xs are.run k) (one_row r n true (newest_shown k)) ∙ ap (λ y. y ∷ []) (bare_is n r low are.last (newest_shown k)) ∙ sym (seen_is true (by_then e.entered r h))

    -- all rows with these of one version more
    pub shown_more : (newest : List Item) (ls : List (List Item)) → entry_in c e ≡ true → AllByRecursion (IsUnder id_of) newest → AllByRecursion (AllByRecursion (IsUnder id_of)) ls
        → shown_at r (rows_of c last (newest ++ n ∷ []) (pushed xs ls)) ≡ shown_at r (rows_of c last newest ls) ++ seen_of all c r (e ∷ [])
    shown_more newest ls inside under below =
        let of = all_weaker (IsRowOf last all c e) (IsOf id_of) row_of xs are.each in
        ap (map bare) (ap₂ all_in (earlier_pushed r c id_of e.entered n.period.start xs ls are.run of below) (rows_more r newest n)
        ∙ joined id_of (earlier_at r (layers_of c ls)) (rows_at r newest) (rows_at r xs) (rows_at r (n ∷ [])) (under_earlier r c id_of ls below) (under_rows r c id_of newest under) newest_apart
        (few_in r id_of e.entered n.period.start xs are.run of) (few_of r id_of n (row_of n are.last)))
        ∙ map_append bare (all_in (earlier_at r (layers_of c ls)) (rows_at r newest)) (rows_at r xs ++ rows_at r (n ∷ []))
        ∙ ap (λ zs. map bare (all_in (earlier_at r (layers_of c ls)) (rows_at r newest)) ++ zs) (version_shown inside)
