-- The last of features that ascend, of lists that are merged, and of those after a named one.
use Rattle.std.proofs.Common.{◌≡◌, ◌∙◌, ℕ, ℤ, suc, ◌≤◌, ◌<◌, Bool, true, false, cond, List, [], ◌∷◌, ◌++◌, length, filter, ap, sym, subst, refl, arith, ◌⊎◌, inl, inr, Option, Some, None, Ordering, Less, Equal, Greater, true≢false}
use Rattle.std.specs.Prelude.{option_map}
use Rattle.std.specs.List.{AllByRecursion}
use Rattle.std.specs.List.Sorted.{IsStrictlySortedBy}
use Rattle.std.specs.Ordering.{is_eq, is_gt}
use Rattle.cad_versions.specs.declared.object_id.ObjectId.{ObjectId}
use Rattle.cad_versions.specs.Identifiers.{identifier_cmp}
use Rattle.cad_feature.specs.Features.{Item, by_identifier, identifier_of}
use Rattle.cad_layer.specs.Identifiers.{compared}
use Rattle.cad_layer.specs.Merging.{merged, put, put_at}
use Rattle.cad_layer.specs.Walks.{all_in}
use Rattle.cad_layer.specs.lemmas.AfterLemmas.{before}
use Rattle.cad_layer.specs.lemmas.ItemLemmas.{items_total}
use Rattle.cad_layer.specs.lemmas.MergeLemmas.{filter_merged}
use Rattle.cad_layer.specs.lemmas.SearchLemmas.{equal_is, is_equal}
use Rattle.cad_run.specs.inner.Ends.{IsEnd, is_beyond, is_named}
use Rattle.cad_run.specs.Slices.{identifier, is_later, later}
use Rattle.cad_run.specs.lemmas.TakenLemmas.{later_merged, turned}
use Rattle.cad_run.specs.lemmas.AheadLemmas.{not_after_itself}
use Rattle.cad_run.proofs.SourceLemmas.{no_later_named}

-- ---- the last of a list

names_itself : (x : Item) → is_named (identifier_of x) x ≡ true
names_itself x = ap is_eq (is_equal (identifier_of x) (identifier_of x) refl)

all_to_last : (others : List Item) (x : Item) → AllByRecursion (λ y. by_identifier y x ≡ Less) others → later (Some (identifier_of x)) (others ++ x ∷ []) ≡ []
all_to_last [] x all = rw (not_after_itself x) refl
all_to_last (y ∷ others) x all = rw (before (identifier_of x) y x all.0 (not_after_itself x)) (all_to_last others x all.1)

end_here : (b : Bool) (x : Item) (xs : List Item) → 0 < length xs → 0 < length (cond b (x ∷ xs) xs)
end_here true x xs some = omega arith
end_here false x xs some = some

named_last : (others : List Item) (x : Item) → 0 < length (filter (is_named (identifier_of x)) (others ++ x ∷ []))
named_last [] x = rw (names_itself x) (omega arith)
named_last (y ∷ others) x = end_here (is_named (identifier_of x) y) y _ (named_last others x)

less_to_last : (y : Item) (others : List Item) (x : Item) → AllByRecursion (λ z. by_identifier y z ≡ Less) (others ++ x ∷ []) → by_identifier y x ≡ Less
less_to_last y [] x all = all.0
less_to_last y (z ∷ others) x all = less_to_last y others x all.1

all_less : (others : List Item) (x : Item) → IsStrictlySortedBy by_identifier (others ++ x ∷ []) → AllByRecursion (λ y. by_identifier y x ≡ Less) others
unfolding IsStrictlySortedBy
all_less [] x up = tt
all_less (y ∷ others) x up = (less_to_last y others x up.0, all_less others x up.1)

pub last_is_end : (xs others : List Item) (x : Item) → xs ≡ others ++ x ∷ [] → IsStrictlySortedBy by_identifier xs → IsEnd (Some (identifier_of x)) xs
last_is_end xs others x is up =
    let here : IsEnd (Some (identifier_of x)) (others ++ x ∷ []) = (named_last others x, all_to_last others x (all_less others x (subst (IsStrictlySortedBy by_identifier) is up))) in
    subst (IsEnd (Some (identifier_of x))) (sym is) here

-- ---- of lists that are merged

put_long : (x : Item) (ys : List Item) → (0 < length (put by_identifier x ys)) × (length ys ≤ length (put by_identifier x ys))
put_long x [] = (omega arith, omega arith)
put_long x (y ∷ ys) = go (by_identifier x y) (put_long x ys)
  where
    go : (o : Ordering) → (0 < length (put by_identifier x ys)) × (length ys ≤ length (put by_identifier x ys))
        → (0 < length (put_at o x y ys (put by_identifier x ys))) × (suc (length ys) ≤ length (put_at o x y ys (put by_identifier x ys)))
    go Less rest = (omega arith, omega arith)
    go Equal rest = (omega arith, omega arith)
    go Greater rest = (omega arith, omega (arith, rest.1))

merged_long : (xs cs : List Item) → length xs ≤ length (merged by_identifier xs cs)
merged_long xs [] = omega arith
merged_long xs (c ∷ cs) = omega (arith, merged_long xs cs, (put_long c (merged by_identifier xs cs)).1)

some_merged : (xs cs : List Item) → (0 < length xs) ⊎ (0 < length cs) → 0 < length (merged by_identifier xs cs)
some_merged xs cs (inl some) = omega (arith, merged_long xs cs, some)
some_merged xs [] (inr some) = absurd (omega (arith, some))
some_merged xs (c ∷ cs) (inr some) = (put_long c (merged by_identifier xs cs)).0

same_named : (last : ℤ × ℤ) (x y : Item) → by_identifier x y ≡ Equal → is_named last x ≡ is_named last y
same_named last x y e = ap (λ i. is_eq (identifier_cmp i last)) (equal_is (identifier_of x) (identifier_of y) e)

pub end_of_merged : (last : ℤ × ℤ) (xs ys : List Item) → IsStrictlySortedBy by_identifier xs → later (Some last) xs ≡ [] → later (Some last) ys ≡ []
    → (0 < length (filter (is_named last) xs)) ⊎ (0 < length (filter (is_named last) ys)) → IsEnd (Some last) (all_in xs ys)
end_of_merged last xs ys up none none_other some =
    let named = filter_merged by_identifier items_total (is_named last) (same_named last) xs ys up in
    let long = some_merged (filter (is_named last) xs) (filter (is_named last) ys) some in
    let nothing : later (Some last) (all_in xs ys) ≡ [] = later_merged (Some last) xs ys up ∙ ap (λ zs. all_in zs (later (Some last) ys)) none ∙ ap (all_in []) none_other in
    (omega (arith, ap length named, long), nothing)

-- the later one of both ends
pub later_end_is : (one : Option (ℤ × ℤ)) (last result : ℤ × ℤ) → ((zs : List Item) → later (Some result) zs ≡ later (Some last) (later one zs)) → (one ≡ Some result) ⊎ (result ≡ last)
    → (xs ys : List Item) → IsStrictlySortedBy by_identifier xs → IsEnd one xs → IsEnd (Some last) ys → IsEnd (Some result) (all_in xs ys)
later_end_is one last result both either xs ys up is other =
    end_of_merged result xs ys up (both xs ∙ ap (later (Some last)) (none_later one xs is)) (both ys ∙ turned (is_later (Some last)) (is_later one) ys ∙ ap (later one) other.1) (some either)
  where
    none_later : (o : Option (ℤ × ℤ)) (zs : List Item) → IsEnd o zs → later o zs ≡ []
    none_later None zs nothing = rw nothing refl
    none_later (Some l) zs end = end.1

    first : (o : Option (ℤ × ℤ)) → o ≡ Some result → IsEnd o xs → 0 < length (filter (is_named result) xs)
    first o e end = (subst (λ (l : Option (ℤ × ℤ)). IsEnd l xs) e end).0

    some : (one ≡ Some result) ⊎ (result ≡ last) → (0 < length (filter (is_named result) xs)) ⊎ (0 < length (filter (is_named result) ys))
    some (inl e) = inl (first one e is)
    some (inr e) = inr (subst (λ l. 0 < length (filter (is_named l) ys)) (sym e) other.0)

pub one_named : (one : Option (ObjectId × ℕ)) (last result : ObjectId × ℕ) → (one ≡ Some result) ⊎ (result ≡ last) → (option_map identifier one ≡ Some (identifier result)) ⊎ (identifier result ≡ identifier last)
one_named one last result (inl e) = inl (ap (option_map identifier) e)
one_named one last result (inr e) = inr (ap identifier e)

-- ---- of those after a named one

named_later : (named : Option (ℤ × ℤ)) (last : ℤ × ℤ) → is_beyond named last ≡ true → (x : Item) → is_named last x ≡ true → is_later named x ≡ true
named_later None last beyond x is = refl
named_later (Some n) last beyond x is = ap (λ i. is_gt (identifier_cmp i n)) (equal_is (identifier_of x) last (named_equal (compared last x) is)) ∙ beyond
  where
    named_equal : (o : Ordering) → is_eq o ≡ true → o ≡ Equal
    named_equal Less h = absurd (true≢false (sym h))
    named_equal Equal h = refl
    named_equal Greater h = absurd (true≢false (sym h))

kept_named : (named : Option (ℤ × ℤ)) (last : ℤ × ℤ) → is_beyond named last ≡ true → (xs : List Item) → length (filter (is_named last) xs) ≤ length (filter (is_named last) (later named xs))
kept_named named last beyond [] = omega arith
kept_named named last beyond (x ∷ xs) = go (is_named last x) (is_later named x) refl refl (kept_named named last beyond xs)
  where
    go : (a b : Bool) → is_named last x ≡ a → is_later named x ≡ b → length (filter (is_named last) xs) ≤ length (filter (is_named last) (later named xs))
        → length (cond a (x ∷ filter (is_named last) xs) (filter (is_named last) xs)) ≤ length (filter (is_named last) (cond b (x ∷ later named xs) (later named xs)))
    go true true e f rest = rw e (omega (arith, rest))
    go true false e f rest = absurd (true≢false (sym (named_later named last beyond x e) ∙ f))
    go false true e f rest = rw e rest
    go false false e f rest = rest

pub end_beyond : (named : Option (ℤ × ℤ)) (last : ℤ × ℤ) (xs : List Item) → is_beyond named last ≡ true → IsEnd (Some last) xs → IsEnd (Some last) (later named xs)
end_beyond named last xs beyond is =
    (omega (arith, kept_named named last beyond xs, is.0), turned (is_later (Some last)) (is_later named) xs ∙ ap (later named) is.1)

-- the last of them does not come after the named one, and so none does
pub none_beyond : (named : Option (ℤ × ℤ)) (last : ℤ × ℤ) (xs : List Item) → is_beyond named last ≡ false → IsEnd (Some last) xs → later named xs ≡ []
none_beyond None last xs not_beyond is = absurd (true≢false not_beyond)
none_beyond (Some n) last xs not_beyond is = no_later_named last n not_beyond xs ∙ ap (later (Some n)) is.1
