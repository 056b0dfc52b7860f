-- In the order of identifiers each version of a register follows the one before it.
use Rattle.std.proofs.Common.{◌≡◌, ℕ, ◌+◌, ◌≤◌, ◌<◌, pos, Bool, true, false, cond, List, [], ◌∷◌, filter, Option, Some, None, Ordering, Less, Equal, Greater, true≢false, ◌⊎◌, inl, inr, refl, sym, ap, ◌∙◌, arith, is_gt}
use Rattle.std.specs.List.{AllByRecursion}
use Rattle.std.specs.List.Sorted.{IsStrictlySortedBy}
use Rattle.std.proofs.lemmas.Int.{ints}
use Rattle.cad_versions.specs.declared.object_id.ObjectId.{ObjectId}
use Rattle.cad_versions.specs.declared.body.Class.{Class}
use Rattle.cad_versions.specs.declared.command.Command.{Command}
use Rattle.cad_versions.specs.Objects.{object_number}
use Rattle.cad_versions.specs.Class.{class_of}
use Rattle.cad_versions.specs.VersionedObject.{VersionedObject}
use Rattle.cad_versions.specs.Versions.{is_of, history, versions}
use Rattle.cad_versions.specs.Refusals.{class_at, AreAccepted}
use Rattle.cad_versions.specs.Identifiers.{identifier_cmp, by_identifier}
use Rattle.cad_versions.specs.Histories.{IsHistory}
use Rattle.cad_versions.specs.lemmas.HistoryLemmas.{HasHistories, histories, same_number, is_of_own}
use Rattle.cad_versions.specs.lemmas.ListLemmas.{all_weaker, all_kept}
use Rattle.cad_versions.specs.lemmas.OrderLemmas.{identifiers_total, versions_total, identifiers_apart}
use Rattle.cad_versions.specs.lemmas.SameLemmas.{same_object}
use Rattle.cad_versions.specs.lemmas.SortLemmas.{all_sorted, sort_rises}
use Rattle.cad_versions.specs.Sorting.{insert_sorted, sort_by}
use Rattle.cad_register.specs.declared.place.Place.{Place}
use Rattle.cad_register.specs.Damage.{place_of, Follows}
use Rattle.cad_register.proofs.ClassLemmas.{HasClass, classes}
use Rattle.cad_register.proofs.StandingLemmas.{all_own}

-- each follows the one before it, the first of them what is given
abbrev pub Follow : Option Place → List VersionedObject → Type 0
Follow before [] = Unit {0}
Follow before (v ∷ vs) = Follows before v × Follow (Some (place_of v)) vs

-- ---- the version before one of an object

-- some version has this number, of the object of this one
abbrev Has : ℕ → ℕ → List VersionedObject → Type 0
Has object number [] = ⊥
Has object number (v ∷ vs) = ((object_number v.object ≡ object) × (v.number ≡ number)) ⊎ Has object number vs

has_unfiltered : (object number : ℕ) (p : VersionedObject → Bool) (vs : List VersionedObject) → Has object number (filter p vs) → Has object number vs
has_unfiltered object number p [] h = h
has_unfiltered object number p (v ∷ vs) h = go (p v) h (has_unfiltered object number p vs)
  where
    go : (t : Bool) → Has object number (cond t (v ∷ filter p vs) (filter p vs)) → (Has object number (filter p vs) → Has object number vs) → Has object number (v ∷ vs)
    go true (inl here) more = inl here
    go true (inr rest) more = inr (more rest)
    go false rest more = inr (more rest)

has_inserted : (cmp : VersionedObject → VersionedObject → Ordering) (object number : ℕ) (v : VersionedObject) (vs : List VersionedObject) → Has object number (v ∷ vs) → Has object number (insert_sorted cmp v vs)
has_inserted cmp object number v [] h = h
has_inserted cmp object number v (w ∷ vs) h = go (is_gt (cmp v w)) h (has_inserted cmp object number v vs)
  where
    go : (t : Bool) → Has object number (v ∷ (w ∷ vs)) → (Has object number (v ∷ vs) → Has object number (insert_sorted cmp v vs)) → Has object number (cond t (w ∷ insert_sorted cmp v vs) (v ∷ (w ∷ vs)))
    go false h more = h
    go true (inl here) more = inr (more (inl here))
    go true (inr (inl next)) more = inl next
    go true (inr (inr rest)) more = inr (more (inr rest))

has_sorted : (cmp : VersionedObject → VersionedObject → Ordering) (object number : ℕ) (vs : List VersionedObject) → Has object number vs → Has object number (sort_by cmp vs)
has_sorted cmp object number [] h = h
has_sorted cmp object number (v ∷ vs) (inl here) = has_inserted cmp object number v (sort_by cmp vs) (inl here)
has_sorted cmp object number (v ∷ vs) (inr rest) = has_inserted cmp object number v (sort_by cmp vs) (inr (has_sorted cmp object number vs rest))

-- it has this number, or the one before it of this object is among these
abbrev IsNumbered : ℕ → ℕ → List VersionedObject → VersionedObject → Type 0
IsNumbered first object vs v = (v.number ≡ first) ⊎ ((n : ℕ) × (v.number ≡ n + 1) × Has object n vs)

own_numbers : (object : ObjectId) (first : ℕ) (xs : List VersionedObject) → IsHistory first xs → AllByRecursion (λ v. is_of object v ≡ true) xs → AllByRecursion (IsNumbered first (object_number object) xs) xs
own_numbers object first [] h own = tt
own_numbers object first (v ∷ []) h own = (inl h.0, tt)
own_numbers object first (v ∷ (w ∷ xs)) h own =
    let here : object_number v.object ≡ object_number object = sym (same_number object v.object own.0) in
    (inl h.0, all_weaker (IsNumbered (first + 1) (object_number object) (w ∷ xs)) (IsNumbered first (object_number object) (v ∷ (w ∷ xs))) (λ u n. further here u n) (w ∷ xs) (own_numbers object (first + 1) (w ∷ xs) h.3 own.1))
  where
    further : object_number v.object ≡ object_number object → (u : VersionedObject) → IsNumbered (first + 1) (object_number object) (w ∷ xs) u → IsNumbered first (object_number object) (v ∷ (w ∷ xs)) u
    further here u (inl e) = inr (first, e, inl (here, h.0))
    further here u (inr more) = inr (more.0, more.1, inr more.2)

-- what holds of the versions of each object holds of all
of_each : (P : ObjectId → VersionedObject → Type 0) (vs : List VersionedObject) → ((object : ObjectId) → AllByRecursion (λ v. is_of object v ≡ true → P object v) vs) → AllByRecursion (λ v. P v.object v) vs
of_each P [] h = tt
of_each P (v ∷ vs) h = ((h v.object).0 (is_of_own v.object v refl), of_each P vs (λ object. (h object).1))

abbrev IsNumberedIn : List VersionedObject → VersionedObject → Type 0
IsNumberedIn vs v = IsNumbered 1 (object_number v.object) vs v

numbers : (vs : List VersionedObject) → HasHistories vs → AllByRecursion (IsNumberedIn vs) vs
numbers vs all = of_each (λ object v. IsNumbered 1 (object_number object) vs v) vs (λ object. all_kept (IsNumbered 1 (object_number object) vs) (is_of object) vs (among object (own_numbers object 1 (history object vs) (all object) (all_own object vs))))
  where
    widen : (object : ObjectId) (v : VersionedObject) → IsNumbered 1 (object_number object) (history object vs) v → IsNumbered 1 (object_number object) vs v
    widen object v (inl e) = inl e
    widen object v (inr more) = inr (more.0, more.1, has_unfiltered (object_number object) more.0 (is_of object) vs more.2)

    among : (object : ObjectId) → AllByRecursion (IsNumbered 1 (object_number object) (history object vs)) (history object vs) → AllByRecursion (IsNumbered 1 (object_number object) vs) (history object vs)
    among object h = all_weaker (IsNumbered 1 (object_number object) (history object vs)) (IsNumbered 1 (object_number object) vs) (widen object) (history object vs) h

-- ---- one version behind another

abbrev IsBehind : Option Place → VersionedObject → Type 0
IsBehind None v = Unit {0}
IsBehind (Some p) v = identifier_cmp (pos p.object, pos p.number) (pos (object_number v.object), pos v.number) ≡ Less

-- the identifier was passed
abbrev IsPassed : Option Place → ℕ → ℕ → Type 0
IsPassed None object number = ⊥
IsPassed (Some p) object number = is_gt (identifier_cmp (pos object, pos number) (pos p.object, pos p.number)) ≡ false

-- the first of its object, or behind one that was passed or is to come
abbrev IsMet : Option Place → List VersionedObject → VersionedObject → Type 0
IsMet before vs v = (v.number ≡ 1) ⊎ ((n : ℕ) × (v.number ≡ n + 1) × (IsPassed before (object_number v.object) n ⊎ Has (object_number v.object) n vs))

-- the place that was passed last is that of a version of this class
abbrev IsKnown : (ObjectId → Option Class) → Option Place → Type 0
IsKnown class None = Unit {0}
IsKnown class (Some p) = (1 ≤ p.number) × ((object : ObjectId) → object_number object ≡ p.object → class object ≡ Some p.class)

later_object : (o m p n : ℕ) → 1 ≤ m → n ≡ 1 → identifier_cmp (pos o, pos m) (pos p, pos n) ≡ Less → o < p
later_object o m p n h e less = grind (arith, ints)

same_passed : (o m p n k : ℕ) → k ≡ n + 1 → identifier_cmp (pos o, pos m) (pos p, pos k) ≡ Less → is_gt (identifier_cmp (pos p, pos n) (pos o, pos m)) ≡ false → p ≡ o
same_passed o m p n k e less passed = grind (arith, ints)

last_passed : (o m p n k : ℕ) → k ≡ n + 1 → identifier_cmp (pos o, pos m) (pos p, pos k) ≡ Less → is_gt (identifier_cmp (pos p, pos n) (pos o, pos m)) ≡ false → k ≡ m + 1
last_passed o m p n k e less passed = grind (arith, ints)

first_tied : (o m p n : ℕ) → identifier_cmp (pos o, pos m) (pos p, pos n) ≡ Equal → o ≡ p
first_tied o m p n tied = grind (arith, ints)

second_tied : (o m p n : ℕ) → identifier_cmp (pos o, pos m) (pos p, pos n) ≡ Equal → m ≡ n
second_tied o m p n tied = grind (arith, ints)

passed_still : (o m p n q k : ℕ) → identifier_cmp (pos o, pos m) (pos p, pos n) ≡ Less → is_gt (identifier_cmp (pos q, pos k) (pos o, pos m)) ≡ false → is_gt (identifier_cmp (pos q, pos k) (pos p, pos n)) ≡ false
passed_still o m p n q k less passed = go (identifier_cmp (pos q, pos k) (pos o, pos m)) refl passed
  where
    go : (t : Ordering) → identifier_cmp (pos q, pos k) (pos o, pos m) ≡ t → is_gt t ≡ false → is_gt (identifier_cmp (pos q, pos k) (pos p, pos n)) ≡ false
    go Less e h = ap is_gt (identifiers_total.trans (pos q, pos k) (pos o, pos m) (pos p, pos n) e less)
    go Equal e h = rw (first_tied q k o m e, second_tied q k o m e) (ap is_gt less)
    go Greater e h = absurd (true≢false h)

passed_now : (o m p n : ℕ) → o ≡ p → m ≡ n → is_gt (identifier_cmp (pos p, pos n) (pos o, pos m)) ≡ false
passed_now o m p n e f = grind (arith, ints)

lower : (o m p n : ℕ) → p ≡ o → m ≡ n + 1 → ¬ (identifier_cmp (pos o, pos m) (pos p, pos n) ≡ Less)
lower o m p n e f less = grind (arith, ints)

-- no later version of the object has the number before this one's
never_lower : (v : VersionedObject) (n : ℕ) → v.number ≡ n + 1 → (vs : List VersionedObject) → AllByRecursion (λ w. by_identifier v w ≡ Less) vs → ¬ Has (object_number v.object) n vs
never_lower v n e [] up h = h
never_lower v n e (w ∷ vs) up (inl here) = lower (object_number v.object) v.number (object_number w.object) w.number here.0 (rw here.1 e) up.0
never_lower v n e (w ∷ vs) up (inr rest) = never_lower v n e vs up.1 rest

class_same : (a b : Class) (o : Option Class) → o ≡ Some a → o ≡ Some b → a ≡ b
class_same a b o e f = let known = sym e ∙ f in cc

met_follows : (class : ObjectId → Option Class) (before : Option Place) (v : VersionedObject) (vs : List VersionedObject) → IsKnown class before → IsBehind before v → class v.object ≡ Some (class_of v.body)
    → AllByRecursion (λ w. by_identifier v w ≡ Less) vs → IsMet before (v ∷ vs) v → Follows before v
met_follows class before v vs known behind is up (inr (n, e, inr (inl here))) = absurd (omega (arith, e, here.1))
met_follows class before v vs known behind is up (inr (n, e, inr (inr rest))) = absurd (never_lower v n e vs up rest)
met_follows class None v vs known behind is up (inl e) = e
met_follows class None v vs known behind is up (inr (n, e, inl passed)) = absurd passed
met_follows class (Some p) v vs known behind is up (inl e) = inr (record { object = later_object p.object p.number (object_number v.object) v.number known.0 e behind; number = e })
met_follows class (Some p) v vs known behind is up (inr (n, e, inl passed)) =
    let same = same_passed p.object p.number (object_number v.object) n v.number e behind passed in
    inl (record {
      object = same;
      number = last_passed p.object p.number (object_number v.object) n v.number e behind passed;
      class = class_same (class_of v.body) p.class (class v.object) is (known.1 v.object same);
    })

met_later : (before : Option Place) (v : VersionedObject) (vs : List VersionedObject) → IsBehind before v → (w : VersionedObject) → IsMet before (v ∷ vs) w → IsMet (Some (place_of v)) vs w
met_later before v vs behind w (inl e) = inl e
met_later before v vs behind w (inr (n, e, inr (inl here))) = inr (n, e, inl (passed_now (object_number v.object) v.number (object_number w.object) n here.0 here.1))
met_later before v vs behind w (inr (n, e, inr (inr rest))) = inr (n, e, inr rest)
met_later None v vs behind w (inr (n, e, inl passed)) = absurd passed
met_later (Some p) v vs behind w (inr (n, e, inl passed)) = inr (n, e, inl (passed_still p.object p.number (object_number v.object) v.number (object_number w.object) n behind passed))

positive : (before : Option Place) (vs : List VersionedObject) (v : VersionedObject) → IsMet before vs v → 1 ≤ v.number
positive before vs v (inl e) = omega (arith, e)
positive before vs v (inr more) = omega (arith, more.1)

follow : (class : ObjectId → Option Class) (before : Option Place) (vs : List VersionedObject) → IsKnown class before → AllByRecursion (IsBehind before) vs → IsStrictlySortedBy by_identifier vs
    → AllByRecursion (λ v. class v.object ≡ Some (class_of v.body)) vs → AllByRecursion (IsMet before vs) vs → Follow before vs
unfolding IsStrictlySortedBy
follow class before [] known behind up alike met = tt
follow class before (v ∷ vs) known behind up alike met = (
  met_follows class before v vs known behind.0 alike.0 up.0 met.0,
  follow class (Some (place_of v)) vs (positive before (v ∷ vs) v met.0, λ object e. ap class (same_object object v.object e) ∙ alike.0) up.0 up.1 alike.1
      (all_weaker (IsMet before (v ∷ vs)) (IsMet (Some (place_of v)) vs) (met_later before v vs behind.0) vs met.1),
)

none_before : (vs : List VersionedObject) → AllByRecursion (IsBehind None) vs
none_before [] = tt
none_before (v ∷ vs) = (tt, none_before vs)

pub versions_follow : (cs : List Command) → AreAccepted [] cs → Follow None (sort_by by_identifier (versions cs))
versions_follow cs accepted =
    let vs = versions cs in
    let all = histories cs accepted in
    let sorted = sort_by by_identifier vs in
    follow (class_at vs) None sorted tt (none_before sorted) (sort_rises by_identifier versions_total vs (identifiers_apart vs all)) (all_sorted by_identifier (HasClass vs) vs (classes cs accepted))
    (all_weaker (IsNumberedIn vs) (IsMet None sorted) (λ v n. met v n) sorted (all_sorted by_identifier (IsNumberedIn vs) vs (numbers vs all)))
  where
    met : (v : VersionedObject) → IsNumberedIn (versions cs) v → IsMet None (sort_by by_identifier (versions cs)) v
    met v (inl e) = inl e
    met v (inr more) = inr (more.0, more.1, inr (has_sorted by_identifier (object_number v.object) more.0 (versions cs) more.2))
