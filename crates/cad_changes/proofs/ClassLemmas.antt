-- All versions of an object are of one class, and what is named as a unit or a party is one.
use Rattle.std.proofs.Common.{◌≡◌, ℕ, pos, Bool, true, false, cond, not, ◌==◌, List, [], ◌∷◌, ◌++◌, map, find, fold, Option, Some, None, option_map, refl, sym, ap, ◌∙◌, subst, arith, int_eq, nat_lt, true≢false, eq-eqb}
use Rattle.std.specs.List.{AllByRecursion}
use Rattle.std.proofs.lemmas.Int.{ints}
use Rattle.std.proofs.lemmas.Bool.Decides.{nat_tests}
use Rattle.std.specs.Cmp.{first_so, second_so}
use Rattle.std.proofs.lemmas.Bool.{not-false}
use Rattle.cad_day.specs.declared.day.Day.{Day}
use Rattle.cad_versions.specs.declared.body.Body.{Body}
use Rattle.cad_versions.specs.declared.body.Body.TheVariants as body
use Rattle.cad_versions.specs.declared.body.Class.{Class}
use Rattle.cad_versions.specs.declared.body.Class.TheVariants as class
use Rattle.cad_versions.specs.declared.command.Command.{Command}
use Rattle.cad_versions.specs.declared.command.Command.TheVariants.{Enter, Amend, Retire}
use Rattle.cad_versions.specs.declared.object_id.ObjectId.{ObjectId}
use Rattle.cad_versions.specs.BodyParts.{unit_named, party_named}
use Rattle.cad_versions.specs.Class.{class_of, class_number}
use Rattle.cad_day.specs.DayBefore.{day_before}
use Rattle.cad_versions.specs.lemmas.HistoryLemmas.{unrefused, neither}
use Rattle.cad_versions.specs.lemmas.ListLemmas.{all_weaker, all_mapped}
use Rattle.cad_versions.specs.Objects.{object_number}
use Rattle.cad_versions.specs.Refusals.{class_at, open_since, is_class, is_entered, are_entered, is_full, refuses_object, refuses_addition, refusal, AreAccepted}
use Rattle.cad_versions.specs.VersionedObject.{VersionedObject}
use Rattle.cad_versions.specs.Versions.{is_of, is_open_of, closed_on, closed_if_open, begun, next_number, versions_after, versions}
use Rattle.cad_changes.proofs.TestLemmas.{find_map}

-- ---- numbers of classes

same_by : (a b k : ℕ) → (a == k) ≡ true → (b == k) ≡ true → (a == b) ≡ true
same_by a b k h g = grind (arith, nat_tests)

swapped : (a b : ℕ) → (a == b) ≡ true → (b == a) ≡ true
swapped a b h = grind (arith, nat_tests)

pub below : (c k most : ℕ) → (c == k) ≡ true → nat_lt k most ≡ true → nat_lt c most ≡ true
below c k most h g = grind (arith, nat_tests)

-- of a party or a unit
pub no_unit : (b : Body) → nat_lt (class_number (class_of b)) 3 ≡ true → unit_named b ≡ None
no_unit (body.Party name code) h = refl
no_unit (body.Unit name) h = refl
no_unit other h = absurd cc

-- of these or a parcel
pub no_party : (b : Body) → nat_lt (class_number (class_of b)) 4 ≡ true → party_named b ≡ None
no_party (body.Party name code) h = refl
no_party (body.Unit name) h = refl
no_party (body.Parcel unit label area shape spot) h = refl
no_party other h = absurd cc

-- ---- the class of an object

-- the class is that of each version of the object
abbrev pub Stands : List VersionedObject → VersionedObject → Type 0
Stands vs w = is_class (class_of w.body) (class_at vs w.object) ≡ true

abbrev pub ClassesStand : List VersionedObject → Type 0
ClassesStand vs = AllByRecursion (Stands vs) vs

module _ (object : ObjectId) (n : VersionedObject) where
  -- what was found is found still
  found_first : (vs : List VersionedObject) (k : Class) → is_class k (class_at vs object) ≡ true → is_class k (class_at (vs ++ n ∷ []) object) ≡ true
  found_first [] k h = absurd (true≢false (sym h))
  found_first (v ∷ vs) k h = go (is_of object v) h (found_first vs k)
    where
      go : (b : Bool) → is_class k (option_map (λ (w : VersionedObject). class_of w.body) (cond b (Some v) (find (is_of object) vs))) ≡ true
          → (is_class k (class_at vs object) ≡ true → is_class k (class_at (vs ++ n ∷ []) object) ≡ true)
          → is_class k (option_map (λ (w : VersionedObject). class_of w.body) (cond b (Some v) (find (is_of object) (vs ++ n ∷ [])))) ≡ true
      go true h more = h
      go false h more = more h

  -- and where nothing was, the new one is
  found_last : (vs : List VersionedObject) → is_of object n ≡ true → class_at vs object ≡ None → class_at (vs ++ n ∷ []) object ≡ Some (class_of n.body)
  found_last [] own e = ap (λ b. option_map (λ (w : VersionedObject). class_of w.body) (cond b (Some n) None)) own
  found_last (v ∷ vs) own e = go (is_of object v) e (found_last vs own)
    where
      go : (b : Bool) → option_map (λ (w : VersionedObject). class_of w.body) (cond b (Some v) (find (is_of object) vs)) ≡ None
          → (class_at vs object ≡ None → class_at (vs ++ n ∷ []) object ≡ Some (class_of n.body))
          → option_map (λ (w : VersionedObject). class_of w.body) (cond b (Some v) (find (is_of object) (vs ++ n ∷ []))) ≡ Some (class_of n.body)
      go true e more = absurd cc
      go false e more = more e

closed_object : (closing : ObjectId) (day : Day) (v : VersionedObject) → (closed_if_open closing day v).object ≡ v.object
closed_object closing day v = elim (is_open_of closing v) as (λ t. (cond t (closed_on day v) v).object ≡ v.object) [ true ↦ refl | false ↦ refl ]

closed_body : (closing : ObjectId) (day : Day) (v : VersionedObject) → (closed_if_open closing day v).body ≡ v.body
closed_body closing day v = elim (is_open_of closing v) as (λ t. (cond t (closed_on day v) v).body ≡ v.body) [ true ↦ refl | false ↦ refl ]

-- a closing changes no class
class_closed : (closing : ObjectId) (day : Day) (vs : List VersionedObject) (object : ObjectId) → class_at (map (closed_if_open closing day) vs) object ≡ class_at vs object
class_closed closing day vs object =
    ap (option_map (λ (w : VersionedObject). class_of w.body)) (find_map (is_of object) (closed_if_open closing day) (λ v. ap (λ o. int_eq (pos (object_number o)) (pos (object_number object))) (closed_object closing day v)) vs) ∙ go (find (is_of object) vs)
  where
    go : (o : Option VersionedObject) → option_map (λ (w : VersionedObject). class_of w.body) (option_map (closed_if_open closing day) o) ≡ option_map (λ (w : VersionedObject). class_of w.body) o
    go None = refl
    go (Some v) = ap (λ b. Some (class_of b)) (closed_body closing day v)

closed_stands : (closing : ObjectId) (day : Day) (vs : List VersionedObject) → ClassesStand vs → ClassesStand (map (closed_if_open closing day) vs)
closed_stands closing day vs all =
    all_mapped (Stands (map (closed_if_open closing day) vs)) (closed_if_open closing day) vs
    (all_weaker (Stands vs) (λ w. Stands (map (closed_if_open closing day) vs) (closed_if_open closing day w))
    (λ w h. subst (λ (k : Option Class). is_class (class_of (closed_if_open closing day w).body) k ≡ true) (sym (class_closed closing day vs (closed_if_open closing day w).object))
    (subst (λ (o : ObjectId). is_class (class_of (closed_if_open closing day w).body) (class_at vs o) ≡ true) (sym (closed_object closing day w))
    (subst (λ (b : Body). is_class (class_of b) (class_at vs w.object) ≡ true) (sym (closed_body closing day w)) h))) vs all)

pushed_stands : (n : VersionedObject) (vs : List VersionedObject) → ClassesStand vs → Stands (vs ++ n ∷ []) n → ClassesStand (vs ++ n ∷ [])
pushed_stands n vs all here = go vs (all_weaker (Stands vs) (Stands (vs ++ n ∷ [])) (λ w h. found_first w.object n vs (class_of w.body) h) vs all)
  where
    go : (ws : List VersionedObject) → AllByRecursion (Stands (vs ++ n ∷ [])) ws → AllByRecursion (Stands (vs ++ n ∷ [])) (ws ++ n ∷ [])
    go [] all = (here, tt)
    go (w ∷ ws) all = (all.0, go ws all.1)

-- ---- what a command that is accepted finds

own_object : (object : ObjectId) → int_eq (pos (object_number object)) (pos (object_number object)) ≡ true
own_object object = grind (arith, ints)

never_entered : (vs : List VersionedObject) (object : ObjectId) (first : Day) (body : Body) → refusal vs (Enter object first body) ≡ None → class_at vs object ≡ None
never_entered vs object first body e = go (class_at vs object) (neither _ _ e).0
  where
    go : (o : Option Class) → refuses_object o (open_since vs object) (Enter object first body) ≡ None → o ≡ None
    go None h = refl
    go (Some k) h = absurd cc

of_the_class : (vs : List VersionedObject) (object : ObjectId) (first : Day) (body : Body) → refusal vs (Amend object first body) ≡ None → is_class (class_of body) (class_at vs object) ≡ true
of_the_class vs object first body e = go (class_at vs object) (neither _ _ e).0
  where
    go : (o : Option Class) → refuses_object o (open_since vs object) (Amend object first body) ≡ None → is_class (class_of body) o ≡ true
    go None h = absurd cc
    go (Some k) h = swapped (class_number k) (class_number (class_of body)) (not-false (class_number k == class_number (class_of body)) (unrefused (not (class_number k == class_number (class_of body))) _ (neither _ _ h).0))

stands_then : (vs : List VersionedObject) (c : Command) → refusal vs c ≡ None → ClassesStand vs → ClassesStand (versions_after vs c)
stands_then vs (Enter object first body) e all =
    let n = begun object 1 first body in
    pushed_stands n vs all (subst (λ (o : Option Class). is_class (class_of body) o ≡ true) (sym (found_last object n vs (own_object object) (never_entered vs object first body e))) (eq-eqb (class_number (class_of body)) (class_number (class_of body)) refl))
stands_then vs (Amend object first body) e all =
    let n = begun object (next_number object vs) first body in
    let ws = map (closed_if_open object (day_before first)) vs in
    pushed_stands n ws (closed_stands object (day_before first) vs all)
    (found_first object n ws (class_of body) (subst (λ (o : Option Class). is_class (class_of body) o ≡ true) (sym (class_closed object (day_before first) vs object)) (of_the_class vs object first body e)))
stands_then vs (Retire object last) e all = closed_stands object last vs all

stand_from : (vs : List VersionedObject) (cs : List Command) → AreAccepted vs cs → ClassesStand vs → ClassesStand (fold versions_after vs cs)
stand_from vs [] accepted all = all
stand_from vs (c ∷ cs) accepted all = stand_from (versions_after vs c) cs accepted.1 (stands_then vs c accepted.0 all)

pub classes_stand : (cs : List Command) → AreAccepted [] cs → ClassesStand (versions cs)
classes_stand cs accepted = stand_from [] cs accepted tt

-- ---- versions of one object

-- they are of this class
abbrev pub AreOf : ℕ → ObjectId → List VersionedObject → Type 0
AreOf number object vs = AllByRecursion (λ w. is_of object w ≡ true → (class_number (class_of w.body) == number) ≡ true) vs

pub same_class_at : (vs : List VersionedObject) (a b : ObjectId) → int_eq (pos (object_number a)) (pos (object_number b)) ≡ true → class_at vs a ≡ class_at vs b
same_class_at vs a b h = let same : object_number a ≡ object_number b = grind (arith, ints) in ap (λ n. option_map (λ (v : VersionedObject). class_of v.body) (find (λ (v : VersionedObject). int_eq (pos (object_number v.object)) (pos n)) vs)) same

pub are_of : (k : Class) (object : ObjectId) (vs : List VersionedObject) → ClassesStand vs → is_class k (class_at vs object) ≡ true → AreOf (class_number k) object vs
are_of k object vs all h =
    all_weaker (Stands vs) (λ w. is_of object w ≡ true → (class_number (class_of w.body) == class_number k) ≡ true)
    (λ w stands own. both (class_of w.body) (class_at vs object) (subst (λ (o : Option Class). is_class (class_of w.body) o ≡ true) (same_class_at vs w.object object own) stands) h) vs all
  where
    both : (j : Class) (o : Option Class) → is_class j o ≡ true → is_class k o ≡ true → (class_number j == class_number k) ≡ true
    both j None a b = absurd (true≢false (sym a))
    both j (Some other) a b = same_by (class_number j) (class_number k) (class_number other) a b

-- ---- what the body of a command that is accepted names

known : (known full : Bool) → refuses_addition known full ≡ None → (known ≡ true) × (full ≡ false)
known k full e = let both = neither _ _ e in (not-false k (unrefused (not k) _ both.0), unrefused full _ both.1)

-- a body that is added: what it names was entered, and there is room
pub record Adds (vs : List VersionedObject) (object : ObjectId) (body : Body) : Type 0 where
  pub unit : is_entered vs class.Unit (unit_named body) ≡ true
  pub party : is_entered vs class.Party (party_named body) ≡ true
  pub room : is_full vs ≡ false
  pub own : AreOf (class_number (class_of body)) object vs
  pub no_other : (k : Class) → is_class k (class_at vs object) ≡ true → (class_number (class_of body) == class_number k) ≡ true

adds_by : (vs : List VersionedObject) (object : ObjectId) (body : Body) → refuses_addition (are_entered vs body) (is_full vs) ≡ None → AreOf (class_number (class_of body)) object vs
    → ((k : Class) → is_class k (class_at vs object) ≡ true → (class_number (class_of body) == class_number k) ≡ true) → Adds vs object body
adds_by vs object body e own other =
    let both = known (are_entered vs body) (is_full vs) e in
    record { unit = first_so (is_entered vs class.Unit (unit_named body)) _ both.0; party = second_so (is_entered vs class.Unit (unit_named body)) _ both.0; room = both.1; own = own; no_other = other }

none_of : (object : ObjectId) (number : ℕ) (vs : List VersionedObject) → class_at vs object ≡ None → AreOf number object vs
none_of object number [] e = tt
none_of object number (v ∷ vs) e = go (is_of object v) refl e (none_of object number vs)
  where
    go : (b : Bool) → is_of object v ≡ b → option_map (λ (w : VersionedObject). class_of w.body) (cond b (Some v) (find (is_of object) vs)) ≡ None → (class_at vs object ≡ None → AreOf number object vs) → AreOf number object (v ∷ vs)
    go true i e more = absurd cc
    go false i e more = ((λ own. absurd (true≢false (sym own ∙ i))), more e)

pub enter_adds : (vs : List VersionedObject) (object : ObjectId) (first : Day) (body : Body) → refusal vs (Enter object first body) ≡ None → Adds vs object body
enter_adds vs object first body e =
    let never = never_entered vs object first body e in
    adds_by vs object body (neither _ _ e).1 (none_of object (class_number (class_of body)) vs never)
    (λ k h. absurd (true≢false (sym h ∙ ap (is_class k) never)))

pub amend_adds : (vs : List VersionedObject) (object : ObjectId) (first : Day) (body : Body) → refusal vs (Amend object first body) ≡ None → ClassesStand vs → Adds vs object body
amend_adds vs object first body e all =
    let here = of_the_class vs object first body e in
    adds_by vs object body (neither _ _ e).1 (are_of (class_of body) object vs all here) (λ k h. both k (class_at vs object) here h)
  where
    both : (k : Class) (o : Option Class) → is_class (class_of body) o ≡ true → is_class k o ≡ true → (class_number (class_of body) == class_number k) ≡ true
    both k None a b = absurd (true≢false (sym a))
    both k (Some other) a b = same_by (class_number (class_of body)) (class_number k) (class_number other) a b
