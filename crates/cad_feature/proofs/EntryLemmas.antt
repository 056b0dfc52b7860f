-- What names are at a revision, by the entries of the named object, and which revisions leave them as they are.
use Rattle.std.proofs.Common.{◌≡◌, ℕ, suc, ◌+◌, ◌≤◌, ◌<◌, pos, int_le, nat_le, Bool, true, false, cond, ◌&&◌, List, length, map, find, take, drop, get_or, Option, Some, None, option_map, option_and_then, refl, sym, ap, ap₂, ◌∙◌, subst, arith, true≢false}
use Rattle.std.specs.List.Sorted.{IsPartitionPoint}
use Rattle.std.proofs.lemmas.Bool.Decides.{nat_tests}
use Rattle.std.proofs.lemmas.Int.{ints}
use Rattle.std.proofs.lemmas.List.{take_more}
use Rattle.cad_day.specs.declared.day.Day.{Day}
use Rattle.cad_day.specs.Days.{number_of}
use Rattle.cad_versions.specs.declared.object_id.ObjectId.{ObjectId}
use Rattle.cad_versions.specs.AsOf.{versions_at}
use Rattle.cad_versions.specs.BodyParts.{name_in, unit_named, party_named}
use Rattle.cad_versions.specs.Entries.{Entry, entries_at, is_closed_by, seen_at}
use Rattle.cad_versions.specs.Objects.{object_number}
use Rattle.cad_versions.specs.VersionedObject.{VersionedObject}
use Rattle.cad_versions.specs.Versions.{is_of, history}
use Rattle.cad_versions.specs.lemmas.ListLemmas.{all_push, filter-map, filters_turn, find_filter, find_in_map, find_same, all_weaker}
use Rattle.cad_schema.specs.declared.collection.Collection.{Collection}
use Rattle.cad_feature.specs.FeaturesThen.{feature_at}
use Rattle.cad_feature.specs.Flatten.{joined_name}
use Rattle.cad_feature.specs.Lifespans.{holds_on, is_up_to}
use Rattle.cad_feature.specs.inner.StoredVersions.{number_of_entry, is_entry_of, own_entries, is_held_at, name_of_entry, name_held, LastsAlike, IsHeldAlike, AreHeldAlike, NameStays}
use Rattle.cad_feature.specs.inner.WithNames.{feature_with}
use Rattle.cad_feature.proofs.FeatureLemmas.{with_is}
use Rattle.cad_feature.proofs.ListLemmas.{front_cut, back_cut}
use lib.Dec.{leb, ltb}

-- ---- the entries of one object

less_is_other : (object : ObjectId) (e : Entry) → ltb (number_of_entry e) (object_number object) ≡ true → is_entry_of object e ≡ false
less_is_other object e h = grind (arith, ints, nat_tests)

more_is_other : (object : ObjectId) (e : Entry) → leb (number_of_entry e) (object_number object) ≡ false → is_entry_of object e ≡ false
more_is_other object e h = grind (arith, ints, nat_tests)

abbrev pub is_less : ObjectId → Entry → Bool
is_less object e = ltb (number_of_entry e) (object_number object)

abbrev pub is_at_most : ObjectId → Entry → Bool
is_at_most object e = leb (number_of_entry e) (object_number object)

-- what stands between what has lesser numbers and what has greater ones
pub own_between : (object : ObjectId) (es rest : List Entry) (first count : ℕ) → rest ≡ drop first es
    → IsPartitionPoint (λ e. is_less object e ≡ true) (λ e. is_less object e ≡ false) es first → IsPartitionPoint (λ e. is_at_most object e ≡ true) (λ e. is_at_most object e ≡ false) rest count
    → own_entries object (take count rest) ≡ own_entries object es
own_between object es rest first count is low high =
    back_cut (is_entry_of object) rest count (λ j d h k. more_is_other object (get_or rest j d) (high.1 j d h k)) ∙ ap (own_entries object) is
    ∙ front_cut (is_entry_of object) es first (λ j d h k. less_is_other object (get_or es j d) (low.0 j d (omega arith) h))

-- ---- names

history_is : (object : ObjectId) (es near : List Entry) (r : ℕ) → own_entries object near ≡ own_entries object es → history object (versions_at r es) ≡ map (seen_at r) (entries_at r (own_entries object near))
history_is object es near r own =
    filter-map (is_of object) (seen_at r) (entries_at r es) ∙ ap (map (seen_at r)) (filters_turn (is_entry_of object) (λ (e : Entry). int_le (pos e.entered) (pos r)) es)
    ∙ ap (λ ls. map (seen_at r) (entries_at r ls)) (sym own)

same_body : (r : ℕ) (o : Option Entry) → option_and_then (λ (v : VersionedObject). name_in v.body) (option_map (seen_at r) o) ≡ option_and_then name_of_entry o
same_body r None = refl
same_body r (Some e) = refl

pub name_is : (es near : List Entry) (object : ObjectId) (day : Day) (r : ℕ) → own_entries object near ≡ own_entries object es → joined_name (versions_at r es) day (Some object) ≡ name_held near object day r
name_is es near object day r own =
    ap (λ vs. option_and_then (λ (v : VersionedObject). name_in v.body) (find (holds_on day) vs)) (history_is object es near r own)
    ∙ ap (option_and_then (λ (v : VersionedObject). name_in v.body))
    (find_in_map (holds_on day) (seen_at r) (entries_at r (own_entries object near))
    ∙ ap (option_map (seen_at r))
    (find_filter (λ e. holds_on day (seen_at r e)) (λ (e : Entry). int_le (pos e.entered) (pos r)) (own_entries object near)
    ∙ find_filter (is_held_at r day) (is_entry_of object) near))
    ∙ same_body r (find (λ e. is_entry_of object e && is_held_at r day e) near)

-- ---- what a revision leaves as it is

same_le : (m n : ℕ) → ¬ (suc n ≡ m) → int_le (pos m) (pos (suc n)) ≡ int_le (pos m) (pos n)
same_le m n other = go (int_le (pos m) (pos (suc n))) refl (int_le (pos m) (pos n)) refl
  where
    go : (a : Bool) → int_le (pos m) (pos (suc n)) ≡ a → (b : Bool) → int_le (pos m) (pos n) ≡ b → a ≡ b
    go true h true k = refl
    go false h false k = refl
    go true h false k = absurd (other (grind (arith, ints)))
    go false h true k = absurd (true≢false (grind (arith, ints)))

same_nat : (m n : ℕ) → ¬ (suc n ≡ m) → nat_le m (suc n) ≡ nat_le m n
same_nat m n other = go (nat_le m (suc n)) refl (nat_le m n) refl
  where
    go : (a : Bool) → nat_le m (suc n) ≡ a → (b : Bool) → nat_le m n ≡ b → a ≡ b
    go true h true k = refl
    go false h false k = refl
    go true h false k = absurd (other (grind (arith, nat_tests)))
    go false h true k = absurd (true≢false (grind (arith, nat_tests)))

same_closed : (o : Option ℕ) (n : ℕ) → ¬ (Some (suc n) ≡ o) → is_closed_by (suc n) o ≡ is_closed_by n o
same_closed None n other = refl
same_closed (Some k) n other = same_nat k n (λ e. other (ap Some e))

-- a closing of another revision makes no difference to the last day
pub same_last : (e : Entry) (n : ℕ) → ¬ (Some (suc n) ≡ e.closed) → (seen_at (suc n) e).last ≡ (seen_at n e).last
same_last e n other = ap (λ b. cond b e.version.last None) (same_closed e.closed n other)

pub other_alike : (e : Entry) (day : Day) (n : ℕ) → ¬ (Some (suc n) ≡ e.closed) → LastsAlike n day e
other_alike e day n other = ap (λ (o : Option Day). is_up_to o day) (same_last e n other)

pub held_same : (e : Entry) (day : Day) (n : ℕ) → ¬ (suc n ≡ e.entered) → LastsAlike n day e → is_held_at (suc n) day e ≡ is_held_at n day e
held_same e day n other same = ap₂ (λ a b. a && (int_le (number_of e.version.first) (number_of day) && b)) (same_le e.entered n other) same

-- ---- all entries of an object

pub later_alike : (low from upto : ℕ) (object : ObjectId) (day : Day) (es : List Entry) → low ≤ from → AreHeldAlike low upto object day es → AreHeldAlike from upto object day es
later_alike low from upto object day es h all =
    all_weaker (λ e. is_entry_of object e ≡ true → IsHeldAlike low upto day e) (λ e. is_entry_of object e ≡ true → IsHeldAlike from upto day e) (λ e alike own n k l. alike own n (omega (arith, h, k)) l) es all

-- one entry more
pub alike_more : (low from upto : ℕ) (object : ObjectId) (day : Day) (es : List Entry) (i : ℕ) (e : Entry) → i < length es → e ≡ get_or es i e → low ≤ from
    → AreHeldAlike low upto object day (take i es) → (is_entry_of object e ≡ true → IsHeldAlike from upto day e) → AreHeldAlike from upto object day (take (i + 1) es)
alike_more low from upto object day es i e h at le all one =
    subst (AreHeldAlike from upto object day) (sym (take_more es i e h))
    (all_push (λ x. is_entry_of object x ≡ true → IsHeldAlike from upto day x) (take i es) (get_or es i e) (later_alike low from upto object day (take i es) le all)
    (subst (λ x. is_entry_of object x ≡ true → IsHeldAlike from upto day x) at one))

found_same : (object : ObjectId) (day : Day) (from upto : ℕ) (near : List Entry) → AreHeldAlike from upto object day near → (n : ℕ) → from ≤ n → n < upto
    → find (λ e. is_entry_of object e && is_held_at (suc n) day e) near ≡ find (λ e. is_entry_of object e && is_held_at n day e) near
found_same object day from upto near all n h k =
    find_same (λ e. is_entry_of object e && is_held_at (suc n) day e) (λ e. is_entry_of object e && is_held_at n day e) near
    (all_weaker (λ e. is_entry_of object e ≡ true → IsHeldAlike from upto day e) (λ e. (is_entry_of object e && is_held_at (suc n) day e) ≡ (is_entry_of object e && is_held_at n day e))
    (λ e alike. go e (is_entry_of object e) (λ own. alike own n h k)) near all)
  where
    go : (e : Entry) (b : Bool) → (b ≡ true → is_held_at (suc n) day e ≡ is_held_at n day e) → (b && is_held_at (suc n) day e) ≡ (b && is_held_at n day e)
    go e true same = same refl
    go e false same = refl

pub name_stays : (es near : List Entry) (object : ObjectId) (day : Day) (from upto : ℕ) → own_entries object near ≡ own_entries object es → AreHeldAlike from upto object day near → NameStays from upto es day (Some object)
name_stays es near object day from upto own all n h k =
    name_is es near object day (suc n) own ∙ ap (option_and_then name_of_entry) (found_same object day from upto near all n h k) ∙ sym (name_is es near object day n own)

-- ---- features

-- the same last day and the same names are the same feature
same_feature : (es : List Entry) (e : Entry) (collection : Collection) (n : ℕ) → (seen_at (suc n) e).last ≡ (seen_at n e).last
    → joined_name (versions_at (suc n) es) e.version.first (unit_named e.version.body) ≡ joined_name (versions_at n es) e.version.first (unit_named e.version.body)
    → joined_name (versions_at (suc n) es) e.version.first (party_named e.version.body) ≡ joined_name (versions_at n es) e.version.first (party_named e.version.body)
    → feature_at es collection e (suc n) ≡ feature_at es collection e n
same_feature es e collection n last unit party =
    sym (told (suc n)) ∙ ap (λ (o : Option Day). feature_with e.version o (joined_name (versions_at (suc n) es) e.version.first (unit_named e.version.body)) (joined_name (versions_at (suc n) es) e.version.first (party_named e.version.body)) collection) last
    ∙ ap₂ (λ u p. feature_with e.version (seen_at n e).last u p collection) unit party ∙ told n
  where
    told : (r : ℕ) → feature_with e.version (seen_at r e).last (joined_name (versions_at r es) e.version.first (unit_named e.version.body)) (joined_name (versions_at r es) e.version.first (party_named e.version.body)) collection ≡ feature_at es collection e r
    told r = with_is (versions_at r es) e.version (seen_at r e).last _ _ refl refl collection

abbrev pub NameStaysAt : ℕ → List Entry → Day → Option ObjectId → Type 0
NameStaysAt n es day named = joined_name (versions_at (suc n) es) day named ≡ joined_name (versions_at n es) day named

pub feature_stays : (es : List Entry) (e : Entry) (v : VersionedObject) (unit party : Option ObjectId) → e.version ≡ v → unit ≡ unit_named v.body → party ≡ party_named v.body → (collection : Collection) (n : ℕ)
    → ¬ (Some (suc n) ≡ e.closed) → NameStaysAt n es v.first unit → NameStaysAt n es v.first party → feature_at es collection e (suc n) ≡ feature_at es collection e n
feature_stays es e v unit party is unit_is party_is collection n other unit_stays party_stays =
    same_feature es e collection n (same_last e n other)
    (subst (λ (w : VersionedObject). NameStaysAt n es w.first (unit_named w.body)) (sym is) (subst (NameStaysAt n es v.first) unit_is unit_stays))
    (subst (λ (w : VersionedObject). NameStaysAt n es w.first (party_named w.body)) (sym is) (subst (NameStaysAt n es v.first) party_is party_stays))
