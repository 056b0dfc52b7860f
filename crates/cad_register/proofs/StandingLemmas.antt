-- What the rows of an object tell of it.
use Rattle.std.proofs.Common.{◌≡◌, ℕ, ◌+◌, ◌-◌, zero, suc, Bool, true, false, cond, ◌&&◌, List, [], ◌∷◌, length, map, find, slice_get, Option, Some, None, is_none, refl, sym, ap, ◌∙◌, subst, arith, option_map, Result, Ok, Err, IfOk, IfErr, MatchResult, IsTrue}
use Rattle.std.specs.List.{AllByRecursion}
use Rattle.std.specs.Option.{option_and_then}
use Rattle.std.proofs.lemmas.List.{length-map}
use Rattle.sqlite_value.specs.declared.value.Value.TheVariants.{Null, Int}
use Rattle.sqlite_value.specs.Order.{Row, column}
use Rattle.sqlite_typed.specs.Columns.{or_null}
use Rattle.cad_day.specs.declared.day.Day.{Day}
use Rattle.cad_day.specs.Days.{number_of}
use Rattle.cad_versions.specs.declared.object_id.ObjectId.{ObjectId}
use Rattle.cad_versions.specs.declared.body.Class.{Class}
use Rattle.cad_versions.specs.Class.{class_of}
use Rattle.cad_versions.specs.VersionedObject.{VersionedObject}
use Rattle.cad_versions.specs.Versions.{is_of, is_open_of, history}
use Rattle.cad_versions.specs.Refusals.{class_at, open_since}
use Rattle.cad_versions.specs.Histories.{EndsBefore, IsHistory}
use Rattle.cad_versions.specs.lemmas.HistoryLemmas.{find-filter, closed_is_not_open}
use Rattle.sqlite.specs.State.{State}
use Rattle.cad_versions.specs.declared.command.Command.{Command}
use Rattle.cad_versions.specs.declared.fault.RegisterFault.{RegisterFault}
use Rattle.cad_versions.specs.declared.fault.RegisterFault.TheVariants as fault
use Rattle.cad_versions.specs.Versions.{versions}
use Rattle.cad_register.specs.declared.columns.ReadFault.{ReadFault}
use Rattle.cad_register.specs.declared.columns.ReadFault.TheVariants.{Damaged, Memory}
use Rattle.cad_register.specs.declared.standing.ObjectState.{ObjectState}
use Rattle.cad_register.specs.Naming.{IsBroken, HasNoClass, HasNoDay, IsFirstInVain, IsFaultIn, fault_of_row}
use Rattle.cad_register.specs.Stands.{StandsFor, IsStoreFault}
use Rattle.cad_register.specs.Outlines.{outline, class_of_version, class_of_first, if_open, opened_last, IsStanding}
use Rattle.cad_register.proofs.PartLemmas.{day_cell}

-- the version of a row
pub record At (vs : List VersionedObject) (i : ℕ) (row : Row) : Type 0 where
  pub version : VersionedObject
  pub place : slice_get vs i ≡ Some version
  pub is : row ≡ outline version

pub version_at : (rows : List Row) (vs : List VersionedObject) (i : ℕ) (row : Row) → rows ≡ map outline vs → Some row ≡ slice_get rows i → At vs i row
version_at rows vs i row is here = go vs i (here ∙ ap (λ l. slice_get l i) is)
  where
    go : (vs : List VersionedObject) (i : ℕ) → Some row ≡ slice_get (map outline vs) i → At vs i row
    go [] i e = absurd cc
    go (v ∷ vs) zero e = record { version = v; place = refl; is = cc }
    go (v ∷ vs) (suc i) e = let rest = go vs i e in record { version = rest.version; place = rest.place; is = rest.is }

pub last_at : (rows : List Row) (vs : List VersionedObject) (row : Row) → rows ≡ map outline vs → Some row ≡ slice_get rows (length rows - 1) → At vs (length vs - 1) row
last_at rows vs row is here =
    let long : length rows ≡ length vs = ap length is ∙ length-map vs outline in
    version_at rows vs (length vs - 1) row is (here ∙ ap (λ n. slice_get rows (n - 1)) long)

-- a row without a class or a day is that of no version
pub no_class_breaks : (row : Row) → HasNoClass row → IsBroken row
no_class_breaks row none v e = none (class_of v.body) (ap (λ r. column r 1) e)

pub no_day_breaks : (row : Row) → HasNoDay row → IsBroken row
no_day_breaks row none v e = none.1 v.first (ap (λ r. column r 2) e)

-- what is not so of the row at a place is so of none there
pub none_at : (P : Row → Type 0) (rows : List Row) (i : ℕ) (row : Row) → Some row ≡ slice_get rows i → ¬ P row → (other : Row) → slice_get rows i ≡ Some other → ¬ P other
none_at P rows i row here none other there h = let same : row ≡ other = let e = here ∙ there in cc in none (subst P (sym same) h)

-- a row that tells nothing is a fault in the rows
pub fault_in : (object : ObjectId) (rows : List Row) (i : ℕ) (row : Row) (f : ReadFault) (why : RegisterFault) → why ≡ fault_of_row object row f → Some row ≡ slice_get rows i → (f ≡ Damaged → IsBroken row × IsFirstInVain rows i row) → IsFaultIn object rows why
fault_in object rows i row Damaged why is here bad = subst (IsFaultIn object rows) (sym is) (refl, record { place = i; row = row; stands = sym here; numbered = refl; broken = (bad refl).0; first = (bad refl).1 })
fault_in object rows i row Memory why is here bad = subst (IsFaultIn object rows) (sym is) tt

-- and there is none in the outlines of versions
no_fault : (object : ObjectId) (rows : List Row) (vs : List VersionedObject) (why : RegisterFault) → rows ≡ map outline vs → IsFaultIn object rows why → IsStoreFault why
no_fault object rows vs (fault.Damaged named number) is bad = let at = version_at rows vs bad.1.place bad.1.row is (sym bad.1.stands) in absurd (bad.1.broken at.version at.is)
no_fault object rows vs fault.Memory is bad = tt
no_fault object rows vs why is bad = absurd bad

pub class_is : (vs : List VersionedObject) (row : Row) (class : Class) (at : At vs 0 row) → class ≡ class_of_version at.version → Some class ≡ class_of_first vs
class_is vs row class at e = ap Some e ∙ sym (ap (option_map class_of_version) at.place)

pub opened_is : (vs : List VersionedObject) (row : Row) (day : Option Day) (at : At vs (length vs - 1) row) → day ≡ if_open at.version → day ≡ opened_last vs
opened_is vs row day at e = e ∙ sym (ap (option_and_then if_open) at.place)

null_last : (o : Option Day) → or_null Int (option_map number_of o) ≡ Null → o ≡ None
null_last None e = refl
null_last (Some day) e = absurd cc

pub open_row : (row : Row) (first : Day) (v : VersionedObject) → row ≡ outline v → column row 3 ≡ Null → column row 2 ≡ Int (number_of first) → Some first ≡ if_open v
open_row row first v is none here =
    let last = null_last v.last (sym (ap (λ r. column r 3) is) ∙ none) in
    let same = day_cell first v.first (sym here ∙ ap (λ r. column r 2) is) in
    ap Some same ∙ sym (ap (λ o. cond (is_none o) (Some v.first) None) last)

-- ---- what is told is what stands

pub class_stands : (vs : List VersionedObject) (object : ObjectId) → class_of_first (history object vs) ≡ class_at vs object
class_stands vs object = ap (option_map class_of_version) (go vs)
  where
    go : (vs : List VersionedObject) → slice_get (history object vs) 0 ≡ find (is_of object) vs
    go [] = refl
    go (v ∷ vs) = step (is_of object v) (go vs)
      where
        step : (t : Bool) → slice_get (history object vs) 0 ≡ find (is_of object) vs → slice_get (cond t (v ∷ history object vs) (history object vs)) 0 ≡ cond t (Some v) (find (is_of object) vs)
        step true e = refl
        step false e = e

-- the versions of an object are its own
pub all_own : (object : ObjectId) (vs : List VersionedObject) → AllByRecursion (λ v. is_of object v ≡ true) (history object vs)
all_own object [] = tt
all_own object (v ∷ vs) = go (is_of object v) refl (all_own object vs)
  where
    go : (t : Bool) → is_of object v ≡ t → AllByRecursion (λ v. is_of object v ≡ true) (history object vs) → AllByRecursion (λ v. is_of object v ≡ true) (cond t (v ∷ history object vs) (history object vs))
    go true e more = (e, more)
    go false e more = more

abbrev first_of : VersionedObject → Day
first_of v = v.first

-- of a history only the last version may be open
opened : (object : ObjectId) (n : ℕ) (xs : List VersionedObject) → IsHistory n xs → AllByRecursion (λ v. is_of object v ≡ true) xs → opened_last xs ≡ option_map first_of (find (is_open_of object) xs)
opened object n [] h own = refl
opened object n (v ∷ []) h own =
    elim (is_none v.last) as (λ b. cond b (Some v.first) None ≡ option_map first_of (cond (true && b) (Some v) None)) [ true ↦ refl | false ↦ refl ]
    ∙ ap (λ t. option_map first_of (cond (t && is_none v.last) (Some v) None)) (sym own.0)
opened object n (v ∷ (w ∷ xs)) h own = go v.last refl (opened object (n + 1) (w ∷ xs) h.3 own.1)
  where
    go : (l : Option Day) → v.last ≡ l → opened_last (w ∷ xs) ≡ option_map first_of (find (is_open_of object) (w ∷ xs)) → opened_last (v ∷ (w ∷ xs)) ≡ option_map first_of (find (is_open_of object) (v ∷ (w ∷ xs)))
    go None e more = absurd (subst (λ l. EndsBefore l w) e h.2)
    go (Some day) e more =
        let place : length (v ∷ (w ∷ xs)) - 1 ≡ suc (length (w ∷ xs) - 1) = omega arith in
        let shut = closed_is_not_open object v day e in
        ap (λ i. option_and_then if_open (slice_get (v ∷ (w ∷ xs)) i)) place ∙ more ∙ ap (λ t. option_map first_of (cond t (Some v) (find (is_open_of object) (w ∷ xs)))) (sym shut)

pub opened_stands : (vs : List VersionedObject) (object : ObjectId) → IsHistory 1 (history object vs) → opened_last (history object vs) ≡ open_since vs object
opened_stands vs object h = opened object 1 (history object vs) h (all_own object vs) ∙ sym (ap (option_map first_of) (find-filter object vs))

-- the outlines of a history tell what stands
pub standing_told : (object : ObjectId) (cs : List Command) (rows : List Row) (new : State) (r : Result ObjectState RegisterFault) → IsHistory 1 (history object (versions cs)) → rows ≡ map outline (history object (versions cs)) → StandsFor new cs
    → IfOk r (λ (s : ObjectState). (vs : List VersionedObject) → rows ≡ map outline vs → (s.class ≡ class_of_first vs) × (s.open_since ≡ opened_last vs) × (s.count ≡ length vs)) → IfErr r (IsFaultIn object rows)
    → MatchResult r (λ s. IsStanding (versions cs) object s × StandsFor new cs) (λ f. IsStoreFault f × (IsTrue new.is_open → StandsFor new cs))
standing_told object cs rows new (Ok s) h is stands known bad =
    let told = known (history object (versions cs)) is in
    (record { class = told.0 ∙ class_stands (versions cs) object; open_since = told.1 ∙ opened_stands (versions cs) object h; count = told.2 }, stands)
standing_told object cs rows new (Err f) h is stands known bad = (no_fault object rows (history object (versions cs)) f is bad, λ _. stands)
