-- The tables go on standing for the commands.
use Rattle.std.proofs.Common.{◌≡◌, ◌≤◌, ℕ, Vec, Global, Result, Ok, Err, MatchResult, List, length, subst, sym, ap, ◌∙◌, IsTrue, Option, Some, None, Bool, true, false, inl, inr}
use Rattle.sqlite_value.specs.Order.{Row}
use Rattle.sqlite.specs.Effect.{IsDatabase}
use Rattle.sqlite.specs.State.{State, IsUnchanged}
use Rattle.cad_tables.specs.Steps.{KeepsAll}
use Rattle.cad_versions.specs.declared.fault.RegisterFault.{RegisterFault}
use Rattle.cad_versions.specs.declared.fault.RegisterFault.TheVariants as fault
use Rattle.cad_day.specs.declared.day.Day.{Day}
use Rattle.cad_versions.specs.declared.body.Body.{Body}
use Rattle.cad_versions.specs.declared.body.Class.{Class}
use Rattle.cad_versions.specs.declared.command.Command.TheVariants.{Enter, Amend, Retire}
use Rattle.cad_versions.specs.Command.{object_named, body_added}
use Rattle.cad_versions.specs.Versions.{versions}
use Rattle.cad_versions.specs.Refusals.{class_at, open_since, refuse_if, or_else, refuses_closing, refuses_object, refuses_body, refusal}
use Rattle.cad_versions.specs.VersionedObject.{VersionedObject}
use Rattle.cad_versions.specs.AsOf.{as_of, all_entries, entries_listed, entry_order}
use Rattle.cad_versions.specs.Sorting.{sort_by}
use Rattle.cad_versions.specs.lemmas.EntryLemmas.{listing_is, all_by, entries_dated}
use Rattle.cad_versions.specs.declared.command.Command.{Command}
use Rattle.cad_versions.specs.Entries.{Entry, entries_of, entries_at}
use Rattle.cad_register.specs.StoredVersions.{AreRowsOf, HoldsEntries}
use Rattle.cad_register.specs.Damage.{AreSound, AreInOrder, ListsRows, ListsStored}
use Rattle.cad_register.specs.Stands.{StandsFor, IsStoreFault, IsRefusal}
use Rattle.cad_register.specs.Registers.{IsRefused}
use Rattle.cad_register.proofs.DamageLemmas.{seen_of, entries_same}
use Rattle.cad_register.proofs.SoundLemmas.{listed_sound, sound_cause}

pub stands_kept : (old new : State) (cs : List Command) → KeepsAll old new → IsTrue new.is_open → StandsFor old cs → StandsFor new cs
stands_kept old new cs keeps still stands = record {
  accepted = stands.accepted;
  holds = subst (HoldsEntries (length cs) (entries_of cs)) (sym keeps.0) stands.holds;
  sound = subst IsDatabase (sym keeps.0) stands.sound;
  settled = keeps.1 ∙ stands.settled ∙ sym keeps.0;
  live = still;
}

pub stands_same : (old new : State) (cs : List Command) → IsUnchanged old new → StandsFor old cs → StandsFor new cs
stands_same old new cs same stands = stands_kept old new cs (same.0.now_is, same.0.committed_is) same.0.is_open stands

-- what the rows of a revision show is the register at the revision
pub listing_told : (revision newest : ℕ) (cs : List Command) (shown : List Row) (new : State) (r : Result (Vec VersionedObject Global) RegisterFault) → ((rows : List Row) → AreInOrder shown rows → AreRowsOf rows (entries_listed revision (entries_of cs))) → StandsFor new cs
    → ListsRows revision newest shown r
    → MatchResult r (λ vs. (revision ≤ length cs → vs.items ≡ as_of revision cs) × StandsFor new cs) (λ f. (newest ≡ length cs → IsStoreFault f) × (IsTrue new.is_open → StandsFor new cs))
listing_told revision newest cs shown new (Ok vs) are stands listed = (
  λ h. seen_of revision listed.0 (entries_listed revision (entries_of cs)) vs.items (are listed.0 listed.1) listed.3 ∙ listing_is revision cs h,
  stands,
)
listing_told revision newest cs shown new (Err (fault.Damaged object number)) are stands listed = (
  λ e. sound_cause newest listed.0 (fault.Damaged object number) (subst (λ n. AreSound n None 0 listed.0) (sym e) (listed_sound revision cs listed.0 stands.accepted (are listed.0 listed.1))) listed.2,
  λ _. stands,
)
listing_told revision newest cs shown new (Err fault.Memory) are stands listed = (λ e. tt, λ _. stands)
listing_told revision newest cs shown new (Err other) are stands listed = absurd listed

-- what all rows show is what the register stores
pub entries_given : (newest : ℕ) (cs : List Command) (shown : List Row) (new : State) (r : Result (Vec Entry Global) RegisterFault) → ((rows : List Row) → AreInOrder shown rows → AreRowsOf rows (entries_listed newest (entries_of cs))) → StandsFor new cs
    → ListsStored newest shown r
    → MatchResult r (λ found. (newest ≡ length cs → found.items ≡ all_entries cs) × StandsFor new cs) (λ f. (newest ≡ length cs → IsStoreFault f) × (IsTrue new.is_open → StandsFor new cs))
entries_given newest cs shown new (Ok found) are stands listed = (
  λ h. entries_same listed.0 found.items (entries_listed newest (entries_of cs)) listed.3 (are listed.0 listed.1)
      ∙ ap (sort_by entry_order) (ap (λ n. entries_at n (entries_of cs)) h ∙ all_by (length cs) (entries_of cs) (entries_dated cs)),
  stands,
)
entries_given newest cs shown new (Err why) are stands listed = listing_told newest newest cs shown new (Err why) are stands listed

-- causes that the fold never has: its own are others
module _ (k : RegisterFault) where
  when_foreign : (t : Bool) (f : RegisterFault) → ¬ (f ≡ k) → ¬ (refuse_if t f ≡ Some k)
  when_foreign true f other h = other cc
  when_foreign false f other h = cc

  else_foreign : (a b : Option RegisterFault) → ¬ (a ≡ Some k) → ¬ (b ≡ Some k) → ¬ (or_else a b ≡ Some k)
  else_foreign None b one other h = other h
  else_foreign (Some f) b one other h = one h

  closing_foreign : ¬ (fault.Retired ≡ k) → ((day : Day) → ¬ (fault.DayNotAfter day ≡ k)) → (is_late : Day → Bool) (o : Option Day) → ¬ (refuses_closing is_late o ≡ Some k)
  closing_foreign retired late is_late None h = retired cc
  closing_foreign retired late is_late (Some day) h = when_foreign (is_late day) (fault.DayNotAfter day) (late day) h

  object_foreign : ¬ (fault.Retired ≡ k) → ((day : Day) → ¬ (fault.DayNotAfter day ≡ k)) → ¬ (fault.KnownObject ≡ k) → ¬ (fault.UnknownObject ≡ k) → ¬ (fault.OtherClass ≡ k)
      → (class : Option Class) (begun : Option Day) (c : Command) → ¬ (refuses_object class begun c ≡ Some k)
  object_foreign retired late known unknown other None begun (Enter object first body) h = cc
  object_foreign retired late known unknown other (Some class) begun (Enter object first body) h = known cc
  object_foreign retired late known unknown other None begun (Amend object first body) h = unknown cc
  object_foreign retired late known unknown other (Some class) begun (Amend object first body) h = else_foreign _ _ (when_foreign _ fault.OtherClass other) (closing_foreign retired late _ begun) h
  object_foreign retired late known unknown other None begun (Retire object last) h = unknown cc
  object_foreign retired late known unknown other (Some class) begun (Retire object last) h = closing_foreign retired late _ begun h

body_foreign : (vs : List VersionedObject) (o : Option Body) → ¬ (refuses_body vs o ≡ Some fault.NotARegister)
body_foreign vs None h = cc
body_foreign vs (Some body) h = else_foreign fault.NotARegister _ _ (when_foreign fault.NotARegister _ fault.UnknownReference (λ e. cc)) (when_foreign fault.NotARegister _ fault.Full (λ e. cc)) h

never_foreign : (vs : List VersionedObject) (c : Command) → ¬ (refusal vs c ≡ Some fault.NotARegister)
never_foreign vs c h =
    else_foreign fault.NotARegister _ _ (object_foreign fault.NotARegister (λ e. cc) (λ day e. cc) (λ e. cc) (λ e. cc) (λ e. cc) (class_at vs (object_named c)) (open_since vs (object_named c)) c) (body_foreign vs (body_added c)) h

-- a cause that the register itself has against a command
abbrev pub IsDecided : RegisterFault → Type 0
IsDecided fault.Store = ⊥
IsDecided fault.Memory = ⊥
IsDecided fault.UnknownRevision = ⊥
IsDecided (fault.Damaged object number) = ⊥
IsDecided other = Unit {0}

-- what stands of an object is such a cause
pub object_decides : (class : Option Class) (begun : Option Day) (c : Command) (cause : RegisterFault) → refuses_object class begun c ≡ Some cause → IsDecided cause
object_decides class begun c fault.Store h = object_foreign fault.Store (λ e. cc) (λ day e. cc) (λ e. cc) (λ e. cc) (λ e. cc) class begun c h
object_decides class begun c fault.Memory h = object_foreign fault.Memory (λ e. cc) (λ day e. cc) (λ e. cc) (λ e. cc) (λ e. cc) class begun c h
object_decides class begun c fault.UnknownRevision h = object_foreign fault.UnknownRevision (λ e. cc) (λ day e. cc) (λ e. cc) (λ e. cc) (λ e. cc) class begun c h
object_decides class begun c (fault.Damaged object number) h = object_foreign (fault.Damaged object number) (λ e. cc) (λ day e. cc) (λ e. cc) (λ e. cc) (λ e. cc) class begun c h
object_decides class begun c cause h = tt

-- what decides never answers that there is no register
pub refused_as : (cs : List Command) (c : Command) (f : RegisterFault) → IsRefusal (refusal (versions cs) c) f → IsRefused cs c f
refused_as cs c fault.NotARegister (inl h) = absurd (never_foreign (versions cs) c h)
refused_as cs c fault.NotARegister (inr h) = absurd h
refused_as cs c f h = h
