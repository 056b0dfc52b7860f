-- A plain ledger stands for its commands, and for one more when that is applied.
use Rattle.std.proofs.Common.{◌≡◌, ◌≢◌, ◌==◌, not, int_le, int_lt, ℤ, ◌+◌, List, [], ◌∷◌, ◌++◌, length, length-append, map, Option, Some, None, Bool, true, false, sym, ap, subst, ◌∙◌}
use Rattle.cad_day.specs.declared.day.Day.{Day}
use Rattle.cad_versions.specs.declared.body.Body.{Body}
use Rattle.cad_versions.specs.declared.body.Class.{Class}
use Rattle.cad_versions.specs.declared.command.Command.{Command}
use Rattle.cad_versions.specs.declared.command.Command.TheVariants.{Enter, Amend, Retire}
use Rattle.cad_versions.specs.declared.fault.RegisterFault.{RegisterFault}
use Rattle.cad_versions.specs.declared.fault.RegisterFault.TheVariants.{OtherClass, DayNotAfter, UnknownReference, Full, Store, Damaged}
use Rattle.cad_day.specs.Days.{number_of}
use Rattle.cad_versions.specs.Class.{class_of, class_number}
use Rattle.cad_versions.specs.Command.{object_named, body_added}
use Rattle.cad_versions.specs.Keeping.{IsOfKeeping, NamesDamage}
use Rattle.cad_versions.specs.VersionedObject.{VersionedObject}
use Rattle.cad_versions.specs.Versions.{versions}
use Rattle.cad_versions.specs.Refusals.{class_at, open_since, are_entered, is_full, refuse_if, or_else, refuses_closing, refuses_object, refuses_body, refusal}
use Rattle.cad_versions.specs.Entries.{version_in, entries_after}
use Rattle.cad_versions.specs.lemmas.EntryLemmas.{versions_of_entries}
use Rattle.cad_versions.specs.lemmas.AcceptedLemmas.{accepted_then, entries_then}
use Rattle.cad_memory_ledger.specs.declared.ledger.MemoryLedger.{MemoryLedger}
use Rattle.cad_memory_ledger.specs.Ledgers.{IsLedgerOf}

-- ---- what is kept are the versions of the commands

pub versions_kept : (ledger : MemoryLedger) (cs : List Command) → IsLedgerOf ledger cs → map version_in ledger.versions ≡ versions cs
versions_kept ledger cs stands = ap (map version_in) stands.kept ∙ versions_of_entries cs

pub decided : (ledger : MemoryLedger) (cs : List Command) (c : Command) (o : Option RegisterFault) → IsLedgerOf ledger cs → refusal (map version_in ledger.versions) c ≡ o → refusal (versions cs) c ≡ o
decided ledger cs c o stands e = ap (λ vs. refusal vs c) (sym (versions_kept ledger cs stands)) ∙ e

-- ---- one command more

pub applied : (old new : MemoryLedger) (cs : List Command) (c : Command) → IsLedgerOf old cs → refusal (map version_in old.versions) c ≡ None → new.revision ≡ old.revision + 1 → new.versions ≡ entries_after new.revision old.versions c → new.commands.items ≡ old.commands.items ++ c ∷ [] → IsLedgerOf new (cs ++ c ∷ [])
applied old new cs c stands may counts kept held =
    let next : new.revision ≡ length cs + 1 = counts ∙ ap (λ n. n + 1) stands.counted in
    record {
      accepted = accepted_then [] cs c stands.accepted (decided old cs c None stands may);
      kept = kept ∙ ap (λ n. entries_after n old.versions c) next ∙ ap (λ es. entries_after (length cs + 1) es c) stands.kept ∙ sym (entries_then cs c);
      held = held ∙ ap (λ ds. ds ++ c ∷ []) stands.held;
      counted = next ∙ sym (length-append cs (c ∷ []));
    }

-- ---- the commands alone are never refused for a fault of what keeps them

abbrev IsOfCommands : Option RegisterFault → Type 0
IsOfCommands None = Unit {0}
IsOfCommands (Some why) = ¬ IsOfKeeping why

both_of : (a b : Option RegisterFault) → IsOfCommands a → IsOfCommands b → IsOfCommands (or_else a b)
both_of None b h k = k
both_of (Some why) b h k = h

if_of : (b : Bool) (why : RegisterFault) → ¬ IsOfKeeping why → IsOfCommands (refuse_if b why)
if_of true why h = h
if_of false why h = tt

closing_of : (is_late : Day → Bool) (since : Option Day) → IsOfCommands (refuses_closing is_late since)
closing_of is_late None = λ h. h
closing_of is_late (Some first) = if_of (is_late first) (DayNotAfter first) (λ h. h)

object_of : (class : Option Class) (since : Option Day) (c : Command) → IsOfCommands (refuses_object class since c)
object_of None since (Enter object first body) = tt
object_of (Some class) since (Enter object first body) = λ h. h
object_of None since (Amend object first body) = λ h. h
object_of (Some class) since (Amend object first body) =
    both_of (refuse_if (not (class_number class == class_number (class_of body))) OtherClass) (refuses_closing (λ begun. int_le (number_of first) (number_of begun)) since)
    (if_of (not (class_number class == class_number (class_of body))) OtherClass (λ h. h)) (closing_of (λ begun. int_le (number_of first) (number_of begun)) since)
object_of None since (Retire object last) = λ h. h
object_of (Some class) since (Retire object last) = closing_of (λ begun. int_lt (number_of last) (number_of begun)) since

body_of : (vs : List VersionedObject) (body : Option Body) → IsOfCommands (refuses_body vs body)
body_of vs None = tt
body_of vs (Some body) =
    both_of (refuse_if (not (are_entered vs body)) UnknownReference) (refuse_if (is_full vs) Full)
    (if_of (not (are_entered vs body)) UnknownReference (λ h. h)) (if_of (is_full vs) Full (λ h. h))

refused_of : (vs : List VersionedObject) (c : Command) (why : RegisterFault) → refusal vs c ≡ Some why → ¬ IsOfKeeping why
refused_of vs c why e = subst IsOfCommands e
    (both_of (refuses_object (class_at vs (object_named c)) (open_since vs (object_named c)) c) (refuses_body vs (body_added c))
    (object_of (class_at vs (object_named c)) (open_since vs (object_named c)) c) (body_of vs (body_added c)))

pub refusal_no_store : (vs : List VersionedObject) (c : Command) → refusal vs c ≢ Some Store
refusal_no_store vs c e = refused_of vs c Store e tt

none_damaged : (P : ℤ → ℤ → Type 0) (why : RegisterFault) → ¬ IsOfKeeping why → NamesDamage P why
none_damaged P (Damaged object number) none = absurd (none tt)
none_damaged P why none = tt

pub refusal_no_damage : (P : ℤ → ℤ → Type 0) (vs : List VersionedObject) (c : Command) (why : RegisterFault) → refusal vs c ≡ Some why → NamesDamage P why
refusal_no_damage P vs c why e = none_damaged P why (refused_of vs c why e)
