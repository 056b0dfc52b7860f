-- What a crash leaves after each step.
use Rattle.std.proofs.Common.{◌≡◌, ℕ, ◌+◌, ◌<◌, ◌^◌, inl, inr, List, [], ◌∷◌, ◌++◌, length, None, IsTrue, refl, sym, subst, ◌∙◌}
use Rattle.sqlite_trees.specs.Tree.{Trees}
use Rattle.sqlite.specs.State.{State, HasCleanDisk, Survives}
use Rattle.sqlite.specs.Effect.{Database, IsDatabase}
use Rattle.cad_tables.specs.Tables.{register_schema}
use Rattle.cad_tables.specs.lemmas.SchemaLemmas.{register_schema_only}
use Rattle.cad_tables.specs.Opening.{most_revision}
use Rattle.cad_tables.specs.Steps.{CommitsTo, CreatesTo}
use Rattle.cad_tables.specs.declared.changes.Change.{Change}
use Rattle.cad_versions.specs.declared.command.Command.{Command}
use Rattle.cad_versions.specs.Versions.{versions}
use Rattle.cad_versions.specs.Refusals.{refusal, AreAccepted}
use Rattle.cad_versions.specs.Entries.{entries_of}
use Rattle.cad_register.specs.declared.writing.NewEntry.{NewEntry}
use Rattle.cad_register.specs.StoredVersions.{HoldsEntries}
use Rattle.cad_register.specs.Changing.{IsChangeOf, line_written}
use Rattle.cad_register.specs.Stands.{StandsFor, IsNumbered}
use Rattle.cad_register.specs.Surviving.{database_of, IsDiskOf, IsOpenedOn, LeavesNoMore, Leaves, LeavesEither, LeavesOrMakes}
use Rattle.cad_versions.specs.lemmas.AcceptedLemmas.{accepted_then}
use Rattle.cad_register.proofs.WriteLemmas.{holds_then, no_entries}

disk_of : (db : Database) (cs : List Command) → AreAccepted [] cs → HoldsEntries (length cs) (entries_of cs) db × IsDatabase db → IsDiskOf cs db.trees
disk_of db cs fine h = record {
  accepted = fine;
  holds = record { lines = h.0.lines; holds = record { schema = refl; state = h.0.holds.state; versions = h.0.holds.versions }; rows = h.0.rows };
  sound = subst (λ s. IsDatabase (record { schema = s; trees = db.trees })) h.0.holds.schema h.1;
}

-- what stands is what a crash leaves, where it leaves the last commit
pub leaves_standing : (s : State) (cs : List Command) → ((trees : Trees) → IsTrue s.is_open → s.may_leave trees → trees ≡ s.committed.trees) → StandsFor s cs → Leaves s cs
leaves_standing s cs settled stands trees h =
    let last : s.committed.trees ≡ s.now.trees = λ i. (stands.settled i).trees in
    subst (IsDiskOf cs) (sym (settled trees stands.live h)) (subst (IsDiskOf cs) (sym last) (disk_of s.now cs stands.accepted (stands.holds, stands.sound)))

pub leaves_no_more : (old new : State) → HasCleanDisk new → Survives old new (λ _. ⊥) → LeavesNoMore old new
leaves_no_more old new clean survives trees h = elim (survives.crash clean trees h) [ inl was ↦ was | inr none ↦ absurd none ]

pub leaves_then : (old new : State) (cs : List Command) → LeavesNoMore old new → Leaves old cs → Leaves new cs
leaves_then old new cs no_more leaves trees h = leaves trees (no_more trees h)

pub leaves_or : (s : State) (cs : List Command) (c : Command) → Leaves s cs → LeavesEither c s cs
leaves_or s cs c leaves trees h = inl (leaves trees h)

pub leaves_written : (old new : State) (cs : List Command) (c : Command) (number revision : ℕ) (ch : Change NewEntry) → HasCleanDisk new → Survives old new (CommitsTo line_written ch revision old) → StandsFor old cs → Leaves old cs
    → refusal (versions cs) c ≡ None → IsNumbered cs c number → revision ≡ length cs + 1 → length cs < most_revision → IsChangeOf c number revision ch → revision < 2 ^ 32 → LeavesEither c new cs
leaves_written old new cs c number revision ch clean survives stands leaves fine count next room h small trees left = elim (survives.crash clean trees left) [
  | inl was ↦ inl (leaves trees was)
  | inr made ↦ inr (fine, room, subst (IsDiskOf (cs ++ c ∷ [])) (sym made.2) (disk_of made.0 (cs ++ c ∷ []) (accepted_then [] cs c stands.accepted fine) (holds_then old made.0 cs c number revision ch stands fine count next h small made.1)))
]

pub leaves_made : (old new : State) → HasCleanDisk new → Survives old new (CreatesTo old) → LeavesOrMakes old new
leaves_made old new clean survives trees left = elim (survives.crash clean trees left) [
  | inl was ↦ inl was
  | inr made ↦ inr (λ none. subst (IsDiskOf []) (sym made.2) (disk_of made.0 [] tt (no_entries made.0 (made.1 none).0, (made.1 none).1)))
]

-- what an open gives over such a disk stands for the commands
pub stands_opened : (s : State) (cs : List Command) → IsOpenedOn cs s → StandsFor s cs
stands_opened s cs opened =
    let live = opened.live opened.opens.is_open in
    let schema : s.committed.schema ≡ register_schema = register_schema_only s.committed.trees s.committed.schema opened.disk.sound live.1 in
    let found : s.committed ≡ database_of s.committed.trees = λ i. record { schema = schema i; trees = s.committed.trees } in
    record {
      accepted = opened.disk.accepted;
      holds = subst (HoldsEntries (length cs) (entries_of cs)) (sym (opened.opens.clean ∙ found)) opened.disk.holds;
      sound = live.0;
      settled = sym opened.opens.clean;
      live = opened.opens.is_open;
    }
