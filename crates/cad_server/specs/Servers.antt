-- The parts of a server that clauses use, and what its calls do (own profile).
use Rattle.std.specs.Prelude.{◌≡◌, ◌≤◌, ◌<◌, ◌⊎◌, ℕ, ℤ, Bool, true, false, List, length, Vec, Option, None, Some, IfSome, Result, Ok, Err, IfOk, IfErr, OnOk, OnErr}
use Rattle.std.specs.Global.{Global}
use Rattle.cad_versions.specs.AsOf.{as_of}
use Rattle.cad_versions.specs.Entries.{Entry}
use Rattle.cad_versions.specs.HistoryLedgers.{ListsEntries}
use Rattle.cad_versions.specs.declared.command.Command.{Command}
use Rattle.cad_versions.specs.declared.fault.RegisterFault.{RegisterFault}
use Rattle.cad_versions.specs.declared.fault.RegisterFault.TheVariants.{Damaged, Memory, Store}
use Rattle.cad_versions.specs.Keeping.{IsAnswered, IsShut, NamesDamage}
use Rattle.cad_versions.specs.Ledgers.{Applied, Checked}
use Rattle.cad_versions.specs.declared.ledger.Ledger.{Ghosts}
use Rattle.cad_history.specs.Snapshots.{IsSnapshotOf, RevisionFeatures}
use Rattle.cad_head.specs.Request.{Request}
use Rattle.cad_resource.specs.Requested.{requested}
use Rattle.cad_request.specs.ParsedRequests.{IsParsedRequest}
use Rattle.cad_request.specs.declared.request.ParsedRequest.{ParsedRequest}
use Rattle.cad_request.specs.declared.request.ParsedRequest.TheVariants as parsed
use Rattle.cad_server.specs.declared.located.Located.{Located}
use Rattle.cad_server.specs.declared.records.Records.{Records}
use Rattle.cad_server.specs.declared.server.Server.{Server}
use Rattle.cad_request.specs.declared.feature_request.FeatureRequest.{FeatureRequest}
use Rattle.cad_server.specs.Contents.{content_of, content_requested, content_located, revision_sought}
use Rattle.cad_server.specs.Keeping.{KeepsOf, StaysCached, cached_at, rows_in}
use Rattle.cad_server.specs.Turns.{earlier_damage}
use Rattle.cad_server.specs.Replies.{AsksForFeatures, SeeksFeatures, SeeksUpTo, FailsFor, FailsToFind, FailsToTell}

abbrev pub ledger_in : {L : Type 0} → Records L → L
ledger_in records = records.ledger

-- how many changes the bases of a collection get before new ones are made
abbrev pub bound_in : {L : Type 0} → Records L → ℕ
bound_in records = records.most_changes

-- the same of a server
abbrev pub bound_of : {L : Type 0} → Server L → ℕ
bound_of server = bound_in server.records

-- the fault names a damaged row
abbrev pub is_damage : RegisterFault → Bool
is_damage (Damaged object number) = true
is_damage fault = false

-- the ledger that a server answers over
abbrev pub ledger_of : {L : Type 0} → Server L → L
ledger_of server = ledger_in server.records

module _ {L : Type 0} (g : Ghosts L) where
  -- the records are those of the commands
  pub record AreRecordsOf (records : Records L) (commands : List Command) : Type 0 where
    pub ledger : g.stands_for records.ledger commands
    pub kept : KeepsOf commands records.kept

  -- the records of the server are those of the commands
  abbrev pub IsServerOf : Server L → List Command → Type 0
  IsServerOf server commands = AreRecordsOf server.records commands

  -- the revision of what is sought, by the newest one that the ledger reports
  abbrev pub revision_of : Records L → FeatureRequest → ℕ
  revision_of records sought = revision_sought sought (g.newest (ledger_in records))

  -- the request seeks features of a revision that the ledger has, by the newest one that it reports
  abbrev pub SeeksOf : Server L → Request → Type 0
  SeeksOf server request = SeeksUpTo (g.newest (ledger_of server)) request

  -- the ledger lists what it stores
  abbrev pub ListsRows : L → Result (Vec Entry Global) RegisterFault → L → Type 0
  ListsRows old = ListsEntries g.stands_for g.counts g.lives g.fails g.fails_to_list g.refuses_listing g.damaged_for_listing g.remains (g.newest old) old

  -- when it does so, some revision has a damaged row of this object and this number: the newest, or an earlier one, in which a version that is
  -- listed lacks the one before it
  abbrev pub ShowsDamage : L → L → ℤ → ℤ → Type 0
  ShowsDamage old new object number =
      g.damaged_for_listing old new (g.newest old) object number
      ⊎ ((found : Vec Entry Global) × ListsRows old (Ok found) new × (earlier_damage found.items ≡ Some (Damaged object number)))

  -- damage was noted, or the ledger shows some
  abbrev pub HasDamage : Bool → L → L → Type 0
  HasDamage noted old new = (noted ≡ true) ⊎ ((object : ℤ) × (number : ℤ) × ShowsDamage old new object number)

  -- the ledger refuses to list all that it stores, of which no damage was noted; or it refuses to list this revision by itself, since a row is
  -- damaged
  abbrev pub RefusesToRead : ℕ → Records L → Records L → Type 0
  RefusesToRead revision old new =
      ((old.is_damaged ≡ false) × g.refuses_listing (ledger_in old) (ledger_in new) (g.newest (ledger_in old)))
      ⊎ ((before : L) × HasDamage old.is_damaged (ledger_in old) before × g.remains (ledger_in old) before × g.refuses_listing before (ledger_in new) revision)

  -- the same for what is wanted; nothing is listed for a response that is made without the ledger
  abbrev pub RefusesToTell : ParsedRequest → Records L → Records L → Type 0
  RefusesToTell (parsed.Immediate response) old new = ⊥
  RefusesToTell (parsed.Features sought) old new = RefusesToRead (revision_of old sought) old new

  -- the same for what a request asks for
  abbrev pub RefusesToAnswer : Server L → Server L → Request → Type 0
  RefusesToAnswer old new request = (wanted : ParsedRequest) × IsParsedRequest (requested request) wanted × RefusesToTell wanted old.records new.records

  -- the ledger shows a damaged row of this object and this number when it lists this revision by itself, since a row is damaged
  abbrev pub DamagedForReading : ℕ → Records L → Records L → ℤ → ℤ → Type 0
  DamagedForReading revision old new object number =
      (before : L) × HasDamage old.is_damaged (ledger_in old) before × (g.counts (ledger_in new) → g.remains (ledger_in old) before)
      × g.damaged_for_listing before (ledger_in new) revision object number

  -- the same for what is wanted
  abbrev pub DamagedForTelling : ParsedRequest → Records L → Records L → ℤ → ℤ → Type 0
  DamagedForTelling (parsed.Immediate response) old new object number = ⊥
  DamagedForTelling (parsed.Features sought) old new object number = DamagedForReading (revision_of old sought) old new object number

  -- the same for what a request asks for
  abbrev pub DamagedForAnswer : Server L → Server L → Request → ℤ → ℤ → Type 0
  DamagedForAnswer old new request object number =
      (wanted : ParsedRequest) × IsParsedRequest (requested request) wanted × DamagedForTelling wanted old.records new.records object number

  -- a command is entered into the records in the same way as into their ledger
  abbrev pub Enters : Records L → Command → Result ℕ RegisterFault → Records L → Type 0
  Enters =
      Applied AreRecordsOf (λ records. g.counts (ledger_in records)) (λ records. g.lives (ledger_in records)) (λ old new. g.fails (ledger_in old) (ledger_in new))
      g.fails_to_apply (λ old new. g.refuses_command (ledger_in old) (ledger_in new)) (λ old new. g.damaged_for_command (ledger_in old) (ledger_in new))

  -- a command is checked in the same way as by their ledger
  abbrev pub Checks : Records L → Command → Result ℕ RegisterFault → Records L → Type 0
  Checks =
      Checked AreRecordsOf (λ records. g.counts (ledger_in records)) (λ records. g.lives (ledger_in records)) (λ old new. g.fails (ledger_in old) (ledger_in new))
      g.fails_to_apply (λ old new. g.refuses_command (ledger_in old) (ledger_in new)) (λ old new. g.damaged_for_command (ledger_in old) (ledger_in new))
      (λ old new. g.remains (ledger_in old) (ledger_in new))

  -- reading changes nothing, or the ledger failed and is closed. Unless the store or memory is the cause, the ledger remains what it was. The
  -- store refuses only this, and a row that is named as damaged is a damaged one.
  pub record Reads {T : Type 0} (Refused : Type 0) (IsDamaged : ℤ → ℤ → Type 0) (old : Records L) (result : Result T RegisterFault) (new : Records L) : Type 0 where
    pub store : g.counts (ledger_in new) → IfErr result (λ fault. fault ≡ Store → Refused)
    pub damaged : IfErr result (NamesDamage IsDamaged)
    pub still : g.counts (ledger_in new) → IsAnswered result → g.remains (ledger_in old) (ledger_in new)
    pub kept : g.counts (ledger_in new) → OnOk result ((commands : List Command) → AreRecordsOf old commands → AreRecordsOf new commands)
    pub unchanged : g.counts (ledger_in new) → IfErr result (λ fault. (commands : List Command) → AreRecordsOf old commands → AreRecordsOf new commands ⊎ IsShut g.lives g.fails (ledger_in old) fault (ledger_in new))
    pub clean : g.counts (ledger_in new) → g.counts (ledger_in old)

  -- the ledger lists what it stores, and each version comes after the one before it; or it does not list it, or the first version that does
  -- not come so is named as damaged
  pub record ListsInTurn (old : L) (result : Result (Vec Entry Global) RegisterFault) (new : L) : Type 0 where
    pub listed : IfOk result (λ found. ListsRows old (Ok found) new × (earlier_damage found.items ≡ None))
    pub refused : IfErr result (λ fault. ListsRows old (Err fault) new ⊎ ((found : Vec Entry Global) × ListsRows old (Ok found) new × (earlier_damage found.items ≡ Some fault)))

  -- all that the ledger stores was listed, and each version comes after the one before it
  abbrev pub WasListed : L → Type 0
  WasListed old = (read : L) × (found : Vec Entry Global) × ListsRows old (Ok found) read × (earlier_damage found.items ≡ None)

  -- what the ledger stores was read, so that the histories are there, and no revision shows a damaged row; or they were there and nothing was
  -- read; damage is noted
  pub record Prepares (old : Records L) (result : Result (Unit {0}) RegisterFault) (new : Records L) : Type 0 where
    pub ready : OnOk result (¬ (rows_in new.kept ≡ None))
    pub sound : OnOk result (rows_in old.kept ≡ None → WasListed (ledger_in old))
    pub noted : IfErr result (λ fault. is_damage fault ≡ true → new.is_damaged ≡ true)
    pub cause : g.counts (ledger_in new) → IfErr result (λ fault. (commands : List Command) → AreRecordsOf old commands → (fault ≡ Memory) ⊎ g.fails_to_list (length commands) commands fault)
    pub reads : Reads (g.refuses_listing (ledger_in old) (ledger_in new) (g.newest (ledger_in old))) (ShowsDamage (ledger_in old) (ledger_in new)) old result new

  -- the same of a server
  abbrev pub ServerPrepares : Server L → Result (Unit {0}) RegisterFault → Server L → Type 0
  ServerPrepares old result new = Prepares old.records result new.records

  -- reading for the features of this revision
  abbrev pub ReadsFor : {T : Type 0} → ℕ → Records L → Result T RegisterFault → Records L → Type 0
  ReadsFor revision old result new = Reads (RefusesToRead revision old new) (DamagedForReading revision old new) old result new

  -- the snapshot is that of the revision, if this exists
  pub record MakesFrom (Refused : Type 0) (IsDamaged : ℤ → ℤ → Type 0) (revision : ℕ) (old : Records L) (result : Result RevisionFeatures RegisterFault) (new : Records L) : Type 0 where
    pub number : IfOk result (λ snapshot. snapshot.revision ≡ revision)
    pub snapshot : g.counts (ledger_in new) → IfOk result (λ snapshot. (commands : List Command) → AreRecordsOf old commands → revision ≤ length commands → IsSnapshotOf revision (as_of revision commands) snapshot)
    pub cause : g.counts (ledger_in new) → IfErr result (λ fault. (commands : List Command) → AreRecordsOf old commands → revision ≤ length commands → (fault ≡ Memory) ⊎ FailsFor g.fails_to_list revision commands fault)
    pub reads : Reads Refused IsDamaged old result new

  -- it is made of the rows of the revision by themselves
  abbrev pub ListsSnapshot : ℕ → Records L → Result RevisionFeatures RegisterFault → Records L → Type 0
  ListsSnapshot revision old result new =
      MakesFrom (g.refuses_listing (ledger_in old) (ledger_in new) revision) (g.damaged_for_listing (ledger_in old) (ledger_in new) revision) revision old result new

  -- or of all rows
  abbrev pub MakesSnapshot : ℕ → Records L → Result RevisionFeatures RegisterFault → Records L → Type 0
  MakesSnapshot revision old result new = MakesFrom (RefusesToRead revision old new) (DamagedForReading revision old new) revision old result new

  -- the snapshot is the one that is kept of the revision. It is missing only if nothing of the revision is kept. Only the order of what is
  -- kept changes.
  pub record Recalls {E : Type 0} (revision : ℕ) (old : Records L) (result : Result (Option RevisionFeatures) E) (new : Records L) : Type 0 where
    pub snapshot : IfOk result (λ found. IfSome found (λ snapshot. (commands : List Command) → KeepsOf commands old.kept → IsSnapshotOf revision (as_of revision commands) snapshot))
    pub none : IfOk result (λ found. found ≡ None → cached_at revision old.kept ≡ None)
    pub same : ledger_in new ≡ ledger_in old
    pub damaged : new.is_damaged ≡ old.is_damaged
    pub kept : StaysCached old.kept new.kept

  -- the snapshot is that of an existing revision
  pub record Finds (revision : ℕ) (old : Records L) (result : Result RevisionFeatures RegisterFault) (new : Records L) : Type 0 where
    pub snapshot : g.counts (ledger_in new) → IfOk result (λ snapshot. (commands : List Command) → AreRecordsOf old commands → revision ≤ length commands → IsSnapshotOf revision (as_of revision commands) snapshot)
    pub cause : g.counts (ledger_in new) → IfErr result (λ fault. (commands : List Command) → AreRecordsOf old commands → (fault ≡ Memory) ⊎ FailsFor g.fails_to_list revision commands fault)
    pub reads : ReadsFor revision old result new

  -- with these commands in force, the snapshot is that of the revision that is asked for, or of the newest; or the revision does not exist
  abbrev pub IsFoundFor : FeatureRequest → List Command → Option RevisionFeatures → Type 0
  IsFoundFor sought commands None = length commands < revision_sought sought (length commands)
  IsFoundFor sought commands (Some snapshot) =
      (revision_sought sought (length commands) ≤ length commands)
      × IsSnapshotOf (revision_sought sought (length commands)) (as_of (revision_sought sought (length commands)) commands) snapshot

  -- it is found for what is sought
  pub record Seeks (sought : FeatureRequest) (old : Records L) (result : Result (Option RevisionFeatures) RegisterFault) (new : Records L) : Type 0 where
    pub found : g.counts (ledger_in new) → IfOk result (λ found. (commands : List Command) → AreRecordsOf old commands → IsFoundFor sought commands found)
    pub within : OnErr result (revision_of old sought ≤ g.newest (ledger_in old))
    pub cause : g.counts (ledger_in new) → IfErr result (λ fault. (commands : List Command) → AreRecordsOf old commands → (fault ≡ Memory) ⊎ FailsToFind g.fails_to_list commands sought fault)
    pub reads : ReadsFor (revision_of old sought) old result new

  -- the answer has what is sought, at the revision that is asked for or the newest
  pub record TellsSought (sought : FeatureRequest) (old : Records L) (result : Result Located RegisterFault) (new : Records L) : Type 0 where
    pub within : IfErr result (λ fault. (fault ≡ Memory) ⊎ (revision_of old sought ≤ g.newest (ledger_in old)))
    pub content : g.counts (ledger_in new) → IfOk result (λ told. (commands : List Command) → AreRecordsOf old commands → content_located told ≡ content_of sought commands)
    pub cause : g.counts (ledger_in new) → IfErr result (λ fault. (commands : List Command) → AreRecordsOf old commands → (fault ≡ Memory) ⊎ FailsToFind g.fails_to_list commands sought fault)
    pub reads : ReadsFor (revision_of old sought) old result new

  -- the answer has what is wanted; if no features are wanted, it is so with any commands
  pub record Tells (wanted : ParsedRequest) (old : Records L) (result : Result Located RegisterFault) (new : Records L) : Type 0 where
    pub content : g.counts (ledger_in new) → IfOk result (λ told. (commands : List Command) → AreRecordsOf old commands → content_located told ≡ content_requested wanted commands)
    pub cause : g.counts (ledger_in new) → IfErr result (λ fault. (commands : List Command) → AreRecordsOf old commands → (fault ≡ Memory) ⊎ FailsToTell g.fails_to_list commands wanted fault)
    pub plain : IfOk result (λ told. AsksForFeatures wanted ⊎ ((commands : List Command) → content_located told ≡ content_requested wanted commands))
    pub asking : IfErr result (λ fault. (fault ≡ Memory) ⊎ SeeksFeatures (g.newest (ledger_in old)) wanted)
    pub reads : Reads (RefusesToTell wanted old new) (DamagedForTelling wanted old new) old result new
