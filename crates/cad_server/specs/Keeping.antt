-- What is kept of revisions (own profile).
use Rattle.std.specs.Prelude.{◌≡◌, ◌≤◌, ℕ, List, [], length, Contains, nat_eq, Option, Some, IfSome, option_map}
use Rattle.std.specs.Map.{lookup}
use Rattle.std.specs.Rc.{rc_value}
use Rattle.cad_versions.specs.declared.command.Command.{Command}
use Rattle.cad_versions.specs.AsOf.{as_of}
use Rattle.cad_versions.specs.Versions.{versions}
use Rattle.cad_history.specs.Histories.{AreAllRowsOf, RegisterRows}
use Rattle.cad_history.specs.Snapshots.{IsSnapshotOf, RevisionFeatures}
use Rattle.cad_commands.specs.declared.chain.Chain.{Chain}
use Rattle.cad_commands.specs.Chains.{chain_of, digest_of}
use Rattle.cad_stream.specs.Summaries.{highest_object}
use Rattle.cad_server.specs.declared.snapshot_cache.SnapshotCache.{SnapshotCache}
use Rattle.cad_server.specs.declared.totals.Totals.{Totals}

-- the snapshot kept under a revision is that of the revision, and the revision exists
pub record IsCached (commands : List Command) (entry : ℕ × RevisionFeatures) : Type 0 where
  pub exists : entry.0 ≤ length commands
  pub snapshot : IsSnapshotOf entry.0 (as_of entry.0 commands) entry.1

-- this holds of each entry of a list
abbrev pub AreCached : List Command → List (ℕ × RevisionFeatures) → Type 0
AreCached commands entries = (entry : ℕ × RevisionFeatures) → Contains entries entry → IsCached commands entry

-- the rows, if there are any, show the features at each revision that the commands made
abbrev pub ShowAll : List Command → Option RegisterRows → Type 0
ShowAll commands rows = IfSome rows (AreAllRowsOf commands)

-- the rows of the histories that are kept
abbrev pub rows_in : SnapshotCache → Option RegisterRows
rows_in kept = option_map rc_value kept.histories

-- the number, if it is known, is the highest of an object after the commands
abbrev pub KnowsHighest : List Command → Option ℕ → Type 0
KnowsHighest commands known = IfSome known (λ highest. highest ≡ highest_object (versions commands))

-- the digest, if it is known, is the chain of the commands
abbrev pub KnowsChain : List Command → Option Chain → Type 0
KnowsChain commands known = IfSome known (λ chain. digest_of chain ≡ chain_of commands)

-- what is known of the commands together
pub record AreTotalsOf (commands : List Command) (totals : Totals) : Type 0 where
  pub highest : KnowsHighest commands totals.highest_object
  pub chain : KnowsChain commands totals.chain

-- this holds of all that is kept
pub record KeepsOf (commands : List Command) (kept : SnapshotCache) : Type 0 where
  pub histories : ShowAll commands (rows_in kept)
  pub totals : AreTotalsOf commands kept.totals
  pub snapshots : AreCached commands kept.snapshots.entries

-- what is kept of the revision, if anything is
abbrev pub cached_at : ℕ → SnapshotCache → Option RevisionFeatures
cached_at revision kept = lookup (nat_eq revision) kept.snapshots.entries

-- ---- what changes it

-- these histories, or none, and these totals are kept, and no snapshots
pub record KeepsOnly (rows : Option RegisterRows) (known : Totals) (kept : SnapshotCache) : Type 0 where
  pub histories : rows_in kept ≡ rows
  pub totals : kept.totals ≡ known
  pub snapshots : kept.snapshots.entries ≡ []

-- what is correct stays correct, and so many histories are kept as before
pub record StaysCached (old new : SnapshotCache) : Type 0 where
  pub histories : rows_in new ≡ rows_in old
  pub totals : new.totals ≡ old.totals
  pub snapshots : (commands : List Command) → AreCached commands old.snapshots.entries → AreCached commands new.snapshots.entries

-- the same, with this correct snapshot, which is now kept, or is not if there is no memory
pub record StaysWith (snapshot : RevisionFeatures) (old new : SnapshotCache) : Type 0 where
  pub histories : rows_in new ≡ rows_in old
  pub totals : new.totals ≡ old.totals
  pub snapshots : (commands : List Command) → IsCached commands (snapshot.revision, snapshot) → AreCached commands old.snapshots.entries → AreCached commands new.snapshots.entries

-- the same is kept, and this chain
pub record StaysChained (known : Chain) (old new : SnapshotCache) : Type 0 where
  pub histories : rows_in new ≡ rows_in old
  pub snapshots : new.snapshots ≡ old.snapshots
  pub highest : new.totals.highest_object ≡ old.totals.highest_object
  pub chain : new.totals.chain ≡ Some known
