use Rattle.std.proofs.Common.{◌≡◌}
use Rattle.std.specs.Iterator.Adapters.{zip_first, zip_second}
use Rattle.std.specs.List.{fold, zip}
use Rattle.std.specs.Slice.Iter.{iter_rest}
use Rattle.serde_json.specs.Data.{no_members}
use Rattle.serde_json.specs.View.{members_view}
use Rattle.cad_versions.specs.Class.{classes}
use Rattle.cad_office_socket.specs.Statuses.{with_count}
use Rattle.cad_office_socket.proofs.status.counts_json.Given as goal

-- the members so far and those of what is left are the members of all
abbrev pub invariant-loop-class : goal.invariant-loop-class
invariant-loop-class l =
    fold with_count (members_view l.members.entries) (zip (iter_rest (zip_first l.class-iterator)) (iter_rest (zip_second l.class-iterator))) ≡ fold with_count no_members (zip classes l.counts.of_each)
