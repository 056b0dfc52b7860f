use Rattle.std.proofs.Common.{◌≡◌, map, take}
use Rattle.cad_versions.specs.Entries.{version_in}
use Rattle.cad_stream.specs.Summaries.{highest_object}
use Rattle.cad_server.proofs.totals.highest_in.Given as goal

abbrev pub invariant-loop-stored : goal.invariant-loop-stored
invariant-loop-stored l = l.highest ≡ highest_object (map version_in (take l.stored-index l.versions))
