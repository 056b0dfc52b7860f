use Rattle.std.proofs.Common.{◌≡◌, ◌<◌}
use Rattle.cql_text.specs.Hashes.{hash_of_text}
use Rattle.cql_text.proofs.hash.hash_of_folded.Given as goal

abbrev pub invariant-loop-character : goal.invariant-loop-character
invariant-loop-character l = record {
  hash : l.hash ≡ hash_of_text l.yielded;
  within : l.hash < 4294967291;
}
