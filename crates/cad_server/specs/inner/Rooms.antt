-- The most snapshots that are kept (own profile).
use Rattle.std.specs.Prelude.{ℕ}

abbrev pub most_snapshots : ℕ
most_snapshots = 4
