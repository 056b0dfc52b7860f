-- What is kept from a request.
use Rattle.std.specs.Prelude.{◌≡◌, ℕ, List, take}
use Rattle.std.specs.List.{list_any}
use Rattle.cadastred_run.specs.inner.FirstLines.{ends_line, begun, line_of}
use Rattle.cadastred_run.specs.declared.request.Request.{Request}

-- at most 512 bytes of the first line of what was read, and whether that line has ended
pub record HoldsLineOf (request : Request) (read : List ℕ) : Type 0 where
  pub line : request.bytes.items ≡ take 512 (line_of (begun read))
  pub ended : request.has_ended ≡ list_any ends_line (begun read)
