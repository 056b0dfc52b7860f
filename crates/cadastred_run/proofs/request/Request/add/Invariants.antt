use Rattle.std.proofs.Common.{◌++◌, ℕ, List, take}
use Rattle.cadastred_run.specs.inner.Requests.{HoldsLineOf}
use Rattle.cadastred_run.proofs.request.Request.add.Given as goal

abbrev pub invariant-loop-byte : goal.invariant-loop-byte
invariant-loop-byte l = (read : List ℕ) → HoldsLineOf l.fn.self read → HoldsLineOf l.self (read ++ take l.byte-index l.bytes)
