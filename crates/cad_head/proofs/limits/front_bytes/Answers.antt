use Rattle.std.proofs.Common.{sym, arith}
use Rattle.std.proofs.lemmas.List.{take_all}
use Rattle.cad_head.specs.Heads.{front_len}
use Rattle.cad_head.proofs.limits.front_bytes.Goals as goal

pub returns-then-bytes-lt-FRONT_LEN : goal.returns-then-bytes-lt-FRONT_LEN
returns-then-bytes-lt-FRONT_LEN c = sym (take_all front_len c.args.bytes.now (omega arith))
