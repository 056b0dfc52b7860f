use Rattle.std.proofs.Common.{inl}
use Rattle.cad_dry_run.proofs.turns.apply.Goals as goal

pub returns-in-Err : goal.returns-in-Err
returns-in-Err g c = λ line asks. (inl (c.args.command, asks, c.in-Err.ensures), tt)
