use Rattle.std.proofs.Common.{inl}
use Rattle.cad_office_socket.proofs.answering.apply.Goals as goal

pub returns-in-Ok : goal.returns-in-Ok
returns-in-Ok g c = λ line asks. (c.args.command, asks, c.in-Ok.ensures)

pub returns-in-Err : goal.returns-in-Err
returns-in-Err g c = λ line asks. inl (c.args.command, asks, c.in-Err.ensures)
