use Rattle.std.proofs.Common.{inl}
use Rattle.cad_office_socket.proofs.answering.check_command.Goals as goal

pub returns-in-Err : goal.returns-in-Err
returns-in-Err g c = λ line asks. (inl (c.args.command.now, asks, c.in-Err.ensures), tt)
