use Rattle.std.proofs.Common.{sym, ap}
use Rattle.cad_stream.specs.Feeding.{bytes_left}
use Rattle.cad_desk.proofs.DeskLemmas.{taken_out, refused_piece}
use Rattle.cad_desk.proofs.desk.Desk.begin.Goals as goal

pub returns-in-Err : goal.returns-in-Err
returns-in-Err g c =
    let told = c.in-Err.ensures in
    refused_piece g.R.Responder g.met.R.Responder.seeks_asks c.args.self.now _ c.args.c c.args.piece c.in-Some.open.held.items c.in-Err.refused c.from.result c.from.ensures
    (ap bytes_left (sym c.in-Some.ensures.value)) (taken_out c.args.self.now.connections c.remove.new.self c.args.c c.in-Some.ensures.updates.0) told
