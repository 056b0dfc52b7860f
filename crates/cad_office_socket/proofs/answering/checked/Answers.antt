use Rattle.cad_office_socket.proofs.TurnLemmas.{part_short}
use Rattle.cad_office_socket.proofs.answering.checked.Goals as goal

pub returns-clause-checked : goal.returns-clause-checked
returns-clause-checked g c = λ text stands.
    let part = c.in_ok-line.line.now in
    let is = c.in_ok-line.ensures.checked text stands in
    (part, is, c.check_line.ensures (part_short text part is (c.in_ok-line.ensures.held text stands)))
