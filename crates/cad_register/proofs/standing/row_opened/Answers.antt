use Rattle.cad_register.proofs.StandingLemmas.{open_row}
use Rattle.cad_register.proofs.standing.row_opened.Goals as goal

pub returns-in_ok-first-clause-known : goal.returns-in_ok-first-clause-known
returns-in_ok-first-clause-known c v is = open_row c.args.row.now c.in_ok-first.first v is (c.is_null.ensures.0 c.if-is_null.true) c.in_ok-first.ensures
