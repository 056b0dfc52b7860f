use Rattle.std.proofs.Common.{arith}
use Rattle.cad_event_loop.proofs.OfficeLemmas.{all_parted}
use Rattle.cad_event_loop.proofs.offices.Offices.is_empty.Goals as goal

pub returns : goal.returns
returns g c = λ is. let test = c.loop-k-test.false in all_parted c.args.self.now (λ j within. c.loop-k.invariant j (omega (arith, test, within)))
