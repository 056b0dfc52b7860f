use Rattle.std.proofs.Common.{[], refl, inr}
use Rattle.cad_sample.specs.Sample.{sample_commands}
use Rattle.cad_sample.proofs.FillingLemmas.{is_filled}
use Rattle.cad_sample.proofs.filling.fill.Goals as goal

pub returns-in-Ok-clause-filled : goal.returns-in-Ok-clause-filled
returns-in-Ok-clause-filled g c =
    is_filled g.L.Ledger c.args.ledger.now _ _ (rw c.in-Ok.ensures at c.enter_all.ensures)

pub returns-in-Err : goal.returns-in-Err
returns-in-Err g c = record {
  enters = ([], sample_commands, 0, c.args.ledger.now, refl, (refl, refl), inr (refl, refl));
  filled = λ _ _. tt;
}
