use Rattle.std.proofs.Common.{sym}
use Rattle.cad_plan.proofs.choosing.choose.Goals as goal

pub returns : goal.returns
returns c =
    record {
      way = c.in_ok-plan.ensures.way c.args.form.now (sym c.in_ok-full.ensures);
      least = c.in_ok-plan.ensures.least c.args.form.now (sym c.in_ok-full.ensures);
      covers = c.in_ok-plan.ensures.covers c.args.form.now (sym c.in_ok-full.ensures);
    }
