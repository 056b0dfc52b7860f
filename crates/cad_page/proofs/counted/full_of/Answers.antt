use Rattle.std.proofs.Common.{sym}
use Rattle.cad_page.proofs.counted.full_of.Goals as goal

pub returns : goal.returns
returns c = ∣ record { form = c.args.form.now; is_form = c.requires; way = sym c.in_ok-full.ensures } ∣₁
