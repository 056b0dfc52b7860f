use Rattle.std.proofs.Common.{◌≡◌, suc}
use Rattle.cad_feature.proofs.entry_names.closing_up_to.Goals as goal

pub returns-in-Some-clause-none : goal.returns-in-Some-clause-none
returns-in-Some-clause-none c = λ n low high e. let same : suc n ≡ c.in-Some.closed = cc in c.up_to.ensures.none n low high same
