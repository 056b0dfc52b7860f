use Rattle.cad_day.proofs.MomentLemmas.{parted_is}
use Rattle.cad_day.proofs.moment.asked.Goals as goal

pub returns-in-Some : goal.returns-in-Some
returns-in-Some c = rw (parted_is c.args.text.now c.split_once.result c.split_once.ensures.cases, c.in-Some.is) c.between.ensures

pub returns-in-None : goal.returns-in-None
returns-in-None c = rw (parted_is c.args.text.now c.split_once.result c.split_once.ensures.cases, c.in-None.is) c.one_moment.ensures
