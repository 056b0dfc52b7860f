use Rattle.cad_day.specs.Intervals.{is_interval_of}
use Rattle.cad_day.proofs.interval.Interval.new.Goals as goal

pub returns-clause-interval : goal.returns-clause-interval
returns-clause-interval c = is_interval_of c.args.from c.args.to c.with_ends.result c.with_ends.ensures
