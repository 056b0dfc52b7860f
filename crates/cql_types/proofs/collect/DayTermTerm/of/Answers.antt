use Rattle.std.proofs.Common.{◌≡◌, ◌≢◌, refl, None, sym}
use Rattle.cql_types.specs.declared.filter.DayTerm.{DayTerm}
use Rattle.cql_types.specs.declared.judged.Node.{Node}
use Rattle.cql_types.specs.declared.judged.Node.TheVariants as n
use Rattle.cql_types.specs.Means.{day_of}
use Rattle.cql_types.proofs.collect.DayTermTerm.of.Goals as goal

no_day : (x : Node) → ((a : DayTerm) → x ≢ n.Day a) → day_of x ≡ None
no_day (n.Whole a) h = refl
no_day (n.Text a) h = refl
no_day (n.Pattern a) h = refl
no_day (n.Day a) h = absurd (h a refl)
no_day (n.Flag a) h = refl
no_day (n.Truth a) h = refl
no_day (n.Span a) h = refl
no_day (n.Spot a) h = refl
no_day (n.Area a) h = refl
no_day (n.Frame a) h = refl
no_day (n.Condition a) h = refl

pub returns-in_default : goal.returns-in_default
returns-in_default c = sym (no_day c.args.node c.in_default.not-Day)
