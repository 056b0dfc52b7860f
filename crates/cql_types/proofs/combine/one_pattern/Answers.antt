use Rattle.std.proofs.Common.{◌≡◌, ◌≢◌, false, refl}
use Rattle.cql_types.specs.declared.judged.Node.{Node}
use Rattle.cql_types.specs.declared.judged.Node.TheVariants as n
use Rattle.cql_types.specs.declared.filter.TextTerm.{TextTerm}
use Rattle.cql_types.specs.Kinds.{is_pattern}
use Rattle.cql_types.specs.Means.{kind_of}
use Rattle.cql_types.proofs.combine.one_pattern.Goals as goal

not_pattern : (x : Node) → ((a : TextTerm) → x ≢ n.Pattern a) → is_pattern (kind_of x) ≡ false
not_pattern (n.Whole a) h = refl
not_pattern (n.Text a) h = refl
not_pattern (n.Pattern a) h = absurd (h a refl)
not_pattern (n.Day a) h = refl
not_pattern (n.Flag a) h = refl
not_pattern (n.Truth a) h = refl
not_pattern (n.Span a) h = refl
not_pattern (n.Spot a) h = refl
not_pattern (n.Area a) h = refl
not_pattern (n.Frame a) h = refl
not_pattern (n.Condition a) h = refl

pub returns-in_default : goal.returns-in_default
returns-in_default c = record { ok = tt; err = (c.wrong_kind.ensures, not_pattern c.args.part.node c.in_default.not-Pattern) }
