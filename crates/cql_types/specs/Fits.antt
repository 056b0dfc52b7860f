-- A node is a term of one kind exactly if its kind is that kind.
use Rattle.std.specs.Prelude.{◌≡◌, is_some}
use Rattle.std.proofs.Common.{refl}
use Rattle.cql_types.specs.declared.judged.Node.{Node}
use Rattle.cql_types.specs.declared.judged.Node.TheVariants as n
use Rattle.cql_types.specs.Kinds.{is_whole, is_text, is_pattern, is_day, is_flag, is_time, is_shape, is_value, is_condition}
use Rattle.cql_types.specs.Means.{kind_of, whole_of, text_of, pattern_of, day_of, flag_of, span_of, shape_of, any_of, condition_of}

pub whole_fits : (x : Node) → is_some (whole_of x) ≡ is_whole (kind_of x)
whole_fits (n.Whole a) = refl
whole_fits (n.Text a) = refl
whole_fits (n.Pattern a) = refl
whole_fits (n.Day a) = refl
whole_fits (n.Flag a) = refl
whole_fits (n.Truth a) = refl
whole_fits (n.Span a) = refl
whole_fits (n.Spot a) = refl
whole_fits (n.Area a) = refl
whole_fits (n.Frame a) = refl
whole_fits (n.Condition a) = refl

pub text_fits : (x : Node) → is_some (text_of x) ≡ is_text (kind_of x)
text_fits (n.Whole a) = refl
text_fits (n.Text a) = refl
text_fits (n.Pattern a) = refl
text_fits (n.Day a) = refl
text_fits (n.Flag a) = refl
text_fits (n.Truth a) = refl
text_fits (n.Span a) = refl
text_fits (n.Spot a) = refl
text_fits (n.Area a) = refl
text_fits (n.Frame a) = refl
text_fits (n.Condition a) = refl

pub pattern_fits : (x : Node) → is_some (pattern_of x) ≡ is_pattern (kind_of x)
pattern_fits (n.Whole a) = refl
pattern_fits (n.Text a) = refl
pattern_fits (n.Pattern a) = refl
pattern_fits (n.Day a) = refl
pattern_fits (n.Flag a) = refl
pattern_fits (n.Truth a) = refl
pattern_fits (n.Span a) = refl
pattern_fits (n.Spot a) = refl
pattern_fits (n.Area a) = refl
pattern_fits (n.Frame a) = refl
pattern_fits (n.Condition a) = refl

pub day_fits : (x : Node) → is_some (day_of x) ≡ is_day (kind_of x)
day_fits (n.Whole a) = refl
day_fits (n.Text a) = refl
day_fits (n.Pattern a) = refl
day_fits (n.Day a) = refl
day_fits (n.Flag a) = refl
day_fits (n.Truth a) = refl
day_fits (n.Span a) = refl
day_fits (n.Spot a) = refl
day_fits (n.Area a) = refl
day_fits (n.Frame a) = refl
day_fits (n.Condition a) = refl

pub flag_fits : (x : Node) → is_some (flag_of x) ≡ is_flag (kind_of x)
flag_fits (n.Whole a) = refl
flag_fits (n.Text a) = refl
flag_fits (n.Pattern a) = refl
flag_fits (n.Day a) = refl
flag_fits (n.Flag a) = refl
flag_fits (n.Truth a) = refl
flag_fits (n.Span a) = refl
flag_fits (n.Spot a) = refl
flag_fits (n.Area a) = refl
flag_fits (n.Frame a) = refl
flag_fits (n.Condition a) = refl

pub span_fits : (x : Node) → is_some (span_of x) ≡ is_time (kind_of x)
span_fits (n.Whole a) = refl
span_fits (n.Text a) = refl
span_fits (n.Pattern a) = refl
span_fits (n.Day a) = refl
span_fits (n.Flag a) = refl
span_fits (n.Truth a) = refl
span_fits (n.Span a) = refl
span_fits (n.Spot a) = refl
span_fits (n.Area a) = refl
span_fits (n.Frame a) = refl
span_fits (n.Condition a) = refl

pub shape_fits : (x : Node) → is_some (shape_of x) ≡ is_shape (kind_of x)
shape_fits (n.Whole a) = refl
shape_fits (n.Text a) = refl
shape_fits (n.Pattern a) = refl
shape_fits (n.Day a) = refl
shape_fits (n.Flag a) = refl
shape_fits (n.Truth a) = refl
shape_fits (n.Span a) = refl
shape_fits (n.Spot a) = refl
shape_fits (n.Area a) = refl
shape_fits (n.Frame a) = refl
shape_fits (n.Condition a) = refl

pub any_fits : (x : Node) → is_some (any_of x) ≡ is_value (kind_of x)
any_fits (n.Whole a) = refl
any_fits (n.Text a) = refl
any_fits (n.Pattern a) = refl
any_fits (n.Day a) = refl
any_fits (n.Flag a) = refl
any_fits (n.Truth a) = refl
any_fits (n.Span a) = refl
any_fits (n.Spot a) = refl
any_fits (n.Area a) = refl
any_fits (n.Frame a) = refl
any_fits (n.Condition a) = refl

pub condition_fits : (x : Node) → is_some (condition_of x) ≡ is_condition (kind_of x)
condition_fits (n.Whole a) = refl
condition_fits (n.Text a) = refl
condition_fits (n.Pattern a) = refl
condition_fits (n.Day a) = refl
condition_fits (n.Flag a) = refl
condition_fits (n.Truth a) = refl
condition_fits (n.Span a) = refl
condition_fits (n.Spot a) = refl
condition_fits (n.Area a) = refl
condition_fits (n.Frame a) = refl
condition_fits (n.Condition a) = refl
