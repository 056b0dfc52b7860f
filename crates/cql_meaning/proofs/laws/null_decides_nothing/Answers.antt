use Rattle.std.proofs.Common.{Some}
use Rattle.cad_day.specs.Relations.{holds}
use Rattle.cql_types.specs.declared.filter.Filter.TheVariants as filter
use Rattle.cql_meaning.specs.Arithmetic.{whole_value}
use Rattle.cql_meaning.specs.lemmas.NodeLemmas.{sides_CompareWhole, sides_CompareText, sides_CompareDay, sides_CompareFlag, sides_Like, sides_Spatial, sides_Temporal}
use Rattle.cql_meaning.specs.Sides.{wholes, texts, days, flags, is_like, spatial}
use Rattle.cql_meaning.specs.Values.{day_value, flag_value, shape_value, span_value, text_value}
use Rattle.cql_meaning.proofs.PartLemmas.{undecided}
use Rattle.cql_meaning.proofs.laws.null_decides_nothing.Goals as goal

pub returns : goal.returns
returns c = (
  λ by. undecided whole_value (λ a b. Some (wholes by a b)) (filter.CompareWhole by) (λ x. sides_CompareWhole x by),
  λ by. undecided text_value (λ a b. Some (texts by a b)) (filter.CompareText by) (λ x. sides_CompareText x by),
  λ by. undecided day_value (λ a b. Some (days by a b)) (filter.CompareDay by) (λ x. sides_CompareDay x by),
  λ by. undecided flag_value (λ a b. Some (flags by a b)) (filter.CompareFlag by) (λ x. sides_CompareFlag x by),
  undecided text_value (λ a b. Some (is_like a b)) filter.Like sides_Like,
  λ by. undecided shape_value (spatial by) (filter.Spatial by) (λ x. sides_Spatial x by),
  λ by. undecided span_value (λ a b. Some (holds by a b)) (filter.Temporal by) (λ x. sides_Temporal x by),
)
