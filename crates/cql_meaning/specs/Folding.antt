-- Whether a filter folds the case of some text, which is what takes memory (own profile).
use Rattle.std.specs.Prelude.{◌≡◌, Bool, true, false, ◌||◌, List, map, Vec}
use Rattle.std.specs.List.{list_any}
use Rattle.std.proofs.Common.{◌∙◌, ap, sym}
use Rattle.std.specs.declared.alloc.Global.{Global}
use Rattle.cql_types.specs.declared.filter.TextTerm.{TextTerm}
use Rattle.cql_types.specs.declared.filter.TextTerm.TheOpen.{TextTerm-F}
use Rattle.cql_types.specs.declared.filter.TextTerm.TheFolds.{fold-TextTerm}
use Rattle.cql_types.specs.declared.filter.AnyTerm.{AnyTerm}
use Rattle.cql_types.specs.declared.filter.AnyTerm.TheVariants as any
use Rattle.cql_types.specs.declared.filter.Filter.{Filter}
use Rattle.cql_types.specs.declared.filter.Filter.TheVariants as filter
use Rattle.cql_types.specs.declared.filter.Filter.TheOpen.{Filter-F}
use Rattle.cql_types.specs.declared.filter.Filter.TheFolds.{fold-Filter, fold-roll-Filter}

abbrev pub text_step : TextTerm-F Bool → Bool
text_step (TextTerm-F.Constant content) = false
text_step (TextTerm-F.Property i) = false
text_step (TextTerm-F.Folded term) = true

-- the term is a CASEI
abbrev pub folds_text : TextTerm → Bool
folds_text = fold-TextTerm Bool text_step

abbrev pub folds_term : AnyTerm → Bool
folds_term (any.Whole a) = false
folds_term (any.Text a) = folds_text a
folds_term (any.Day a) = false
folds_term (any.Flag a) = false
folds_term (any.Span a) = false
folds_term (any.Shape a) = false

abbrev pub some : List Bool → Bool
some parts = list_any (λ b. b) parts

abbrev pub filter_step : Filter-F Bool → Bool
filter_step (Filter-F.Truth b) = false
filter_step (Filter-F.CompareWhole by a b) = false
filter_step (Filter-F.CompareText by a b) = folds_text a || folds_text b
filter_step (Filter-F.CompareDay by a b) = false
filter_step (Filter-F.CompareFlag by a b) = false
filter_step (Filter-F.Like a pattern) = folds_text a || folds_text pattern
filter_step (Filter-F.Between a low high) = false
filter_step (Filter-F.InWhole a items) = false
filter_step (Filter-F.InText a items) = folds_text a || list_any folds_text items.items
filter_step (Filter-F.InDay a items) = false
filter_step (Filter-F.InFlag a items) = false
filter_step (Filter-F.IsNull a) = folds_term a
filter_step (Filter-F.Spatial by a b) = false
filter_step (Filter-F.Temporal by a b) = false
filter_step (Filter-F.Not f) = f.value
filter_step (Filter-F.And fs) = some fs.items
filter_step (Filter-F.Or fs) = some fs.items

-- some text in the filter is a CASEI
abbrev pub folds_case : Filter → Bool
folds_case = fold-Filter Bool filter_step

-- ---- each kind of condition that may fold case

pub folds_And : (fs : Vec Filter Global) → folds_case (filter.And fs) ≡ some (map folds_case fs.items)
folds_And fs = ap folds_case (sym (filter.rolls-And fs)) ∙ fold-roll-Filter Bool filter_step (Filter-F.And fs)

pub folds_Or : (fs : Vec Filter Global) → folds_case (filter.Or fs) ≡ some (map folds_case fs.items)
folds_Or fs = ap folds_case (sym (filter.rolls-Or fs)) ∙ fold-roll-Filter Bool filter_step (Filter-F.Or fs)
