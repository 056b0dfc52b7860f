-- The sides of each kind of condition, by those of its parts.
use Rattle.std.specs.Prelude.{◌≡◌, map, Some, Box, Vec}
use Rattle.std.proofs.Common.{◌∙◌, ap, sym}
use Rattle.std.specs.declared.alloc.Global.{Global}
use Rattle.cad_day.specs.declared.relation.Relation.{Relation}
use Rattle.cad_day.specs.Relations.{holds}
use Rattle.cad_feature.specs.Features.{Item}
use Rattle.cql_lexer.specs.declared.token.Comparison.{Comparison}
use Rattle.cql_lexer.specs.declared.token.Comparison.TheVariants.{Equal}
use Rattle.cql_lexer.specs.declared.token.SpatialRelation.{SpatialRelation}
use Rattle.cql_types.specs.declared.filter.WholeTerm.{WholeTerm}
use Rattle.cql_types.specs.declared.filter.TextTerm.{TextTerm}
use Rattle.cql_types.specs.declared.filter.DayTerm.{DayTerm}
use Rattle.cql_types.specs.declared.filter.FlagTerm.{FlagTerm}
use Rattle.cql_types.specs.declared.filter.SpanTerm.{SpanTerm}
use Rattle.cql_types.specs.declared.filter.ShapeTerm.{ShapeTerm}
use Rattle.cql_types.specs.declared.filter.AnyTerm.{AnyTerm}
use Rattle.cql_types.specs.declared.filter.Filter.{Filter}
use Rattle.cql_types.specs.declared.filter.Filter.TheVariants as filter
use Rattle.cql_types.specs.declared.filter.Filter.TheOpen.{Filter-F}
use Rattle.cql_types.specs.declared.filter.Filter.TheFolds.{fold-roll-Filter}
use Rattle.cql_meaning.specs.Arithmetic.{whole_value}
use Rattle.cql_meaning.specs.Sides.{Sides, sides_of, compared, wholes, texts, days, flags, is_like, spatial, is_null, negation, conjunction, disjunction, between, among, side_step, sides}
use Rattle.cql_meaning.specs.Values.{both, day_value, flag_value, shape_value, span_value, text_value}

pub sides_CompareWhole : (x : Item) (by : Comparison) (a b : WholeTerm) →
    sides x (filter.CompareWhole by a b) ≡ compared (wholes by) (whole_value x a) (whole_value x b)
sides_CompareWhole x by a b = ap (sides x) (sym (filter.rolls-CompareWhole by a b)) ∙ fold-roll-Filter Sides (side_step x) (Filter-F.CompareWhole by a b)

pub sides_CompareText : (x : Item) (by : Comparison) (a b : TextTerm) →
    sides x (filter.CompareText by a b) ≡ compared (texts by) (text_value x a) (text_value x b)
sides_CompareText x by a b = ap (sides x) (sym (filter.rolls-CompareText by a b)) ∙ fold-roll-Filter Sides (side_step x) (Filter-F.CompareText by a b)

pub sides_CompareDay : (x : Item) (by : Comparison) (a b : DayTerm) →
    sides x (filter.CompareDay by a b) ≡ compared (days by) (day_value x a) (day_value x b)
sides_CompareDay x by a b = ap (sides x) (sym (filter.rolls-CompareDay by a b)) ∙ fold-roll-Filter Sides (side_step x) (Filter-F.CompareDay by a b)

pub sides_CompareFlag : (x : Item) (by : Comparison) (a b : FlagTerm) →
    sides x (filter.CompareFlag by a b) ≡ compared (flags by) (flag_value x a) (flag_value x b)
sides_CompareFlag x by a b = ap (sides x) (sym (filter.rolls-CompareFlag by a b)) ∙ fold-roll-Filter Sides (side_step x) (Filter-F.CompareFlag by a b)

pub sides_Like : (x : Item) (a pattern : TextTerm) →
    sides x (filter.Like a pattern) ≡ compared is_like (text_value x a) (text_value x pattern)
sides_Like x a pattern = ap (sides x) (sym (filter.rolls-Like a pattern)) ∙ fold-roll-Filter Sides (side_step x) (Filter-F.Like a pattern)

pub sides_Between : (x : Item) (a low high : WholeTerm) →
    sides x (filter.Between a low high) ≡ between (whole_value x a) (whole_value x low) (whole_value x high)
sides_Between x a low high = ap (sides x) (sym (filter.rolls-Between a low high)) ∙ fold-roll-Filter Sides (side_step x) (Filter-F.Between a low high)

pub sides_InWhole : (x : Item) (a : WholeTerm) (items : Vec WholeTerm Global) →
    sides x (filter.InWhole a items) ≡ among (wholes Equal) (whole_value x) (whole_value x a) items.items
sides_InWhole x a items = ap (sides x) (sym (filter.rolls-InWhole a items)) ∙ fold-roll-Filter Sides (side_step x) (Filter-F.InWhole a items)

pub sides_InText : (x : Item) (a : TextTerm) (items : Vec TextTerm Global) →
    sides x (filter.InText a items) ≡ among (texts Equal) (text_value x) (text_value x a) items.items
sides_InText x a items = ap (sides x) (sym (filter.rolls-InText a items)) ∙ fold-roll-Filter Sides (side_step x) (Filter-F.InText a items)

pub sides_InDay : (x : Item) (a : DayTerm) (items : Vec DayTerm Global) →
    sides x (filter.InDay a items) ≡ among (days Equal) (day_value x) (day_value x a) items.items
sides_InDay x a items = ap (sides x) (sym (filter.rolls-InDay a items)) ∙ fold-roll-Filter Sides (side_step x) (Filter-F.InDay a items)

pub sides_InFlag : (x : Item) (a : FlagTerm) (items : Vec FlagTerm Global) →
    sides x (filter.InFlag a items) ≡ among (flags Equal) (flag_value x) (flag_value x a) items.items
sides_InFlag x a items = ap (sides x) (sym (filter.rolls-InFlag a items)) ∙ fold-roll-Filter Sides (side_step x) (Filter-F.InFlag a items)

pub sides_IsNull : (x : Item) (a : AnyTerm) →
    sides x (filter.IsNull a) ≡ sides_of (Some (is_null x a))
sides_IsNull x a = ap (sides x) (sym (filter.rolls-IsNull a)) ∙ fold-roll-Filter Sides (side_step x) (Filter-F.IsNull a)

pub sides_Spatial : (x : Item) (by : SpatialRelation) (a b : ShapeTerm) →
    sides x (filter.Spatial by a b) ≡ sides_of (both (spatial by) (shape_value x a) (shape_value x b))
sides_Spatial x by a b = ap (sides x) (sym (filter.rolls-Spatial by a b)) ∙ fold-roll-Filter Sides (side_step x) (Filter-F.Spatial by a b)

pub sides_Temporal : (x : Item) (by : Relation) (a b : SpanTerm) →
    sides x (filter.Temporal by a b) ≡ compared (holds by) (span_value x a) (span_value x b)
sides_Temporal x by a b = ap (sides x) (sym (filter.rolls-Temporal by a b)) ∙ fold-roll-Filter Sides (side_step x) (Filter-F.Temporal by a b)

pub sides_Not : (x : Item) (f : Box Filter Global) →
    sides x (filter.Not f) ≡ negation (sides x f.value)
sides_Not x f = ap (sides x) (sym (filter.rolls-Not f)) ∙ fold-roll-Filter Sides (side_step x) (Filter-F.Not f)

pub sides_And : (x : Item) (fs : Vec Filter Global) →
    sides x (filter.And fs) ≡ conjunction (map (sides x) fs.items)
sides_And x fs = ap (sides x) (sym (filter.rolls-And fs)) ∙ fold-roll-Filter Sides (side_step x) (Filter-F.And fs)

pub sides_Or : (x : Item) (fs : Vec Filter Global) →
    sides x (filter.Or fs) ≡ disjunction (map (sides x) fs.items)
sides_Or x fs = ap (sides x) (sym (filter.rolls-Or fs)) ∙ fold-roll-Filter Sides (side_step x) (Filter-F.Or fs)
