-- What two values are that are read of the same pairs.
use Rattle.std.proofs.Common.{◌≡◌, ℕ, Option, Some, None, List, refl, sym, ap, ◌∙◌}
use Rattle.std.specs.Prelude.{option_map}
use Rattle.cad_day.specs.declared.interval.Interval.{Interval}
use Rattle.cad_day.specs.Days.{number_of}
use Rattle.cad_day.specs.Moments.{numbers_of as ends_of}
use Rattle.cad_shape.specs.declared.boxes.Bounds.{Bounds}
use Rattle.cad_shape.specs.lemmas.SameLemmas.{same_bounds}
use Rattle.cad_day.specs.lemmas.SameLemmas.{same_day}
use Rattle.cad_schema.specs.declared.collection.Collection.{Collection}
use Rattle.cad_schema.specs.Schema.{schema_of}
use Rattle.cad_day.specs.Intervals.{same_interval}
use Rattle.cql_types.specs.declared.filter.Filter.{Filter}
use Rattle.cql_types.specs.Conditions.{condition_in}
use Rattle.cql_filter.specs.Laws.{HasOneFilter}
use Rattle.cad_parameters.specs.Boxes.{box_numbers}
use Rattle.cad_ask.specs.Answers.{filter_given, IsFilterGiven}
use Rattle.cad_ask.specs.Laws.{PairsAskOneThing}

-- ---- values by their numbers

-- a value that may be none, by what is seen of it
same_option : {A B : Type 0} (see : A → B) → ((a b : A) → see a ≡ see b → a ≡ b) → (x y : Option A) → option_map see x ≡ option_map see y → x ≡ y
same_option see same None None e = refl
same_option see same None (Some b) e = absurd cc
same_option see same (Some a) None e = absurd cc
same_option see same (Some a) (Some b) e = ap Some (same a b cc)

same_days : (a b : Interval) → ends_of a ≡ ends_of b → a ≡ b
same_days a b e = same_interval a b (same_option number_of same_day a.from b.from (ap (λ p. p.0) e)) (same_option number_of same_day a.to b.to (ap (λ p. p.1) e))

same_box : (a b : Bounds) → box_numbers a ≡ box_numbers b → a ≡ b
same_box a b e = same_bounds a b (ap (λ n. n.0) e) (ap (λ n. n.1) e) (ap (λ n. n.2) e) (ap (λ n. n.3) e)

-- ---- filters of one text

same_condition : HasOneFilter → (c : Collection) (text : Option (List ℕ)) (x y : Option Filter) → IsFilterGiven c text x → IsFilterGiven c text y → option_map condition_in x ≡ option_map condition_in y
same_condition one c None None None f g = refl
same_condition one c None None (Some y) f g = absurd g
same_condition one c None (Some x) y f g = absurd f
same_condition one c (Some text) None y f g = absurd f
same_condition one c (Some text) (Some x) None f g = absurd g
same_condition one c (Some text) (Some x) (Some y) f g = ap Some (one (schema_of c) text x y f.1 g.1)

pub one_thing : HasOneFilter → PairsAskOneThing
one_thing one c pairs a b f g = record {
  collection = f.collection_is ∙ sym g.collection_is;
  pairs = f.pairs_are ∙ sym g.pairs_are;
  limit = f.selection_is.limit_is ∙ sym g.selection_is.limit_is;
  datetime = same_option ends_of same_days a.selection.datetime b.selection.datetime (f.selection_is.datetime_is ∙ sym g.selection_is.datetime_is);
  bbox = same_option box_numbers same_box a.selection.bbox b.selection.bbox (f.selection_is.bbox_is ∙ sym g.selection_is.bbox_is);
  condition = same_condition one c (filter_given pairs) a.filter b.filter f.filter_is g.filter_is;
  revision = f.continuation_is.revision_is ∙ sym g.continuation_is.revision_is;
  after = f.continuation_is.after_is ∙ sym g.continuation_is.after_is;
}
