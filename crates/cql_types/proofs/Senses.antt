-- A tree means one filter.
use Rattle.std.proofs.Common.{◌≡◌, refl, ap, ap₂, sym, ◌∙◌, ℕ, ℤ, Bool, true, false, List, [], ◌∷◌, map, Option, Some, None, ◌&&◌}
use Rattle.std.specs.Prelude.{Box, Vec, String, string_bytes, option_map}
use Rattle.std.specs.declared.alloc.Global.{Global}
use Rattle.cad_day.specs.declared.day.Day.{Day}
use Rattle.cad_day.specs.declared.relation.Relation.{Relation}
use Rattle.cad_schema.specs.declared.property.PropertyKind.{PropertyKind}
use Rattle.cad_schema.specs.Attributes.{Named}
use Rattle.cad_shape.specs.declared.ring.Ring.{Ring}
use Rattle.cad_shape.specs.RegionRings.{same_region}
use Rattle.cad_shape.specs.declared.boxes.Bounds.{Bounds}
use Rattle.cad_shape.specs.declared.point.Point.{Point}
use Rattle.cad_shape.specs.declared.shape.Shape.TheVariants as shape
use Rattle.cql_lexer.specs.declared.token.Comparison.{Comparison}
use Rattle.cql_lexer.specs.declared.token.SpatialRelation.{SpatialRelation}
use Rattle.cql_tree.specs.Syntax.{Syntax, Parts, Leaf, Op}
use Rattle.cql_tree.specs.declared.expression.Operation.{Operation}
use Rattle.cql_types.specs.declared.filter.WholeTerm.{WholeTerm}
use Rattle.cql_types.specs.declared.filter.WholeTerm.TheVariants as whole
use Rattle.cql_types.specs.declared.filter.WholeTerm.TheOpen.{WholeTerm-F}
use Rattle.cql_types.specs.declared.filter.WholeTerm.TheFolds.{fold-roll-WholeTerm}
use Rattle.cql_types.specs.declared.filter.Step.{Step, fold-Step, fold_out-Step}
use Rattle.cql_types.specs.declared.filter.TextTerm.{TextTerm}
use Rattle.cql_types.specs.declared.filter.TextTerm.TheVariants as text
use Rattle.cql_types.specs.declared.filter.TextTerm.TheOpen.{TextTerm-F}
use Rattle.cql_types.specs.declared.filter.TextTerm.TheFolds.{fold-roll-TextTerm}
use Rattle.cql_types.specs.declared.filter.DayTerm.{DayTerm}
use Rattle.cql_types.specs.declared.filter.DayTerm.TheVariants as day
use Rattle.cql_types.specs.declared.filter.FlagTerm.{FlagTerm}
use Rattle.cql_types.specs.declared.filter.EndTerm.{EndTerm}
use Rattle.cql_types.specs.declared.filter.EndTerm.TheVariants as end
use Rattle.cql_types.specs.declared.filter.SpanTerm.{SpanTerm}
use Rattle.cql_types.specs.declared.filter.SpanTerm.TheVariants as span
use Rattle.cql_types.specs.declared.filter.ShapeTerm.{ShapeTerm}
use Rattle.cql_types.specs.declared.filter.ShapeTerm.TheVariants as place
use Rattle.cql_types.specs.declared.filter.AnyTerm.{AnyTerm}
use Rattle.cql_types.specs.declared.filter.Filter.{Filter}
use Rattle.cql_types.specs.declared.filter.Filter.TheVariants as filter
use Rattle.cql_types.specs.declared.filter.Filter.TheOpen.{Filter-F}
use Rattle.cql_types.specs.declared.filter.Filter.TheFolds.{fold-roll-Filter}
use Rattle.cql_types.specs.declared.judged.Judged.{Judged}
use Rattle.cql_types.specs.declared.judged.Node.{Node}
use Rattle.cql_types.specs.declared.judged.Node.TheVariants as n
use Rattle.cql_types.specs.Conditions as c
use Rattle.cql_types.specs.Conditions.{NumericExpression, CharacterExpression, ScalarExpression, Condition, numeric, numeric_step, operation_step, character, character_step, scalar, condition_in, condition_step}
use Rattle.cql_types.specs.Fits.{whole_fits, text_fits, day_fits, flag_fits}
use Rattle.cql_types.specs.Kinds as kind
use Rattle.cql_types.specs.Kinds.{Kind, is_whole, is_text, is_day, is_flag}
use Rattle.cql_types.specs.Laws.{HasOneFilter}
use Rattle.cql_types.specs.Literals.{AreRings, one_ring, no_ring}
use Rattle.cql_types.specs.Means as m
use Rattle.cql_types.specs.Means.{kind_of, whole_of, text_of, pattern_of, day_of, flag_of, span_of, shape_of, any_of, condition_of, Are, no_term, one_term, AreSteps, property_node, IsLeaf, IsNegatedIf, as_it_is, negated, Makes, IsEnd, open_text, day_text, day_name, Draws, Means, Mean, leaf_means, node_means, literal_means, no_more, one_more}
use Rattle.cql_types.proofs.LiteralLemmas.{numbers_once, outline_once, two_equal}
use Rattle.cad_shape.specs.lemmas.SameLemmas.{same_point}
use Rattle.cad_shape.specs.lemmas.SameLemmas.{same_bounds}
use Rattle.cad_day.specs.lemmas.SameLemmas.{same_day}
use Rattle.cql_types.proofs.Faults.{same_ok}
use Rattle.cql_types.proofs.Terms.{is_true}

-- ---- what a node is, without where it lies in memory

pub record Sense : Type 0 where
  pub kind : Kind
  pub whole : Option NumericExpression
  pub text : Option CharacterExpression
  pub pattern : Option CharacterExpression
  pub day : Option DayTerm
  pub flag : Option FlagTerm
  pub span : Option SpanTerm
  pub shape : Option ShapeTerm
  pub any : Option ScalarExpression
  pub condition : Option Condition

abbrev sense : Node → Sense
sense x = record {
  kind = kind_of x;
  whole = option_map numeric (whole_of x);
  text = option_map character (text_of x);
  pattern = option_map character (pattern_of x);
  day = day_of x;
  flag = flag_of x;
  span = span_of x;
  shape = shape_of x;
  any = option_map scalar (any_of x);
  condition = option_map condition_in (condition_of x);
}

pub record Matches (x y : Node) : Type 0 where
  pub senses : sense x ≡ sense y

other_way : {x y : Node} → Matches x y → Matches y x
other_way e = record { senses = sym e.senses }

same_some : {A : Type 0} {a b : A} → Some a ≡ Some b → a ≡ b
same_some e = cc

-- what two nodes are as a term of one kind
seen : {A V : Type 0} (view : A → V) {o p : Option A} {a b : A} → option_map view o ≡ option_map view p → o ≡ Some a → p ≡ Some b → view a ≡ view b
seen view e f g = same_some (sym (ap (option_map view) f) ∙ (e ∙ ap (option_map view) g))

seen_alone : {A : Type 0} {o p : Option A} {a b : A} → o ≡ p → o ≡ Some a → p ≡ Some b → a ≡ b
seen_alone e f g = cc

whole_seen : {x y : Node} {a b : WholeTerm} → Matches x y → whole_of x ≡ Some a → whole_of y ≡ Some b → numeric a ≡ numeric b
whole_seen e f g = seen numeric (ap (λ (v : Sense). v.whole) e.senses) f g

text_seen : {x y : Node} {a b : TextTerm} → Matches x y → text_of x ≡ Some a → text_of y ≡ Some b → character a ≡ character b
text_seen e f g = seen character (ap (λ (v : Sense). v.text) e.senses) f g

day_seen : {x y : Node} {a b : DayTerm} → Matches x y → day_of x ≡ Some a → day_of y ≡ Some b → a ≡ b
day_seen e f g = seen_alone (ap (λ (v : Sense). v.day) e.senses) f g

flag_seen : {x y : Node} {a b : FlagTerm} → Matches x y → flag_of x ≡ Some a → flag_of y ≡ Some b → a ≡ b
flag_seen e f g = seen_alone (ap (λ (v : Sense). v.flag) e.senses) f g

pattern_seen : {x y : Node} {a b : TextTerm} → Matches x y → pattern_of x ≡ Some a → pattern_of y ≡ Some b → character a ≡ character b
pattern_seen e f g = seen character (ap (λ (v : Sense). v.pattern) e.senses) f g

span_seen : {x y : Node} {a b : SpanTerm} → Matches x y → span_of x ≡ Some a → span_of y ≡ Some b → a ≡ b
span_seen e f g = seen_alone (ap (λ (v : Sense). v.span) e.senses) f g

shape_seen : {x y : Node} {a b : ShapeTerm} → Matches x y → shape_of x ≡ Some a → shape_of y ≡ Some b → a ≡ b
shape_seen e f g = seen_alone (ap (λ (v : Sense). v.shape) e.senses) f g

any_seen : {x y : Node} {a b : AnyTerm} → Matches x y → any_of x ≡ Some a → any_of y ≡ Some b → scalar a ≡ scalar b
any_seen e f g = seen scalar (ap (λ (v : Sense). v.any) e.senses) f g

condition_seen : {x y : Node} {a b : Filter} → Matches x y → condition_of x ≡ Some a → condition_of y ≡ Some b → condition_in a ≡ condition_in b
condition_seen e f g = seen condition_in (ap (λ (v : Sense). v.condition) e.senses) f g

-- a node is of one of the kinds that are compared
alone : (k : Kind) → ((is_whole k && is_text k) ≡ false) × ((is_whole k && is_day k) ≡ false) × ((is_whole k && is_flag k) ≡ false) × ((is_text k && is_day k) ≡ false) × ((is_text k && is_flag k) ≡ false) × ((is_day k && is_flag k) ≡ false)
alone kind.whole = (refl, refl, refl, refl, refl, refl)
alone kind.text = (refl, refl, refl, refl, refl, refl)
alone kind.pattern = (refl, refl, refl, refl, refl, refl)
alone kind.day = (refl, refl, refl, refl, refl, refl)
alone kind.flag = (refl, refl, refl, refl, refl, refl)
alone kind.truth = (refl, refl, refl, refl, refl, refl)
alone kind.span = (refl, refl, refl, refl, refl, refl)
alone kind.spot = (refl, refl, refl, refl, refl, refl)
alone kind.area = (refl, refl, refl, refl, refl, refl)
alone kind.frame = (refl, refl, refl, refl, refl, refl)
alone kind.condition = (refl, refl, refl, refl, refl, refl)
alone kind.open_end = (refl, refl, refl, refl, refl, refl)
alone kind.line = (refl, refl, refl, refl, refl, refl)

of_kind : {x y : Node} (has : Kind → Bool) → Matches x y → has (kind_of x) ≡ true → has (kind_of y) ≡ true
of_kind has e h = sym (ap (λ (v : Sense). has v.kind) e.senses) ∙ h

no_whole_text : {x y : Node} {a : WholeTerm} {b : TextTerm} → Matches x y → whole_of x ≡ Some a → text_of y ≡ Some b → ⊥
no_whole_text {x} {y} e f g =
    let this = of_kind is_whole e (is_true (whole_fits x) f) in
    let that = is_true (text_fits y) g in
    let two : true ≡ false = rw (this, that) at (alone (kind_of y)).0 in
    absurd cc

no_whole_day : {x y : Node} {a : WholeTerm} {b : DayTerm} → Matches x y → whole_of x ≡ Some a → day_of y ≡ Some b → ⊥
no_whole_day {x} {y} e f g =
    let this = of_kind is_whole e (is_true (whole_fits x) f) in
    let that = is_true (day_fits y) g in
    let two : true ≡ false = rw (this, that) at (alone (kind_of y)).1 in
    absurd cc

no_whole_flag : {x y : Node} {a : WholeTerm} {b : FlagTerm} → Matches x y → whole_of x ≡ Some a → flag_of y ≡ Some b → ⊥
no_whole_flag {x} {y} e f g =
    let this = of_kind is_whole e (is_true (whole_fits x) f) in
    let that = is_true (flag_fits y) g in
    let two : true ≡ false = rw (this, that) at (alone (kind_of y)).2 in
    absurd cc

no_text_day : {x y : Node} {a : TextTerm} {b : DayTerm} → Matches x y → text_of x ≡ Some a → day_of y ≡ Some b → ⊥
no_text_day {x} {y} e f g =
    let this = of_kind is_text e (is_true (text_fits x) f) in
    let that = is_true (day_fits y) g in
    let two : true ≡ false = rw (this, that) at (alone (kind_of y)).3 in
    absurd cc

no_text_flag : {x y : Node} {a : TextTerm} {b : FlagTerm} → Matches x y → text_of x ≡ Some a → flag_of y ≡ Some b → ⊥
no_text_flag {x} {y} e f g =
    let this = of_kind is_text e (is_true (text_fits x) f) in
    let that = is_true (flag_fits y) g in
    let two : true ≡ false = rw (this, that) at (alone (kind_of y)).4 in
    absurd cc

no_day_flag : {x y : Node} {a : DayTerm} {b : FlagTerm} → Matches x y → day_of x ≡ Some a → flag_of y ≡ Some b → ⊥
no_day_flag {x} {y} e f g =
    let this = of_kind is_day e (is_true (day_fits x) f) in
    let that = is_true (flag_fits y) g in
    let two : true ≡ false = rw (this, that) at (alone (kind_of y)).5 in
    absurd cc

-- ---- the conditions of filters, by their parts

in_compare_whole : (by : Comparison) (a : WholeTerm) (b : WholeTerm) → condition_in (filter.CompareWhole by a b) ≡ c.compare_numbers by (numeric a) (numeric b)
in_compare_whole by a b = ap condition_in (sym (filter.rolls-CompareWhole by a b)) ∙ fold-roll-Filter Condition condition_step (Filter-F.CompareWhole by a b)

in_compare_text : (by : Comparison) (a : TextTerm) (b : TextTerm) → condition_in (filter.CompareText by a b) ≡ c.compare_texts by (character a) (character b)
in_compare_text by a b = ap condition_in (sym (filter.rolls-CompareText by a b)) ∙ fold-roll-Filter Condition condition_step (Filter-F.CompareText by a b)

in_compare_day : (by : Comparison) (a : DayTerm) (b : DayTerm) → condition_in (filter.CompareDay by a b) ≡ c.compare_days by a b
in_compare_day by a b = ap condition_in (sym (filter.rolls-CompareDay by a b)) ∙ fold-roll-Filter Condition condition_step (Filter-F.CompareDay by a b)

in_compare_flag : (by : Comparison) (a : FlagTerm) (b : FlagTerm) → condition_in (filter.CompareFlag by a b) ≡ c.compare_flags by a b
in_compare_flag by a b = ap condition_in (sym (filter.rolls-CompareFlag by a b)) ∙ fold-roll-Filter Condition condition_step (Filter-F.CompareFlag by a b)

in_like : (a : TextTerm) (b : TextTerm) → condition_in (filter.Like a b) ≡ c.like (character a) (character b)
in_like a b = ap condition_in (sym (filter.rolls-Like a b)) ∙ fold-roll-Filter Condition condition_step (Filter-F.Like a b)

in_between : (a : WholeTerm) (b : WholeTerm) (d : WholeTerm) → condition_in (filter.Between a b d) ≡ c.between (numeric a) (numeric b) (numeric d)
in_between a b d = ap condition_in (sym (filter.rolls-Between a b d)) ∙ fold-roll-Filter Condition condition_step (Filter-F.Between a b d)

in_whole : (a : WholeTerm) (xs : Vec WholeTerm Global) → condition_in (filter.InWhole a xs) ≡ c.among_numbers (numeric a) (map numeric xs.items)
in_whole a xs = ap condition_in (sym (filter.rolls-InWhole a xs)) ∙ fold-roll-Filter Condition condition_step (Filter-F.InWhole a xs)

in_text : (a : TextTerm) (xs : Vec TextTerm Global) → condition_in (filter.InText a xs) ≡ c.among_texts (character a) (map character xs.items)
in_text a xs = ap condition_in (sym (filter.rolls-InText a xs)) ∙ fold-roll-Filter Condition condition_step (Filter-F.InText a xs)

in_day : (a : DayTerm) (xs : Vec DayTerm Global) → condition_in (filter.InDay a xs) ≡ c.among_days a xs.items
in_day a xs = ap condition_in (sym (filter.rolls-InDay a xs)) ∙ fold-roll-Filter Condition condition_step (Filter-F.InDay a xs)

in_flag : (a : FlagTerm) (xs : Vec FlagTerm Global) → condition_in (filter.InFlag a xs) ≡ c.among_flags a xs.items
in_flag a xs = ap condition_in (sym (filter.rolls-InFlag a xs)) ∙ fold-roll-Filter Condition condition_step (Filter-F.InFlag a xs)

in_is_null : (a : AnyTerm) → condition_in (filter.IsNull a) ≡ c.is_null (scalar a)
in_is_null a = ap condition_in (sym (filter.rolls-IsNull a)) ∙ fold-roll-Filter Condition condition_step (Filter-F.IsNull a)

in_spatial : (by : SpatialRelation) (a : ShapeTerm) (b : ShapeTerm) → condition_in (filter.Spatial by a b) ≡ c.spatial by a b
in_spatial by a b = ap condition_in (sym (filter.rolls-Spatial by a b)) ∙ fold-roll-Filter Condition condition_step (Filter-F.Spatial by a b)

in_temporal : (by : Relation) (a : SpanTerm) (b : SpanTerm) → condition_in (filter.Temporal by a b) ≡ c.temporal by a b
in_temporal by a b = ap condition_in (sym (filter.rolls-Temporal by a b)) ∙ fold-roll-Filter Condition condition_step (Filter-F.Temporal by a b)

in_not : (f : Box Filter Global) → condition_in (filter.Not f) ≡ c.negation (condition_in f.value)
in_not f = ap condition_in (sym (filter.rolls-Not f)) ∙ fold-roll-Filter Condition condition_step (Filter-F.Not f)

in_and : (fs : Vec Filter Global) → condition_in (filter.And fs) ≡ c.conjunction (c.conditions_of (map condition_in fs.items))
in_and fs = ap condition_in (sym (filter.rolls-And fs)) ∙ fold-roll-Filter Condition condition_step (Filter-F.And fs)

in_or : (fs : Vec Filter Global) → condition_in (filter.Or fs) ≡ c.disjunction (c.conditions_of (map condition_in fs.items))
in_or fs = ap condition_in (sym (filter.rolls-Or fs)) ∙ fold-roll-Filter Condition condition_step (Filter-F.Or fs)

abbrev operation_in : Step → Operation × NumericExpression
operation_in step = (step.by, numeric step.term)

step_is : (step : Step) → fold-Step NumericExpression (Operation × NumericExpression) numeric_step operation_step step ≡ operation_in step
step_is step = fold_out-Step NumericExpression (Operation × NumericExpression) numeric_step operation_step step

in_computed : (first : Box WholeTerm Global) (steps : Vec Step Global) → numeric (whole.Computed first steps) ≡ c.computed (numeric first.value) (c.steps_of (map operation_in steps.items))
in_computed first steps =
    ap numeric (sym (whole.rolls-Computed first steps))
    ∙ (fold-roll-WholeTerm NumericExpression (Operation × NumericExpression) numeric_step operation_step (WholeTerm-F.Computed first steps)
    ∙ (λ i. c.computed (numeric first.value) (c.steps_of (map (λ (step : Step). step_is step i) steps.items))))

in_literal : (w : String Global) → character (text.Constant w) ≡ c.characters (string_bytes w)
in_literal w = ap character (sym (text.rolls-Constant w)) ∙ fold-roll-TextTerm CharacterExpression character_step (TextTerm-F.Constant w)

in_folded : (x : Box TextTerm Global) → character (text.Folded x) ≡ c.folded (character x.value)
in_folded x = ap character (sym (text.rolls-Folded x)) ∙ fold-roll-TextTerm CharacterExpression character_step (TextTerm-F.Folded x)

-- ---- nodes that are the same but for where they lie

same_condition : {f g : Filter} → condition_in f ≡ condition_in g → Matches (n.Condition f) (n.Condition g)
same_condition e =
    record { senses = ap (λ (v : Condition). record { kind = kind.condition; whole = None; text = None; pattern = None; day = None; flag = None; span = None; shape = None; any = None; condition = Some v }) e }

same_whole : {a b : WholeTerm} → numeric a ≡ numeric b → Matches (n.Whole a) (n.Whole b)
same_whole e =
    record { senses = ap (λ (v : NumericExpression). record { kind = kind.whole; whole = Some v; text = None; pattern = None; day = None; flag = None; span = None; shape = None; any = Some (c.of_number v); condition = None }) e }

same_text : {a b : TextTerm} → character a ≡ character b → Matches (n.Text a) (n.Text b)
same_text e =
    record { senses = ap (λ (v : CharacterExpression). record { kind = kind.text; whole = None; text = Some v; pattern = None; day = None; flag = None; span = None; shape = None; any = Some (c.of_text v); condition = None }) e }

same_pattern : {a b : TextTerm} → character a ≡ character b → Matches (n.Pattern a) (n.Pattern b)
same_pattern e =
    record { senses = ap (λ (v : CharacterExpression). record { kind = kind.pattern; whole = None; text = Some v; pattern = Some v; day = None; flag = None; span = None; shape = None; any = Some (c.of_text v); condition = None }) e }

-- ---- lists of nodes

data Alike : List Judged → List Judged → Type 0 where
  none_alike : Alike [] []
  more_alike : {i j : Judged} {js ks : List Judged} → Matches i.node j.node → Alike js ks → Alike (i ∷ js) (j ∷ ks)

terms_alike : {A V : Type 0} (view : A → V) {as_term : Node → Option A} → ((x y : Node) (a b : A) → Matches x y → as_term x ≡ Some a → as_term y ≡ Some b → view a ≡ view b) →
    {js ks : List Judged} {xs ys : List A} → Alike js ks → Are as_term js xs → Are as_term ks ys → map view xs ≡ map view ys
terms_alike view law none_alike no_term no_term = refl
terms_alike view law (more_alike {i} {j} e r) (one_term f fs) (one_term g gs) = ap₂ ◌∷◌ (law i.node j.node _ _ e f g) (terms_alike view law r fs gs)

same_terms : {A : Type 0} {as_term : Node → Option A} → ((x y : Node) (a b : A) → Matches x y → as_term x ≡ Some a → as_term y ≡ Some b → a ≡ b) →
    {js ks : List Judged} {xs ys : List A} → Alike js ks → Are as_term js xs → Are as_term ks ys → xs ≡ ys
same_terms law none_alike no_term no_term = refl
same_terms law (more_alike {i} {j} e r) (one_term f fs) (one_term g gs) = ap₂ ◌∷◌ (law i.node j.node _ _ e f g) (same_terms law r fs gs)

steps_alike : {bs : List Operation} {js ks : List Judged} {xs ys : List Step} → Alike js ks → AreSteps bs js xs → AreSteps bs ks ys → map operation_in xs ≡ map operation_in ys
steps_alike none_alike m.no_step m.no_step = refl
steps_alike (more_alike {i} {j} e r) (m.one_step b f fs) (m.one_step d g gs) =
    ap₂ ◌∷◌ (ap₂ (λ (o : Operation) (v : NumericExpression). (o, v)) (b ∙ sym d) (whole_seen e f g)) (steps_alike r fs gs)

-- ---- what is made of them

same_turned : {f g h k : Filter} {b : Bool} → condition_in f ≡ condition_in g → IsNegatedIf f b h → IsNegatedIf g b k → condition_in h ≡ condition_in k
same_turned e as_it_is as_it_is = e
same_turned e (negated x is) (negated y is_other) =
    in_not x ∙ (ap c.negation (ap condition_in is ∙ (e ∙ sym (ap condition_in is_other))) ∙ sym (in_not y))

turned_alike : {f g h k : Filter} {b : Bool} → condition_in f ≡ condition_in g → IsNegatedIf f b h → IsNegatedIf g b k → Matches (n.Condition h) (n.Condition k)
turned_alike e t u = same_condition (same_turned e t u)

computed_alike : {x y : Box WholeTerm Global} (s t : Vec Step Global) → numeric x.value ≡ numeric y.value → map operation_in s.items ≡ map operation_in t.items →
    Matches (n.Whole (whole.Computed x s)) (n.Whole (whole.Computed y t))
computed_alike {x} {y} s t e f = same_whole (in_computed x s ∙ (ap₂ (λ (v : NumericExpression) (ss : List (Operation × NumericExpression)). c.computed v (c.steps_of ss)) e f ∙ sym (in_computed y t)))

folded_same : (x y : Box TextTerm Global) → character x.value ≡ character y.value → character (text.Folded x) ≡ character (text.Folded y)
folded_same x y e = in_folded x ∙ (ap c.folded e ∙ sym (in_folded y))

between_same : {a b d f g h : NumericExpression} → a ≡ f → b ≡ g → d ≡ h → c.between a b d ≡ c.between f g h
between_same e f g = cc

no_text_pattern : {x y : Node} {a b : TextTerm} → Matches x y → x ≡ n.Text a → y ≡ n.Pattern b → ⊥
no_text_pattern e f g =
    let same : kind.text ≡ kind.pattern = sym (ap kind_of f) ∙ (ap (λ (v : Sense). v.kind) e.senses ∙ ap kind_of g) in absurd cc

same_made : {op : Op} {js ks : List Judged} {x y : Node} → Alike js ks → Makes op js x → Makes op ks y → Matches x y
same_made r (m.disjunction fs h) (m.disjunction gs k) =
    same_condition (in_or fs ∙ (ap (λ fs. c.disjunction (c.conditions_of fs)) (terms_alike condition_in (λ x y a b e f g. condition_seen e f g) r h k) ∙ sym (in_or gs)))
same_made r (m.conjunction fs h) (m.conjunction gs k) =
    same_condition (in_and fs ∙ (ap (λ fs. c.conjunction (c.conditions_of fs)) (terms_alike condition_in (λ x y a b e f g. condition_seen e f g) r h k) ∙ sym (in_and gs)))
same_made (more_alike e none_alike) (m.negation f h) (m.negation g k) =
    same_condition (in_not f ∙ (ap c.negation (condition_seen e h k) ∙ sym (in_not g)))
same_made (more_alike e (more_alike d none_alike)) (m.compare_whole {c = by} h k) (m.compare_whole l o) =
    same_condition (in_compare_whole _ _ _ ∙ (ap₂ (c.compare_numbers by) (whole_seen e h l) (whole_seen d k o) ∙ sym (in_compare_whole _ _ _)))
same_made (more_alike e (more_alike d none_alike)) (m.compare_whole h k) (m.compare_text l o) = absurd (no_whole_text e h l)
same_made (more_alike e (more_alike d none_alike)) (m.compare_whole h k) (m.compare_day l o) = absurd (no_whole_day e h l)
same_made (more_alike e (more_alike d none_alike)) (m.compare_whole h k) (m.compare_flag u l o) = absurd (no_whole_flag e h l)
same_made (more_alike e (more_alike d none_alike)) (m.compare_text h k) (m.compare_whole l o) = absurd (no_whole_text (other_way e) l h)
same_made (more_alike e (more_alike d none_alike)) (m.compare_text {c = by} h k) (m.compare_text l o) =
    same_condition (in_compare_text _ _ _ ∙ (ap₂ (c.compare_texts by) (text_seen e h l) (text_seen d k o) ∙ sym (in_compare_text _ _ _)))
same_made (more_alike e (more_alike d none_alike)) (m.compare_text h k) (m.compare_day l o) = absurd (no_text_day e h l)
same_made (more_alike e (more_alike d none_alike)) (m.compare_text h k) (m.compare_flag u l o) = absurd (no_text_flag e h l)
same_made (more_alike e (more_alike d none_alike)) (m.compare_day h k) (m.compare_whole l o) = absurd (no_whole_day (other_way e) l h)
same_made (more_alike e (more_alike d none_alike)) (m.compare_day h k) (m.compare_text l o) = absurd (no_text_day (other_way e) l h)
same_made (more_alike e (more_alike d none_alike)) (m.compare_day {c = by} h k) (m.compare_day l o) =
    same_condition (in_compare_day _ _ _ ∙ (ap₂ (c.compare_days by) (day_seen e h l) (day_seen d k o) ∙ sym (in_compare_day _ _ _)))
same_made (more_alike e (more_alike d none_alike)) (m.compare_day h k) (m.compare_flag u l o) = absurd (no_day_flag e h l)
same_made (more_alike e (more_alike d none_alike)) (m.compare_flag q h k) (m.compare_whole l o) = absurd (no_whole_flag (other_way e) l h)
same_made (more_alike e (more_alike d none_alike)) (m.compare_flag q h k) (m.compare_text l o) = absurd (no_text_flag (other_way e) l h)
same_made (more_alike e (more_alike d none_alike)) (m.compare_flag q h k) (m.compare_day l o) = absurd (no_day_flag (other_way e) l h)
same_made (more_alike e (more_alike d none_alike)) (m.compare_flag {c = by} q h k) (m.compare_flag u l o) =
    same_condition (in_compare_flag _ _ _ ∙ (ap₂ (c.compare_flags by) (flag_seen e h l) (flag_seen d k o) ∙ sym (in_compare_flag _ _ _)))
same_made (more_alike e (more_alike d none_alike)) (m.like h k t) (m.like l o u) =
    turned_alike (in_like _ _ ∙ (ap₂ c.like (text_seen e h l) (pattern_seen d k o) ∙ sym (in_like _ _))) t u
same_made (more_alike e (more_alike d (more_alike b none_alike))) (m.between h k i t) (m.between l o j u) =
    turned_alike (in_between _ _ _ ∙ (between_same (whole_seen e h l) (whole_seen d k o) (whole_seen b i j) ∙ sym (in_between _ _ _))) t u
same_made (more_alike e r) (m.in_whole xs h k t) (m.in_whole ys l o u) =
    turned_alike (in_whole _ xs ∙ (ap₂ c.among_numbers (whole_seen e h l) (terms_alike numeric (λ x y a b e f g. whole_seen e f g) r k o) ∙ sym (in_whole _ ys))) t u
same_made (more_alike e r) (m.in_whole xs h k t) (m.in_text ys l o u) = absurd (no_whole_text e h l)
same_made (more_alike e r) (m.in_whole xs h k t) (m.in_day ys l o u) = absurd (no_whole_day e h l)
same_made (more_alike e r) (m.in_whole xs h k t) (m.in_flag ys l o u) = absurd (no_whole_flag e h l)
same_made (more_alike e r) (m.in_text xs h k t) (m.in_whole ys l o u) = absurd (no_whole_text (other_way e) l h)
same_made (more_alike e r) (m.in_text xs h k t) (m.in_text ys l o u) =
    turned_alike (in_text _ xs ∙ (ap₂ c.among_texts (text_seen e h l) (terms_alike character (λ x y a b e f g. text_seen e f g) r k o) ∙ sym (in_text _ ys))) t u
same_made (more_alike e r) (m.in_text xs h k t) (m.in_day ys l o u) = absurd (no_text_day e h l)
same_made (more_alike e r) (m.in_text xs h k t) (m.in_flag ys l o u) = absurd (no_text_flag e h l)
same_made (more_alike e r) (m.in_day xs h k t) (m.in_whole ys l o u) = absurd (no_whole_day (other_way e) l h)
same_made (more_alike e r) (m.in_day xs h k t) (m.in_text ys l o u) = absurd (no_text_day (other_way e) l h)
same_made (more_alike e r) (m.in_day xs h k t) (m.in_day ys l o u) =
    turned_alike (in_day _ xs ∙ (ap₂ c.among_days (day_seen e h l) (same_terms (λ x y a b e f g. day_seen e f g) r k o) ∙ sym (in_day _ ys))) t u
same_made (more_alike e r) (m.in_day xs h k t) (m.in_flag ys l o u) = absurd (no_day_flag e h l)
same_made (more_alike e r) (m.in_flag xs h k t) (m.in_whole ys l o u) = absurd (no_whole_flag (other_way e) l h)
same_made (more_alike e r) (m.in_flag xs h k t) (m.in_text ys l o u) = absurd (no_text_flag (other_way e) l h)
same_made (more_alike e r) (m.in_flag xs h k t) (m.in_day ys l o u) = absurd (no_day_flag (other_way e) l h)
same_made (more_alike e r) (m.in_flag xs h k t) (m.in_flag ys l o u) =
    turned_alike (in_flag _ xs ∙ (ap₂ c.among_flags (flag_seen e h l) (same_terms (λ x y a b e f g. flag_seen e f g) r k o) ∙ sym (in_flag _ ys))) t u
same_made (more_alike e none_alike) (m.is_null h t) (m.is_null k u) =
    turned_alike (in_is_null _ ∙ (ap c.is_null (any_seen e h k) ∙ sym (in_is_null _))) t u
same_made (more_alike e r) (m.computed x s h k) (m.computed y t l o) = computed_alike s t (whole_seen e h l) (steps_alike r k o)
same_made (more_alike e none_alike) (m.casei x h) (m.casei y k) = same_text (folded_same x y (text_seen e (ap text_of h) (ap text_of k)))
same_made (more_alike e none_alike) (m.casei x h) (m.casei_pattern y k) = absurd (no_text_pattern e h k)
same_made (more_alike e none_alike) (m.casei_pattern x h) (m.casei y k) = absurd (no_text_pattern (other_way e) k h)
same_made (more_alike e none_alike) (m.casei_pattern x h) (m.casei_pattern y k) = same_pattern (folded_same x y (text_seen e (ap text_of h) (ap text_of k)))
same_made (more_alike e none_alike) (m.date_node h) (m.date_node k) = record { senses = ap (λ (t : DayTerm). sense (n.Day t)) (day_seen e h k) }
same_made (more_alike e (more_alike d none_alike)) (m.spatial {r = by} h k q) (m.spatial l o u) =
    same_condition (in_spatial _ _ _ ∙ (ap₂ (c.spatial by) (shape_seen e h l) (shape_seen d k o) ∙ sym (in_spatial _ _ _)))
same_made (more_alike e (more_alike d none_alike)) (m.temporal {r = by} h k) (m.temporal l o) =
    same_condition (in_temporal _ _ _ ∙ (ap₂ (c.temporal by) (span_seen e h l) (span_seen d k o) ∙ sym (in_temporal _ _ _)))

-- ---- leaves and literals

same_leaf : {s : List Named} {l : Leaf} {x y : Node} → IsLeaf s l x → IsLeaf s l y → Matches x y
same_leaf (m.property_name e) (m.property_name f) = record { senses = ap (λ (p : ℕ × PropertyKind). sense (property_node p.0 p.1)) (same_some (sym e ∙ f)) }
same_leaf (m.number e) (m.number f) = record { senses = ap (λ (z : ℤ). sense (n.Whole (whole.Constant z))) (same_ok e f) }
same_leaf (m.literal v e) (m.literal w f) = same_pattern (in_literal v ∙ (ap c.characters (e ∙ sym f) ∙ sym (in_literal w)))
same_leaf m.truth m.truth = record { senses = refl }
same_leaf (m.date a e) (m.date b f) = record { senses = ap (λ (d : Day). sense (n.Day (day.Constant d))) (same_day a b (same_some (sym e ∙ f))) }

same_end : {s : List Named} {t : Syntax} {a b : EndTerm} → IsEnd s t a → IsEnd s t b → a ≡ b
same_end (open_text e) (open_text f) = refl
same_end (open_text e) (day_text d f g) = absurd cc
same_end (day_text d f g) (open_text e) = absurd cc
same_end (day_text a e f) (day_text b g h) = ap (λ (d : Day). end.Day (day.Constant d)) (same_day a b (same_some (sym f ∙ h)))
same_end (day_name e) (day_name f) = ap (λ (p : ℕ × PropertyKind). end.Day (day.Property p.0)) (same_some (sym e ∙ f))

four_same : {a b d e z w u v : ℤ} → a ∷ b ∷ d ∷ e ∷ [] ≡ z ∷ w ∷ u ∷ v ∷ [] → (a ≡ z) × (b ≡ w) × (d ≡ u) × (e ≡ v)
four_same e = (cc, cc, cc, cc)

rings_once : {ps : Parts} {a b : List Ring} → AreRings ps a → AreRings ps b → a ≡ b
rings_once no_ring no_ring = refl
rings_once (one_ring {ring = a} h r) (one_ring {ring = b} k q) = ap₂ ◌∷◌ (outline_once a b (numbers_once h k)) (rings_once r q)

same_drawn : {s : List Named} {op : Op} {ps : Parts} {x y : Node} → Draws s op ps x → Draws s op ps y → Matches x y
same_drawn (m.interval e f h) (m.interval g i k) =
    record { senses = ap₂ (λ (a b : EndTerm). sense (n.Span (span.Interval a b))) (same_end e g) (same_end f i) }
same_drawn (m.point a h) (m.point b k) =
    let same = two_equal (numbers_once h k) in
    record { senses = ap (λ (p : Point). sense (n.Spot (place.Constant (shape.Spot p)))) (same_point a b same.0 same.1) }
same_drawn (m.region a h) (m.region b k) =
    record { senses = ap (λ r. sense (n.Area (place.Constant (shape.Area r)))) (same_region a b (rings_once h k)) }
same_drawn (m.box a h i j) (m.box b k o q) =
    let same = four_same (numbers_once h k) in
    record { senses = ap (λ (d : Bounds). sense (n.Frame (place.Constant (shape.Frame d)))) (same_bounds a b same.0 same.1 same.2 same.3) }

drawn_or_made : {s : List Named} {op : Op} {ps : Parts} {js : List Judged} {x y : Node} → Draws s op ps x → Makes op js y → ⊥
drawn_or_made (m.interval e f h) k = elim k [ ]
drawn_or_made (m.point a h) k = elim k [ ]
drawn_or_made (m.region a h) k = elim k [ ]
drawn_or_made (m.box a h i j) k = elim k [ ]

-- ---- trees

mutual
  same_meaning : {s : List Named} {t : Syntax} {x y : Node} → Means s t x → Means s t y → Matches x y
  same_meaning (leaf_means a) (leaf_means b) = same_leaf a b
  same_meaning (node_means h a) (node_means k b) = same_made (all_alike h k) a b
  same_meaning (node_means h a) (literal_means d) = absurd (drawn_or_made d a)
  same_meaning (literal_means d) (node_means h a) = absurd (drawn_or_made d a)
  same_meaning (literal_means a) (literal_means b) = same_drawn a b

  all_alike : {s : List Named} {ps : Parts} {js ks : List Judged} → Mean s ps js → Mean s ps ks → Alike js ks
  all_alike no_more no_more = none_alike
  all_alike (one_more p h r) (one_more q k o) = more_alike (same_meaning h k) (all_alike r o)

pub one_filter : HasOneFilter
one_filter s t f g (x, this, is) (y, that, is_other) = condition_seen (same_meaning this that) is is_other
