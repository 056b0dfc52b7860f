-- What a tree is, once its kind fits (own profile).
use Rattle.std.specs.Prelude.{◌≡◌, ◌<ℤ◌, ℕ, ℤ, Bool, true, false, List, [], ◌∷◌, Option, Some, None, Ok, Box, Vec, string_bytes, map}
use Rattle.std.specs.declared.alloc.Global.{Global}
use Rattle.std.specs.declared.string.String.{String}
use Rattle.cad_day.specs.declared.day.Day.{Day}
use Rattle.cad_day.specs.declared.relation.Relation.{Relation}
use Rattle.cad_day.specs.Days.{number_of}
use Rattle.cad_day.specs.DayTexts.{day_named}
use Rattle.cad_schema.specs.declared.property.PropertyKind.{PropertyKind}
use Rattle.cad_schema.specs.declared.property.PropertyKind.TheVariants as property
use Rattle.cad_schema.specs.Attributes.{Named}
use Rattle.cad_schema.specs.Schema.{find}
use Rattle.cad_shape.specs.declared.point.Point.{Point}
use Rattle.cad_shape.specs.declared.boxes.Bounds.{Bounds}
use Rattle.cad_shape.specs.declared.polygon.Region.{Region}
use Rattle.cad_shape.specs.declared.shape.Shape.TheVariants as shape
use Rattle.cad_shape.specs.RegionRings.{rings_of}
use Rattle.cql_lexer.specs.declared.token.Comparison.{Comparison}
use Rattle.cql_lexer.specs.declared.token.SpatialRelation.{SpatialRelation}
use Rattle.cql_tree.specs.Syntax.{Syntax, Parts, none, part, leaf, node, place_of, Leaf, name_leaf, number_leaf, text_leaf, truth_leaf, day_leaf, bound_leaf, Op, or_op, and_op, not_op, compare_op, like_op, between_op, in_op, is_null_op, computed_op, casei_op, date_op, interval_op, point_op, polygon_op, bbox_op, spatial_op, temporal_op}
use Rattle.cql_tree.specs.declared.expression.Operation.{Operation}
use Rattle.cql_types.specs.declared.filter.WholeTerm.{WholeTerm}
use Rattle.cql_types.specs.declared.filter.WholeTerm.TheVariants as whole
use Rattle.cql_types.specs.declared.filter.Step.{Step}
use Rattle.cql_types.specs.declared.filter.TextTerm.{TextTerm}
use Rattle.cql_types.specs.declared.filter.TextTerm.TheVariants as text
use Rattle.cql_types.specs.declared.filter.DayTerm.{DayTerm}
use Rattle.cql_types.specs.declared.filter.DayTerm.TheVariants as day
use Rattle.cql_types.specs.declared.filter.FlagTerm.{FlagTerm}
use Rattle.cql_types.specs.declared.filter.FlagTerm.TheVariants as flag
use Rattle.cql_types.specs.declared.filter.EndTerm.{EndTerm}
use Rattle.cql_types.specs.declared.filter.EndTerm.TheVariants as end
use Rattle.cql_types.specs.declared.filter.SpanTerm.{SpanTerm}
use Rattle.cql_types.specs.declared.filter.SpanTerm.TheVariants as span
use Rattle.cql_types.specs.declared.filter.ShapeTerm.{ShapeTerm}
use Rattle.cql_types.specs.declared.filter.ShapeTerm.TheVariants as place
use Rattle.cql_types.specs.declared.filter.AnyTerm.{AnyTerm}
use Rattle.cql_types.specs.declared.filter.AnyTerm.TheVariants as any
use Rattle.cql_types.specs.declared.filter.Filter.{Filter}
use Rattle.cql_types.specs.declared.filter.Filter.TheVariants as filter
use Rattle.cql_types.specs.declared.judged.Node.{Node}
use Rattle.cql_types.specs.declared.judged.Node.TheVariants as n
use Rattle.cql_types.specs.declared.judged.Judged.{Judged}
use Rattle.cql_types.specs.Kinds as kind
use Rattle.cql_types.specs.Kinds.{Kind, Mark, is_equality, is_open, is_related}
use Rattle.cql_types.specs.Literals.{AreNumbers, AreRings, are_turned}
use Rattle.cql_types.specs.Numbers.{written}

abbrev pub kind_of : Node → Kind
kind_of (n.Whole a) = kind.whole
kind_of (n.Text a) = kind.text
kind_of (n.Pattern a) = kind.pattern
kind_of (n.Day a) = kind.day
kind_of (n.Flag a) = kind.flag
kind_of (n.Truth b) = kind.truth
kind_of (n.Span a) = kind.span
kind_of (n.Spot a) = kind.spot
kind_of (n.Area a) = kind.area
kind_of (n.Frame a) = kind.frame
kind_of (n.Condition f) = kind.condition

abbrev pub mark_of : Judged → Mark
mark_of j = (j.place, kind_of j.node)

abbrev pub marks_of : List Judged → List Mark
marks_of js = map mark_of js

-- ---- a node as a term of one kind

abbrev pub whole_of : Node → Option WholeTerm
whole_of (n.Whole a) = Some a
whole_of _ = None

abbrev pub text_of : Node → Option TextTerm
text_of (n.Text a) = Some a
text_of (n.Pattern a) = Some a
text_of _ = None

abbrev pub pattern_of : Node → Option TextTerm
pattern_of (n.Pattern a) = Some a
pattern_of _ = None

abbrev pub day_of : Node → Option DayTerm
day_of (n.Day a) = Some a
day_of _ = None

abbrev pub flag_of : Node → Option FlagTerm
flag_of (n.Flag a) = Some a
flag_of (n.Truth b) = Some (flag.Constant b)
flag_of _ = None

abbrev pub span_of : Node → Option SpanTerm
span_of (n.Day a) = Some (span.Day a)
span_of (n.Span a) = Some a
span_of _ = None

abbrev pub shape_of : Node → Option ShapeTerm
shape_of (n.Spot a) = Some a
shape_of (n.Area a) = Some a
shape_of (n.Frame a) = Some a
shape_of _ = None

abbrev pub condition_of : Node → Option Filter
condition_of (n.Condition f) = Some f
condition_of (n.Truth b) = Some (filter.Truth b)
condition_of _ = None

-- any kind except Condition; TRUE and FALSE are flags here
abbrev pub any_of : Node → Option AnyTerm
any_of (n.Whole a) = Some (any.Whole a)
any_of (n.Text a) = Some (any.Text a)
any_of (n.Pattern a) = Some (any.Text a)
any_of (n.Day a) = Some (any.Day a)
any_of (n.Flag a) = Some (any.Flag a)
any_of (n.Truth b) = Some (any.Flag (flag.Constant b))
any_of (n.Span a) = Some (any.Span a)
any_of (n.Spot a) = Some (any.Shape a)
any_of (n.Area a) = Some (any.Shape a)
any_of (n.Frame a) = Some (any.Shape a)
any_of (n.Condition f) = None

-- each node, as a term of one kind
pub data Are {A : Type 0} (as_term : Node → Option A) : List Judged → List A → Type 0 where
  no_term : Are as_term [] []
  one_term : {j : Judged} {js : List Judged} {a : A} {xs : List A} → as_term j.node ≡ Some a → Are as_term js xs → Are as_term (j ∷ js) (a ∷ xs)

-- ---- leaves

-- the property at a place, of its kind
abbrev pub property_node : ℕ → PropertyKind → Node
property_node i property.Text = n.Text (text.Property i)
property_node i property.Whole = n.Whole (whole.Property i)
property_node i property.Flag = n.Flag (flag.Property i)
property_node i property.Day = n.Day (day.Property i)
property_node i property.Span = n.Span (span.Property i)
property_node i property.Spot = n.Spot (place.Property i)
property_node i property.Area = n.Area (place.Property i)

-- what a leaf is
pub data IsLeaf (s : List Named) : Leaf → Node → Type 0 where
  property_name : {name : List ℕ} {i : ℕ} {k : PropertyKind} → find s name ≡ Some (i, k) → IsLeaf s (name_leaf name) (property_node i k)
  number : {is_negative : Bool} {spelling : List ℕ} {z : ℤ} → written is_negative spelling ≡ Ok z → IsLeaf s (number_leaf is_negative spelling) (n.Whole (whole.Constant z))
  literal : {content : List ℕ} (w : String Global) → string_bytes w ≡ content → IsLeaf s (text_leaf content) (n.Pattern (text.Constant w))
  truth : {b : Bool} → IsLeaf s (truth_leaf b) (n.Truth b)
  date : {content : List ℕ} (d : Day) → day_named content ≡ Some (number_of d) → IsLeaf s (day_leaf content) (n.Day (day.Constant d))

-- ---- nodes over terms

-- the operations with their parts, one by one
pub data AreSteps : List Operation → List Judged → List Step → Type 0 where
  no_step : AreSteps [] [] []
  one_step : {b : Operation} {bs : List Operation} {j : Judged} {js : List Judged} {step : Step} {steps : List Step} →
      step.by ≡ b → whole_of j.node ≡ Some step.term → AreSteps bs js steps → AreSteps (b ∷ bs) (j ∷ js) (step ∷ steps)

-- a filter, or its negation
pub data IsNegatedIf (f : Filter) : Bool → Filter → Type 0 where
  as_it_is : IsNegatedIf f false f
  negated : (b : Box Filter Global) → b.value ≡ f → IsNegatedIf f true (filter.Not b)

-- what a node is, from what its parts are: one rule for each row of the table
pub data Makes : Op → List Judged → Node → Type 0 where
  disjunction : {js : List Judged} (fs : Vec Filter Global) → Are condition_of js fs.items → Makes or_op js (n.Condition (filter.Or fs))
  conjunction : {js : List Judged} (fs : Vec Filter Global) → Are condition_of js fs.items → Makes and_op js (n.Condition (filter.And fs))
  negation : {p : ℕ} {j : Judged} (f : Box Filter Global) → condition_of j.node ≡ Some f.value → Makes (not_op p) (j ∷ []) (n.Condition (filter.Not f))
  compare_whole : {c : Comparison} {i j : Judged} {x y : WholeTerm} → whole_of i.node ≡ Some x → whole_of j.node ≡ Some y → Makes (compare_op c) (i ∷ j ∷ []) (n.Condition (filter.CompareWhole c x y))
  compare_text : {c : Comparison} {i j : Judged} {x y : TextTerm} → text_of i.node ≡ Some x → text_of j.node ≡ Some y → Makes (compare_op c) (i ∷ j ∷ []) (n.Condition (filter.CompareText c x y))
  compare_day : {c : Comparison} {i j : Judged} {x y : DayTerm} → day_of i.node ≡ Some x → day_of j.node ≡ Some y → Makes (compare_op c) (i ∷ j ∷ []) (n.Condition (filter.CompareDay c x y))
  compare_flag : {c : Comparison} {i j : Judged} {x y : FlagTerm} → is_equality c ≡ true → flag_of i.node ≡ Some x → flag_of j.node ≡ Some y → Makes (compare_op c) (i ∷ j ∷ []) (n.Condition (filter.CompareFlag c x y))
  like : {is_negated : Bool} {i j : Judged} {x y : TextTerm} {f : Filter} → text_of i.node ≡ Some x → pattern_of j.node ≡ Some y →
      IsNegatedIf (filter.Like x y) is_negated f → Makes (like_op is_negated) (i ∷ j ∷ []) (n.Condition f)
  between : {is_negated : Bool} {i j k : Judged} {x y z : WholeTerm} {f : Filter} → whole_of i.node ≡ Some x → whole_of j.node ≡ Some y → whole_of k.node ≡ Some z →
      IsNegatedIf (filter.Between x y z) is_negated f → Makes (between_op is_negated) (i ∷ j ∷ k ∷ []) (n.Condition f)
  in_whole : {is_negated : Bool} {i : Judged} {js : List Judged} {x : WholeTerm} {f : Filter} (xs : Vec WholeTerm Global) → whole_of i.node ≡ Some x → Are whole_of js xs.items →
      IsNegatedIf (filter.InWhole x xs) is_negated f → Makes (in_op is_negated) (i ∷ js) (n.Condition f)
  in_text : {is_negated : Bool} {i : Judged} {js : List Judged} {x : TextTerm} {f : Filter} (xs : Vec TextTerm Global) → text_of i.node ≡ Some x → Are text_of js xs.items →
      IsNegatedIf (filter.InText x xs) is_negated f → Makes (in_op is_negated) (i ∷ js) (n.Condition f)
  in_day : {is_negated : Bool} {i : Judged} {js : List Judged} {x : DayTerm} {f : Filter} (xs : Vec DayTerm Global) → day_of i.node ≡ Some x → Are day_of js xs.items →
      IsNegatedIf (filter.InDay x xs) is_negated f → Makes (in_op is_negated) (i ∷ js) (n.Condition f)
  in_flag : {is_negated : Bool} {i : Judged} {js : List Judged} {x : FlagTerm} {f : Filter} (xs : Vec FlagTerm Global) → flag_of i.node ≡ Some x → Are flag_of js xs.items →
      IsNegatedIf (filter.InFlag x xs) is_negated f → Makes (in_op is_negated) (i ∷ js) (n.Condition f)
  is_null : {is_negated : Bool} {j : Judged} {x : AnyTerm} {f : Filter} → any_of j.node ≡ Some x →
      IsNegatedIf (filter.IsNull x) is_negated f → Makes (is_null_op is_negated) (j ∷ []) (n.Condition f)
  computed : {bs : List Operation} {j : Judged} {js : List Judged} (first : Box WholeTerm Global) (steps : Vec Step Global) → whole_of j.node ≡ Some first.value →
      AreSteps bs js steps.items → Makes (computed_op bs) (j ∷ js) (n.Whole (whole.Computed first steps))
  casei : {p : ℕ} {j : Judged} (x : Box TextTerm Global) → j.node ≡ n.Text x.value → Makes (casei_op p) (j ∷ []) (n.Text (text.Folded x))
  casei_pattern : {p : ℕ} {j : Judged} (x : Box TextTerm Global) → j.node ≡ n.Pattern x.value → Makes (casei_op p) (j ∷ []) (n.Pattern (text.Folded x))
  date_node : {p : ℕ} {j : Judged} {x : DayTerm} → day_of j.node ≡ Some x → Makes (date_op p) (j ∷ []) (n.Day x)
  spatial : {p : ℕ} {r : SpatialRelation} {i j : Judged} {x y : ShapeTerm} → shape_of i.node ≡ Some x → shape_of j.node ≡ Some y →
      is_related r (kind_of i.node) (kind_of j.node) ≡ true → Makes (spatial_op p r) (i ∷ j ∷ []) (n.Condition (filter.Spatial r x y))
  temporal : {p : ℕ} {r : Relation} {i j : Judged} {x y : SpanTerm} → span_of i.node ≡ Some x → span_of j.node ≡ Some y →
      Makes (temporal_op p r) (i ∷ j ∷ []) (n.Condition (filter.Temporal r x y))

-- ---- literals of several parts

-- an end of an INTERVAL
pub data IsEnd (s : List Named) : Syntax → EndTerm → Type 0 where
  open_text : {p : ℕ} {content : List ℕ} → is_open content ≡ true → IsEnd s (leaf p (bound_leaf content)) end.Open
  day_text : {p : ℕ} {content : List ℕ} (d : Day) → is_open content ≡ false → day_named content ≡ Some (number_of d) →
      IsEnd s (leaf p (bound_leaf content)) (end.Day (day.Constant d))
  day_name : {p : ℕ} {name : List ℕ} {i : ℕ} → find s name ≡ Some (i, property.Day) → IsEnd s (leaf p (name_leaf name)) (end.Day (day.Property i))

-- what a literal is, by its parts
pub data Draws (s : List Named) : Op → Parts → Node → Type 0 where
  interval : {p : ℕ} {t u : Syntax} {from to : EndTerm} → IsEnd s t from → IsEnd s u to → are_turned (part t (part u none)) ≡ false →
      Draws s (interval_op p) (part t (part u none)) (n.Span (span.Interval from to))
  point : {p : ℕ} {ps : Parts} (at : Point) → AreNumbers ps (at.x ∷ at.y ∷ []) → Draws s (point_op p) ps (n.Spot (place.Constant (shape.Spot at)))
  region : {p : ℕ} {ps : Parts} (area : Region) → AreRings ps (rings_of area) → Draws s (polygon_op p) ps (n.Area (place.Constant (shape.Area area)))
  box : {p : ℕ} {ps : Parts} (bounds : Bounds) → AreNumbers ps (bounds.x_min ∷ bounds.y_min ∷ bounds.x_max ∷ bounds.y_max ∷ []) →
      bounds.x_min <ℤ bounds.x_max → bounds.y_min <ℤ bounds.y_max → Draws s (bbox_op p) ps (n.Frame (place.Constant (shape.Frame bounds)))

mutual
  pub data Means (s : List Named) : Syntax → Node → Type 0 where
    leaf_means : {p : ℕ} {l : Leaf} {x : Node} → IsLeaf s l x → Means s (leaf p l) x
    node_means : {op : Op} {ps : Parts} {js : List Judged} {x : Node} → Mean s ps js → Makes op js x → Means s (node op ps) x
    literal_means : {op : Op} {ps : Parts} {x : Node} → Draws s op ps x → Means s (node op ps) x

  pub data Mean (s : List Named) : Parts → List Judged → Type 0 where
    no_more : Mean s none []
    one_more : {t : Syntax} {ts : Parts} {j : Judged} {js : List Judged} → place_of t ≡ j.place → Means s t j.node → Mean s ts js → Mean s (part t ts) (j ∷ js)

-- the filter that a tree means
abbrev pub IsFilter : List Named → Syntax → Filter → Type 0
IsFilter s t f = (x : Node) × Means s t x × (condition_of x ≡ Some f)
