-- The kinds of trees, and what is wrong in one (OGC 21-065r2, requirements class Basic CQL2: data types of operands; the kinds of each function: own profile).
use Rattle.std.specs.Prelude.{◌≡◌, ℕ, ℤ, Bool, true, false, List, [], ◌∷◌, codes, Option, Some, None, Result, Ok, Err, if◌then◌else◌, ◌≤◌}
use Rattle.std.specs.Str.{bytes_eq}
use Rattle.cad_day.specs.DayTexts.{day_named}
use Rattle.cad_schema.specs.declared.property.PropertyKind.{PropertyKind}
use Rattle.cad_schema.specs.declared.property.PropertyKind.TheVariants as property
use Rattle.cad_schema.specs.Attributes.{Named}
use Rattle.cad_schema.specs.Schema.{find}
use Rattle.cql_lexer.specs.declared.token.Comparison.{Comparison}
use Rattle.cql_lexer.specs.declared.token.Comparison.TheVariants as by
use Rattle.cql_lexer.specs.declared.token.SpatialRelation.{SpatialRelation}
use Rattle.cql_lexer.specs.declared.token.SpatialRelation.TheVariants as spatial
use Rattle.cql_tree.specs.Syntax.{Syntax, Parts, none, part, leaf, node, place_of, place_in, keyed, Leaf, name_leaf, number_leaf, text_leaf, truth_leaf, day_leaf, bound_leaf, Op, or_op, and_op, not_op, compare_op, like_op, between_op, in_op, is_null_op, computed_op, casei_op, date_op, interval_op, point_op, polygon_op, ring_op, bbox_op, spatial_op, temporal_op}
use Rattle.cql_types.specs.declared.fault.Misuse.{Misuse}
use Rattle.cql_types.specs.declared.fault.Misuse.TheVariants as cause
use Rattle.cql_types.specs.declared.fault.Fault.{Fault}
use Rattle.cql_types.specs.Numbers.{written}
use Rattle.cql_types.specs.Literals.{IsPoint, IsPolygon, IsBox, are_turned}

pub data Kind : Type 0 where
  whole : Kind
  text : Kind
  -- a text literal, or CASEI around one: of kind Text
  pattern : Kind
  day : Kind
  flag : Kind
  -- TRUE or FALSE: of the kinds Flag and Condition
  truth : Kind
  span : Kind
  spot : Kind
  area : Kind
  frame : Kind
  condition : Kind
  -- the open end of an INTERVAL
  open_end : Kind
  -- the line around a POLYGON
  line : Kind

abbrev pub is_whole : Kind → Bool
is_whole whole = true
is_whole _ = false

abbrev pub is_text : Kind → Bool
is_text text = true
is_text pattern = true
is_text _ = false

abbrev pub is_pattern : Kind → Bool
is_pattern pattern = true
is_pattern _ = false

abbrev pub is_day : Kind → Bool
is_day day = true
is_day _ = false

abbrev pub is_flag : Kind → Bool
is_flag flag = true
is_flag truth = true
is_flag _ = false

abbrev pub is_condition : Kind → Bool
is_condition condition = true
is_condition truth = true
is_condition _ = false

-- a day, which is taken as the interval of that day, or an interval
abbrev pub is_time : Kind → Bool
is_time day = true
is_time span = true
is_time _ = false

-- an end of an INTERVAL
abbrev pub is_end : Kind → Bool
is_end day = true
is_end open_end = true
is_end _ = false

abbrev pub is_spot : Kind → Bool
is_spot spot = true
is_spot _ = false

abbrev pub is_frame : Kind → Bool
is_frame frame = true
is_frame _ = false

abbrev pub is_shape : Kind → Bool
is_shape spot = true
is_shape area = true
is_shape frame = true
is_shape _ = false

abbrev pub is_line : Kind → Bool
is_line line = true
is_line _ = false

-- any kind except `condition`, `open_end` and `line`; TRUE and FALSE are values too
abbrev pub is_value : Kind → Bool
is_value condition = false
is_value open_end = false
is_value line = false
is_value _ = true

abbrev pub kind_of_property : PropertyKind → Kind
kind_of_property property.Text = text
kind_of_property property.Whole = whole
kind_of_property property.Flag = flag
kind_of_property property.Day = day
kind_of_property property.Span = span
kind_of_property property.Spot = spot
kind_of_property property.Area = area

abbrev pub kind_of_name : Option (ℕ × PropertyKind) → Result Kind Misuse
kind_of_name None = Err cause.UnknownProperty
kind_of_name (Some found) = Ok (kind_of_property found.1)

abbrev pub kind_of_day : Option ℤ → Result Kind Misuse
kind_of_day None = Err cause.NotADate
kind_of_day (Some number) = Ok day

abbrev pub kind_of_number : Result ℤ Misuse → Result Kind Misuse
kind_of_number (Ok value) = Ok whole
kind_of_number (Err c) = Err c

abbrev pub is_open : List ℕ → Bool
is_open content = bytes_eq content (codes "..")

-- the kind of a leaf, or what is wrong with it
abbrev pub leaf_kind : List Named → Leaf → Result Kind Misuse
leaf_kind s (name_leaf name) = kind_of_name (find s name)
leaf_kind s (number_leaf is_negative spelling) = kind_of_number (written is_negative spelling)
leaf_kind s (text_leaf content) = Ok pattern
leaf_kind s (truth_leaf value) = Ok truth
leaf_kind s (day_leaf content) = kind_of_day (day_named content)
leaf_kind s (bound_leaf content) = if is_open content then Ok open_end else kind_of_day (day_named content)

-- a part: its place, and its kind
abbrev pub Mark : Type 0
Mark = ℕ × Kind

abbrev pub wrong_kind : ℕ → Fault
wrong_kind place = record { place = place; cause = cause.WrongKind }

-- the first part that is not of the kind
abbrev pub first_not : (Kind → Bool) → List Mark → Option Fault
first_not fits [] = None
first_not fits (m ∷ ms) = if fits m.1 then first_not fits ms else Some (wrong_kind m.0)

-- the same if the kind of the first part determines which kinds may follow it
abbrev pub first_unlike : (Kind → Bool) → (Kind → Kind → Bool) → List Mark → Option Fault
first_unlike fits beside [] = None
first_unlike fits beside (m ∷ ms) = if fits m.1 then first_not (beside m.1) ms else Some (wrong_kind m.0)

abbrev pub is_equality : Comparison → Bool
is_equality by.Equal = true
is_equality by.Unequal = true
is_equality _ = false

-- flags are compared only by equality
abbrev pub is_comparable : Bool → Kind → Bool
is_comparable equality whole = true
is_comparable equality text = true
is_comparable equality pattern = true
is_comparable equality day = true
is_comparable equality flag = equality
is_comparable equality truth = equality
is_comparable equality _ = false

-- what may be compared with a kind
abbrev pub is_same : Kind → Kind → Bool
is_same whole = is_whole
is_same text = is_text
is_same pattern = is_text
is_same day = is_day
is_same flag = is_flag
is_same truth = is_flag
is_same _ = is_condition

abbrev pub is_always_pattern : Kind → Kind → Bool
is_always_pattern k = is_pattern

-- the second shape of a relation, by the first one: if one is to lie within the other, the inner is a point or the outer is a box
abbrev pub is_related : SpatialRelation → Kind → Kind → Bool
is_related spatial.Intersects k = is_shape
is_related spatial.Disjoint k = is_shape
is_related spatial.Within k = if is_spot k then is_shape else is_frame
is_related spatial.Contains k = if is_frame k then is_shape else is_spot

-- the table of nodes: the first part that does not fit
abbrev pub misfit : Op → List Mark → Option Fault
misfit or_op = first_not is_condition
misfit and_op = first_not is_condition
misfit (not_op p) = first_not is_condition
misfit (compare_op c) = first_unlike (is_comparable (is_equality c)) is_same
misfit (like_op n) = first_unlike is_text is_always_pattern
misfit (between_op n) = first_not is_whole
misfit (in_op n) = first_unlike (is_comparable true) is_same
misfit (is_null_op n) = first_not is_value
misfit (computed_op by) = first_not is_whole
misfit (casei_op p) = first_not is_text
misfit (date_op p) = first_not is_day
misfit (interval_op p) = first_not is_end
misfit (point_op p) = first_not is_whole
misfit (polygon_op p) = first_not is_line
misfit ring_op = first_not is_whole
misfit (bbox_op p) = first_not is_whole
misfit (spatial_op p r) = first_unlike is_shape (is_related r)
misfit (temporal_op p r) = first_not is_time

-- CASEI around a pattern is a pattern
abbrev pub folded : List Mark → Kind
folded [] = text
folded (m ∷ ms) = if is_pattern m.1 then pattern else text

-- and the kind of a node whose parts fit
abbrev pub made : Op → List Mark → Kind
made (computed_op by) ms = whole
made (casei_op p) ms = folded ms
made (date_op p) ms = day
made (interval_op p) ms = span
made (point_op p) ms = spot
made (polygon_op p) ms = area
made ring_op ms = line
made (bbox_op p) ms = frame
made _ ms = condition

-- what a literal must be as a whole, if its parts fit
abbrev pub IsSound : Op → Parts → Type 0
IsSound (interval_op p) ps = are_turned ps ≡ false
IsSound (point_op p) ps = IsPoint ps
IsSound (polygon_op p) ps = IsPolygon ps
IsSound (bbox_op p) ps = IsBox ps
IsSound _ ps = Unit {0}

abbrev pub unsound_cause : Op → Misuse
unsound_cause (interval_op p) = cause.EndsTurned
unsound_cause _ = cause.BadShape

abbrev pub unsound : Op → Parts → Fault
unsound op ps = record { place = keyed op (place_in ps); cause = unsound_cause op }

mutual
  -- the tree has the kind: a node only if its parts have kinds that fit
  pub data Has (s : List Named) : Syntax → Kind → Type 0 where
    leaf_has : {p : ℕ} {l : Leaf} {k : Kind} → leaf_kind s l ≡ Ok k → Has s (leaf p l) k
    node_has : {op : Op} {ps : Parts} {ms : List Mark} → Have s ps ms → misfit op ms ≡ None → IsSound op ps → Has s (node op ps) (made op ms)

  -- each part has a kind: the parts' places and kinds
  pub data Have (s : List Named) : Parts → List Mark → Type 0 where
    no_more : Have s none []
    one_more : {t : Syntax} {ts : Parts} {k : Kind} {ms : List Mark} → Has s t k → Have s ts ms → Have s (part t ts) ((place_of t, k) ∷ ms)

mutual
  -- the fault is in the tree: a node is judged only if its parts have kinds
  pub data IsWrong (s : List Named) : Syntax → Fault → Type 0 where
    leaf_wrong : {p : ℕ} {l : Leaf} {c : Misuse} → leaf_kind s l ≡ Err c → IsWrong s (leaf p l) (record { place = p; cause = c })
    node_wrong : {op : Op} {ps : Parts} {ms : List Mark} {f : Fault} → Have s ps ms → misfit op ms ≡ Some f → IsWrong s (node op ps) f
    node_unsound : {op : Op} {ps : Parts} {ms : List Mark} → Have s ps ms → misfit op ms ≡ None → ¬ IsSound op ps → IsWrong s (node op ps) (unsound op ps)
    inside : {op : Op} {ps : Parts} {f : Fault} → IsWrongIn s ps f → IsWrong s (node op ps) f

  pub data IsWrongIn (s : List Named) : Parts → Fault → Type 0 where
    here : {t : Syntax} {ts : Parts} {f : Fault} → IsWrong s t f → IsWrongIn s (part t ts) f
    later : {t : Syntax} {ts : Parts} {f : Fault} → IsWrongIn s ts f → IsWrongIn s (part t ts) f

-- the tree is a condition
abbrev pub IsCondition : List Named → Syntax → Type 0
IsCondition s t = (k : Kind) × Has s t k × (is_condition k ≡ true)

-- a fault of a filter: one in its tree, or that the whole is not a condition
pub data IsFault (s : List Named) (t : Syntax) : Fault → Type 0 where
  in_tree : {f : Fault} → IsWrong s t f → IsFault s t f
  no_condition : {k : Kind} → Has s t k → is_condition k ≡ false → IsFault s t (wrong_kind (place_of t))

-- the fault with the least place
pub record IsLeast (s : List Named) (t : Syntax) (f : Fault) : Type 0 where
  pub fault : IsFault s t f
  pub least : (g : Fault) → IsFault s t g → f.place ≤ g.place
