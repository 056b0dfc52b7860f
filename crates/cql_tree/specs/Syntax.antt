-- The tree of a filter, without its place in memory: a leaf at its place in the text, or a node over its parts.
use Rattle.std.specs.Prelude.{ℕ, Bool, List, [], ◌∷◌}
use Rattle.cad_day.specs.declared.relation.Relation.{Relation}
use Rattle.cql_lexer.specs.declared.token.Comparison.{Comparison}
use Rattle.cql_lexer.specs.declared.token.SpatialRelation.{SpatialRelation}
use Rattle.cql_tree.specs.declared.expression.Operation.{Operation}

pub data Leaf : Type 0 where
  name_leaf : (name : List ℕ) → Leaf
  number_leaf : (is_negative : Bool) → (digits : List ℕ) → Leaf
  text_leaf : (content : List ℕ) → Leaf
  truth_leaf : (value : Bool) → Leaf
  -- the text of a DATE
  day_leaf : (content : List ℕ) → Leaf
  -- a text that is an end of an INTERVAL: a day, or `..`
  bound_leaf : (content : List ℕ) → Leaf

-- what a node does with its parts; one that begins with a keyword has its place
pub data Op : Type 0 where
  or_op : Op
  and_op : Op
  not_op : (place : ℕ) → Op
  compare_op : (by : Comparison) → Op
  like_op : (is_negated : Bool) → Op
  between_op : (is_negated : Bool) → Op
  in_op : (is_negated : Bool) → Op
  is_null_op : (is_negated : Bool) → Op
  -- what is done with each part behind the first
  computed_op : (by : List Operation) → Op
  casei_op : (place : ℕ) → Op
  date_op : (place : ℕ) → Op
  interval_op : (place : ℕ) → Op
  -- x and y
  point_op : (place : ℕ) → Op
  -- the outer ring, then those of holes
  polygon_op : (place : ℕ) → Op
  -- x and y of each corner
  ring_op : Op
  -- x and y of the least corner, then of the greatest
  bbox_op : (place : ℕ) → Op
  spatial_op : (place : ℕ) → (by : SpatialRelation) → Op
  temporal_op : (place : ℕ) → (by : Relation) → Op

mutual
  pub data Syntax : Type 0 where
    leaf : (place : ℕ) → (content : Leaf) → Syntax
    node : (op : Op) → (parts : Parts) → Syntax

  pub data Parts : Type 0 where
    none : Parts
    part : Syntax → Parts → Parts

abbrev pub parts_of : List Syntax → Parts
parts_of [] = none
parts_of (t ∷ ts) = part t (parts_of ts)

-- a list of one part is that part
abbrev pub joined : Op → List Syntax → Syntax
joined op (t ∷ []) = t
joined op ts = node op (parts_of ts)

-- the place of a node, by that of its first part
abbrev pub keyed : Op → ℕ → ℕ
keyed (not_op p) first = p
keyed (casei_op p) first = p
keyed (date_op p) first = p
keyed (interval_op p) first = p
keyed (point_op p) first = p
keyed (polygon_op p) first = p
keyed (bbox_op p) first = p
keyed (spatial_op p by) first = p
keyed (temporal_op p by) first = p
keyed _ first = first

abbrev mutual
  pub place_of : Syntax → ℕ
  place_of (leaf p l) = p
  place_of (node op ps) = keyed op (place_in ps)

  pub place_in : Parts → ℕ
  place_in none = 0
  place_in (part t ts) = place_of t
