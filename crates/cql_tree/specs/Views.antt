-- A tree without its place in memory.
use Rattle.std.specs.Prelude.{List, [], ◌∷◌, map, string_bytes}
use Rattle.cql_tree.specs.Syntax.{Syntax, Parts, none, part, parts_of, leaf, node, name_leaf, number_leaf, text_leaf, truth_leaf, day_leaf, bound_leaf, or_op, and_op, not_op, compare_op, like_op, between_op, in_op, is_null_op, computed_op, casei_op, date_op, interval_op, point_op, polygon_op, ring_op, bbox_op, spatial_op, temporal_op}
use Rattle.cql_tree.specs.declared.expression.Operation.{Operation}
use Rattle.cql_tree.specs.declared.expression.Number.{Number}
use Rattle.cql_tree.specs.declared.expression.Bound.{Bound}
use Rattle.cql_tree.specs.declared.expression.Bound.TheVariants as bound
use Rattle.cql_tree.specs.declared.expression.Expression.TheVariants as tree
use Rattle.cql_tree.specs.declared.expression.Corner.{Corner}
use Rattle.cql_tree.specs.declared.expression.Ring.{Ring}
use Rattle.cql_tree.specs.declared.expression.Operand.{Operand}
use Rattle.cql_tree.specs.declared.expression.Expression.{Expression, Row_of-Expression, end_of-Expression, more_of-Expression, Row_of-Operand, end_of-Operand, more_of-Operand}
use Rattle.cql_tree.specs.declared.expression.Expression.TheVariants.{Name, Text, Truth, Or', And', Not', Compare', Like', Between', In', IsNull', Computed', Casei', Date, Interval, Point, Polygon, Bbox, Spatial', Temporal'}

abbrev pub number_of : Number → Syntax
number_of n = leaf n.place (number_leaf n.is_negative (string_bytes n.digits))

abbrev pub bound_of : Bound → Syntax
bound_of (bound.Text p s) = leaf p (bound_leaf (string_bytes s))
bound_of (bound.Name p s) = leaf p (name_leaf (string_bytes s))

-- x and y of each corner
abbrev pub numbers_of : List Corner → List Syntax
numbers_of [] = []
numbers_of (c ∷ cs) = number_of c.x ∷ number_of c.y ∷ numbers_of cs

abbrev pub ring_of : Ring → Syntax
ring_of r = node ring_op (parts_of (numbers_of r.corners.items))

abbrev pub rings_of : List Ring → List Syntax
rings_of rs = map ring_of rs

unfoldable mutual
  pub syntax_of : Expression → Syntax
  syntax_of (Name p s) = leaf p (name_leaf (string_bytes s))
  syntax_of (tree.Number n) = number_of n
  syntax_of (Text p s) = leaf p (text_leaf (string_bytes s))
  syntax_of (Truth p b) = leaf p (truth_leaf b)
  syntax_of (Or' p f shape all) = node or_op (part (syntax_of f) (parts_in all))
  syntax_of (And' p f shape all) = node and_op (part (syntax_of f) (parts_in all))
  syntax_of (Not' place p t) = node (not_op place) (part (syntax_of t) none)
  syntax_of (Compare' c p a q b) = node (compare_op c) (part (syntax_of a) (part (syntax_of b) none))
  syntax_of (Like' n p a q b) = node (like_op n) (part (syntax_of a) (part (syntax_of b) none))
  syntax_of (Between' n p a q b r c) =
      node (between_op n) (part (syntax_of a) (part (syntax_of b) (part (syntax_of c) none)))
  syntax_of (In' n p a q f shape all) = node (in_op n) (part (syntax_of a) (part (syntax_of f) (parts_in all)))
  syntax_of (IsNull' n p a) = node (is_null_op n) (part (syntax_of a) none)
  syntax_of (Computed' p f shape all) = node (computed_op (operations_in all)) (part (syntax_of f) (operands_in all))
  syntax_of (Casei' place p t) = node (casei_op place) (part (syntax_of t) none)
  syntax_of (Date p q s) = node (date_op p) (part (leaf q (day_leaf (string_bytes s))) none)
  syntax_of (Interval p a b) = node (interval_op p) (part (bound_of a) (part (bound_of b) none))
  syntax_of (Point p c) = node (point_op p) (parts_of (numbers_of (c ∷ [])))
  syntax_of (Polygon p rings) = node (polygon_op p) (parts_of (rings_of rings.items))
  syntax_of (Bbox p low high) = node (bbox_op p) (parts_of (numbers_of (low ∷ high ∷ [])))
  syntax_of (Spatial' place c p a q b) = node (spatial_op place c) (part (syntax_of a) (part (syntax_of b) none))
  syntax_of (Temporal' place c p a q b) = node (temporal_op place c) (part (syntax_of a) (part (syntax_of b) none))

  pub parts_in : {m : _} → Row_of-Expression m → Parts
  parts_in end_of-Expression = none
  parts_in (more_of-Expression t rest) = part (syntax_of t) (parts_in rest)

  pub operands_in : {m : _} → Row_of-Operand m → Parts
  operands_in end_of-Operand = none
  operands_in (more_of-Operand by t rest) = part (syntax_of t) (operands_in rest)

  pub operations_in : {m : _} → Row_of-Operand m → List Operation
  operations_in end_of-Operand = []
  operations_in (more_of-Operand by t rest) = by ∷ operations_in rest

abbrev pub syntaxes_of : List Expression → List Syntax
syntaxes_of ts = map syntax_of ts

abbrev pub operands_of : List Operand → List Syntax
operands_of ts = map (λ t. syntax_of t.tree) ts

abbrev pub operations_of : List Operand → List Operation
operations_of ts = map (λ t. t.by) ts
