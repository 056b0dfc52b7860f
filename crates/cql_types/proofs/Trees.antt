-- The views of a tree's nodes.
use Rattle.std.proofs.Common.{◌≡◌, ◌<◌, ◌+◌, ℕ, Bool, List, [], ◌∷◌, length, get_or, drop, drop-cons, add-one, map, refl, ap, ◌∙◌}
use Rattle.std.specs.String.{string_bytes}
use Rattle.std.specs.declared.alloc.Global.{Global}
use Rattle.std.specs.declared.boxed.Box.{Box}
use Rattle.std.specs.declared.string.String.{String}
use Rattle.std.specs.declared.vec.Vec.{Vec}
use Rattle.cad_day.specs.declared.relation.Relation.{Relation}
use Rattle.cql_lexer.specs.declared.token.Comparison.{Comparison}
use Rattle.cql_lexer.specs.declared.token.SpatialRelation.{SpatialRelation}
use Rattle.cql_tree.specs.declared.expression.Bound.{Bound}
use Rattle.cql_tree.specs.declared.expression.Corner.{Corner}
use Rattle.cql_tree.specs.declared.expression.Operand.{Operand}
use Rattle.cql_tree.specs.declared.expression.Operation.{Operation}
use Rattle.cql_tree.specs.declared.expression.Ring.{Ring}
use Rattle.cql_tree.specs.Syntax.{Syntax, Parts, leaf, node, part, none, parts_of, name_leaf, text_leaf, truth_leaf, day_leaf, or_op, and_op, not_op, compare_op, like_op, between_op, in_op, is_null_op, computed_op, casei_op, date_op, interval_op, point_op, polygon_op, bbox_op, spatial_op, temporal_op}
use Rattle.cql_tree.specs.Views.{syntax_of, syntaxes_of, operands_of, operations_of, number_of, numbers_of, bound_of, rings_of}
use Rattle.cql_tree.specs.lemmas.RowLemmas.{vec_parts, vec_operands, vec_operations}
use Rattle.cql_tree.specs.declared.expression.Number.{Number}
use Rattle.cql_tree.specs.declared.expression.Expression.{Expression}
use Rattle.cql_tree.specs.declared.expression.Expression.TheVariants.{Name, Text, Truth, Or, And, Not, Compare, Like, Between, In, IsNull, Computed, Casei, Date, Interval, Point, Polygon, Bbox, Spatial, Temporal}
use Rattle.cql_tree.specs.declared.expression.Expression.TheVariants as tree

pub syntax_of-Name : (p : ℕ) (s : String Global) → syntax_of (Name p s) ≡ leaf p (name_leaf (string_bytes s))
unfolding syntax_of
syntax_of-Name p s = refl

pub syntax_of-Number : (m : Number) → syntax_of (tree.Number m) ≡ number_of m
unfolding syntax_of
syntax_of-Number m = refl

pub syntax_of-Text : (p : ℕ) (s : String Global) → syntax_of (Text p s) ≡ leaf p (text_leaf (string_bytes s))
unfolding syntax_of
syntax_of-Text p s = refl

pub syntax_of-Truth : (p : ℕ) (b : Bool) → syntax_of (Truth p b) ≡ leaf p (truth_leaf b)
unfolding syntax_of
syntax_of-Truth p b = refl

pub syntax_of-Or : (t : Box Expression Global) (ts : Vec Expression Global) → syntax_of (Or t ts) ≡ node or_op (part (syntax_of t.value) (parts_of (syntaxes_of ts.items)))
unfolding syntax_of
syntax_of-Or t ts = ap (λ ps. node or_op (part (syntax_of t.value) ps)) (vec_parts ts)

pub syntax_of-And : (t : Box Expression Global) (ts : Vec Expression Global) → syntax_of (And t ts) ≡ node and_op (part (syntax_of t.value) (parts_of (syntaxes_of ts.items)))
unfolding syntax_of
syntax_of-And t ts = ap (λ ps. node and_op (part (syntax_of t.value) ps)) (vec_parts ts)

pub syntax_of-Not : (p : ℕ) (t : Box Expression Global) → syntax_of (Not p t) ≡ node (not_op p) (part (syntax_of t.value) none)
unfolding syntax_of
syntax_of-Not p t = refl

pub syntax_of-Compare : (c : Comparison) (a b : Box Expression Global) → syntax_of (Compare c a b) ≡ node (compare_op c) (part (syntax_of a.value) (part (syntax_of b.value) none))
unfolding syntax_of
syntax_of-Compare c a b = refl

pub syntax_of-Like : (n : Bool) (a b : Box Expression Global) → syntax_of (Like n a b) ≡ node (like_op n) (part (syntax_of a.value) (part (syntax_of b.value) none))
unfolding syntax_of
syntax_of-Like n a b = refl

pub syntax_of-Between : (n : Bool) (a b c : Box Expression Global) → syntax_of (Between n a b c) ≡ node (between_op n) (part (syntax_of a.value) (part (syntax_of b.value) (part (syntax_of c.value) none)))
unfolding syntax_of
syntax_of-Between n a b c = refl

pub syntax_of-In : (n : Bool) (a t : Box Expression Global) (ts : Vec Expression Global) → syntax_of (In n a t ts) ≡ node (in_op n) (part (syntax_of a.value) (part (syntax_of t.value) (parts_of (syntaxes_of ts.items))))
unfolding syntax_of
syntax_of-In n a t ts = ap (λ ps. node (in_op n) (part (syntax_of a.value) (part (syntax_of t.value) ps))) (vec_parts ts)

pub syntax_of-IsNull : (n : Bool) (a : Box Expression Global) → syntax_of (IsNull n a) ≡ node (is_null_op n) (part (syntax_of a.value) none)
unfolding syntax_of
syntax_of-IsNull n a = refl

computed_node : {bs cs : List Operation} {ps qs : Parts} (t : Syntax) → bs ≡ cs → ps ≡ qs → node (computed_op bs) (part t ps) ≡ node (computed_op cs) (part t qs)
computed_node t e f = cc

pub syntax_of-Computed : (t : Box Expression Global) (ts : Vec Operand Global) → syntax_of (Computed t ts) ≡ node (computed_op (operations_of ts.items)) (part (syntax_of t.value) (parts_of (operands_of ts.items)))
unfolding syntax_of
syntax_of-Computed t ts = computed_node (syntax_of t.value) (vec_operations ts) (vec_operands ts)

pub syntax_of-Casei : (p : ℕ) (t : Box Expression Global) → syntax_of (Casei p t) ≡ node (casei_op p) (part (syntax_of t.value) none)
unfolding syntax_of
syntax_of-Casei p t = refl

pub syntax_of-Date : (p q : ℕ) (s : String Global) → syntax_of (Date p q s) ≡ node (date_op p) (part (leaf q (day_leaf (string_bytes s))) none)
unfolding syntax_of
syntax_of-Date p q s = refl

pub syntax_of-Interval : (p : ℕ) (a b : Bound) → syntax_of (Interval p a b) ≡ node (interval_op p) (part (bound_of a) (part (bound_of b) none))
unfolding syntax_of
syntax_of-Interval p a b = refl

pub syntax_of-Point : (p : ℕ) (c : Corner) → syntax_of (Point p c) ≡ node (point_op p) (parts_of (numbers_of (c ∷ [])))
unfolding syntax_of
syntax_of-Point p c = refl

pub syntax_of-Polygon : (p : ℕ) (rings : Vec Ring Global) → syntax_of (Polygon p rings) ≡ node (polygon_op p) (parts_of (rings_of rings.items))
unfolding syntax_of
syntax_of-Polygon p rings = refl

pub syntax_of-Bbox : (p : ℕ) (low high : Corner) → syntax_of (Bbox p low high) ≡ node (bbox_op p) (parts_of (numbers_of (low ∷ high ∷ [])))
unfolding syntax_of
syntax_of-Bbox p low high = refl

pub syntax_of-Spatial : (p : ℕ) (c : SpatialRelation) (a b : Box Expression Global) → syntax_of (Spatial p c a b) ≡ node (spatial_op p c) (part (syntax_of a.value) (part (syntax_of b.value) none))
unfolding syntax_of
syntax_of-Spatial p c a b = refl

pub syntax_of-Temporal : (p : ℕ) (c : Relation) (a b : Box Expression Global) → syntax_of (Temporal p c a b) ≡ node (temporal_op p c) (part (syntax_of a.value) (part (syntax_of b.value) none))
unfolding syntax_of
syntax_of-Temporal p c a b = refl

-- the parts from one place on
pub parts_from : {A : Type 0} (syntax : A → Syntax) (ts : List A) (i : ℕ) (t : A) → i < length ts → t ≡ get_or ts i t →
    parts_of (map syntax (drop i ts)) ≡ part (syntax t) (parts_of (map syntax (drop (i + 1) ts)))
parts_from syntax ts i t within is =
    ap (λ us. parts_of (map syntax us)) (drop-cons ts i t within) ∙ rw (add-one, ← is)
