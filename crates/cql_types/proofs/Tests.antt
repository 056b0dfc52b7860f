-- A test is one of the six kinds of nodes.
use Rattle.std.proofs.Common.{◌≡◌, ◌∙◌, ap, sym, true, false, true≢false, ℕ, Bool, Box, Vec}
use Rattle.std.specs.declared.alloc.Global.{Global}
use Rattle.cad_day.specs.declared.relation.Relation.{Relation}
use Rattle.cql_lexer.specs.declared.token.SpatialRelation.{SpatialRelation}
use Rattle.cql_tree.specs.Views.{syntax_of}
use Rattle.cql_tree.specs.declared.expression.Expression.{Expression}
use Rattle.cql_tree.specs.declared.expression.Operand.{Operand}
use Rattle.cql_tree.specs.declared.expression.Expression.TheVariants as tree
use Rattle.cql_tree.specs.declared.expression.Expression.TheOpen.{Expression-F}
use Rattle.cql_tree.specs.declared.expression.Expression.TheViews.{roll-Expression}
use Rattle.cql_tree.specs.declared.expression.Expression.TheFolds.{ind-Expression}
use Rattle.cql_types.specs.Contract.{IsTest, is_test}
use Rattle.cql_types.proofs.Trees.{syntax_of-Name, syntax_of-Number, syntax_of-Text, syntax_of-Truth, syntax_of-Or, syntax_of-And, syntax_of-Not, syntax_of-Compare, syntax_of-Computed, syntax_of-Casei, syntax_of-Date, syntax_of-Interval, syntax_of-Point, syntax_of-Polygon, syntax_of-Bbox}

-- a tree that would be of none of the six kinds
abbrev IsNone : Expression → Type 0
IsNone t = ((n : Bool) (a b : Box Expression Global) → t ≡ tree.Like n a b → ⊥)
    → ((n : Bool) (a b c : Box Expression Global) → t ≡ tree.Between n a b c → ⊥)
    → ((n : Bool) (a f : Box Expression Global) (ts : Vec Expression Global) → t ≡ tree.In n a f ts → ⊥)
    → ((n : Bool) (a : Box Expression Global) → t ≡ tree.IsNull n a → ⊥)
    → ((p : ℕ) (c : SpatialRelation) (a b : Box Expression Global) → t ≡ tree.Spatial p c a b → ⊥)
    → ((p : ℕ) (c : Relation) (a b : Box Expression Global) → t ≡ tree.Temporal p c a b → ⊥)
    → ⊥

other : {t u : Expression} → u ≡ t → is_test (syntax_of u) ≡ false → IsTest (syntax_of t) → IsNone t
other e differs is like between among null shapes times = let h = ap (λ t. is_test (syntax_of t)) e in absurd (true≢false (sym is ∙ sym h ∙ differs))

of_layer : (d : Expression-F Expression Operand) → IsTest (syntax_of (roll-Expression d)) → IsNone (roll-Expression d)
of_layer (Expression-F.Name p s) is = other (sym (tree.rolls-Name p s)) (ap is_test (syntax_of-Name p s)) is
of_layer (Expression-F.Number m) is = other (sym (tree.rolls-Number m)) (ap is_test (syntax_of-Number m)) is
of_layer (Expression-F.Text p s) is = other (sym (tree.rolls-Text p s)) (ap is_test (syntax_of-Text p s)) is
of_layer (Expression-F.Truth p b) is = other (sym (tree.rolls-Truth p b)) (ap is_test (syntax_of-Truth p b)) is
of_layer (Expression-F.Or t ts) is = other (sym (tree.rolls-Or t ts)) (ap is_test (syntax_of-Or t ts)) is
of_layer (Expression-F.And t ts) is = other (sym (tree.rolls-And t ts)) (ap is_test (syntax_of-And t ts)) is
of_layer (Expression-F.Not p t) is = other (sym (tree.rolls-Not p t)) (ap is_test (syntax_of-Not p t)) is
of_layer (Expression-F.Compare c a b) is = other (sym (tree.rolls-Compare c a b)) (ap is_test (syntax_of-Compare c a b)) is
of_layer (Expression-F.Computed t ts) is = other (sym (tree.rolls-Computed t ts)) (ap is_test (syntax_of-Computed t ts)) is
of_layer (Expression-F.Casei p t) is = other (sym (tree.rolls-Casei p t)) (ap is_test (syntax_of-Casei p t)) is
of_layer (Expression-F.Date p q s) is = other (sym (tree.rolls-Date p q s)) (ap is_test (syntax_of-Date p q s)) is
of_layer (Expression-F.Interval p a b) is = other (sym (tree.rolls-Interval p a b)) (ap is_test (syntax_of-Interval p a b)) is
of_layer (Expression-F.Point p c) is = other (sym (tree.rolls-Point p c)) (ap is_test (syntax_of-Point p c)) is
of_layer (Expression-F.Polygon p rings) is = other (sym (tree.rolls-Polygon p rings)) (ap is_test (syntax_of-Polygon p rings)) is
of_layer (Expression-F.Bbox p low high) is = other (sym (tree.rolls-Bbox p low high)) (ap is_test (syntax_of-Bbox p low high)) is
of_layer (Expression-F.Like n a b) is = λ like between among null shapes times. like n a b (tree.rolls-Like n a b)
of_layer (Expression-F.Between n a b c) is = λ like between among null shapes times. between n a b c (tree.rolls-Between n a b c)
of_layer (Expression-F.In n a t ts) is = λ like between among null shapes times. among n a t ts (tree.rolls-In n a t ts)
of_layer (Expression-F.IsNull n a) is = λ like between among null shapes times. null n a (tree.rolls-IsNull n a)
of_layer (Expression-F.Spatial p c a b) is = λ like between among null shapes times. shapes p c a b (tree.rolls-Spatial p c a b)
of_layer (Expression-F.Temporal p c a b) is = λ like between among null shapes times. times p c a b (tree.rolls-Temporal p c a b)

pub tests : (t : Expression) → IsTest (syntax_of t) → IsNone t
tests = ind-Expression (λ t. IsTest (syntax_of t) → IsNone t) (λ o. Unit {0}) (λ d y is. of_layer d) (λ d y is. tt)
