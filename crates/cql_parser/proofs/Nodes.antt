-- What a node stands for.
use Rattle.std.proofs.Common.{◌≡◌, ℕ, Bool, false, ◌==◌, List, [], ◌∷◌, length, map, refl, ap, ◌∙◌}
use Rattle.std.specs.declared.alloc.Global.{Global}
use Rattle.std.specs.declared.boxed.Box.{Box}
use Rattle.std.specs.declared.vec.Vec.{Vec}
use Rattle.std.specs.Vec.{vec_len}
use Rattle.cql_tree.specs.Syntax.{Syntax, Op, node, part, parts_of, joined, or_op, and_op, computed_op, in_op}
use Rattle.cql_parser.specs.Machine.{in_node}
use Rattle.cql_tree.specs.Views.{syntax_of, syntaxes_of, operands_of, operations_in, operations_of}
use Rattle.cql_tree.specs.lemmas.RowLemmas.{vec_parts, vec_operands, vec_operations}
use Rattle.cql_tree.specs.declared.expression.Operand.{Operand}
use Rattle.cql_tree.specs.declared.expression.Expression.{Expression}
use Rattle.cql_tree.specs.declared.expression.Expression.TheBlock.{hidden-the_row-Operand-1}
use Rattle.cql_tree.specs.declared.expression.Expression.TheVariants.{Or, And, In, Computed}

some_joined : {A : Type 0} (op : Op) (f : Syntax) (us : List A) (to : A → Syntax) (n : ℕ) → n ≡ length us →
    false ≡ (n == 0) → node op (part f (parts_of (map to us))) ≡
    joined op (f ∷ map to us)
some_joined op f [] to n e h = let z = rw e at h in cc
some_joined op f (u ∷ us) to n e h = refl

pub or_made : (b : Box Expression Global) (ts : Vec Expression Global) → false ≡ (vec_len ts == 0) →
    syntax_of (Or b ts) ≡ joined or_op (syntax_of b.value ∷ syntaxes_of ts.items)
unfolding syntax_of
or_made b ts h =
    ap (λ ps. node or_op (part (syntax_of b.value) ps)) (vec_parts ts) ∙
    some_joined or_op (syntax_of b.value) ts.items syntax_of (vec_len ts) ts.ok.0 h

pub and_made : (b : Box Expression Global) (ts : Vec Expression Global) → false ≡ (vec_len ts == 0) →
    syntax_of (And b ts) ≡ joined and_op (syntax_of b.value ∷ syntaxes_of ts.items)
unfolding syntax_of
and_made b ts h =
    ap (λ ps. node and_op (part (syntax_of b.value) ps)) (vec_parts ts) ∙
    some_joined and_op (syntax_of b.value) ts.items syntax_of (vec_len ts) ts.ok.0 h

pub computed_made : (b : Box Expression Global) (ts : Vec Operand Global) → false ≡ (vec_len ts == 0) →
    syntax_of (Computed b ts) ≡ joined (computed_op (operations_of ts.items)) (syntax_of b.value ∷ operands_of ts.items)
unfolding syntax_of
computed_made b ts h =
    ap (λ ps. node (computed_op (operations_in (hidden-the_row-Operand-1 ts))) (part (syntax_of b.value) ps)) (vec_operands ts) ∙
    (ap (λ bs. node (computed_op bs) (part (syntax_of b.value) (parts_of (operands_of ts.items)))) (vec_operations ts) ∙
    some_joined (computed_op (operations_of ts.items)) (syntax_of b.value) ts.items (λ t. syntax_of t.tree) (vec_len ts) ts.ok.0 h)

pub in_made : (n : Bool) (a b : Box Expression Global) (ts : Vec Expression Global) →
    syntax_of (In n a b ts) ≡ in_node n (syntax_of a.value) (syntax_of b.value ∷ syntaxes_of ts.items)
unfolding syntax_of
in_made n a b ts =
    ap (λ ps. node (in_op n) (part (syntax_of a.value) (part (syntax_of b.value) ps))) (vec_parts ts)
