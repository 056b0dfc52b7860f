-- The elements of a node's vectors, part for part.
use Rattle.std.proofs.Common.{◌≡◌, ◌∷◌, refl, ap, ◌∙◌}
use Rattle.std.specs.declared.alloc.Global.{Global}
use Rattle.std.specs.declared.vec.Vec.{Vec}
use Rattle.cql_tree.specs.Syntax.{part, parts_of}
use Rattle.cql_tree.specs.Views.{syntax_of, parts_in, syntaxes_of, operands_in, operands_of, operations_in, operations_of}
use Rattle.cql_tree.specs.declared.expression.Operand.{Operand}
use Rattle.cql_tree.specs.declared.expression.Expression.{Expression, Row_of-Expression, end_of-Expression, more_of-Expression, items-the_row-Expression, items_hidden-the_row-Expression-0, Row_of-Operand, end_of-Operand, more_of-Operand, items-the_row-Operand, items_hidden-the_row-Operand-1}
use Rattle.cql_tree.specs.declared.expression.Expression.TheBlock.{hidden-the_row-Expression-0, hidden-the_row-Operand-1}

row_parts : (n : _) (row : Row_of-Expression n) → parts_in row ≡ parts_of (syntaxes_of (items-the_row-Expression n row))
unfolding syntax_of
row_parts n end_of-Expression = refl
row_parts n (more_of-Expression t rest) = ap (part (syntax_of t)) (row_parts _ rest)

-- the parts of a vector
pub vec_parts : (ts : Vec Expression Global) → parts_in (hidden-the_row-Expression-0 ts) ≡ parts_of (syntaxes_of ts.items)
vec_parts ts =
    row_parts _ (hidden-the_row-Expression-0 ts) ∙
    ap (λ us. parts_of (syntaxes_of us)) (items_hidden-the_row-Expression-0 ts)

row_operands : (n : _) (row : Row_of-Operand n) → operands_in row ≡ parts_of (operands_of (items-the_row-Operand n row))
unfolding syntax_of
row_operands n end_of-Operand = refl
row_operands n (more_of-Operand by t rest) = ap (part (syntax_of t)) (row_operands _ rest)

row_operations : (n : _) (row : Row_of-Operand n) → operations_in row ≡ operations_of (items-the_row-Operand n row)
unfolding syntax_of
row_operations n end_of-Operand = refl
row_operations n (more_of-Operand by t rest) = ap (λ js. by ∷ js) (row_operations _ rest)

pub vec_operands : (ts : Vec Operand Global) → operands_in (hidden-the_row-Operand-1 ts) ≡ parts_of (operands_of ts.items)
vec_operands ts =
    row_operands _ (hidden-the_row-Operand-1 ts) ∙ ap (λ us. parts_of (operands_of us)) (items_hidden-the_row-Operand-1 ts)

pub vec_operations : (ts : Vec Operand Global) → operations_in (hidden-the_row-Operand-1 ts) ≡ operations_of ts.items
vec_operations ts =
    row_operations _ (hidden-the_row-Operand-1 ts) ∙ ap (λ us. operations_of us) (items_hidden-the_row-Operand-1 ts)
