-- If places ascend, a tree and the parts of a node end no earlier than they begin.
use Rattle.std.specs.Prelude.{ℕ, ◌≤◌}
use Rattle.std.proofs.Common.{arith}
use Rattle.cql_tree.specs.Order.{InOrder, leaf_in_order, node_in_order, AreInOrder, no_part, one_part}
use Rattle.cql_tree.specs.Syntax.{Syntax, Parts}

pub not_beyond : {from to : ℕ} {t : Syntax} → InOrder from t to → from ≤ to
not_beyond (leaf_in_order a b) = omega arith
not_beyond (node_in_order a b c os) = omega arith

pub are_not_beyond : {from to : ℕ} {ps : Parts} → AreInOrder from ps to → from ≤ to
are_not_beyond (no_part a) = a
are_not_beyond (one_part o os) = let a = not_beyond o in let b = are_not_beyond os in omega arith
