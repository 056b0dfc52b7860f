-- Places ascend in the order of reading.
use Rattle.std.specs.Prelude.{ℕ, ◌<◌, ◌≤◌}
pub use Rattle.cql_lexer.specs.Order.{Ascend}
use Rattle.cql_tree.specs.Syntax.{Syntax, Parts, none, part, leaf, node, Leaf, Op, keyed, place_in}

mutual
  -- the places of the tree are from one on and below another, in order: a keyword before its parts, and each part before
  -- the next
  pub data InOrder : ℕ → Syntax → ℕ → Type 0 where
    leaf_in_order : {from to p : ℕ} {l : Leaf} → from ≤ p → p < to → InOrder from (leaf p l) to
    node_in_order : {from to : ℕ} {op : Op} {ps : Parts} → from ≤ keyed op (place_in ps) →
        keyed op (place_in ps) ≤ place_in ps → place_in ps < to → AreInOrder (place_in ps) ps to →
        InOrder from (node op ps) to

  pub data AreInOrder : ℕ → Parts → ℕ → Type 0 where
    no_part : {from to : ℕ} → from ≤ to → AreInOrder from none to
    one_part : {from middle to : ℕ} {t : Syntax} {ts : Parts} → InOrder from t middle → AreInOrder middle ts to →
        AreInOrder from (part t ts) to

-- the tree's places ascend: a fact with only one proof, so that a type can keep it
abbrev pub IsOrdered : Syntax → Type 0
IsOrdered t = ∥ ((from : ℕ) × (to : ℕ) × InOrder from t to) ∥₁
