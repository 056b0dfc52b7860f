-- The grammar of filters: the BNF of CQL2 Text (OGC 21-065r2, annex B), with one rule for expressions of all kinds:
-- the grammar does not say which kind an expression has. Each rule says that the first tokens of a list spell a tree, and
-- which tokens are left.
use Rattle.std.specs.Prelude.{ℕ, Bool, true, false, List, [], ◌∷◌, ◌++◌}
use Rattle.cad_day.specs.declared.relation.Relation.{Relation}
use Rattle.cql_lexer.specs.Mark.{Sort, Mark, at, opening, closing, comma, plus, minus, times, modulo, compare, word, name, text, number}
use Rattle.cql_lexer.specs.declared.token.Comparison.{Comparison}
use Rattle.cql_lexer.specs.declared.token.SpatialRelation.{SpatialRelation}
use Rattle.cql_lexer.specs.declared.token.Keyword.TheVariants.{And, Or, Not, Like, Between, In, Is, Null, True, False, Div, Casei, Date, Interval, Point, Polygon, Bbox, Spatial, Temporal}
use Rattle.cql_tree.specs.declared.expression.Operation.{Operation}
use Rattle.cql_tree.specs.declared.expression.Operation.TheVariants as operation
use Rattle.cql_tree.specs.Syntax.{Syntax, parts_of, joined, leaf, node, name_leaf, number_leaf, text_leaf, truth_leaf, day_leaf, bound_leaf, or_op, and_op, not_op, compare_op, like_op, between_op, in_op, is_null_op, computed_op, casei_op, date_op, interval_op, point_op, polygon_op, ring_op, bbox_op, spatial_op, temporal_op}

-- whole = [ + | - ] number
pub data IsWhole : List Mark → Syntax → List Mark → Type 0 where
  number_rule : {p : ℕ} {s : List ℕ} {xs : List Mark} →
      IsWhole (at p (number s) ∷ xs) (leaf p (number_leaf false s)) xs
  plus_rule : {p q : ℕ} {s : List ℕ} {xs : List Mark} →
      IsWhole (at p plus ∷ at q (number s) ∷ xs) (leaf q (number_leaf false s)) xs
  minus_rule : {p q : ℕ} {s : List ℕ} {xs : List Mark} →
      IsWhole (at p minus ∷ at q (number s) ∷ xs) (leaf q (number_leaf true s)) xs

-- bound = text | name
pub data IsBound : List Mark → Syntax → List Mark → Type 0 where
  text_bound : {p : ℕ} {s : List ℕ} {xs : List Mark} → IsBound (at p (text s) ∷ xs) (leaf p (bound_leaf s)) xs
  name_bound : {p : ℕ} {s : List ℕ} {xs : List Mark} → IsBound (at p (name s) ∷ xs) (leaf p (name_leaf s)) xs

-- ring = "(" whole whole { "," whole whole } ")"
pub data IsCornersRest : List Mark → List Syntax → List Mark → Type 0 where
  corners_end : {p : ℕ} {xs : List Mark} → IsCornersRest (at p closing ∷ xs) [] xs
  corners_more : {p : ℕ} {x y : Syntax} {ts : List Syntax} {xs ys zs ws : List Mark} →
      IsWhole xs x ys → IsWhole ys y zs → IsCornersRest zs ts ws → IsCornersRest (at p comma ∷ xs) (x ∷ y ∷ ts) ws

pub data IsRing : List Mark → Syntax → List Mark → Type 0 where
  ring_rule : {p : ℕ} {x y : Syntax} {ts : List Syntax} {xs ys zs ws : List Mark} →
      IsWhole xs x ys → IsWhole ys y zs → IsCornersRest zs ts ws →
      IsRing (at p opening ∷ xs) (node ring_op (parts_of (x ∷ y ∷ ts))) ws

-- { "," ring } ")"
pub data IsRingsRest : List Mark → List Syntax → List Mark → Type 0 where
  rings_end : {p : ℕ} {xs : List Mark} → IsRingsRest (at p closing ∷ xs) [] xs
  rings_more : {p : ℕ} {t : Syntax} {ts : List Syntax} {xs ys zs : List Mark} →
      IsRing xs t ys → IsRingsRest ys ts zs → IsRingsRest (at p comma ∷ xs) (t ∷ ts) zs

-- [ NOT ]
pub data IsNegation : Bool → List Mark → List Mark → Type 0 where
  plain : {xs : List Mark} → IsNegation false xs xs
  negated : {p : ℕ} {xs : List Mark} → IsNegation true (at p (word Not) ∷ xs) xs

-- how an operation is written
abbrev pub operation_sort : Operation → Sort
operation_sort operation.Plus = plus
operation_sort operation.Minus = minus
operation_sort operation.Times = times
operation_sort operation.Div = word Div
operation_sort operation.Modulo = modulo

-- + | -
pub data IsAddition : Operation → Type 0 where
  plus_adds : IsAddition operation.Plus
  minus_adds : IsAddition operation.Minus

-- * | DIV | %
pub data IsMultiplication : Operation → Type 0 where
  times_multiplies : IsMultiplication operation.Times
  div_multiplies : IsMultiplication operation.Div
  modulo_multiplies : IsMultiplication operation.Modulo

mutual
  -- or = and { OR and }
  pub data IsOr : List Mark → Syntax → List Mark → Type 0 where
    or_rule : {f : Syntax} {ts : List Syntax} {xs ys zs : List Mark} →
        IsAnd xs f ys → IsOrRest ys ts zs → IsOr xs (joined or_op (f ∷ ts)) zs

  pub data IsOrRest : List Mark → List Syntax → List Mark → Type 0 where
    or_end : {xs : List Mark} → IsOrRest xs [] xs
    or_more : {p : ℕ} {t : Syntax} {ts : List Syntax} {xs ys zs : List Mark} →
        IsAnd xs t ys → IsOrRest ys ts zs → IsOrRest (at p (word Or) ∷ xs) (t ∷ ts) zs

  -- and = not { AND not }
  pub data IsAnd : List Mark → Syntax → List Mark → Type 0 where
    and_rule : {f : Syntax} {ts : List Syntax} {xs ys zs : List Mark} →
        IsNot xs f ys → IsAndRest ys ts zs → IsAnd xs (joined and_op (f ∷ ts)) zs

  pub data IsAndRest : List Mark → List Syntax → List Mark → Type 0 where
    and_end : {xs : List Mark} → IsAndRest xs [] xs
    and_more : {p : ℕ} {t : Syntax} {ts : List Syntax} {xs ys zs : List Mark} →
        IsNot xs t ys → IsAndRest ys ts zs → IsAndRest (at p (word And) ∷ xs) (t ∷ ts) zs

  -- not = [ NOT ] predicate
  pub data IsNot : List Mark → Syntax → List Mark → Type 0 where
    not_rule : {p : ℕ} {t : Syntax} {xs ys : List Mark} →
        IsPredicate xs t ys → IsNot (at p (word Not) ∷ xs) (node (not_op p) (parts_of (t ∷ []))) ys
    plain_rule : {t : Syntax} {xs ys : List Mark} → IsPredicate xs t ys → IsNot xs t ys

  -- predicate = sum [ tail ]
  pub data IsPredicate : List Mark → Syntax → List Mark → Type 0 where
    predicate_rule : {a t : Syntax} {xs ys zs : List Mark} → IsSum xs a ys → IsTail a ys t zs → IsPredicate xs t zs

  -- what may follow the value a, and the predicate that it makes:
  pub data IsTail : Syntax → List Mark → Syntax → List Mark → Type 0 where
    no_tail : {a : Syntax} {xs : List Mark} → IsTail a xs a xs
    -- ( = | <> | < | > | <= | >= ) sum
    compare_tail : {p : ℕ} {c : Comparison} {a b : Syntax} {xs ys : List Mark} → IsSum xs b ys →
        IsTail a (at p (compare c) ∷ xs) (node (compare_op c) (parts_of (a ∷ b ∷ []))) ys
    -- [ NOT ] LIKE sum
    like_tail : {p : ℕ} {n : Bool} {a b : Syntax} {xs ys zs : List Mark} →
        IsNegation n xs (at p (word Like) ∷ ys) → IsSum ys b zs →
        IsTail a xs (node (like_op n) (parts_of (a ∷ b ∷ []))) zs
    -- [ NOT ] BETWEEN sum AND sum
    between_tail : {p q : ℕ} {n : Bool} {a b c : Syntax} {xs ys zs ws : List Mark} →
        IsNegation n xs (at p (word Between) ∷ ys) → IsSum ys b (at q (word And) ∷ zs) → IsSum zs c ws →
        IsTail a xs (node (between_op n) (parts_of (a ∷ b ∷ c ∷ []))) ws
    -- [ NOT ] IN "(" sum { "," sum } ")"
    in_tail : {p q : ℕ} {n : Bool} {a b : Syntax} {ts : List Syntax} {xs ys zs ws : List Mark} →
        IsNegation n xs (at p (word In) ∷ at q opening ∷ ys) → IsSum ys b zs → IsItemsRest zs ts ws →
        IsTail a xs (node (in_op n) (parts_of (a ∷ b ∷ ts))) ws
    -- IS [ NOT ] NULL
    null_tail : {p q : ℕ} {n : Bool} {a : Syntax} {xs ys : List Mark} → IsNegation n xs (at q (word Null) ∷ ys) →
        IsTail a (at p (word Is) ∷ xs) (node (is_null_op n) (parts_of (a ∷ []))) ys

  -- { "," sum } ")"
  pub data IsItemsRest : List Mark → List Syntax → List Mark → Type 0 where
    items_end : {p : ℕ} {xs : List Mark} → IsItemsRest (at p closing ∷ xs) [] xs
    items_more : {p : ℕ} {t : Syntax} {ts : List Syntax} {xs ys zs : List Mark} →
        IsSum xs t ys → IsItemsRest ys ts zs → IsItemsRest (at p comma ∷ xs) (t ∷ ts) zs

  -- sum = product { ( + | - ) product }
  pub data IsSum : List Mark → Syntax → List Mark → Type 0 where
    sum_rule : {f : Syntax} {operations : List Operation} {ts : List Syntax} {xs ys zs : List Mark} →
        IsProduct xs f ys → IsSumRest ys operations ts zs → IsSum xs (joined (computed_op operations) (f ∷ ts)) zs

  pub data IsSumRest : List Mark → List Operation → List Syntax → List Mark → Type 0 where
    sum_end : {xs : List Mark} → IsSumRest xs [] [] xs
    sum_more : {p : ℕ} {by : Operation} {t : Syntax} {operations : List Operation} {ts : List Syntax}
        {xs ys zs : List Mark} → IsAddition by → IsProduct xs t ys → IsSumRest ys operations ts zs →
        IsSumRest (at p (operation_sort by) ∷ xs) (by ∷ operations) (t ∷ ts) zs

  -- product = primary { ( * | DIV | % ) primary }
  pub data IsProduct : List Mark → Syntax → List Mark → Type 0 where
    product_rule : {f : Syntax} {operations : List Operation} {ts : List Syntax} {xs ys zs : List Mark} →
        IsPrimary xs f ys → IsProductRest ys operations ts zs →
        IsProduct xs (joined (computed_op operations) (f ∷ ts)) zs

  pub data IsProductRest : List Mark → List Operation → List Syntax → List Mark → Type 0 where
    product_end : {xs : List Mark} → IsProductRest xs [] [] xs
    product_more : {p : ℕ} {by : Operation} {t : Syntax} {operations : List Operation} {ts : List Syntax}
        {xs ys zs : List Mark} → IsMultiplication by → IsPrimary xs t ys → IsProductRest ys operations ts zs →
        IsProductRest (at p (operation_sort by) ∷ xs) (by ∷ operations) (t ∷ ts) zs

  -- primary:
  pub data IsPrimary : List Mark → Syntax → List Mark → Type 0 where
    -- "(" or ")"
    paren_rule : {p q : ℕ} {t : Syntax} {xs ys : List Mark} →
        IsOr xs t (at q closing ∷ ys) → IsPrimary (at p opening ∷ xs) t ys
    -- name
    name_rule : {p : ℕ} {s : List ℕ} {xs : List Mark} → IsPrimary (at p (name s) ∷ xs) (leaf p (name_leaf s)) xs
    -- text
    text_rule : {p : ℕ} {s : List ℕ} {xs : List Mark} → IsPrimary (at p (text s) ∷ xs) (leaf p (text_leaf s)) xs
    -- whole
    whole_rule : {t : Syntax} {xs ys : List Mark} → IsWhole xs t ys → IsPrimary xs t ys
    -- TRUE
    true_rule : {p : ℕ} {xs : List Mark} → IsPrimary (at p (word True) ∷ xs) (leaf p (truth_leaf true)) xs
    -- FALSE
    false_rule : {p : ℕ} {xs : List Mark} → IsPrimary (at p (word False) ∷ xs) (leaf p (truth_leaf false)) xs
    -- CASEI "(" sum ")"
    casei_rule : {p q r : ℕ} {a : Syntax} {xs ys : List Mark} → IsSum xs a (at r closing ∷ ys) →
        IsPrimary (at p (word Casei) ∷ at q opening ∷ xs) (node (casei_op p) (parts_of (a ∷ []))) ys
    -- DATE "(" text ")"
    date_rule : {p q r u : ℕ} {s : List ℕ} {xs : List Mark} →
        IsPrimary (at p (word Date) ∷ at q opening ∷ at r (text s) ∷ at u closing ∷ xs)
        (node (date_op p) (parts_of (leaf r (day_leaf s) ∷ []))) xs
    -- INTERVAL "(" bound "," bound ")"
    interval_rule : {p q r u : ℕ} {a b : Syntax} {xs ys zs : List Mark} →
        IsBound xs a (at r comma ∷ ys) → IsBound ys b (at u closing ∷ zs) →
        IsPrimary (at p (word Interval) ∷ at q opening ∷ xs) (node (interval_op p) (parts_of (a ∷ b ∷ []))) zs
    -- POINT "(" whole whole ")"
    point_rule : {p q r : ℕ} {x y : Syntax} {xs ys zs : List Mark} → IsWhole xs x ys → IsWhole ys y (at r closing ∷ zs) →
        IsPrimary (at p (word Point) ∷ at q opening ∷ xs) (node (point_op p) (parts_of (x ∷ y ∷ []))) zs
    -- POLYGON "(" ring { "," ring } ")"
    polygon_rule : {p q : ℕ} {a : Syntax} {ts : List Syntax} {xs ys zs : List Mark} → IsRing xs a ys → IsRingsRest ys ts zs →
        IsPrimary (at p (word Polygon) ∷ at q opening ∷ xs) (node (polygon_op p) (parts_of (a ∷ ts))) zs
    -- BBOX "(" whole "," whole "," whole "," whole ")"
    bbox_rule : {p q r u v w : ℕ} {a b c d : Syntax} {xs xs' xs'' xs''' ys : List Mark} →
        IsWhole xs a (at r comma ∷ xs') → IsWhole xs' b (at u comma ∷ xs'') →
        IsWhole xs'' c (at v comma ∷ xs''') → IsWhole xs''' d (at w closing ∷ ys) →
        IsPrimary (at p (word Bbox) ∷ at q opening ∷ xs) (node (bbox_op p) (parts_of (a ∷ b ∷ c ∷ d ∷ []))) ys
    -- S_name "(" sum "," sum ")"
    spatial_rule : {p q r u : ℕ} {c : SpatialRelation} {a b : Syntax} {xs ys zs : List Mark} →
        IsSum xs a (at r comma ∷ ys) → IsSum ys b (at u closing ∷ zs) →
        IsPrimary (at p (word (Spatial c)) ∷ at q opening ∷ xs) (node (spatial_op p c) (parts_of (a ∷ b ∷ []))) zs
    -- T_name "(" sum "," sum ")"
    temporal_rule : {p q r u : ℕ} {c : Relation} {a b : Syntax} {xs ys zs : List Mark} →
        IsSum xs a (at r comma ∷ ys) → IsSum ys b (at u closing ∷ zs) →
        IsPrimary (at p (word (Temporal c)) ∷ at q opening ∷ xs) (node (temporal_op p c) (parts_of (a ∷ b ∷ []))) zs

-- the tokens spell the tree
abbrev pub Reads : List Mark → Syntax → Type 0
Reads tokens tree = IsOr tokens tree []

-- some tokens after these make a filter
abbrev pub IsViable : List Mark → Type 0
IsViable tokens = (more : List Mark) × (tree : Syntax) × Reads (tokens ++ more) tree
