-- What reading one rule says of a whole run, for any open rules around it.
use Rattle.std.specs.Prelude.{◌≡◌, ℕ, List, [], ◌∷◌, ◌++◌, Result, MatchResult}
use Rattle.std.specs.declared.alloc.Global.{Global}
use Rattle.std.specs.declared.boxed.Box.{Box}
use Rattle.cql_lexer.specs.Mark.{Sort, Mark, at, marks}
use Rattle.cql_tree.specs.Syntax.{Syntax, Op, ring_op}
use Rattle.cql_parser.specs.Machine.{Slot, whole_slot, corners_slot, sign_slot, comma_sign, ForPrimary, ring_part, State, whole, want_or, want_slot, want_slots, ring_slots, polygon_slots, spells, stops, run}
use Rattle.cql_tree.specs.Views.{syntax_of, numbers_of}
use Rattle.cql_parser.specs.declared.stop.Stop.{Stop}
use Rattle.cql_parser.specs.declared.stop.Stop.TheVariants.{Memory, At}
use Rattle.cql_parser.specs.declared.stop.Parsed.{Parsed}
use Rattle.cql_tree.specs.declared.expression.Corner.{Corner}
use Rattle.cql_tree.specs.declared.expression.Expression.{Expression}

-- no tree can come at these tokens, unless memory ran out
abbrev pub IsStopped : {K : Type 0} → (K → State) → List Mark → Stop → Type 0
IsStopped want xs Memory = Unit {0}
IsStopped {K} want xs (At rest) = (k : K) → run (want k) xs ≡ stops (marks rest.now)

-- Around any open rules k, the run goes from the state that expects the part to the state that has it, or stops.
abbrev pub Parses : {K : Type 0} → (K → State) → (K → Syntax → State) → List Mark → Result Parsed Stop → Type 0
Parses {K} want have xs result =
    MatchResult result
    (λ r. (k : K) → run (want k) xs ≡ run (have k (syntax_of r.tree.value)) (marks r.rest.now))
    (IsStopped want xs)

-- the run over all tokens ends with the tree, or stops
abbrev pub ParsesAll : List Mark → Result (Box Expression Global) Stop → Type 0
ParsesAll xs result =
    MatchResult result
    (λ t. run (want_or whole) xs ≡ spells (syntax_of t.value))
    (IsStopped (λ (k : Unit {0}). want_or whole) xs)

-- what is open around a slot: the slots after it, and the parts before it
pub data ForSlot : Type 0 where
  for_slot : (after : List Slot) → Op → (before : List Syntax) → ForPrimary → ForSlot

abbrev pub want_here : Slot → ForSlot → State
want_here s (for_slot ss op ts k) = want_slot s ss op ts k

-- behind a slot without a part
abbrev pub pass_here : ForSlot → State
pass_here (for_slot ss op ts k) = want_slots ss op ts k

-- behind one with a part
abbrev pub have_here : ForSlot → Syntax → State
have_here (for_slot ss op ts k) t = want_slots ss op (ts ++ t ∷ []) k

-- x and y, the next two numbers
abbrev pub want_corner : ForSlot → State
want_corner (for_slot ss op ts k) = want_slot whole_slot (whole_slot ∷ ss) op ts k

-- the same with a comma between them
abbrev pub want_pair : ForSlot → State
want_pair (for_slot ss op ts k) = want_slot whole_slot (sign_slot comma_sign ∷ whole_slot ∷ ss) op ts k

-- behind the two
abbrev pub have_corner : ForSlot → Corner → State
have_corner (for_slot ss op ts k) c = want_slots ss op (ts ++ numbers_of (c ∷ [])) k

-- before a ring
abbrev pub want_ring : ForPrimary → State
want_ring k = want_slots ring_slots ring_op [] k

-- behind a corner
abbrev pub have_corners : List Syntax → ForPrimary → State
have_corners ts k = want_slot corners_slot [] ring_op ts k

-- what a polygon's keyword leaves
abbrev pub want_rings : (place : ℕ) → ForPrimary → State
want_rings p k = want_slots polygon_slots ring_op [] (ring_part p [] k)

-- the first token is of this sort, and these follow it
abbrev pub Begins : Sort → List Mark → List Mark → Type 0
Begins k [] ys = ⊥
Begins k (at p s ∷ xs) ys = (s ≡ k) × (xs ≡ ys)

-- no token of this sort comes first
abbrev pub BeginsNo : Sort → List Mark → Type 0
BeginsNo k xs = (ys : List Mark) → Begins k xs ys → ⊥
