-- What the first token begins.
use Rattle.std.specs.Prelude.{◌≡◌, ℕ, Bool, true, false, ◌<◌, length, List, [], ◌∷◌, string_bytes, if◌then◌else◌}
use Rattle.cql_lexer.specs.Mark.{Mark, marks, at, opening, plus, minus, compare, word, name, text, number}
use Rattle.cql_lexer.specs.declared.token.Keyword.{Keyword}
use Rattle.cql_lexer.specs.declared.token.Keyword.TheVariants as keyword
use Rattle.cql_tree.specs.Syntax.{Op, spatial_op, temporal_op}
use Rattle.cql_parser.specs.inner.Descent.{Begins}
use Rattle.cql_parser.specs.declared.start.TailStart.{TailStart}
use Rattle.cql_parser.specs.declared.start.TailStart.TheVariants.{Compared, Liked, Ranged, Listed, Tested, Broken, NoTail}
use Rattle.cql_parser.specs.declared.start.CallStart.{CallStart}
use Rattle.cql_parser.specs.declared.start.CallStart.TheVariants.{Paren, Folded, Paired, NoCall}
use Rattle.cql_parser.specs.declared.start.Pairing.{Pairing}
use Rattle.cql_parser.specs.declared.start.Pairing.TheVariants.{Spatial, Temporal}
use Rattle.cql_parser.specs.declared.start.LiteralStart.{LiteralStart}
use Rattle.cql_parser.specs.declared.start.LiteralStart.TheVariants as literal

-- no tail begins
abbrev pub IsNoTail : List Mark → Type 0
IsNoTail [] = Unit {0}
IsNoTail (at p (compare c) ∷ xs) = ⊥
IsNoTail (at p (word keyword.Like) ∷ xs) = ⊥
IsNoTail (at p (word keyword.Between) ∷ xs) = ⊥
IsNoTail (at p (word keyword.In) ∷ xs) = ⊥
IsNoTail (at p (word keyword.Is) ∷ xs) = ⊥
IsNoTail (at p (word keyword.Not) ∷ xs) = ⊥
IsNoTail _ = Unit {0}

-- nothing that may follow a tail's NOT begins
abbrev pub IsNoNegated : List Mark → Type 0
IsNoNegated [] = Unit {0}
IsNoNegated (at p (word keyword.Like) ∷ xs) = ⊥
IsNoNegated (at p (word keyword.Between) ∷ xs) = ⊥
IsNoNegated (at p (word keyword.In) ∷ xs) = ⊥
IsNoNegated _ = Unit {0}

-- behind a tail's NOT
abbrev pub StartsNegated : TailStart → List Mark → Type 0
StartsNegated (Compared c rest) xs = ⊥
StartsNegated (Liked n rest) xs = (n ≡ true) × Begins (word keyword.Like) xs (marks rest.now)
StartsNegated (Ranged n rest) xs = (n ≡ true) × Begins (word keyword.Between) xs (marks rest.now)
StartsNegated (Listed n rest) xs = (n ≡ true) × Begins (word keyword.In) xs (marks rest.now)
StartsNegated (Tested rest) xs = ⊥
StartsNegated (Broken rest) xs = (marks rest.now ≡ xs) × IsNoNegated xs
StartsNegated NoTail xs = ⊥

-- a word, behind a NOT if it is negated
abbrev pub BeginsNegated : Bool → Keyword → List Mark → List Mark → Type 0
BeginsNegated false w xs ys = Begins (word w) xs ys
BeginsNegated true w [] ys = ⊥
BeginsNegated true w (at p s ∷ xs) ys = (s ≡ word keyword.Not) × Begins (word w) xs ys

abbrev pub StartsTail : TailStart → List Mark → Type 0
StartsTail (Compared c rest) xs = Begins (compare c) xs (marks rest.now)
StartsTail (Liked n rest) xs = BeginsNegated n keyword.Like xs (marks rest.now)
StartsTail (Ranged n rest) xs = BeginsNegated n keyword.Between xs (marks rest.now)
StartsTail (Listed n rest) xs = BeginsNegated n keyword.In xs (marks rest.now)
StartsTail (Tested rest) xs = Begins (word keyword.Is) xs (marks rest.now)
StartsTail (Broken rest) xs = Begins (word keyword.Not) xs (marks rest.now) × IsNoNegated (marks rest.now)
StartsTail NoTail xs = IsNoTail xs

-- fewer tokens are left
abbrev pub IsShorterTail : ℕ → TailStart → Type 0
IsShorterTail n (Compared c rest) = length rest.now < n
IsShorterTail n (Liked b rest) = length rest.now < n
IsShorterTail n (Ranged b rest) = length rest.now < n
IsShorterTail n (Listed b rest) = length rest.now < n
IsShorterTail n (Tested rest) = length rest.now < n
IsShorterTail n (Broken rest) = Unit {0}
IsShorterTail n NoTail = Unit {0}

abbrev pub word_of : Pairing → Keyword
word_of (Spatial c) = keyword.Spatial c
word_of (Temporal c) = keyword.Temporal c

abbrev pub pair_op : ℕ → Pairing → Op
pair_op p (Spatial c) = spatial_op p c
pair_op p (Temporal c) = temporal_op p c

-- neither a parenthesis nor a function begins
abbrev pub IsNoCall : List Mark → Type 0
IsNoCall [] = Unit {0}
IsNoCall (at p opening ∷ xs) = ⊥
IsNoCall (at p (word keyword.Casei) ∷ xs) = ⊥
IsNoCall (at p (word (keyword.Spatial c)) ∷ xs) = ⊥
IsNoCall (at p (word (keyword.Temporal c)) ∷ xs) = ⊥
IsNoCall _ = Unit {0}

abbrev pub StartsCall : CallStart → List Mark → Type 0
StartsCall (Paren rest) xs = Begins opening xs (marks rest.now)
StartsCall (Folded p rest) xs = xs ≡ at p (word keyword.Casei) ∷ marks rest.now
StartsCall (Paired p by rest) xs = xs ≡ at p (word (word_of by)) ∷ marks rest.now
StartsCall NoCall xs = IsNoCall xs

abbrev pub IsShorterCall : ℕ → CallStart → Type 0
IsShorterCall n (Paren rest) = length rest.now < n
IsShorterCall n (Folded p rest) = length rest.now < n
IsShorterCall n (Paired p by rest) = length rest.now < n
IsShorterCall n NoCall = Unit {0}

-- neither a name nor a literal begins
abbrev pub IsNoLiteral : List Mark → Type 0
IsNoLiteral [] = Unit {0}
IsNoLiteral (at p (name s) ∷ xs) = ⊥
IsNoLiteral (at p (text s) ∷ xs) = ⊥
IsNoLiteral (at p (number s) ∷ xs) = ⊥
IsNoLiteral (at p plus ∷ xs) = ⊥
IsNoLiteral (at p minus ∷ xs) = ⊥
IsNoLiteral (at p (word keyword.True) ∷ xs) = ⊥
IsNoLiteral (at p (word keyword.False) ∷ xs) = ⊥
IsNoLiteral (at p (word keyword.Date) ∷ xs) = ⊥
IsNoLiteral (at p (word keyword.Interval) ∷ xs) = ⊥
IsNoLiteral (at p (word keyword.Point) ∷ xs) = ⊥
IsNoLiteral (at p (word keyword.Polygon) ∷ xs) = ⊥
IsNoLiteral (at p (word keyword.Bbox) ∷ xs) = ⊥
IsNoLiteral _ = Unit {0}

abbrev pub StartsLiteral : LiteralStart → List Mark → Type 0
StartsLiteral (literal.Name p s rest) xs = xs ≡ at p (name (string_bytes s.now)) ∷ marks rest.now
StartsLiteral (literal.Text p s rest) xs = xs ≡ at p (text (string_bytes s.now)) ∷ marks rest.now
StartsLiteral (literal.Truth p b rest) xs =
    xs ≡ at p (word (if b then keyword.True else keyword.False)) ∷ marks rest.now
StartsLiteral (literal.Number p s rest) xs = xs ≡ at p (number (string_bytes s.now)) ∷ marks rest.now
StartsLiteral (literal.Sign n rest) xs = Begins (if n then minus else plus) xs (marks rest.now)
StartsLiteral (literal.Date p rest) xs = xs ≡ at p (word keyword.Date) ∷ marks rest.now
StartsLiteral (literal.Interval p rest) xs = xs ≡ at p (word keyword.Interval) ∷ marks rest.now
StartsLiteral (literal.Point p rest) xs = xs ≡ at p (word keyword.Point) ∷ marks rest.now
StartsLiteral (literal.Polygon p rest) xs = xs ≡ at p (word keyword.Polygon) ∷ marks rest.now
StartsLiteral (literal.Bbox p rest) xs = xs ≡ at p (word keyword.Bbox) ∷ marks rest.now
StartsLiteral literal.NoLiteral xs = IsNoLiteral xs

abbrev pub IsShorterLiteral : ℕ → LiteralStart → Type 0
IsShorterLiteral n (literal.Name p s rest) = length rest.now < n
IsShorterLiteral n (literal.Text p s rest) = length rest.now < n
IsShorterLiteral n (literal.Truth p b rest) = length rest.now < n
IsShorterLiteral n (literal.Number p s rest) = length rest.now < n
IsShorterLiteral n (literal.Sign b rest) = length rest.now < n
IsShorterLiteral n (literal.Date p rest) = length rest.now < n
IsShorterLiteral n (literal.Interval p rest) = length rest.now < n
IsShorterLiteral n (literal.Point p rest) = length rest.now < n
IsShorterLiteral n (literal.Polygon p rest) = length rest.now < n
IsShorterLiteral n (literal.Bbox p rest) = length rest.now < n
IsShorterLiteral n literal.NoLiteral = Unit {0}
