use Rattle.std.proofs.Common.{◌≡◌, ◌∷◌, [], ◌++◌, List, length}
use Rattle.std.specs.Prelude.{chars, MatchOption}
use denote.Shadow.{shadow}
use denote.Text.{Utf8}
use Rattle.cql_text.specs.Patterns.{Piece, pieces}
use Rattle.cql_text.specs.inner.Parts.{piece_of}
use Rattle.cql_text.proofs.ends.last_part.Given as goal

abbrev pub invariant-parts : goal.invariant-parts
invariant-parts l = record {
  before : MatchOption l.last (pieces (chars l.fn.pattern) ≡ pieces (chars l.left)) (λ part. (front : List Piece) × (pieces (chars l.fn.pattern) ≡ (front ++ piece_of part ∷ []) ++ pieces (chars l.left)));
  left_text : shadow (Utf8 l.left);
}

abbrev pub decreases-parts : goal.decreases-parts
decreases-parts l = length (pieces (chars l.left))
