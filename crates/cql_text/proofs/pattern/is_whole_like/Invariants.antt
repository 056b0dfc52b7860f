use Rattle.std.proofs.Common.{◌≡◌, length}
use Rattle.std.specs.Prelude.{chars}
use denote.Shadow.{shadow}
use denote.Text.{Utf8}
use Rattle.cql_text.specs.Patterns.{is_like, pieces}
use Rattle.cql_text.proofs.pattern.is_whole_like.Given as goal

abbrev pub invariant-front : goal.invariant-front
invariant-front l = record {
  same : is_like (pieces (chars l.fn.pattern)) (chars l.fn.text) ≡ is_like (pieces (chars l.left)) (chars l.rest);
  left_text : shadow (Utf8 l.left);
  rest_text : shadow (Utf8 l.rest);
}

abbrev pub decreases-front : goal.decreases-front
decreases-front l = length (pieces (chars l.left))
