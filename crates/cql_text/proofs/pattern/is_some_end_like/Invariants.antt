use Rattle.std.proofs.Common.{◌+◌, ◌*◌, length}
use Rattle.std.specs.Prelude.{chars}
use denote.Shadow.{shadow}
use denote.Text.{Utf8}
use Rattle.cql_text.specs.Patterns.{is_like, pieces, some_end}
use Rattle.cql_text.proofs.Going.{Going}
use Rattle.cql_text.proofs.pattern.is_some_end_like.Given as goal

abbrev pub invariant-walk : goal.invariant-walk
invariant-walk l = record {
  going : Going (some_end (is_like (pieces (chars l.fn.pattern))) (chars l.fn.text)) (length (pieces (chars l.fn.pattern))) (pieces (chars l.again)) (pieces (chars l.left)) (chars l.from) (chars l.rest);
  again_text : shadow (Utf8 l.again);
  from_text : shadow (Utf8 l.from);
  left_text : shadow (Utf8 l.left);
  rest_text : shadow (Utf8 l.rest);
}

abbrev pub decreases-walk : goal.decreases-walk
decreases-walk l = length (chars l.from) * (length (pieces (chars l.fn.pattern)) + 1) + length (pieces (chars l.left))
