use Rattle.std.proofs.Common.{◌≡◌, length}
use Rattle.std.specs.Prelude.{chars}
use denote.Shadow.{shadow}
use denote.Text.{Utf8}
use Rattle.cql_text.specs.Fronts.{is_all_any, is_open}
use Rattle.cql_text.specs.Patterns.{pieces}
use Rattle.cql_text.proofs.front.is_only_any.Given as goal

abbrev pub invariant-any : goal.invariant-any
invariant-any l = record {
  same : is_open (pieces (chars l.fn.pattern)) ≡ is_all_any (pieces (chars l.left));
  left_text : shadow (Utf8 l.left);
}

abbrev pub decreases-any : goal.decreases-any
decreases-any l = length (pieces (chars l.left))
