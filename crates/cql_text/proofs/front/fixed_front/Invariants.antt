use Rattle.std.proofs.Common.{◌≡◌, ◌++◌, length}
use Rattle.std.specs.Prelude.{chars}
use denote.Shadow.{shadow}
use denote.Text.{Utf8}
use Rattle.cql_text.specs.Fronts.{after_front, front_of}
use Rattle.cql_text.specs.Patterns.{pieces}
use Rattle.cql_text.specs.Fronts.{text_of}
use Rattle.cql_text.proofs.front.fixed_front.Given as goal

abbrev pub invariant-exact : goal.invariant-exact
invariant-exact l = record {
  front : front_of (pieces (chars l.fn.pattern)) ≡ text_of l.text ++ front_of (pieces (chars l.left));
  rest : after_front (pieces (chars l.fn.pattern)) ≡ after_front (pieces (chars l.left));
  left_text : shadow (Utf8 l.left);
}

abbrev pub decreases-exact : goal.decreases-exact
decreases-exact l = length (pieces (chars l.left))
