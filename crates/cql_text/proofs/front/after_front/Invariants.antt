use Rattle.std.proofs.Common.{◌≡◌}
use Rattle.std.specs.Prelude.{chars, string_len}
use Rattle.cql_text.specs.Fronts.{next_front, text_of}
use Rattle.cql_text.proofs.front.after_front.Given as goal

abbrev pub invariant-last : goal.invariant-last
invariant-last l = next_front (chars l.fn.front) ≡ next_front (text_of l.end)

abbrev pub decreases-last : goal.decreases-last
decreases-last l = string_len l.end
