use Rattle.std.proofs.Common.{rules}
use Rattle.std.specs.Prelude.{chars}
use Rattle.cql_text.specs.Patterns.{pieces}
use Rattle.cql_text.proofs.EndLemmas.{part_next}
use Rattle.cql_text.proofs.ends.last_part.Goals as goal

pub parts-preserved : goal.parts-preserved
parts-preserved c = record {
  before = part_next c.parts.last (pieces (chars c.args.pattern.now)) (pieces (chars c.parts.left.now)) _ c.in-Some.part c.parts.invariant.before c.in-Some.ensures;
  left_text = search rules;
}
