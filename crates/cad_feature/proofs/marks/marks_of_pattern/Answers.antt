use Rattle.std.specs.Prelude.{chars}
use Rattle.cad_feature.proofs.FoldedLemmas.{ends_marked}
use Rattle.cad_feature.proofs.marks.marks_of_pattern.Goals as goal

pub returns-clause-none_missing : goal.returns-clause-none_missing
returns-clause-none_missing c = ends_marked _ c.args.property (chars c.args.pattern.now) c.first_literal.result c.last_literal.result c.first_literal.ensures.part c.last_literal.ensures.part c.bits_of_ends.ensures.first c.bits_of_ends.ensures.last
