use Rattle.std.proofs.Common.{length, ap, arith}
use Rattle.cad_index.specs.Layers.{LayerFeatures}
use Rattle.cad_index.specs.Moments.{is_shown_at}
use Rattle.cad_index.proofs.PeriodLemmas.{all_pass}
use Rattle.cad_index.proofs.base.Base.shown_at.Goals as goal

pub returns-then-count-len : goal.returns-then-count-len
returns-then-count-len c =
    let same = ap (λ (m : LayerFeatures). length m.features) c.self.view_is in
    all_pass (is_shown_at c.args.revision) c.args.self.now.features (omega (arith, c.count_at-count.ensures, c.if-count-len.true, c.len.ensures, same))

pub returns-else-count-len : goal.returns-else-count-len
returns-else-count-len c =
    let same = ap (λ (m : LayerFeatures). length m.features) c.self.view_is in (
      λ none. absurd (omega (arith, c.count_at-count.ensures, c.if-count-eq0.false, ap length none)),
      λ all. absurd (omega (arith, c.count_at-count.ensures, c.if-count-len.false, c.len.ensures, same, ap length all)),
    )
