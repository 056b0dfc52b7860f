use Rattle.std.proofs.Common.{◌∙◌, ◌∷◌, ◌++◌, [], ap}
use Rattle.std.proofs.lemmas.List.{append_assoc}
use Rattle.cad_versions.specs.lemmas.ListLemmas.{all_weaker}
use Rattle.cad_extents.specs.Extents.{AreHeld}
use Rattle.cad_extents.proofs.extents.widen_by_all.Goals as goal

pub loop-feature-preserved : goal.loop-feature-preserved
loop-feature-preserved c = record {
  own = λ x h. c.in_ok-widen.ensures.own x (c.loop-feature.invariant.own x h);
  more =
      let done = c.loop-feature.invariant.more.0 in
      (c.in-Some.feature.now ∷ done, c.loop-feature.invariant.more.1 ∙ ap (λ l. l ++ done) c.in-Some.ensures.cases.0 ∙ append_assoc c.in-Some.behind.now (c.in-Some.feature.now ∷ []) done, (c.in_ok-widen.ensures.more, all_weaker (AreHeld c.loop-feature.extents.items) (AreHeld c.widen.new.extents.items) c.in_ok-widen.ensures.own done c.loop-feature.invariant.more.2));
}
