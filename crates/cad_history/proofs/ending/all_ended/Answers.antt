use Rattle.std.proofs.Common.{subst}
use Rattle.std.specs.Option.{option_copied}
use Rattle.std.proofs.lemmas.List.{nil_from_length}
use Rattle.cad_feature.specs.Features.{Item, identifier_of}
use Rattle.cad_layer.specs.Identifiers.{IsTheOne}
use Rattle.cad_history.proofs.EndingLemmas.{ended_more, rest_rises, all_ended_are}
use Rattle.cad_history.proofs.ending.all_ended.Goals as goal

pub loop-feature-preserved : goal.loop-feature-preserved
loop-feature-preserved c = record {
  so_far = ended_more _ _ _ c.in-Some.ensures.cases.0 c.loop-feature.invariant.rises c.args.revision c.args.newest.now.features (option_copied c.feature-row.result) c.loop-feature.all.items _ _ c.collection-collection.ensures.listed.ascending
      (subst (λ (x : Item). IsTheOne (identifier_of x) c.args.newest.now.features (option_copied c.feature-row.result)) c.feature.view_is c.feature-row.ensures)
      c.loop-feature.invariant.so_far c.in_ok-push_ended.ensures;
  rises = rest_rises _ _ _ c.in-Some.ensures.cases.0 c.loop-feature.invariant.rises;
}

pub returns : goal.returns
returns c = all_ended_are c.args.revision c.args.newest.now.features _ c.loop-feature.all.items _ (nil_from_length _ c.in_default.ensures.cases) c.loop-feature.invariant.so_far
