use Rattle.cad_feature.proofs.RunLemmas.{numbers_rise}
use Rattle.cad_feature.proofs.objects.Objects.unmarked.Goals as goal

pub invariant_of-result-clause-rising : goal.invariant_of-result-clause-rising
invariant_of-result-clause-rising c = numbers_rise c.args.versions.now c.requires.ascending
