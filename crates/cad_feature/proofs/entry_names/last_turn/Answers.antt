use Rattle.cad_feature.proofs.EntryLemmas.{name_stays}
use Rattle.cad_feature.proofs.entry_names.last_turn.Goals as goal

pub returns-in-Some-clause-stays : goal.returns-in-Some-clause-stays
returns-in-Some-clause-stays c = λ n low high.
    rw c.in-Some.is (name_stays c.args.entries.now.entries.now c.near.result.now c.in-Some.object c.args.day c.last_turn_among.result c.args.most c.near.ensures c.last_turn_among.ensures.alike n low high)
