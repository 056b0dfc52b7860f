use Rattle.std.proofs.Common.{◌∙◌, sym, arith, true≢false}
use Rattle.cad_feature.proofs.EntryLemmas.{alike_more}
use Rattle.cad_feature.proofs.entry_names.last_turn_among.Goals as goal
use Rattle.cad_feature.proofs.entry_names.last_turn_among.Goals.{then-is_of, else-is_of}

pub loop-entry-preserved : goal.loop-entry-preserved
loop-entry-preserved c =
    let low = c.loop-entry.turn in
    let es = c.args.near.now in
    let e = c.entry-item.result in
    elim c.if-is_of.branch [
      | then-is_of w ↦ rw w.turn-is (record {
        within = w.later-turn.ensures.within c.args.most c.loop-entry.invariant.within w.last_turn_of.ensures.within;
        alike = alike_more low w.later-turn.result c.args.most c.args.object c.args.day es c.loop-entry.entry-index e c.loop-entry-test.true c.entry-item.is w.later-turn.ensures.one c.loop-entry.invariant.alike
            (λ own n k l. w.last_turn_of.ensures.alike n (omega (arith, k, w.later-turn.ensures.other)) l);
      })
      | else-is_of w ↦ rw w.turn-is (record {
        within = c.loop-entry.invariant.within;
        alike = alike_more low low c.args.most c.args.object c.args.day es c.loop-entry.entry-index e c.loop-entry-test.true c.entry-item.is (omega arith) c.loop-entry.invariant.alike
            (λ own. absurd (true≢false (sym own ∙ sym c.is_of.ensures ∙ w.if-is_of.false)));
      })
    ]
