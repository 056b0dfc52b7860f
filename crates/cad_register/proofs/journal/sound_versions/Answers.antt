use Rattle.std.proofs.Common.{◌≡◌, ◌+◌, ◌++◌, ◌∷◌, [], sym, ap, ◌∙◌, subst, length, length-append, append_assoc, arith}
use Rattle.std.proofs.lemmas.Result.{err_from_is_err_and}
use Rattle.std.specs.Vec.Iter.{into_iter_items}
use Rattle.cad_register.specs.inner.Found.{AreReadOf}
use Rattle.cad_register.proofs.DamageLemmas.{row_at}
use Rattle.cad_register.proofs.SoundRowLemmas.{AreJudgedSound, none_judged, one_judged, unsound_here, all_judged}
use Rattle.cad_register.proofs.journal.sound_versions.Goals as goal

pub loop-row-init : goal.loop-row-init
loop-row-init c = record {
  rest = sym c.into_iter-row-iterator.ensures.into_iter_gives.0;
  left = c.into_iter-row-iterator.ensures.into_iter_gives.1 ∙ c.args.found.ok.0 ∙ ap length (sym c.into_iter-row-iterator.ensures.into_iter_gives.0);
  judged = λ rows read. rw c.in_ok-versions.ensures.items (none_judged c.args.newest rows);
}

pub loop-row-preserved : goal.loop-row-preserved
loop-row-preserved c =
    let so_far = c.loop-row.yielded in
    let x = c.in-Some.row in
    let later = into_iter_items c.next.new.self in
    let at = length so_far in
    let vs = c.loop-row.versions.items in
    let v = c.in_ok-sound.field-0 in
    let steps : into_iter_items c.loop-row.row-iterator ≡ x ∷ later = c.in-Some.ensures.steps.0 in
    let all : c.args.found.items ≡ so_far ++ x ∷ later = c.loop-row.invariant.rest ∙ ap (λ is. so_far ++ is) steps in
    let more : length (so_far ++ x ∷ []) ≡ at + 1 = length-append so_far (x ∷ []) in
    record {
      rest = all ∙ sym (append_assoc so_far (x ∷ []) later);
      left = omega (arith, c.in-Some.ensures.steps.1, c.loop-row.invariant.left, ap length steps);
      judged = λ rows read.
          let it = row_at rows so_far x later (subst (AreReadOf rows) all read) in
          let one = one_judged c.args.newest rows at vs it.row v it.low it.here (c.in_ok-sound.ensures it.row it.read) (c.loop-row.invariant.judged rows read) in
          subst (λ n. AreJudgedSound c.args.newest rows n c.push.new.self.items) (sym more) (subst (AreJudgedSound c.args.newest rows (at + 1)) (sym c.in_ok-push.ensures.items) one);
    }

pub returns-in_err-sound-clause-cause : goal.returns-in_err-sound-clause-cause
returns-in_err-sound-clause-cause c rows read =
    let so_far = c.loop-row.yielded in
    let x = c.in-Some.row in
    let later = into_iter_items c.next.new.self in
    let steps : into_iter_items c.loop-row.row-iterator ≡ x ∷ later = c.in-Some.ensures.steps.0 in
    let it = row_at rows so_far x later (subst (AreReadOf rows) (c.loop-row.invariant.rest ∙ ap (λ is. so_far ++ is) steps) read) in
    let judged = c.in_err-sound.ensures it.row it.read in
    let told = err_from_is_err_and c.from_residual-in_err-sound.result c.from_residual-in_err-sound.ensures.1 in
    rw (told.1, told.2, judged.0) (unsound_here c.args.newest rows (length so_far) c.loop-row.versions.items it.row it.low it.here judged.1 (c.loop-row.invariant.judged rows read))

pub returns-clause-sound : goal.returns-clause-sound
returns-clause-sound c rows read = all_judged c.args.newest rows c.args.found.items c.loop-row.yielded _ c.loop-row.versions.items read c.loop-row.invariant.rest (sym c.loop-row.invariant.left ∙ c.in-None.ensures.steps.0) (c.loop-row.invariant.judged rows read)
