use Rattle.std.proofs.Common.{◌≡◌, ◌+◌, ◌++◌, ◌∷◌, [], sym, ap, ◌∙◌, refl, subst, Some, length, length-append, append_assoc, arith}
use Rattle.std.proofs.lemmas.Result.{err_from_is_err_and}
use Rattle.std.specs.Vec.Iter.{into_iter_items}
use Rattle.cad_versions.specs.Entries.{Entry}
use Rattle.cad_register.specs.StoredVersions.{entry_of}
use Rattle.cad_register.specs.Damage.{IsNext, identifier_in}
use Rattle.cad_register.specs.inner.Found.{AreReadOf}
use Rattle.cad_register.proofs.DamageLemmas.{damaged_here, row_at}
use Rattle.cad_register.proofs.JournalRowLemmas.{AreGathered, none_gathered, one_gathered, all_gathered}
use Rattle.cad_register.proofs.journal.gathered.Goals as goal

pub loop-row-init : goal.loop-row-init
loop-row-init c = record {
  rest = sym c.into_iter-row-iterator.ensures.into_iter_gives.0;
  left = c.into_iter-row-iterator.ensures.into_iter_gives.1 ∙ c.args.found.ok.0 ∙ ap length (sym c.into_iter-row-iterator.ensures.into_iter_gives.0);
  count = refl;
  gathered = λ rows read. none_gathered c.args.behind c.args.newest rows c.in_ok-gathering.gathering c.in_ok-gathering.ensures;
}

pub loop-row-preserved : goal.loop-row-preserved
loop-row-preserved c =
    let so_far = c.loop-row.yielded in
    let x = c.in-Some.row in
    let later = into_iter_items c.next.new.self in
    let at = length so_far in
    let before = c.loop-row.before in
    let newest = c.args.newest in
    let e = entry_of c.in_ok-stored.stored in
    let steps : into_iter_items c.loop-row.row-iterator ≡ x ∷ later = c.in-Some.ensures.steps.0 in
    let all : c.args.found.items ≡ so_far ++ x ∷ later = c.loop-row.invariant.rest ∙ ap (λ is. so_far ++ is) steps in
    let more : length (so_far ++ x ∷ []) ≡ at + 1 = length-append so_far (x ∷ []) in
    let count : c.loop-row.count ≡ at = c.loop-row.invariant.count in
    record {
      rest = all ∙ sym (append_assoc so_far (x ∷ []) later);
      left = omega (arith, c.in-Some.ensures.steps.1, c.loop-row.invariant.left, ap length steps);
      count = ap (λ n. n + 1) count ∙ sym more;
      gathered = λ rows read.
          let it = row_at rows so_far x later (subst (AreReadOf rows) all read) in
          let next = subst (λ n. IsNext newest before n it.row e) count (c.in_ok-stored.ensures it.row it.read) in
          let one = one_gathered c.args.behind newest rows before at c.loop-row.gathering c.note_in.new.gathering it.row e it.low it.here next c.note_in.ensures.notes (c.loop-row.invariant.gathered rows read) in
          subst (λ n. AreGathered c.args.behind newest rows (Some c.place.result) n c.note_in.new.gathering) (sym more)
          (subst (λ p. AreGathered c.args.behind newest rows (Some p) (at + 1) c.note_in.new.gathering) (sym c.place.ensures) one);
    }

pub returns-in_err-stored-clause-cause : goal.returns-in_err-stored-clause-cause
returns-in_err-stored-clause-cause c rows read =
    let so_far = c.loop-row.yielded in
    let x = c.in-Some.row in
    let later = into_iter_items c.next.new.self in
    let steps : into_iter_items c.loop-row.row-iterator ≡ x ∷ later = c.in-Some.ensures.steps.0 in
    let it = row_at rows so_far x later (subst (AreReadOf rows) (c.loop-row.invariant.rest ∙ ap (λ is. so_far ++ is) steps) read) in
    let judged = c.in_err-stored.ensures it.row it.read in
    let count : c.loop-row.count ≡ length so_far = c.loop-row.invariant.count in
    let bad = λ (e : Entry) (next : IsNext c.args.newest c.loop-row.before (length so_far) it.row e). judged.1 e (subst (λ n. IsNext c.args.newest c.loop-row.before n it.row e) (sym count) next) in
    let told = err_from_is_err_and c.from_residual-in_err-stored.result c.from_residual-in_err-stored.ensures.1 in
    rw (told.1, told.2, judged.0) ((c.loop-row.invariant.gathered rows read).damaged (identifier_in it.row) (damaged_here c.args.newest rows (length so_far) it.row c.loop-row.before it.low it.here bad))

pub returns-clause-gathers : goal.returns-clause-gathers
returns-clause-gathers c rows read = all_gathered c.args.behind c.args.newest rows c.args.found.items c.loop-row.yielded _ c.loop-row.before c.loop-row.gathering read c.loop-row.invariant.rest (sym c.loop-row.invariant.left ∙ c.in-None.ensures.steps.0) (c.loop-row.invariant.gathered rows read)
