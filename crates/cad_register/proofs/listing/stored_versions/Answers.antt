use Rattle.std.proofs.Common.{◌≡◌, ◌+◌, ◌++◌, ◌∷◌, [], sym, ap, ◌∙◌, subst, Some, length, map, length-append, append_assoc, arith}
use Rattle.std.proofs.lemmas.List.{length-map, map-append}
use Rattle.std.proofs.lemmas.Result.{err_from_is_err_and}
use Rattle.std.specs.Vec.Iter.{into_iter_items}
use Rattle.cad_versions.specs.Entries.{Entry}
use Rattle.cad_register.specs.StoredVersions.{entry_of}
use Rattle.cad_register.specs.Damage.{IsNext, identifier_in, place_of}
use Rattle.cad_register.specs.inner.Found.{AreReadOf}
use Rattle.cad_register.proofs.DamageLemmas.{damaged_here, row_at}
use Rattle.cad_register.proofs.JudgedLemmas.{AreJudged, none_judged, one_judged, judged_sound, judged_shown, judged_listing}
use Rattle.cad_register.proofs.listing.stored_versions.Goals as goal

pub loop-row-init : goal.loop-row-init
loop-row-init c = record {
  rest = sym c.into_iter-row-iterator.ensures.into_iter_gives.0;
  left = c.into_iter-row-iterator.ensures.into_iter_gives.1 ∙ c.args.found.ok.0 ∙ ap length (sym c.into_iter-row-iterator.ensures.into_iter_gives.0);
  count = c.in_ok-versions.ensures.len;
  judged = λ rows read. rw c.in_ok-versions.ensures.items (none_judged c.args.newest rows);
}

pub loop-row-preserved : goal.loop-row-preserved
loop-row-preserved c =
    let so_far = c.loop-row.yielded in
    let x = c.in-Some.row in
    let later = into_iter_items c.next.new.self in
    let at = length so_far in
    let before = c.loop-row.before in
    let newest = c.args.newest in
    let vs = map entry_of c.loop-row.versions.items in
    let e = entry_of c.in_ok-version.version in
    let steps : into_iter_items c.loop-row.row-iterator ≡ x ∷ later = c.in-Some.ensures.steps.0 in
    let all : c.args.found.items ≡ so_far ++ x ∷ later = c.loop-row.invariant.rest ∙ ap (λ is. so_far ++ is) steps in
    let more : length (so_far ++ x ∷ []) ≡ at + 1 = length-append so_far (x ∷ []) in
    let count : c.len-in-loop-row.result ≡ at = c.len-in-loop-row.ensures ∙ c.loop-row.invariant.count in
    let items = ap (map entry_of) c.in_ok-push.ensures.items ∙ map-append entry_of c.loop-row.versions.items (c.in_ok-version.version ∷ []) in
    record {
      rest = all ∙ sym (append_assoc so_far (x ∷ []) later);
      left = omega (arith, c.in-Some.ensures.steps.1, c.loop-row.invariant.left, ap length steps);
      count = c.in_ok-push.ensures.len ∙ ap (λ n. n + 1) c.loop-row.invariant.count ∙ sym more;
      judged = λ rows read.
          let it = row_at rows so_far x later (subst (AreReadOf rows) all read) in
          let next = subst (λ n. IsNext newest before n it.row e) count (c.in_ok-version.ensures it.row it.read) in
          let long : length vs ≡ at = omega (arith, c.loop-row.versions.ok.0, c.loop-row.invariant.count, length-map c.loop-row.versions.items entry_of) in
          let one = one_judged newest rows before at vs it.row e long it.low it.here next (c.loop-row.invariant.judged rows read) in
          subst (λ n. AreJudged newest rows (Some c.place.result) n (map entry_of c.push.new.self.items)) (sym more)
          (subst (λ p. AreJudged newest rows (Some p) (at + 1) (map entry_of c.push.new.self.items)) (sym c.place.ensures) (subst (AreJudged newest rows (Some (place_of e.version)) (at + 1)) (sym items) one));
    }

pub returns-in_err-version-clause-cause : goal.returns-in_err-version-clause-cause
returns-in_err-version-clause-cause c rows read =
    let so_far = c.loop-row.yielded in
    let x = c.in-Some.row in
    let later = into_iter_items c.next.new.self in
    let steps : into_iter_items c.loop-row.row-iterator ≡ x ∷ later = c.in-Some.ensures.steps.0 in
    let it = row_at rows so_far x later (subst (AreReadOf rows) (c.loop-row.invariant.rest ∙ ap (λ is. so_far ++ is) steps) read) in
    let judged = c.in_err-version.ensures it.row it.read in
    let count : c.len-in-loop-row.result ≡ length so_far = c.len-in-loop-row.ensures ∙ c.loop-row.invariant.count in
    let bad = λ (e : Entry) (next : IsNext c.args.newest c.loop-row.before (length so_far) it.row e). judged.1 e (subst (λ n. IsNext c.args.newest c.loop-row.before n it.row e) (sym count) next) in
    let told = err_from_is_err_and c.from_residual-in_err-version.result c.from_residual-in_err-version.ensures.1 in
    rw (told.1, told.2, judged.0) ((c.loop-row.invariant.judged rows read).damaged (identifier_in it.row) (damaged_here c.args.newest rows (length so_far) it.row c.loop-row.before it.low it.here bad))

pub returns-clause-sound : goal.returns-clause-sound
returns-clause-sound c rows read = judged_sound c.args.newest rows c.args.found.items c.loop-row.before c.loop-row.yielded _ (map entry_of c.loop-row.versions.items) read c.loop-row.invariant.rest (sym c.loop-row.invariant.left ∙ c.in-None.ensures.steps.0) (c.loop-row.invariant.judged rows read)

pub returns-clause-shown : goal.returns-clause-shown
returns-clause-shown c rows read = judged_shown c.args.newest rows c.args.found.items c.loop-row.before c.loop-row.yielded _ (map entry_of c.loop-row.versions.items) read c.loop-row.invariant.rest (sym c.loop-row.invariant.left ∙ c.in-None.ensures.steps.0) (c.loop-row.invariant.judged rows read)

pub returns-clause-listed : goal.returns-clause-listed
returns-clause-listed c rows read = judged_listing c.args.newest rows c.loop-row.before (length c.loop-row.yielded) (map entry_of c.loop-row.versions.items) (c.loop-row.invariant.judged rows read)
