use Rattle.std.proofs.Common.{◌≡◌, ◌++◌, ◌∷◌, [], sym, ap, ◌∙◌, refl, subst, length, map, append_assoc, append-nil, arith}
use Rattle.std.proofs.lemmas.List.{map-append}
use Rattle.std.specs.Vec.Iter.{into_iter_items}
use Rattle.cad_register.specs.StoredVersions.{entry_of}
use Rattle.cad_register.specs.inner.Gathering.{Gathers}
use Rattle.cad_register.proofs.JournalReadingLemmas.{all_yielded}
use Rattle.cad_register.proofs.journal_reading.note_all.Goals as goal

pub loop-version-init : goal.loop-version-init
loop-version-init c = record {
  rest = sym c.into_iter-version-iterator.ensures.into_iter_gives.0;
  left = c.into_iter-version-iterator.ensures.into_iter_gives.1 ∙ c.args.versions.ok.0 ∙ ap length (sym c.into_iter-version-iterator.ensures.into_iter_gives.0);
  behind = refl;
  notes = λ behind count entries gathers. subst (λ l. Gathers behind count l c.args.gathering.now) (sym (append-nil entries)) gathers;
}

pub loop-version-preserved : goal.loop-version-preserved
loop-version-preserved c =
    let so_far = c.loop-version.yielded in
    let x = c.in-Some.version in
    let later = into_iter_items c.next.new.self in
    let steps : into_iter_items c.loop-version.version-iterator ≡ x ∷ later = c.in-Some.ensures.steps.0 in
    let all : c.args.versions.items ≡ so_far ++ x ∷ later = c.loop-version.invariant.rest ∙ ap (λ is. so_far ++ is) steps in
    record {
      rest = all ∙ sym (append_assoc so_far (x ∷ []) later);
      left = omega (arith, c.in-Some.ensures.steps.1, c.loop-version.invariant.left, ap length steps);
      behind = c.note_in.ensures.behind ∙ c.loop-version.invariant.behind;
      notes = λ behind count entries gathers.
          subst (λ l. Gathers behind count l c.note_in.new.gathering) (append_assoc entries (map entry_of so_far) (entry_of x ∷ []) ∙ ap (λ l. entries ++ l) (sym (map-append entry_of so_far (x ∷ []))))
          (c.note_in.ensures.notes behind count (entries ++ map entry_of so_far) (c.loop-version.invariant.notes behind count entries gathers));
    }

pub returns-clause-behind : goal.returns-clause-behind
returns-clause-behind c = c.loop-version.invariant.behind

pub returns-clause-notes : goal.returns-clause-notes
returns-clause-notes c behind count entries gathers =
    let whole = all_yielded c.loop-version.yielded (into_iter_items c.loop-version.version-iterator) c.args.versions.items c.loop-version.invariant.rest (sym c.loop-version.invariant.left ∙ c.in-None.ensures.steps.0) in
    subst (λ l. Gathers behind count (entries ++ map entry_of l) c.loop-version.gathering) (sym whole) (c.loop-version.invariant.notes behind count entries gathers)
