use Rattle.std.proofs.Common.{[], ◌∷◌, ◌++◌, arith, length-append, append-nil, append_assoc, ◌∙◌, ap, sym, subst}
use Rattle.cad_versions.specs.Refusals.{AreAccepted}
use Rattle.cad_dry_run.specs.Copying.{IsOfStore}
use Rattle.cad_dry_run.proofs.CopyingLemmas.{all_of, holds_more, of_store}
use Rattle.cad_dry_run.proofs.copying.enter_all.Goals as goal

pub loop-command-init : goal.loop-command-init
loop-command-init g c =
    let made = c.into_iter-command-iterator.ensures.into_iter_gives in
    record {
      left = made.0;
      counted = omega (arith, made.1);
      holds = λ counts before stands. subst (g.L.Ledger.stands_for c.args.ledger.now) (sym (append-nil before)) stands;
      clean = λ counts. counts;
    }

pub loop-command-preserved : goal.loop-command-preserved
loop-command-preserved g c =
    let steps = c.in-Some.ensures.steps in
    let so_far = c.loop-command.yielded in
    let x = c.in-Some.command in
    record {
      left = append_assoc so_far (x ∷ []) c.next.new.self.rest.items ∙ (rw steps.0 at c.loop-command.invariant.left);
      counted = omega (arith, steps.1, length-append so_far (x ∷ []), c.loop-command.invariant.counted);
      holds = λ counts before stands.
          let earlier = c.loop-command.invariant.holds (c.in-Ok.ensures.clean counts) before stands in
          subst (g.L.Ledger.stands_for c.apply.new.self) (append_assoc before so_far (x ∷ []))
          (holds_more g.L.Ledger c.loop-command.ledger c.apply.new.self x (before ++ so_far) c.in-Ok.field-0 c.in-Ok.ensures counts earlier);
      clean = λ counts. c.loop-command.invariant.clean (c.in-Ok.ensures.clean counts);
    }

pub returns-in-Err : goal.returns-in-Err
returns-in-Err g c =
    let steps = c.in-Some.ensures.steps in
    let so_far = c.loop-command.yielded in
    let x = c.in-Some.command in
    let later = c.next.new.self.rest.items in
    let all = rw steps.0 at c.loop-command.invariant.left in
    record {
      holds = λ counts. tt;
      refused = λ counts before stands accepted.
          let earlier = c.loop-command.invariant.holds (c.in-Err.ensures.clean counts) before stands in
          let whole = ap (λ l. before ++ l) (sym all) ∙ sym (append_assoc before so_far (x ∷ later)) in
          subst (λ l. IsOfStore g.L.Ledger l c.in-Err.fault) (sym whole)
          (of_store g.L.Ledger c.loop-command.ledger c.apply.new.self x (before ++ so_far) later c.in-Err.fault (subst (AreAccepted []) whole accepted) c.in-Err.ensures counts earlier);
      clean = λ counts. c.loop-command.invariant.clean (c.in-Err.ensures.clean counts);
    }

pub returns : goal.returns
returns g c =
    let over = c.in-None.ensures.steps.0 in
    let all = all_of c.loop-command.yielded c.loop-command.command-iterator.rest.items c.args.commands.items c.loop-command.invariant.left (omega (arith, over, c.loop-command.invariant.counted)) in
    record {
      holds = λ counts before stands. subst (λ l. g.L.Ledger.stands_for c.loop-command.ledger (before ++ l)) all (c.loop-command.invariant.holds counts before stands);
      refused = λ counts. tt;
      clean = c.loop-command.invariant.clean;
    }
