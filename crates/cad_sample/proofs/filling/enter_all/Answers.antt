use Rattle.std.proofs.Common.{[], ◌∷◌, map, arith, length-append, append_assoc, refl, ◌∙◌, inl}
use Rattle.cad_versions.specs.LedgerCalls.{Applies}
use Rattle.cad_sample.specs.Instructions.{instruction_of}
use Rattle.cad_sample.proofs.FillingLemmas.{accepts_more, all_but_rest, all_of}
use Rattle.cad_sample.proofs.filling.enter_all.Goals as goal

pub loop-command-init : goal.loop-command-init
loop-command-init g c =
    let made = c.into_iter-command-iterator.ensures.into_iter_gives in record { left = made.0; counted = omega (arith, made.1); accepted = (refl, refl) }

pub loop-command-preserved : goal.loop-command-preserved
loop-command-preserved g c =
    let steps = c.in-Some.ensures.steps in
    record {
      left = append_assoc c.loop-command.yielded (c.in-Some.command ∷ []) c.next.new.self.rest.items ∙ (rw steps.0 at c.loop-command.invariant.left);
      counted = omega (arith, steps.1, length-append c.loop-command.yielded (c.in-Some.command ∷ []), c.loop-command.invariant.counted);
      accepted = accepts_more (Applies g.L.Ledger) c.loop-command.yielded c.in-Some.command c.args.ledger.now c.loop-command.ledger c.apply.new.self 0 c.loop-command.revision c.in-Ok.next c.loop-command.invariant.accepted c.in-Ok.ensures;
    }

pub returns-in-Err : goal.returns-in-Err
returns-in-Err g c =
    let steps = c.in-Some.ensures.steps in
    (map instruction_of c.loop-command.yielded, _, c.loop-command.revision, c.loop-command.ledger, all_but_rest c.loop-command.yielded c.in-Some.command c.next.new.self.rest.items _ (rw steps.0 at c.loop-command.invariant.left), c.loop-command.invariant.accepted, inl (c.in-Some.command, refl, c.in-Err.ensures))

pub returns : goal.returns
returns g c =
    let over = c.in-None.ensures.steps.0 in
    let all = all_of c.loop-command.yielded c.loop-command.command-iterator.rest.items c.args.commands.items c.loop-command.invariant.left (omega (arith, over, c.loop-command.invariant.counted)) in
    rw (← all) c.loop-command.invariant.accepted
