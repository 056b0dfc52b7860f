use Rattle.std.proofs.Common.{ap, subst, sym, ◌∙◌, ◌+◌, [], ◌∷◌, ◌++◌}
use Rattle.cad_history.specs.Histories.{AreAllRowsOf}
use Rattle.cad_server.proofs.KeptLemmas.{ok_of, rows_kept, some_of_ok}
use Rattle.cad_server.proofs.records.Records.next_histories.Goals as goal

pub returns : goal.returns
returns g c = some_of_ok _ _ c.new.result c.ok-2.result c.ok-2.ensures.value
    (λ next same commands records accepted.
    subst (AreAllRowsOf (commands ++ c.args.command.now ∷ [])) (sym (same ∙ c.settled.ensures))
    (ok_of _ c.histories_after.result c.in_ok-next.next c.in_ok-next.ensures.value c.histories_after.ensures commands accepted
    (subst (AreAllRowsOf commands) (sym c.deref.ensures) (rows_kept commands c.args.self.now.kept _ c.in_ok-histories.ensures records.kept))
    (c.in_ok-revision.ensures.1 ∙ ap (λ n. n + 1) (c.revision.ensures.counted commands records.ledger))))
    c.new.ensures.ok
