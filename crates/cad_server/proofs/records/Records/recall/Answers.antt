use Rattle.std.proofs.Common.{ap, refl, sym, ◌∙◌}
use Rattle.std.specs.Option.{option_copied}
use Rattle.std.proofs.lemmas.Result.{err_from_is_err_and}
use Rattle.cad_server.proofs.CallLemmas.{recalls_none, recalls_nothing, recalls_some}
use Rattle.cad_server.proofs.records.Records.recall.Goals as goal

pub returns-in_default : goal.returns-in_default
returns-in_default g c = recalls_none g.L.Ledger c.args.revision c.args.self.now (sym c.at.ensures ∙ ap option_copied c.in_default.is)

pub returns-in_err-shared : goal.returns-in_err-shared
returns-in_err-shared g c =
    let p = err_from_is_err_and c.from_residual.result c.from_residual.ensures.1 in
    recalls_nothing g.L.Ledger c.args.revision c.args.self.now p.0 c.from_residual.result p.1

pub returns : goal.returns
returns g c =
    recalls_some g.L.Ledger c.args.revision c.args.self.now _ c.in-Some.snapshot.now c.in_ok-shared.shared refl refl c.touch.ensures c.in-Some.ensures c.in_ok-shared.ensures
