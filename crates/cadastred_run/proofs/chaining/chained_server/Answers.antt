use Rattle.std.proofs.Common.{Ok, inl, inr, subst}
use Rattle.cadastre_run.specs.Preparing.{HasRead, StartsWith}
use Rattle.cadastred_run.proofs.ChainingLemmas.{read_and_chained}
use Rattle.cadastred_run.proofs.chaining.chained_server.Goals as goal

pub returns-in-Ok-keep_chain : goal.returns-in-Ok-keep_chain
returns-in-Ok-keep_chain g c =
    let server = c.in-Ok.started.0 in
    let read : HasRead g.L.Ledger c.args.ledger (Ok tt) server = subst (λ is_read. StartsWith g.L.Ledger is_read c.args.ledger server) c.if-not-is_read.false c.in-Ok.ensures in
    inl (
      read_and_chained g.L.Ledger g.L.JournalLedger g.met.L.Ledger.remains_then c.args.ledger server c.keep_chain.new.self read c.in-Ok-keep_chain.ensures,
      λ asked. c.in-Ok-keep_chain.ensures.chained,
    )

pub returns-in-Err-keep_chain : goal.returns-in-Err-keep_chain
returns-in-Err-keep_chain g c =
    let server = c.in-Ok.started.0 in
    let read : HasRead g.L.Ledger c.args.ledger (Ok tt) server = subst (λ is_read. StartsWith g.L.Ledger is_read c.args.ledger server) c.if-not-is_read.false c.in-Ok.ensures in
    inr (server, c.keep_chain.new.self, read, c.in-Err-keep_chain.ensures, c.release.ensures)
