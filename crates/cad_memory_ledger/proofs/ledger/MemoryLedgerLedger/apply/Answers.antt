use Rattle.std.proofs.Common.{rules, ◌≡◌, ◌∙◌, Some, None, inl, sym, ap, map, ◌+◌}
use Rattle.cad_versions.specs.declared.fault.RegisterFault.TheVariants.{Store}
use Rattle.cad_versions.specs.Refusals.{refusal}
use Rattle.cad_versions.specs.Entries.{version_in}
use Rattle.cad_memory_ledger.specs.declared.ledger.MemoryLedger.{MemoryLedger}
use Rattle.cad_memory_ledger.proofs.LedgerLemmas.{decided, applied, refusal_no_store, refusal_no_damage}
use Rattle.cad_memory_ledger.proofs.ledger.MemoryLedgerLedger.apply.Goals as goal

pub returns-in-Some : goal.returns-in-Some
returns-in-Some c =
    let refused = sym c.refusal.ensures ∙ c.in-Some.is in
    record {
      accepted = λ _. tt;
      refused = λ _ commands stands. inl (decided c.args.self.now commands c.args.command (Some c.in-Some.fault) stands refused);
      store = λ _ e commands stands. let same : c.in-Some.fault ≡ Store = cc in absurd (refusal_no_store _ c.args.command (refused ∙ ap (λ f. Some f) same));
      damaged = refusal_no_damage _ _ c.args.command c.in-Some.fault refused;
      unchanged = λ _ commands stands. inl stands;
      clean = λ _. tt;
    }

pub returns : goal.returns
returns c =
    let old = c.args.self.now in
    let new : MemoryLedger = record { versions = c.enact.new.versions; commands = c.enact.new.commands; revision = c.in-Some-checked_add.revision; alloc = old.alloc } in
    let may : refusal (map version_in old.versions) c.args.command ≡ None = search rules in
    let next : c.in-Some-checked_add.revision ≡ old.revision + 1 = search rules in
    record {
      accepted = λ _ commands stands. (decided old commands c.args.command None stands may, next ∙ ap (λ n. n + 1) stands.counted, applied old new commands c.args.command stands may next c.in_ok-enact.ensures.versions c.in_ok-enact.ensures.commands);
      refused = λ _. tt;
      store = λ _ e. absurd cc;
      damaged = tt;
      unchanged = λ _. tt;
      clean = λ _. tt;
    }
