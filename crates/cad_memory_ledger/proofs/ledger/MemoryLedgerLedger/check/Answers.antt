use Rattle.std.proofs.Common.{rules, refl, ◌≡◌, ◌∙◌, Some, None, inl, sym, ap, map, ◌+◌}
use Rattle.cad_versions.specs.declared.fault.RegisterFault.TheVariants.{Store}
use Rattle.cad_versions.specs.Refusals.{refusal}
use Rattle.cad_versions.specs.Entries.{version_in}
use Rattle.cad_memory_ledger.proofs.LedgerLemmas.{decided, refusal_no_store, refusal_no_damage}
use Rattle.cad_memory_ledger.proofs.ledger.MemoryLedgerLedger.check.Goals as goal

pub returns-in-Some : goal.returns-in-Some
returns-in-Some c =
    let refused = sym c.refusal.ensures ∙ c.in-Some.is in
    record {
      accepted = λ _. tt;
      refused = λ _ commands stands. inl (decided c.args.self.now commands c.args.command.now (Some c.in-Some.fault) stands refused);
      store = λ _ e commands stands. let same : c.in-Some.fault ≡ Store = cc in absurd (refusal_no_store _ c.args.command.now (refused ∙ ap (λ f. Some f) same));
      damaged = refusal_no_damage _ _ c.args.command.now c.in-Some.fault refused;
      still = λ _. tt;
      kept = λ _. tt;
      unchanged = λ _ commands stands. inl stands;
      clean = λ _. tt;
    }

pub returns : goal.returns
returns c =
    let old = c.args.self.now in
    let may : refusal (map version_in old.versions) c.args.command.now ≡ None = search rules in
    let next : c.in-Some-checked_add.revision ≡ old.revision + 1 = search rules in
    record {
      accepted = λ _ commands stands. (decided old commands c.args.command.now None stands may, next ∙ ap (λ n. n + 1) stands.counted);
      refused = λ _. tt;
      store = λ _ e. absurd cc;
      damaged = tt;
      still = λ _ commands stands. refl;
      kept = λ _ commands stands. stands;
      unchanged = λ _. tt;
      clean = λ _. tt;
    }
