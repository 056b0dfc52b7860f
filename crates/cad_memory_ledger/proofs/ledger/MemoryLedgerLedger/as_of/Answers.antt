use Rattle.std.proofs.Common.{◌≤◌, ◌∙◌, refl, ap, map, arith, length}
use Rattle.cad_versions.specs.Entries.{entries_at, seen_at}
use Rattle.cad_versions.specs.Sorting.{sort_by}
use Rattle.cad_versions.specs.Identifiers.{by_identifier}
use Rattle.cad_versions.specs.lemmas.EntryLemmas.{seen_in_order}
use Rattle.cad_memory_ledger.proofs.ledger.MemoryLedgerLedger.as_of.Goals as goal

pub returns : goal.returns
returns c =
    let r = c.args.revision in
    record {
      shown = λ _ commands stands.
          let made : r ≤ length commands = omega (arith, c.if-self-revision.false, stands.counted) in
          (made, c.in_ok-found.ensures.shown ∙ ap (λ es. sort_by by_identifier (map (seen_at r) (entries_at r es))) stands.kept ∙ seen_in_order r commands made);
      ascending = c.in_ok-found.ensures.ascending;
      cause = λ _. tt;
      store = λ _ e. absurd cc;
      still = λ _ _. refl;
      kept = λ _ commands stands. stands;
      damaged = tt;
      unchanged = λ _. tt;
      clean = λ _. tt;
    }
