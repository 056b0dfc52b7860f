use Rattle.std.proofs.Common.{◌∙◌, refl, ap}
use Rattle.cad_versions.specs.AsOf.{entry_order}
use Rattle.cad_versions.specs.Sorting.{sort_by}
use Rattle.cad_memory_ledger.proofs.ledger.MemoryLedgerHistoryLedger.stored_versions.Goals as goal

pub returns : goal.returns
returns c = record {
  shown = λ _ commands stands. c.in_ok-found.ensures.shown ∙ ap (sort_by entry_order) stands.kept;
  ascending = c.in_ok-found.ensures.ascending;
  cause = λ _. tt;
  store = λ _ e. absurd cc;
  still = λ _ _. refl;
  same = λ _ commands stands. stands;
  damaged = tt;
  unchanged = λ _. tt;
  clean = λ _. tt;
}
