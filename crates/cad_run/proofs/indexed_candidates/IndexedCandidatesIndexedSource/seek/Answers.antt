use Rattle.std.proofs.Common.{Some}
use Rattle.cad_run.specs.Slices.{identifier}
use Rattle.cad_run.proofs.LeftLemmas.{sought_in_order}
use Rattle.cad_run.proofs.StandingLemmas.{sought_indexed}
use Rattle.cad_run.proofs.indexed_candidates.IndexedCandidatesIndexedSource.seek.Goals as goal

pub invariant_of-self : goal.invariant_of-self
invariant_of-self c = record {
  ascending = c.args.self.now.ascending;
  order = sought_in_order (Some (identifier c.args.last)) _ _ _ _ c.seek.ensures c.seek-2.ensures c.args.self.now.order;
}

pub returns : goal.returns
returns c =
    let i = c.args.self.now in
    sought_indexed (Some (identifier c.args.last)) i.older.now _ _ _ _ c.seek.ensures c.seek-2.ensures i.order.0
