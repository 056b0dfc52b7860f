use Rattle.std.proofs.Common.{arith}
use Rattle.cad_positions.proofs.ListedLemmas.{found}
use Rattle.cad_positions.proofs.listed.Listed.settle.Goals as goal

pub returns-then-row-from : goal.returns-then-row-from
returns-then-row-from c =
    let s = c.loop-self.self in
    found c.args.self.now.rows.items s.rows.items c.args.self.now.at s.at c.args.from c.index-row.result.now s.ascending (omega arith) c.index-row.ensures c.if-row-from.true c.loop-self.invariant.1
