use Rattle.std.proofs.Common.{ap, length}
use Rattle.cad_grid.specs.Blocks.{block_of}
use Rattle.cad_index.proofs.Served.{without_grid}
use Rattle.cad_index.proofs.indexes.Indexes.near_count.Goals as goal

pub returns-in-None : goal.returns-in-None
returns-in-None c = λ collection xs listed made.
    ap length (without_grid collection xs listed c.args.self.now made c.args.property (block_of c.args.bounds) (rw c.in-None.is at c.grid.ensures))
