use Rattle.std.specs.Prelude.{nat_le}
use Rattle.std.specs.List.{range_with_len}
use Rattle.cad_positions.specs.AllRows.{most}
use Rattle.cad_positions.specs.Has.{has}
use Rattle.cad_positions.specs.Rest.{left_in}
use Rattle.cad_positions.proofs.Takings.{rows_both, sought_back, sought_on}
use Rattle.cad_positions.proofs.rows.RowsRowSource.seek.Goals as goal

pub returns-then-self-from : goal.returns-then-self-from
returns-then-self-from c =
    rows_both _ (left_in c.args.self.now) (nat_le c.args.from) (range_with_len 0 most) (λ k. sought_on (has c.args.self.now.source) c.args.self.now.from c.args.from k c.if-self-from.true)

pub returns-else-self-from : goal.returns-else-self-from
returns-else-self-from c =
    rows_both _ (left_in c.args.self.now) (nat_le c.args.from) (range_with_len 0 most) (λ k. sought_back (has c.args.self.now.source) c.args.self.now.from c.args.from k c.if-self-from.false)
