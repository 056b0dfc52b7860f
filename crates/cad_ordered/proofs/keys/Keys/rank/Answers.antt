use Rattle.std.proofs.Common.{◌∙◌, arith, sym}
use Rattle.cad_ordered.specs.Columns.{data_of}
use Rattle.cad_feature.specs.Limits.{scalar_datum}
use Rattle.cad_ordered.proofs.Searches.{sought_up, sought_down}
use Rattle.cad_ordered.proofs.keys.Keys.rank.Goals as goal

pub loop-low-preserved-then-is_before : goal.loop-low-preserved-then-is_before
loop-low-preserved-then-is_before c =
    sought_up c.args.upto (data_of c.args.self.now) (scalar_datum c.args.scalar.now) c.loop-low.low c.loop-low.high _ c.requires.ascends (omega arith) (omega arith) (sym c.is_before.ensures ∙ c.if-is_before.true) c.loop-low.invariant

pub loop-low-preserved : goal.loop-low-preserved
loop-low-preserved c =
    sought_down c.args.upto (data_of c.args.self.now) (scalar_datum c.args.scalar.now) c.loop-low.low c.loop-low.high _ c.requires.ascends (omega arith) (omega arith) (sym c.is_before.ensures ∙ c.if-is_before.false) c.loop-low.invariant
