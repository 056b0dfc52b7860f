use Rattle.std.proofs.Common.{refl, subst}
use Rattle.cad_grid.specs.Entries.{entry_at}
use Rattle.cad_grid.proofs.SquareLemmas.{marked_more}
use Rattle.cad_marks.specs.Marked.{IsMarked}
use Rattle.cad_grid.proofs.squares.marks_of.Goals as goal

pub loop-entry-preserved : goal.loop-entry-preserved
loop-entry-preserved c =
    marked_more c.loop-entry.marks c.set.new.self c.args.entries.now c.loop-entry.entry-index (entry_at c.args.entries.now c.loop-entry.entry-index) refl c.set.ensures.own (subst (IsMarked c.set.new.self) c.place.ensures.place c.set.ensures.more) c.loop-entry.invariant
