use Rattle.std.proofs.Common.{sym, ap, arith}
use Rattle.std.proofs.lemmas.List.{nil_from_length}
use Rattle.cad_history.specs.Rows.{earlier_count}
use Rattle.cad_history.specs.lemmas.RowLemmas.{up_to}
use Rattle.cad_history.proofs.history.are_countable.Goals as goal

pub returns : goal.returns
returns c = sym (up_to _ _ (omega (arith, c.loop-layer.invariant.sum, c.loop-layer.invariant.few, ap earlier_count (nil_from_length c.loop-layer.rest.now c.in_default.ensures.cases))))
