-- Lines that are held.
use Rattle.std.proofs.Common.{◌≡◌, ◌≤◌, ℕ, List, length, subst}
use Rattle.cad_office.specs.declared.line.LineState.{LineState}
use Rattle.cad_office.specs.declared.line.LineState.TheVariants.{Buffered}
use Rattle.cad_office.specs.Lines.{longest_line, Buffers}

-- a line that is held is not too long
pub buffered_few : (text held : List ℕ) (state : LineState) → Buffers text held state → state ≡ Buffered → length text ≤ longest_line
buffered_few text held state holds is = (subst (Buffers text held) is holds).1
