-- What a line holds if all its bytes are held.
use Rattle.std.proofs.Common.{◌≡◌, ℕ, List, subst}
use Rattle.cad_office.specs.declared.line.LineState.{LineState}
use Rattle.cad_office.specs.declared.line.LineState.TheVariants.{Buffered}
use Rattle.cad_office.specs.Lines.{Buffers}

pub buffered_text : (text held : List ℕ) (state : LineState) → Buffers text held state → state ≡ Buffered → held ≡ text
buffered_text text held state holds is = (subst (Buffers text held) is holds).0
