use Rattle.cad_shape.specs.Rings.{no_ring}
use Rattle.cad_shape.proofs.LawLemmas.{one_fault}
use Rattle.cad_shape.proofs.laws.one_fault_alone.Goals as goal

pub returns : goal.returns
returns c corners fault h = (no_ring corners fault h, λ other k. one_fault corners fault other h k)
