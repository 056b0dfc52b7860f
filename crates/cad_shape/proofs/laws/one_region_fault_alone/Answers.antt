use Rattle.cad_shape.specs.RegionRings.{no_region}
use Rattle.cad_shape.proofs.LawLemmas.{one_region_fault}
use Rattle.cad_shape.proofs.laws.one_region_fault_alone.Goals as goal

pub returns : goal.returns
returns c rings fault h = (no_region rings fault h, λ other k. one_region_fault rings fault other h k)
