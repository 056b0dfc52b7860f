use Rattle.std.proofs.Common.{◌∙◌, ap, map, subst, sym}
use Rattle.cad_feature.specs.Marks.{AreMarked}
use Rattle.cad_feature.specs.Values.{datum_of}
use Rattle.cad_feature.proofs.feature.Feature.copy.Goals as goal

pub invariant_of-result : goal.invariant_of-result
invariant_of-result c =
    (c.self.invariant.0, subst (AreMarked c.self.inside.marks) (sym (c.in_ok-values.ensures ∙ ap (map datum_of) c.deref.ensures.value)) c.self.invariant.1)
