use Rattle.std.proofs.Common.{◌∙◌, refl, sym, subst}
use Rattle.cad_extents.specs.Extents.{Holds, any}
use Rattle.cad_extents.proofs.HeldLemmas.{same_inside}
use Rattle.cad_extents.proofs.extents.widen_at.Goals as goal

pub returns : goal.returns
returns c = (c.widen_at.new.self, refl, λ d held. c.in_ok-widen_at.ensures.own d (subst (λ e. Holds e d) (same_inside c.args.extents.now.items c.args.place any _ c.requires ∙ sym c.index_mut.ensures.value) held), c.in_ok-widen_at.ensures.more)
