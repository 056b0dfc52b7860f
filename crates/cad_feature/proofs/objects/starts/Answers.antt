use Rattle.std.proofs.Common.{◌≡◌, refl, ◌+◌, ◌-◌, ◌/◌, ◌++◌, length, replicate, arith, ap, ◌∙◌, subst}
use Rattle.cad_feature.specs.inner.Stretches.{number_in, AreStarts}
use Rattle.cad_feature.proofs.RunLemmas.{numbers_rise}
use Rattle.cad_feature.proofs.StretchLemmas.{starts_more}
use Rattle.cad_feature.proofs.objects.starts.Goals as goal

pub loop-position-init : goal.loop-position-init
loop-position-init c = rw (c.in_ok-starts.ensures.items) (λ k d h. absurd (omega (arith, h)), λ k d z h. absurd (omega (arith, h)))

pub loop-position-preserved : goal.loop-position-preserved
loop-position-preserved c =
    let vs = c.args.versions.now in
    let i = c.loop-position.position in
    let xs = c.loop-position.starts.items in
    let filled = c.in_ok-mark.ensures ∙ ap (λ n. xs ++ replicate (n / c.args.width + 1 - length xs) i) (c.number.ensures.value ∙ ap number_in c.version.view_is) in
    starts_more c.args.width c.requires.wide vs (numbers_rise vs c.requires.listing.ascending) i i c.index-versions-position.result xs _ c.loop-position-test.true c.index-versions-position.is refl filled c.loop-position.invariant.0 c.loop-position.invariant.1

pub returns : goal.returns
returns c =
    let all : c.loop-position.position ≡ length c.args.versions.now = omega (arith, c.loop-position-test.false, c.loop-position.auto.position-end) in
    subst (λ upto. AreStarts c.args.width c.args.versions.now upto c.loop-position.starts.items) all c.loop-position.invariant.0
