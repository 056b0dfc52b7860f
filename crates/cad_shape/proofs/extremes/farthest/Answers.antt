use Rattle.std.proofs.Common.{◌≡◌, List, sym, ◌∙◌, subst}
use Rattle.std.specs.List.{All}
use Rattle.std.proofs.lemmas.Bool.{false≢true}
use Rattle.std.proofs.lemmas.List.{get_or_default, take_all}
use Rattle.cad_shape.specs.declared.point.Point.{Point}
use Rattle.cad_shape.specs.Crossings.{origin}
use Rattle.cad_shape.specs.inner.Extremes.{IsFarther, point_at}
use Rattle.cad_shape.proofs.ExtremeLemmas.{farther_here, none_farther}
use Rattle.cad_shape.proofs.extremes.farthest.Goals as goal
use Rattle.cad_shape.proofs.extremes.farthest.Goals.{then-is_farther, else-is_farther}

pub loop-i-preserved : goal.loop-i-preserved
loop-i-preserved c =
    let way = c.args.way in
    let points = c.args.points.now in
    let i = c.loop-i.i in
    let place = c.loop-i.place in
    let here : c.index-points-i.result ≡ point_at points i = c.index-points-i.is ∙ get_or_default points i c.index-points-i.result origin c.loop-i-test.true in
    let best : c.index-points-place.result ≡ point_at points place = c.index-points-place.is ∙ get_or_default points place c.index-points-place.result origin c.loop-i.invariant.within in
    elim c.if-is_farther.branch [
      | then-is_farther w ↦ rw w.place-is (record {
        within = c.loop-i-test.true;
        none = farther_here way points i place c.loop-i-test.true (subst (λ (p : Point). IsFarther way p (point_at points place)) here (subst (IsFarther way c.index-points-i.result) best (c.is_farther.ensures.0 w.if-is_farther.true))) c.loop-i.invariant.none;
      })
      | else-is_farther w ↦ rw w.place-is (record {
        within = c.loop-i.invariant.within;
        none = none_farther way points i place c.loop-i-test.true (λ h. false≢true (sym w.if-is_farther.false ∙ c.is_farther.ensures.1 (subst (λ (p : Point). IsFarther way p c.index-points-place.result) (sym here) (subst (IsFarther way (point_at points i)) (sym best) h)))) c.loop-i.invariant.none;
      })
    ]

pub returns : goal.returns
returns c =
    let all = take_all c.loop-i.i c.args.points.now c.loop-i-test.false in
    (c.loop-i.invariant.within, subst (λ (ps : List Point). All (λ p. ¬ (IsFarther c.args.way p (point_at c.args.points.now c.loop-i.place))) ps) all c.loop-i.invariant.none)
