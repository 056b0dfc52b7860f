use Rattle.std.proofs.Common.{◌≡◌, ◌∙◌, get_or, arith, ap, sym}
use Rattle.std.proofs.lemmas.List.{length-map, get_or-map}
use Rattle.cad_feature.specs.Values.{null}
use Rattle.cad_ordered.specs.Ranged.{column, value_at}
use Rattle.cad_ordered.proofs.KeyLists.{read_some, read_none, has_order_from}
use Rattle.cad_ordered.proofs.key.read_all.Goals as goal
use Rattle.cad_ordered.proofs.key.read_all.Goals.{in-Some+in_ok-push-in-Some, in-None}

pub loop-position-preserved : goal.loop-position-preserved
loop-position-preserved g c =
    let xs = c.args.features.now in
    let f = value_at c.args.place in
    let p = c.loop-position.position in
    let n = length-map xs f in
    let at : get_or (column c.args.place xs) p null ≡ f c.index-features-position.result = get_or-map f xs p c.index-features-position.result null (omega arith) ∙ ap f (sym c.index-features-position.is) in
    elim c.match-key.branch [
      | in-Some+in_ok-push-in-Some w ↦
          let e = rw w.in-Some.is at c.in_ok-key.ensures in
          let t = rw e at (has_order_from _ _ (g.met.K.Key.ordered w.in-Some.key w.in-Some.key)) in
          rw (w.pairs-is, w.in_ok-push-in-Some.ensures.items) (read_some g.K.Key.datum c.loop-position.pairs.items (column c.args.place xs) p w.in-Some.key _ (omega arith) (e ∙ sym at) (rw at t) c.loop-position.invariant)
      | in-None w ↦
          let e = rw w.in-None.is at c.in_ok-key.ensures in
          rw w.pairs-is (read_none g.K.Key.datum c.loop-position.pairs.items (column c.args.place xs) p _ (omega arith) (rw at e) c.loop-position.invariant)
    ]
