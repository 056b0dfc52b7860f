use Rattle.std.proofs.Common.{[], refl, ◌∙◌, arith}
use Rattle.std.proofs.lemmas.Result.{err_from_is_err_and}
use Rattle.std.proofs.lemmas.List.{map_push}
use Rattle.cql_lexer.specs.Mark.{marks}
use Rattle.cql_parser.specs.Machine.{open_slot, ring_part}
use Rattle.cql_tree.specs.Views.{ring_of, rings_of}
use Rattle.cql_parser.specs.inner.Descent.{want_here, want_ring, want_rings}
use Rattle.cql_parser.proofs.Turns.{rings_open, ring_goes, rings_close, rings_stop, stops_from}
use Rattle.cql_parser.proofs.literal.parse_polygon.Goals as goal

pub returns-in_err-after-clause-parses : goal.returns-in_err-after-clause-parses
returns-in_err-after-clause-parses c =
    let p = err_from_is_err_and c.from_residual.result c.from_residual.ensures.1 in
    rw (p.1, p.2)
    (stops_from (want_rings c.args.place) (want_here open_slot) (marks c.args.tokens.now) _ c.in_err-after.field-0.0
    (λ k. rings_open c.args.place k)
    (λ k. refl) c.in_err-after.ensures.passes)

pub returns-in_err-first-clause-parses : goal.returns-in_err-first-clause-parses
returns-in_err-first-clause-parses c =
    let p = err_from_is_err_and c.from_residual-in_err-first.result c.from_residual-in_err-first.ensures.1 in
    rw (p.1, p.2)
    (stops_from (want_rings c.args.place) want_ring (marks c.args.tokens.now) _ c.in_err-first.field-0.0
    (λ k. ring_part c.args.place [] k)
    (λ k. c.in_ok-after.ensures.passes (rings_open c.args.place k)) c.in_err-first.ensures.parses)

pub loop-after-init : goal.loop-after-init
loop-after-init c =
    record {
      shorter = omega (arith, c.in_ok-after.ensures.shorter, c.in_ok-first.ensures.shorter);
      reads = λ k.
          rw (c.in_ok-push.ensures.items, c.new-rings.ensures.items)
          (c.in_ok-after.ensures.passes (rings_open c.args.place k) ∙ c.in_ok-first.ensures.parses (ring_part c.args.place [] k));
    }

pub returns-in_err-ring-clause-parses : goal.returns-in_err-ring-clause-parses
returns-in_err-ring-clause-parses c =
    let p = err_from_is_err_and c.from_residual-in_err-ring.result c.from_residual-in_err-ring.ensures.1 in
    rw (p.1, p.2)
    (stops_from (want_rings c.args.place) want_ring (marks c.args.tokens.now) _ c.in_err-ring.field-0.0
    (λ k. ring_part c.args.place (rings_of c.loop-after.rings.items) k)
    (λ k. c.loop-after.invariant.reads k ∙ ring_goes c.args.place k _ _ _ c.in-Some.ensures.found) c.in_err-ring.ensures.parses)

pub loop-after-preserved : goal.loop-after-preserved
loop-after-preserved c =
    record {
      shorter = omega (arith, c.in-Some.ensures.shorter, c.in_ok-ring.ensures.shorter, c.loop-after.invariant.shorter);
      reads = λ k.
          rw (c.in_ok-push-2.ensures.items, map_push ring_of c.loop-after.rings.items c.in_ok-ring.ring)
          (c.loop-after.invariant.reads k ∙
          (ring_goes c.args.place k _ _ _ c.in-Some.ensures.found ∙ c.in_ok-ring.ensures.parses (ring_part c.args.place _ k)));
    }

pub returns-in_default-after_close-clause-parses : goal.returns-in_default-after_close-clause-parses
returns-in_default-after_close-clause-parses c =
    λ k.
    c.loop-after.invariant.reads k ∙ rings_stop c.args.place k _ _ c.in_default.ensures.none c.in_default-after_close.ensures.none

pub returns-clause-parses : goal.returns-clause-parses
returns-clause-parses c =
    λ k.
    rw c.in_ok-tree.ensures
    (c.loop-after.invariant.reads k ∙ rings_close c.args.place k _ _ _ c.in-Some-after_close.ensures.found)
