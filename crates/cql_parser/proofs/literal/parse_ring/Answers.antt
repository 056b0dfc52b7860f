use Rattle.std.proofs.Common.{[], refl, ◌∙◌, arith}
use Rattle.std.proofs.lemmas.Result.{err_from_is_err_and}
use Rattle.cql_lexer.specs.Mark.{marks}
use Rattle.cql_parser.specs.Machine.{open_slot}
use Rattle.cql_parser.specs.inner.Descent.{want_here, want_corner, want_ring}
use Rattle.cql_parser.proofs.Turns.{corner_goes, ring_closes, ring_stops, ring_open, corner_of, numbers_push, stops_from}
use Rattle.cql_parser.proofs.literal.parse_ring.Goals as goal

pub returns-in_err-after-clause-parses : goal.returns-in_err-after-clause-parses
returns-in_err-after-clause-parses c =
    let p = err_from_is_err_and c.from_residual.result c.from_residual.ensures.1 in
    rw (p.1, p.2)
    (stops_from want_ring (want_here open_slot) (marks c.args.tokens.now) _ c.in_err-after.field-0.0
    (λ k. ring_open k)
    (λ k. refl) c.in_err-after.ensures.passes)

pub returns-in_err-first-clause-parses : goal.returns-in_err-first-clause-parses
returns-in_err-first-clause-parses c =
    let p = err_from_is_err_and c.from_residual-in_err-first.result c.from_residual-in_err-first.ensures.1 in
    rw (p.1, p.2)
    (stops_from want_ring want_corner (marks c.args.tokens.now) _ c.in_err-first.field-0.0
    (λ k. corner_of [] k)
    (λ k. c.in_ok-after.ensures.passes (ring_open k)) c.in_err-first.ensures.takes)

pub loop-after-init : goal.loop-after-init
loop-after-init c =
    record {
      shorter = omega (arith, c.in_ok-after.ensures.shorter, c.in_ok-first.ensures.shorter);
      reads = λ k.
          rw (c.in_ok-push.ensures.items, c.new-corners.ensures.items)
          (c.in_ok-after.ensures.passes (ring_open k) ∙ c.in_ok-first.ensures.takes (corner_of [] k));
    }

pub returns-in_err-corner-clause-parses : goal.returns-in_err-corner-clause-parses
returns-in_err-corner-clause-parses c =
    let p = err_from_is_err_and c.from_residual-in_err-corner.result c.from_residual-in_err-corner.ensures.1 in
    rw (p.1, p.2)
    (stops_from want_ring want_corner (marks c.args.tokens.now) _ c.in_err-corner.field-0.0
    (λ k. corner_of _ k)
    (λ k. c.loop-after.invariant.reads k ∙ corner_goes k _ _ _ c.in-Some.ensures.found) c.in_err-corner.ensures.takes)

pub loop-after-preserved : goal.loop-after-preserved
loop-after-preserved c =
    record {
      shorter = omega (arith, c.in-Some.ensures.shorter, c.in_ok-corner.ensures.shorter, c.loop-after.invariant.shorter);
      reads = λ k.
          rw (c.in_ok-push-2.ensures.items, numbers_push c.loop-after.corners.items _)
          (c.loop-after.invariant.reads k ∙ (corner_goes k _ _ _ c.in-Some.ensures.found ∙ c.in_ok-corner.ensures.takes (corner_of _ k)));
    }

pub returns-in-Some-after_close-clause-parses : goal.returns-in-Some-after_close-clause-parses
returns-in-Some-after_close-clause-parses c =
    λ k. c.loop-after.invariant.reads k ∙ ring_closes k _ _ _ c.in-Some-after_close.ensures.found

pub returns-clause-parses : goal.returns-clause-parses
returns-clause-parses c =
    λ k. c.loop-after.invariant.reads k ∙ ring_stops k _ _ c.in_default.ensures.none c.in-None.ensures.none
