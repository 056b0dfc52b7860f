use Rattle.std.proofs.Common.{sym, ◌∙◌}
use Rattle.cql_types.proofs.LiteralLemmas.{closed_parts, ring_made}
use Rattle.cql_types.proofs.literal.ring_closed.Goals as goal

pub returns-then-not-begins_with : goal.returns-then-not-begins_with
returns-then-not-begins_with c = λ corners e ring.
    let parts = closed_parts corners c.pop.new.self.items c.in_ok-last.last (e ∙ c.in_ok-last.ensures.items) in
    let begins = c.begins_with.ensures.1 (rw (c.deref.ensures.value, ← parts.0) parts.1) in
    let clash = sym c.if-not-begins_with.true ∙ begins in
    cc

pub returns : goal.returns
returns c = rw c.ok.ensures.value
    (ring_made c.new.result c.args.points.items c.pop.new.self c.in_ok-last.last c.in_ok-last.ensures.items (rw c.deref.ensures.value at (c.begins_with.ensures.0 c.if-not-begins_with.false)) c.new.ensures)
