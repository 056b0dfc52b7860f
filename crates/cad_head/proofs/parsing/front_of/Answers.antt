use Rattle.std.proofs.Common.{◌∙◌}
use Rattle.cad_head.proofs.HeadsLemmas.{head_at, hopeless_by_fields, hopeless_by_length, unfinished, waits}
use Rattle.cad_head.proofs.parsing.front_of.Goals as goal

pub returns-in-Ok-Complete-clause-front : goal.returns-in-Ok-Complete-clause-front
returns-in-Ok-Complete-clause-front c =
    let found = rw (c.in-Ok-Complete.field-0-is, c.front_bytes.ensures) at c.in-Ok-Complete.ensures.complete in
    (found.0, head_at _ _ _ _ (c.parse_request.auto.headers ∙ c.told-headers) found.1)

pub returns-then-bytes-lt-FRONT_LEN-clause-front : goal.returns-then-bytes-lt-FRONT_LEN-clause-front
returns-then-bytes-lt-FRONT_LEN-clause-front c =
    waits _ c.if-bytes-lt-FRONT_LEN.true (rw (c.in-Ok-Partial.field-0-is, c.front_bytes.ensures) at c.in-Ok-Partial.ensures.partial)

pub returns-else-bytes-lt-FRONT_LEN-clause-front : goal.returns-else-bytes-lt-FRONT_LEN-clause-front
returns-else-bytes-lt-FRONT_LEN-clause-front c =
    hopeless_by_length _ c.if-bytes-lt-FRONT_LEN.false (rw (c.in-Ok-Partial.field-0-is, c.front_bytes.ensures) at c.in-Ok-Partial.ensures.partial)

pub returns-in-Err-clause-front : goal.returns-in-Err-clause-front
returns-in-Err-clause-front c = hopeless_by_fields _ (rw (c.front_bytes.ensures, c.told-headers) at c.in-Err.ensures.no_room)

pub returns-then-bytes-lt-FRONT_LEN-clause-unfinished : goal.returns-then-bytes-lt-FRONT_LEN-clause-unfinished
returns-then-bytes-lt-FRONT_LEN-clause-unfinished c =
    unfinished _ c.if-bytes-lt-FRONT_LEN.true (rw (c.in-Ok-Partial.field-0-is, c.front_bytes.ensures) at c.in-Ok-Partial.ensures.unfinished)
