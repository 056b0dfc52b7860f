use Rattle.std.proofs.Common.{sym, ◌∙◌, ap, not, arith, ◌==◌}
use Rattle.cadastred_run.proofs.FirstLineLemmas.{end_ends, end_left, byte_kept, byte_left, still_on}
use Rattle.cadastred_run.proofs.request.Request.add_byte.Goals as goal

pub returns-then-ends_line : goal.returns-then-ends_line
returns-then-ends_line c read holds =
    let kept = c.args.self.now.bytes.items in
    let on = sym holds.ended ∙ c.requires in
    let ends = sym c.ends_line.ensures ∙ c.if-ends_line.true in
    record { line = end_left read kept c.args.byte holds.line on ends; ended = ap not c.is_empty.ensures ∙ ap (λ n. not (n == 0)) c.args.self.now.bytes.ok.0 ∙ sym (end_ends read kept c.args.byte holds.line on ends) }

pub returns-in_ok-push : goal.returns-in_ok-push
returns-in_ok-push c read holds =
    let kept = c.args.self.now.bytes.items in
    let on = sym holds.ended ∙ c.requires in
    let goes_on = sym c.ends_line.ensures ∙ c.if-ends_line.false in
    record {
      line = c.in_ok-push.ensures.items ∙ byte_kept read kept c.args.byte holds.line on goes_on (omega (arith, c.if-len-lt-MOST.true, c.len.ensures));
      ended = c.requires ∙ sym (still_on read kept c.args.byte holds.line on goes_on);
    }

pub returns-else-len-lt-MOST : goal.returns-else-len-lt-MOST
returns-else-len-lt-MOST c read holds =
    let kept = c.args.self.now.bytes.items in
    let on = sym holds.ended ∙ c.requires in
    let goes_on = sym c.ends_line.ensures ∙ c.if-ends_line.false in
    record {
      line = byte_left read kept c.args.byte holds.line on goes_on (omega (arith, c.if-len-lt-MOST.false, c.len.ensures));
      ended = c.requires ∙ sym (still_on read kept c.args.byte holds.line on goes_on);
    }
