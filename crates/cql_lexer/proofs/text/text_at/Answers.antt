use Rattle.cql_lexer.proofs.Longest.{text_longest, text_none}
use Rattle.cql_lexer.proofs.Texts.{read_none, read_more, read_closed, read_unclosed}
use Rattle.cql_lexer.proofs.text.text_at.Goals as goal

pub loop-character-init : goal.loop-character-init
loop-character-init c = rw c.new-content.ensures.items (read_none c.args.bytes.now c.requires)

pub loop-character-preserved : goal.loop-character-preserved
loop-character-preserved c = rw c.in_ok-push.ensures.items (read_more c.loop-character.invariant c.in-Some.ensures)

pub returns-in_default-split_first : goal.returns-in_default-split_first
returns-in_default-split_first c = text_none c.args.bytes.now (read_unclosed c.loop-character.invariant c.in_default-split_first.ensures.cases)

pub returns-in-Ok : goal.returns-in-Ok
returns-in-Ok c =
    let closed = read_closed _ c.in-Some-split_first.behind.now c.loop-character.invariant c.in_default.ensures c.in-Some-split_first.ensures.cases.0 in
    rw c.in-Ok.ensures.ok (text_longest closed.there)

pub returns : goal.returns
returns c =
    let closed = read_closed _ c.in-Some-split_first.behind.now c.loop-character.invariant c.in_default.ensures c.in-Some-split_first.ensures.cases.0 in
    let refused = c.in-Err.ensures.succeeds closed.utf8 in
    absurd (cc)
