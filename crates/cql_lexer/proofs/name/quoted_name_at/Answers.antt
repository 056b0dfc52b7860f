use Rattle.std.proofs.Common.{sym, ◌∙◌}
use Rattle.cql_lexer.proofs.Longest.{quoted_end, quoted_longest, quoted_none, quoted_utf8}
use Rattle.cql_lexer.proofs.name.quoted_name_at.Goals as goal

pub text_of-requires : goal.text_of-requires
text_of-requires c =
    let behind = quoted_end c.args.bytes.now _ c.in-Some.behind.now (sym c.split_run.ensures.rest ∙ c.in-Some.ensures.cases.0) in
    rw c.split_run.ensures.run (quoted_utf8 c.args.bytes.now c.in-Some.behind.now behind c.requires)

pub returns-in_ok-name-in-Some : goal.returns-in_ok-name-in-Some
returns-in_ok-name-in-Some c =
    let behind = quoted_end c.args.bytes.now _ c.in-Some.behind.now (sym c.split_run.ensures.rest ∙ c.in-Some.ensures.cases.0) in
    rw (c.in_ok-name-in-Some.ensures, c.split_run.ensures.run) (quoted_longest c.args.bytes.now c.in-Some.behind.now behind)

pub returns-in-None : goal.returns-in-None
returns-in-None c = quoted_none c.args.bytes.now (rw c.split_run.ensures.rest at c.in-None.ensures.cases)
