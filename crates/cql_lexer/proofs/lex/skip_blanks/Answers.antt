use Rattle.cql_lexer.specs.Spelling.{is_blank}
use Rattle.cql_lexer.proofs.Runs.{run_is, after_shorter, past_after}
use Rattle.cql_lexer.proofs.Spellings.{blanks_lead, blanks_utf8}
use Rattle.cql_lexer.proofs.lex.skip_blanks.Goals as goal

pub returns-clause-skips : goal.returns-clause-skips
returns-clause-skips c = λ size. rw c.split_run.ensures.rest (blanks_lead (run_is is_blank c.args.bytes.now))

pub returns-clause-all : goal.returns-clause-all
returns-clause-all c = rw c.split_run.ensures.rest (past_after is_blank c.args.bytes.now)

pub returns-clause-shorter : goal.returns-clause-shorter
returns-clause-shorter c = rw c.split_run.ensures.rest (after_shorter is_blank c.args.bytes.now)

pub returns-clause-utf8 : goal.returns-clause-utf8
returns-clause-utf8 c = λ utf8. rw c.split_run.ensures.rest (blanks_utf8 (run_is is_blank c.args.bytes.now) utf8)
