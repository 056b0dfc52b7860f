use Rattle.cql_lexer.specs.Names.{is_name_part}
use Rattle.cql_lexer.proofs.Longest.{name_longest}
use Rattle.cql_lexer.proofs.Runs.{run_is}
use Rattle.cql_lexer.proofs.Utf8.{name_ascii, utf8_is}
use Rattle.cql_lexer.proofs.name.name_at.Goals as goal

pub bare_kind-requires : goal.bare_kind-requires
bare_kind-requires c = rw c.split_run.ensures.run (utf8_is (name_ascii (run_is is_name_part c.args.bytes.now)))

pub returns : goal.returns
returns c = rw (c.in_ok-kind.ensures, c.split_run.ensures.run, c.split_run.ensures.rest) (name_longest c.args.bytes.now c.requires)
