use Rattle.cql_lexer.specs.Mark.{marks}
use Rattle.cql_parser.proofs.Verdict.{accepted, refused}
use Rattle.cql_parser.proofs.parser.parse.Goals as goal

pub returns-clause-accepted : goal.returns-clause-accepted
returns-clause-accepted c =
    accepted (marks c.args.tokens.now.list.items) c.args.tokens.now.end c.first_answer.result c.first_answer.ensures

pub returns-clause-refused : goal.returns-clause-refused
returns-clause-refused c =
    refused (marks c.args.tokens.now.list.items) c.args.tokens.now.end c.first_answer.result c.first_answer.ensures
