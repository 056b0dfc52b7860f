use Rattle.std.proofs.Common.{◌≡◌, ◌≤◌, drop}
use Rattle.cql_lexer.specs.Mark.{marks}
use Rattle.cql_parser.specs.Faults.{deep_at}
use Rattle.cql_parser.proofs.parser.too_deep.Given as goal

abbrev pub invariant-loop-token : goal.invariant-loop-token
invariant-loop-token l = record {
  few : l.open ≤ 64;
  rest : deep_at l.open (marks (drop l.token-index l.tokens)) ≡ deep_at 0 (marks l.tokens);
}
