use Rattle.std.proofs.Common.{◌≡◌, ◌≤◌, length}
use Rattle.std.specs.Str.{IsUtf8}
use Rattle.cql_lexer.specs.Mark.{marks}
use Rattle.cql_lexer.specs.inner.Scan.{IsPast}
use Rattle.cql_lexer.specs.Spelling.{Leads, is_blank}
use Rattle.cql_lexer.proofs.lex.read_tokens.Given as goal

abbrev pub invariant-loop-rest : goal.invariant-loop-rest
invariant-loop-rest l = record {
  leads : Leads (length l.text) l.text (marks l.list.items) l.rest;
  past : IsPast is_blank l.rest;
  utf8 : IsUtf8 l.rest;
  within : length l.rest ≤ length l.text;
  end_is : l.end ≡ length l.text;
  few_bytes : length l.text ≤ 8192;
  few_tokens : length l.list.items ≤ 2000;
}

abbrev pub decreases-loop-rest : goal.decreases-loop-rest
decreases-loop-rest l = length l.rest
