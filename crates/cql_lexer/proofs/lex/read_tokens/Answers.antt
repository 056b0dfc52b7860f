use Rattle.std.proofs.Common.{◌≡◌, ◌++◌, ◌∷◌, [], ◌-◌, length, sym, refl, arith}
use Rattle.std.proofs.lemmas.List.{map_push, length-map}
use Rattle.cql_lexer.specs.Mark.{at, marks, mark_of, sort_of}
use Rattle.cql_lexer.specs.Lexed.{Reaches}
use Rattle.cql_lexer.specs.Spelling.{token_first}
use Rattle.cql_lexer.proofs.Longest.{token_shorter, token_utf8}
use Rattle.cql_lexer.proofs.Spellings.{leads_on, leads_ascend}
use Rattle.cql_lexer.proofs.Ends.{stuck}
use Rattle.cql_lexer.proofs.lex.read_tokens.Goals as goal

pub loop-rest-init : goal.loop-rest-init
loop-rest-init c = record {
  leads = rw (c.new-list.ensures.items, ← c.as_bytes-bytes.ensures.value) (c.skip_blanks-rest.ensures.skips _);
  past = c.skip_blanks-rest.ensures.all;
  utf8 = c.skip_blanks-rest.ensures.utf8 (rw c.as_bytes-bytes.ensures.value c.utf8.text);
  within = rw (← c.as_bytes-bytes.ensures.value) c.skip_blanks-rest.ensures.shorter;
  end_is = c.as_bytes-bytes.ensures.len;
  few_bytes = omega (arith, c.as_bytes-bytes.ensures.len, c.if-end-gt-MOST_BYTES.false);
  few_tokens = rw c.new-list.ensures.items (omega arith);
}

pub loop-rest-preserved : goal.loop-rest-preserved
loop-rest-preserved c =
    let longest = rw c.in-Some.is at c.in_ok-kind.ensures in
    let place = length c.args.text.now - length c.loop-rest.rest.now in
    let pushed : marks c.push.new.self.items ≡ marks c.loop-rest.list.items ++ at place (sort_of c.in-Some.kind) ∷ [] =
    rw (c.in_ok-push.ensures.items, map_push mark_of c.loop-rest.list.items _, c.as_bytes-bytes.ensures.len) refl in
    record {
      leads = rw pushed (leads_on c.loop-rest.invariant.leads (token_first longest (c.skip_blanks-rest-in-loop-rest.ensures.skips _)));
      past = c.skip_blanks-rest-in-loop-rest.ensures.all;
      utf8 = c.skip_blanks-rest-in-loop-rest.ensures.utf8 (token_utf8 longest.token c.loop-rest.invariant.utf8);
      within = omega (arith, token_shorter longest.token, c.skip_blanks-rest-in-loop-rest.ensures.shorter, c.loop-rest.invariant.within);
      end_is = c.loop-rest.invariant.end_is;
      few_bytes = c.loop-rest.invariant.few_bytes;
      few_tokens = omega (arith, c.in_ok-push.ensures.len, c.loop-rest.invariant.few_tokens, c.if-len-eq-MOST_TOKENS.false);
    }

pub loop-rest-smaller : goal.loop-rest-smaller
loop-rest-smaller c =
    let longest = rw c.in-Some.is at c.in_ok-kind.ensures in
    omega (arith, token_shorter longest.token, c.skip_blanks-rest-in-loop-rest.ensures.shorter)

pub returns-in_default : goal.returns-in_default
returns-in_default c =
    let reaches : Reaches c.args.text.now (marks c.loop-rest.list.items) (length c.as_bytes-bytes.result.now - length c.loop-rest.rest.now) c.loop-rest.rest.now = record {
      leads = c.loop-rest.invariant.leads;
      place_is = rw c.as_bytes-bytes.ensures.len refl;
      few_bytes = c.loop-rest.invariant.few_bytes;
      few_tokens = rw (length-map c.loop-rest.list.items mark_of) c.loop-rest.invariant.few_tokens;
    } in
    stuck c.loop-rest.rest.now c.no_token.result reaches c.loop-rest.invariant.past (sym c.loop-rest-test.ensures) (rw c.in_default.is at c.in_ok-kind.ensures) c.no_token.ensures

pub invariant_of-result : goal.invariant_of-result
invariant_of-result c = record { ordered = leads_ascend c.args.text.now c.loop-rest.invariant.leads }
