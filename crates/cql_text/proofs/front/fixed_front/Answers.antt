use Rattle.std.proofs.Common.{◌∙◌, ap, chars, rules}
use Rattle.std.specs.Prelude.{string_bytes}
use Rattle.std.proofs.lemmas.Str.{IsUtf8-string_bytes, chars-nil}
use Rattle.cql_text.specs.Fronts.{after_front, front_of}
use Rattle.cql_text.specs.Patterns.{pieces}
use Rattle.cql_text.specs.Fronts.{text_of}
use Rattle.cql_text.proofs.FrontLemmas.{chars_more}
use Rattle.cql_text.proofs.RangeLemmas.{front_start, front_step}
use Rattle.cql_text.proofs.front.fixed_front.Goals as goal

pub exact-init : goal.exact-init
exact-init c = record {
  front = front_start (text_of c.new-text.result) (front_of (pieces (chars c.args.pattern.now))) (ap chars c.new-text.ensures.bytes ∙ chars-nil);
  rest = search rules;
  left_text = c.utf8.pattern;
}

pub exact-preserved : goal.exact-preserved
exact-preserved c =
    let pushed = chars_more (string_bytes c.exact.text) (string_bytes c.push.new.self) c.in-Some.c (IsUtf8-string_bytes c.exact.text) (IsUtf8-string_bytes c.push.new.self) c.in_ok-push.ensures.bytes in
    record {
      front = front_step (front_of (pieces (chars c.args.pattern.now))) (text_of c.exact.text) (text_of c.push.new.self) (pieces (chars c.exact.left.now)) (pieces (chars c.in-Some.after.now)) c.in-Some.c c.exact.invariant.front c.in-Some.ensures pushed;
      rest = c.exact.invariant.rest ∙ ap after_front c.in-Some.ensures;
      left_text = search rules;
    }
