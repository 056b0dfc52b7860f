use Rattle.std.proofs.Common.{◌∙◌, ap, sym, chars, Some, ℕ, List}
use Rattle.std.proofs.lemmas.List.{nil_from_length}
use Rattle.std.specs.Prelude.{string_bytes}
use Rattle.std.proofs.lemmas.Str.{IsUtf8-string_bytes, chars-nil}
use Rattle.cql_text.specs.Fronts.{next_front, text_of}
use Rattle.cql_text.proofs.FrontLemmas.{chars_more, next_none, next_some}
use Rattle.cql_text.proofs.front.after_front.Goals as goal

pub returns-in-Some-next_char : goal.returns-in-Some-next_char
returns-in-Some-next_char c =
    let popped = chars_more (string_bytes c.pop.new.self) (string_bytes c.last.end) c.in-Some.last (IsUtf8-string_bytes c.pop.new.self) (IsUtf8-string_bytes c.last.end) c.in-Some.ensures.bytes in
    let pushed = chars_more (string_bytes c.pop.new.self) (string_bytes c.push.new.self) c.in-Some-next_char.next (IsUtf8-string_bytes c.pop.new.self) (IsUtf8-string_bytes c.push.new.self) c.in_ok-push.ensures.bytes in
    let n = next_some (text_of c.pop.new.self) c.in-Some.last c.in-Some-next_char.next (sym c.in-Some-next_char.ensures) in
    ap Some pushed ∙ sym (c.last.invariant ∙ ap next_front popped ∙ n)

pub last-preserved : goal.last-preserved
last-preserved c =
    let popped = chars_more (string_bytes c.pop.new.self) (string_bytes c.last.end) c.in-Some.last (IsUtf8-string_bytes c.pop.new.self) (IsUtf8-string_bytes c.last.end) c.in-Some.ensures.bytes in
    let n = next_none (text_of c.pop.new.self) c.in-Some.last (sym c.in_default-next_char.ensures) in
    c.last.invariant ∙ ap next_front popped ∙ n

pub returns : goal.returns
returns c =
    let bytes = nil_from_length (string_bytes c.last.end) (sym c.last.end.bytes.ok.0 ∙ c.in_default.ensures.none) in
    sym (c.last.invariant ∙ ap (λ (bs : List ℕ). next_front (chars bs)) bytes ∙ ap next_front chars-nil)
