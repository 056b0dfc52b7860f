use Rattle.std.proofs.Common.{◌≡◌, ◌∙◌, ap, sym, chars, []}
use Rattle.std.proofs.lemmas.List.{nil_from_length}
use Rattle.std.proofs.lemmas.Str.{chars-nil}
use Rattle.std.specs.Prelude.{string_bytes, string_len}
use Rattle.cql_text.specs.Fronts.{front_of, text_of}
use Rattle.cql_text.specs.Patterns.{pieces}
use Rattle.cql_rewrite.proofs.FrontLemmas.{none_begun, zero_is}
use Rattle.cql_rewrite.proofs.likes.property_form.Goals as goal

pub returns-then-is_empty-clause-costs : goal.returns-then-is_empty-clause-costs
returns-then-is_empty-clause-costs c = λ t.
    let low = c.in_ok-range.range.low in
    let bytes = nil_from_length (string_bytes low) (sym low.bytes.ok.0 ∙ zero_is (string_len low) c.if-is_empty.ensures) in
    let empty : text_of low ≡ [] = ap chars bytes ∙ chars-nil in
    none_begun t c.args.property (front_of (pieces (text_of c.args.pattern))) (sym empty ∙ (rw c.as_str.ensures.value at c.in_ok-range.ensures.front))
