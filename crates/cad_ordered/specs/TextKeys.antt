-- Texts are ordered by their keys as by their characters.
use Rattle.std.specs.Prelude.{◌≡◌, Some, chars, string_bytes}
use Rattle.std.proofs.Common.{sym, ap, ◌∙◌}
use Rattle.std.specs.Ordering.{nat_cmp, ordering_then}
use Rattle.std.specs.Cmp.Lexicographic.{slice_cmp}
use Rattle.std.proofs.lemmas.Str.{IsUtf8-string_bytes}
use Rattle.cql_text.specs.CodePoints.{bytes_cmp}
use Rattle.cad_feature.specs.Values.{a_text}
use Rattle.cad_range.specs.Ranges.{compared}
use Rattle.cad_ordered.specs.TwoFronts.{fronts_cmp}
use Rattle.cad_ordered.specs.lemmas.FrontLemmas.{by_fronts}
use Rattle.cad_ordered.specs.declared.text_key.TextKey.{TextKey}

pub text_keys : (x y : TextKey) → compared (a_text (chars (string_bytes x.text.value))) (a_text (chars (string_bytes y.text.value))) ≡ Some (ordering_then (fronts_cmp x.fronts y.fronts) (slice_cmp nat_cmp (string_bytes x.text.value) (string_bytes y.text.value)))
text_keys x y = ap Some (
    sym (bytes_cmp (string_bytes x.text.value) (string_bytes y.text.value) (IsUtf8-string_bytes x.text.value) (IsUtf8-string_bytes y.text.value))
    ∙ sym (by_fronts x.fronts y.fronts (string_bytes x.text.value) (string_bytes y.text.value) x.fronted y.fronted))
