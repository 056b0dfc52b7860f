-- Where a text is parted.
use Rattle.std.proofs.Common.{◌≡◌, ℕ, List, length, Option, Some, None, arith, ◌<◌}
use Rattle.std.proofs.lemmas.Bool.Decides.{nat_tests}
use Rattle.std.specs.Prelude.{option_map, MatchOption}
use Rattle.std.specs.Borrow.{Bor}
use Rattle.std.specs.List.{position_or_len, before_first, after_first}
use Rattle.std.proofs.lemmas.Str.Pattern.{IsSplitOnceResult, split_once_first}
use Rattle.cad_day.specs.Moments.{is_slash, parted}

abbrev pub Parts : Type 0
Parts = Bor (List ℕ) × Bor (List ℕ)

parted_where : (text : List ℕ) (r : Option Parts) → MatchOption r (position_or_len is_slash text ≡ length text)
    (λ x. (position_or_len is_slash text < length text) × (x.0.now ≡ before_first is_slash text) × (x.1.now ≡ after_first is_slash text)) →
    parted text ≡ option_map (λ x. (x.0.now, x.1.now)) r
parted_where text None h = grind (arith, nat_tests)
parted_where text (Some x) h = let below = h.0 in grind (arith, nat_tests)

pub parted_is : (text : List ℕ) (r : Option Parts) → IsSplitOnceResult 47 text r → parted text ≡ option_map (λ x. (x.0.now, x.1.now)) r
parted_is text r h = parted_where text r (split_once_first 47 text r h (omega arith))
