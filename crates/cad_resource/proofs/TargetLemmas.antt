-- Targets are texts.
use Rattle.std.proofs.Common.{◌≡◌, ℕ, zero, suc, ◌<◌, lit<, ◌==◌, List, [], ◌∷◌, true, get_or, arith}
use Rattle.std.specs.List.{list_all}
use Rattle.std.specs.Str.{IsUtf8}
use Rattle.std.proofs.lemmas.Bool.{and_parts}
use Rattle.std.proofs.lemmas.Bool.Decides.{nat_tests}
use Rattle.std.proofs.lemmas.Str.{IsUtf8-from_ascii}
use Rattle.std.specs.Prelude.{nat_le}
use Rattle.cad_resource.specs.Heads.{is_visible, is_target}

visible_below : (b : ℕ) → is_visible b ≡ true → b < 128
visible_below b v = let h = (and_parts (nat_le 33 b) (nat_le b 126) v).1 in grind (arith, nat_tests)

visible_reads : (text : List ℕ) → list_all is_visible text ≡ true → (i : ℕ) → get_or text i 0 < 128
visible_reads [] v i = lit< tt
visible_reads (b ∷ text) v zero = visible_below b (and_parts (is_visible b) (list_all is_visible text) v).0
visible_reads (b ∷ text) v (suc i) = visible_reads text (and_parts (is_visible b) (list_all is_visible text) v).1 i

pub target_utf8 : (target : List ℕ) → is_target target ≡ true → IsUtf8 target
target_utf8 target is = IsUtf8-from_ascii target (visible_reads target (and_parts (get_or target 0 0 == 47) (list_all is_visible target) is).1)
