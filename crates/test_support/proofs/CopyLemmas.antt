-- A copy that ends with a byte.
use Rattle.std.proofs.Common.{◌≡◌, ◌<◌, ◌≤◌, ◌+◌, ◌∙◌, ℕ, suc, List, [], ◌∷◌, ◌++◌, length, take, get_or, ap, sym, append_assoc, append-nil, add-one}
use Rattle.std.proofs.lemmas.List.{take_all, take_more}
use Rattle.test_support.specs.Copies.{repeated}

-- the copy that ends is one more
one_more : (text bytes : List ℕ) (count at byte : ℕ) → at < length text → length text ≤ at + 1 → get_or text at byte ≡ byte →
    bytes ≡ repeated count text ++ take at text → bytes ++ (byte ∷ []) ≡ repeated (suc count) text
one_more text bytes count at byte within last is got =
    let whole : take at text ++ (byte ∷ []) ≡ text =
    sym (ap (λ b. take at text ++ (b ∷ [])) is) ∙ sym (take_more text at byte within) ∙ take_all (at + 1) text last in
    ap (λ front. front ++ (byte ∷ [])) got ∙ append_assoc (repeated count text) (take at text) (byte ∷ []) ∙ ap (λ end. repeated count text ++ end) whole

pub copy_ends : (text after bytes : List ℕ) (count counted at begun byte : ℕ) → at < length text → length text ≤ at + 1 → get_or text at byte ≡ byte →
    bytes ≡ repeated count text ++ take at text → after ≡ text → counted ≡ count + 1 → begun ≡ 0 →
    bytes ++ (byte ∷ []) ≡ repeated counted after ++ take begun after
copy_ends text after bytes count counted at begun byte within last is got same more from =
    rw (same, more, from, add-one) (one_more text bytes count at byte within last is got ∙ sym (append-nil (repeated (suc count) text)))
