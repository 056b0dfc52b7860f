-- Bytes of UTF-8 are ordered as code points are.
use Rattle.std.proofs.Common.{◌≡◌, ◌∙◌, ℕ, ◌+◌, ◌/◌, ◌%◌, ◌<◌, ◌≤◌, true, false, List, [], ◌∷◌, ◌++◌, chars, ap, refl, inl, inr, arith}
use Rattle.std.specs.Str.{IsUtf8}
use Rattle.std.specs.declared.cmp.Ordering.TheVariants.{Less, Equal, Greater}
use Rattle.std.specs.Ordering.{nat_cmp, ordering_reverse, ordering_then}
use Rattle.std.proofs.lemmas.Bool.{cases_lt}
use Rattle.std.proofs.lemmas.Bool.Decides.{nat_tests}
use Rattle.std.proofs.lemmas.Cmp.{by_ranked, nat_list_cmp_total, ranked}
use Rattle.std.proofs.lemmas.Str.{encode_ascii, encodes-chars}
use Rattle.std.proofs.Math.Utf8.{encode, encodes}
use Rattle.cql_text.specs.Order.{text_cmp}
use lib.Dec.{ltb}

pub cmp_less : (x y : ℕ) → x < y → nat_cmp x y ≡ Less
cmp_less x y h = grind (arith, nat_tests)

pub cmp_equal : (x y : ℕ) → x ≡ y → nat_cmp x y ≡ Equal
cmp_equal x y h = grind (arith, nat_tests)

pub cmp_greater : (x y : ℕ) → y < x → nat_cmp x y ≡ Greater
cmp_greater x y h = grind (arith, nat_tests)

-- closed, so that `_` is found in it
IsLess : List ℕ → List ℕ → Type 0
IsLess xs ys = text_cmp xs ys ≡ Less

less_is : (xs ys : List ℕ) → IsLess xs ys → text_cmp xs ys ≡ Less
unfolding IsLess
less_is xs ys h = h

first_less : (x y : ℕ) (xs ys : List ℕ) → x < y → IsLess (x ∷ xs) (y ∷ ys)
unfolding IsLess
first_less x y xs ys h = rw (cmp_less x y h) refl

-- the first byte is not greater than the other, and if they are equal the following bytes decide
step_less : (x y : ℕ) (xs ys : List ℕ) → x ≤ y → (x ≡ y → IsLess xs ys) → IsLess (x ∷ xs) (y ∷ ys)
unfolding IsLess
step_less x y xs ys h rest = by_ranked (x < y) (x ≡ y) (y < x) (nat_cmp x y) (ranked x y (nat_cmp x y) refl)
    (λ e k. rw e refl)
    (λ e k. rw e (rest k))
    (λ e k. absurd (omega arith))

two : (c : ℕ) → 128 ≤ c → c < 2048 → encode c ≡ (192 + c / 64) ∷ (128 + c % 64) ∷ []
unfolding encode
two c h k = let a : ltb c 128 ≡ false = grind (arith, nat_tests) in let b : ltb c 2048 ≡ true = grind (arith, nat_tests) in rw (a, b) refl

three : (c : ℕ) → 2048 ≤ c → c < 65536 → encode c ≡ (224 + c / 4096) ∷ (128 + (c / 64) % 64) ∷ (128 + c % 64) ∷ []
unfolding encode
three c h k = let a : ltb c 128 ≡ false = grind (arith, nat_tests) in let b : ltb c 2048 ≡ false = grind (arith, nat_tests) in let d : ltb c 65536 ≡ true = grind (arith, nat_tests) in rw (a, b, d) refl

four : (c : ℕ) → 65536 ≤ c → encode c ≡ (240 + c / 262144) ∷ (128 + (c / 4096) % 64) ∷ (128 + (c / 64) % 64) ∷ (128 + c % 64) ∷ []
unfolding encode
four c h = let a : ltb c 128 ≡ false = grind (arith, nat_tests) in let b : ltb c 2048 ≡ false = grind (arith, nat_tests) in let d : ltb c 65536 ≡ false = grind (arith, nat_tests) in rw (a, b, d) refl

two_less : (c d : ℕ) (r t : List ℕ) → c < d → IsLess ((192 + c / 64) ∷ (128 + c % 64) ∷ r) ((192 + d / 64) ∷ (128 + d % 64) ∷ t)
two_less c d r t h = step_less (192 + c / 64) (192 + d / 64) _ _ (omega arith) (λ e. first_less (128 + c % 64) (128 + d % 64) r t (omega arith))

three_less : (c d : ℕ) (r t : List ℕ) → c < d → IsLess ((224 + c / 4096) ∷ (128 + (c / 64) % 64) ∷ (128 + c % 64) ∷ r) ((224 + d / 4096) ∷ (128 + (d / 64) % 64) ∷ (128 + d % 64) ∷ t)
three_less c d r t h = step_less (224 + c / 4096) (224 + d / 4096) _ _ (omega arith)
    (λ e. step_less (128 + (c / 64) % 64) (128 + (d / 64) % 64) _ _ (omega arith)
    (λ f. first_less (128 + c % 64) (128 + d % 64) r t (omega arith)))

four_less : (c d : ℕ) (r t : List ℕ) → c < d → IsLess ((240 + c / 262144) ∷ (128 + (c / 4096) % 64) ∷ (128 + (c / 64) % 64) ∷ (128 + c % 64) ∷ r) ((240 + d / 262144) ∷ (128 + (d / 4096) % 64) ∷ (128 + (d / 64) % 64) ∷ (128 + d % 64) ∷ t)
four_less c d r t h = step_less (240 + c / 262144) (240 + d / 262144) _ _ (omega arith)
    (λ e. step_less (128 + (c / 4096) % 64) (128 + (d / 4096) % 64) _ _ (omega arith)
    (λ f. step_less (128 + (c / 64) % 64) (128 + (d / 64) % 64) _ _ (omega arith)
    (λ g. first_less (128 + c % 64) (128 + d % 64) r t (omega arith))))

-- the first byte of a character determines how many bytes it has
encode_less : (c d : ℕ) (r t : List ℕ) → c < d → IsLess (encode c ++ r) (encode d ++ t)
encode_less c d r t h =
    elim (cases_lt c 128) [
      | inl c1 ↦ elim (cases_lt d 128) [
        | inl d1 ↦ rw (encode_ascii c c1, encode_ascii d d1) (first_less c d r t h)
        | inr d1 ↦ rw (encode_ascii c c1) (elim (cases_lt d 2048) [
          | inl d2 ↦ rw (two d d1 d2) (first_less c (192 + d / 64) _ _ (omega arith))
          | inr d2 ↦ elim (cases_lt d 65536) [
            | inl d3 ↦ rw (three d d2 d3) (first_less c (224 + d / 4096) _ _ (omega arith))
            | inr d3 ↦ rw (four d d3) (first_less c (240 + d / 262144) _ _ (omega arith))
          ]
        ])
      ]
      | inr c1 ↦ elim (cases_lt c 2048) [
        | inl c2 ↦ rw (two c c1 c2) (elim (cases_lt d 2048) [
          | inl d2 ↦ rw (two d (omega arith) d2) (two_less c d r t h)
          | inr d2 ↦ elim (cases_lt d 65536) [
            | inl d3 ↦ rw (three d d2 d3) (first_less (192 + c / 64) (224 + d / 4096) _ _ (omega arith))
            | inr d3 ↦ rw (four d d3) (first_less (192 + c / 64) (240 + d / 262144) _ _ (omega arith))
          ]
        ])
        | inr c2 ↦ elim (cases_lt c 65536) [
          | inl c3 ↦ rw (three c c2 c3) (elim (cases_lt d 65536) [
            | inl d3 ↦ rw (three d (omega arith) d3) (three_less c d r t h)
            | inr d3 ↦ rw (four d d3) (first_less (224 + c / 4096) (240 + d / 262144) _ _ (omega arith))
          ])
          | inr c3 ↦ rw (four c c3, four d (omega arith)) (four_less c d r t h)
        ]
      ]
    ]

tied_front : (xs r t : List ℕ) → text_cmp (xs ++ r) (xs ++ t) ≡ text_cmp r t
tied_front [] r t = refl
tied_front (x ∷ xs) r t = rw (cmp_equal x x refl) (tied_front xs r t)

encode_cmp : (c d : ℕ) (r t : List ℕ) → text_cmp (encode c ++ r) (encode d ++ t) ≡ ordering_then (nat_cmp c d) (text_cmp r t)
encode_cmp c d r t = by_ranked (c < d) (c ≡ d) (d < c) (nat_cmp c d) (ranked c d (nat_cmp c d) refl)
    (λ e h. rw e (less_is (encode c ++ r) (encode d ++ t) (encode_less c d r t h)))
    (λ e h. rw (e, h) (tied_front (encode d) r t))
    (λ e h. rw e (nat_list_cmp_total.antisymm (encode c ++ r) (encode d ++ t) ∙ ap ordering_reverse (less_is (encode d ++ t) (encode c ++ r) (encode_less d c t r h))))

encode_some : (c : ℕ) (r : List ℕ) → (b : ℕ) × (bs : List ℕ) × (encode c ++ r ≡ b ∷ bs)
encode_some c r =
    elim (cases_lt c 128) [
      | inl c1 ↦ rw (encode_ascii c c1) (_, _, refl)
      | inr c1 ↦ elim (cases_lt c 2048) [
        | inl c2 ↦ rw (two c c1 c2) (_, _, refl)
        | inr c2 ↦ elim (cases_lt c 65536) [
          | inl c3 ↦ rw (three c c2 c3) (_, _, refl)
          | inr c3 ↦ rw (four c c3) (_, _, refl)
        ]
      ]
    ]

pub encodes_cmp : (cs ds : List ℕ) → text_cmp (encodes cs) (encodes ds) ≡ text_cmp cs ds
encodes_cmp [] [] = refl
encodes_cmp [] (d ∷ ds) = let s = encode_some d (encodes ds) in rw s.2 refl
encodes_cmp (c ∷ cs) [] = let s = encode_some c (encodes cs) in rw s.2 refl
encodes_cmp (c ∷ cs) (d ∷ ds) = encode_cmp c d (encodes cs) (encodes ds) ∙ ap (ordering_then (nat_cmp c d)) (encodes_cmp cs ds)

pub bytes_cmp : (xs ys : List ℕ) → IsUtf8 xs → IsUtf8 ys → text_cmp xs ys ≡ text_cmp (chars xs) (chars ys)
bytes_cmp xs ys u v = rw (encodes-chars xs u, encodes-chars ys v) at (encodes_cmp (chars xs) (chars ys))
