-- The members of a list, one after the other.
use Rattle.std.proofs.Common.{◌≡◌, ◌≢◌, ℕ, zero, suc, ◌<◌, ◌==◌, if◌then◌else◌, List, [], ◌∷◌, Bool, true, false, All, length, take, drop, get_or, refl, sym, ap, ◌∙◌, arith}
use Rattle.std.proofs.lemmas.Bool.Decides.{nat_tests}
use Rattle.std.proofs.lemmas.List.Elements.{All-nil, All-cons, All-head, All-tail}
use Rattle.std.specs.List.{join_with_byte}
use Rattle.cad_head.specs.Request.{onto_first, members}

-- the first comma ends the first member
pub members_cut : (list : List ℕ) (i : ℕ) → i < length list → ((k : ℕ) → k < i → (get_or list k 0 == 44) ≡ false) → (get_or list i 0 == 44) ≡ true
    → members list ≡ take i list ∷ members (drop (suc i) list)
members_cut [] i within before comma = absurd (omega arith)
members_cut (b ∷ bytes) zero within before comma = rw comma refl
members_cut (b ∷ bytes) (suc i) within before comma =
    let first : (b == 44) ≡ false = before 0 (omega arith) in
    rw first (ap (onto_first b) (members_cut bytes i (omega arith) (λ k h. before (suc k) (omega arith)) comma))

-- without a comma there is one member
pub members_one : (list : List ℕ) → ((k : ℕ) → k < length list → (get_or list k 0 == 44) ≡ false) → members list ≡ list ∷ []
members_one [] none = refl
members_one (b ∷ bytes) none =
    let first : (b == 44) ≡ false = none 0 (omega arith) in
    rw first (ap (onto_first b) (members_one bytes (λ k h. none (suc k) (omega arith))))

-- the list holds no comma
abbrev HasNoComma : List ℕ → Type 0
HasNoComma member = All (λ b. b ≢ 44) member

with_no_comma : (b : ℕ) (member : List ℕ) → b ≢ 44 → HasNoComma member → HasNoComma (b ∷ member)
with_no_comma b member other none = All-cons (λ (b : ℕ). b ≢ 44) b member other none

onto_no_comma : (b : ℕ) (list : List (List ℕ)) → b ≢ 44 → All HasNoComma list → All HasNoComma (onto_first b list)
onto_no_comma b [] other none =
    All-cons HasNoComma (b ∷ []) [] (with_no_comma b [] other (All-nil (λ (b : ℕ). b ≢ 44))) (All-nil HasNoComma)
onto_no_comma b (member ∷ list) other none =
    All-cons HasNoComma (b ∷ member) list (with_no_comma b member other (All-head HasNoComma member list none)) (All-tail HasNoComma member list none)

no_comma : (b : ℕ) → (b == 44) ≡ false → b ≢ 44
no_comma b other e = grind (arith, nat_tests)

-- what stands between commas holds none
pub members_hold_no_comma : (value : List ℕ) → All (λ member. All (λ b. b ≢ 44) member) (members value)
members_hold_no_comma [] = All-cons HasNoComma [] [] (All-nil (λ (b : ℕ). b ≢ 44)) (All-nil HasNoComma)
members_hold_no_comma (b ∷ bytes) = by_byte (b == 44) refl (members_hold_no_comma bytes)
  where
    by_byte : (t : Bool) → (b == 44) ≡ t → All HasNoComma (members bytes)
        → All HasNoComma (if t then [] ∷ members bytes else onto_first b (members bytes))
    by_byte true e none = All-cons HasNoComma [] (members bytes) (All-nil (λ (b : ℕ). b ≢ 44)) none
    by_byte false e none = onto_no_comma b (members bytes) (no_comma b e) none

-- a list of members has a first one
onto_some : (b : ℕ) (list : List (List ℕ)) → (first : List ℕ) × (others : List (List ℕ)) × (onto_first b list ≡ first ∷ others)
onto_some b [] = (b ∷ [], [], refl)
onto_some b (member ∷ list) = (b ∷ member, list, refl)

some_member : (value : List ℕ) → (first : List ℕ) × (others : List (List ℕ)) × (members value ≡ first ∷ others)
some_member [] = ([], [], refl)
some_member (b ∷ bytes) = by_byte (b == 44)
  where
    by_byte : (t : Bool) → (first : List ℕ) × (others : List (List ℕ)) × ((if t then [] ∷ members bytes else onto_first b (members bytes)) ≡ first ∷ others)
    by_byte true = ([], members bytes, refl)
    by_byte false = onto_some b (members bytes)

join_onto : (b : ℕ) (first : List ℕ) (others : List (List ℕ)) → join_with_byte 44 (onto_first b (first ∷ others)) ≡ b ∷ join_with_byte 44 (first ∷ others)
join_onto b first [] = refl
join_onto b first (next ∷ others) = refl

comma_is : (b : ℕ) → (b == 44) ≡ true → 44 ≡ b
comma_is b same = grind (arith, nat_tests)

-- joined by commas, they are the value
pub members_make_the_value : (value : List ℕ) → join_with_byte 44 (members value) ≡ value
members_make_the_value [] = refl
members_make_the_value (b ∷ bytes) = by_byte (b == 44) refl (members_make_the_value bytes) (some_member bytes)
  where
    by_byte : (t : Bool) → (b == 44) ≡ t → join_with_byte 44 (members bytes) ≡ bytes
        → ((first : List ℕ) × (others : List (List ℕ)) × (members bytes ≡ first ∷ others))
        → join_with_byte 44 (if t then [] ∷ members bytes else onto_first b (members bytes)) ≡ b ∷ bytes
    by_byte true e ih some =
        ap (λ (l : List (List ℕ)). join_with_byte 44 ([] ∷ l)) some.2
        ∙ ap (λ (l : List ℕ). 44 ∷ l) (ap (join_with_byte 44) (sym some.2) ∙ ih)
        ∙ ap (λ (x : ℕ). x ∷ bytes) (comma_is b e)
    by_byte false e ih some =
        ap (λ (l : List (List ℕ)). join_with_byte 44 (onto_first b l)) some.2 ∙ join_onto b some.0 some.1
        ∙ ap (λ (l : List ℕ). b ∷ l) (ap (join_with_byte 44) (sym some.2) ∙ ih)
