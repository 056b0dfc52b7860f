-- Lines, as bytes are read one after the other.
use Rattle.std.proofs.Common.{◌≡◌, ℕ, ◌+◌, ◌-◌, ◌<◌, Bool, true, false, not, cond, List, [], ◌∷◌, ◌++◌, length, take, drop, refl, sym, ap, ◌∙◌, append_assoc, append-nil, arith, length-append, filter}
use Rattle.std.specs.List.{slice_split, onto_first, before_last, after_last, suffix_len, prefix_len}
use Rattle.std.proofs.lemmas.List.{reverse-append, take_at, take-append-le, drop-append-le, drop_all}
use Rattle.std.proofs.lemmas.List.Elements.{filter-append}
use Rattle.std.proofs.lemmas.List.Splits.{length-slice_split}
use Rattle.cad_office.specs.Lines.{is_lf, is_filled, lines_in, lines_ended, line_begun}

-- ---- before and after the last

suffix_len-push : {X : Type 0} (p : X → Bool) (xs : List X) (y : X) → suffix_len p (xs ++ y ∷ []) ≡ cond (p y) (1 + suffix_len p xs) 0
suffix_len-push p xs y = ap (prefix_len p) (reverse-append xs (y ∷ []))

suffix_stops : {X : Type 0} (p : X → Bool) (xs : List X) (y : X) → p y ≡ true → suffix_len (λ x. not (p x)) (xs ++ y ∷ []) ≡ 0
suffix_stops p xs y e = suffix_len-push (λ x. not (p x)) xs y ∙ ap (λ (b : Bool). cond (not b) (1 + suffix_len (λ x. not (p x)) xs) 0) e

suffix_grows : {X : Type 0} (p : X → Bool) (xs : List X) (y : X) → p y ≡ false → suffix_len (λ x. not (p x)) (xs ++ y ∷ []) ≡ 1 + suffix_len (λ x. not (p x)) xs
suffix_grows p xs y e = suffix_len-push (λ x. not (p x)) xs y ∙ ap (λ (b : Bool). cond (not b) (1 + suffix_len (λ x. not (p x)) xs) 0) e

before_last-push_yes : {X : Type 0} (p : X → Bool) (xs : List X) (y : X) → p y ≡ true → before_last p (xs ++ y ∷ []) ≡ xs
before_last-push_yes p xs y e =
    let stops = suffix_stops p xs y e in
    let all : length (xs ++ y ∷ []) - suffix_len (λ x. not (p x)) (xs ++ y ∷ []) - 1 ≡ length xs = omega (arith, stops, length-append xs (y ∷ [])) in
    ap (λ (n : ℕ). take n (xs ++ y ∷ [])) all ∙ take_at xs (y ∷ []) (length xs) refl

after_last-push_yes : {X : Type 0} (p : X → Bool) (xs : List X) (y : X) → p y ≡ true → after_last p (xs ++ y ∷ []) ≡ []
after_last-push_yes p xs y e =
    let stops = suffix_stops p xs y e in
    drop_all _ (xs ++ y ∷ []) (omega (arith, stops))

before_last-push_no : {X : Type 0} (p : X → Bool) (xs : List X) (y : X) → p y ≡ false → before_last p (xs ++ y ∷ []) ≡ before_last p xs
before_last-push_no p xs y e =
    let grows = suffix_grows p xs y e in
    let same : length (xs ++ y ∷ []) - suffix_len (λ x. not (p x)) (xs ++ y ∷ []) - 1 ≡ length xs - suffix_len (λ x. not (p x)) xs - 1 = omega (arith, grows, length-append xs (y ∷ [])) in
    ap (λ (n : ℕ). take n (xs ++ y ∷ [])) same ∙ take-append-le _ xs (y ∷ []) (omega arith)

after_last-push_no : {X : Type 0} (p : X → Bool) (xs : List X) (y : X) → p y ≡ false → after_last p (xs ++ y ∷ []) ≡ after_last p xs ++ y ∷ []
after_last-push_no p xs y e =
    let grows = suffix_grows p xs y e in
    let same : length (xs ++ y ∷ []) - suffix_len (λ x. not (p x)) (xs ++ y ∷ []) ≡ length xs - suffix_len (λ x. not (p x)) xs = omega (arith, grows, length-append xs (y ∷ [])) in
    ap (λ (n : ℕ). drop n (xs ++ y ∷ [])) same ∙ drop-append-le _ xs (y ∷ []) (omega arith)

-- ---- the parts, as one element more comes at the end

-- the lists with x put behind the last
onto_last : {X : Type 0} → X → List (List X) → List (List X)
onto_last x [] = (x ∷ []) ∷ []
onto_last x (part ∷ []) = (part ++ x ∷ []) ∷ []
onto_last x (part ∷ other ∷ parts) = part ∷ onto_last x (other ∷ parts)

onto_last-push : {X : Type 0} (x : X) (front : List (List X)) (part : List X) → onto_last x (front ++ part ∷ []) ≡ front ++ (part ++ x ∷ []) ∷ []
unfolding onto_last
onto_last-push x [] part = refl
onto_last-push x (a ∷ []) part = refl
onto_last-push x (a ∷ b ∷ front) part = ap (λ (s : List (List _)). a ∷ s) (onto_last-push x (b ∷ front) part)

onto_both : {X : Type 0} (x y : X) (parts : List (List X)) → onto_first x (onto_last y parts) ≡ onto_last y (onto_first x parts)
unfolding onto_last
onto_both x y [] = refl
onto_both x y (part ∷ []) = refl
onto_both x y (part ∷ other ∷ parts) = refl

onto_first-append : {X : Type 0} (x : X) (parts more : List (List X)) → 0 < length parts → onto_first x (parts ++ more) ≡ onto_first x parts ++ more
onto_first-append x [] more h = absurd (omega arith)
onto_first-append x (part ∷ parts) more h = refl

onto_last-cons : {X : Type 0} (y : X) (part : List X) (parts : List (List X)) → 0 < length parts → onto_last y (part ∷ parts) ≡ part ∷ onto_last y parts
unfolding onto_last
onto_last-cons y part [] h = absurd (omega arith)
onto_last-cons y part (other ∷ parts) h = refl

has_parts : {X : Type 0} (p : X → Bool) (xs : List X) → 0 < length (slice_split p xs)
has_parts p xs = omega (arith, length-slice_split p xs)

yes_step : {X : Type 0} (b : Bool) (x : X) (parts more whole : List (List X)) → 0 < length parts → whole ≡ parts ++ more → cond b ([] ∷ whole) (onto_first x whole) ≡ cond b ([] ∷ parts) (onto_first x parts) ++ more
yes_step true x parts more whole h e = ap (λ (s : List (List _)). [] ∷ s) e
yes_step false x parts more whole h e = ap (onto_first x) e ∙ onto_first-append x parts more h

slice_split-push_yes : {X : Type 0} (p : X → Bool) (xs : List X) (y : X) → p y ≡ true → slice_split p (xs ++ y ∷ []) ≡ slice_split p xs ++ [] ∷ []
slice_split-push_yes p [] y e = ap (λ (b : Bool). cond b ([] ∷ [] ∷ []) ((y ∷ []) ∷ [])) e
slice_split-push_yes p (x ∷ xs) y e = yes_step (p x) x (slice_split p xs) ([] ∷ []) _ (has_parts p xs) (slice_split-push_yes p xs y e)

no_step : {X : Type 0} (b : Bool) (x y : X) (parts whole : List (List X)) → 0 < length parts → whole ≡ onto_last y parts → cond b ([] ∷ whole) (onto_first x whole) ≡ onto_last y (cond b ([] ∷ parts) (onto_first x parts))
no_step true x y parts whole h e = ap (λ (s : List (List _)). [] ∷ s) e ∙ sym (onto_last-cons y [] parts h)
no_step false x y parts whole h e = ap (onto_first x) e ∙ onto_both x y parts

slice_split-push_no : {X : Type 0} (p : X → Bool) (xs : List X) (y : X) → p y ≡ false → slice_split p (xs ++ y ∷ []) ≡ onto_last y (slice_split p xs)
unfolding onto_last
slice_split-push_no p [] y e = ap (λ (b : Bool). cond b ([] ∷ [] ∷ []) ((y ∷ []) ∷ [])) e
slice_split-push_no p (x ∷ xs) y e = no_step (p x) x y (slice_split p xs) _ (has_parts p xs) (slice_split-push_no p xs y e)

-- ---- what an LF and another byte do

-- what holds of nothing, and of one more byte where it held before, holds of all bytes
by_bytes : (P : List ℕ → Type 0) → ((read : List ℕ) (byte : ℕ) → P read → P (read ++ byte ∷ [])) → (read more : List ℕ) → P read → P (read ++ more)
by_bytes P step read [] h = rw append-nil h
by_bytes P step read (byte ∷ more) h = rw append_assoc at (by_bytes P step (read ++ byte ∷ []) more (step read byte h))

-- the parts are those that end, and the one that has begun
Parted : List ℕ → Type 0
Parted bytes =
    (front : List (List ℕ)) × (slice_split is_lf bytes ≡ front ++ after_last is_lf bytes ∷ []) × (lines_ended bytes ≡ filter is_filled front)

parted_yes : (bytes : List ℕ) (byte : ℕ) → is_lf byte ≡ true → Parted (bytes ++ byte ∷ [])
unfolding Parted lines_ended lines_in
parted_yes bytes byte e = (
  slice_split is_lf bytes,
  rw (after_last-push_yes is_lf bytes byte e) (slice_split-push_yes is_lf bytes byte e),
  ap (λ (s : List ℕ). filter is_filled (slice_split is_lf s)) (before_last-push_yes is_lf bytes byte e),
)

parted_no : (bytes : List ℕ) (byte : ℕ) → is_lf byte ≡ false → Parted bytes → Parted (bytes ++ byte ∷ [])
unfolding Parted lines_ended lines_in
parted_no bytes byte e h = (
  h.0,
  slice_split-push_no is_lf bytes byte e ∙ ap (onto_last byte) h.1 ∙ onto_last-push byte h.0 (after_last is_lf bytes) ∙ ap (λ (s : List ℕ). h.0 ++ s ∷ []) (sym (after_last-push_no is_lf bytes byte e)),
  ap (λ (s : List ℕ). filter is_filled (slice_split is_lf s)) (before_last-push_no is_lf bytes byte e) ∙ h.2,
)

parted_step : (b : Bool) (bytes : List ℕ) (byte : ℕ) → is_lf byte ≡ b → Parted bytes → Parted (bytes ++ byte ∷ [])
parted_step true bytes byte e h = parted_yes bytes byte e
parted_step false bytes byte e h = parted_no bytes byte e h

parted : (bytes : List ℕ) → Parted bytes
unfolding Parted lines_ended lines_in
parted bytes = by_bytes Parted (λ read byte h. parted_step (is_lf byte) read byte refl h) [] bytes ([], refl, refl)

-- at the end of the input the line that has begun is one more
pub lines_in-begun : (bytes : List ℕ) → lines_in bytes ≡ lines_ended bytes ++ filter is_filled (line_begun bytes ∷ [])
unfolding Parted lines_in line_begun
lines_in-begun bytes =
    let h = parted bytes in
    ap (filter is_filled) h.1 ∙ filter-append is_filled h.0 (after_last is_lf bytes ∷ []) ∙ ap (λ (s : List (List ℕ)). s ++ filter is_filled (after_last is_lf bytes ∷ [])) (sym h.2)

pub lines_ended-lf : (bytes : List ℕ) → lines_ended (bytes ++ 10 ∷ []) ≡ lines_in bytes
unfolding lines_ended
lines_ended-lf bytes = ap lines_in (before_last-push_yes is_lf bytes 10 refl)

pub line_begun-lf : (bytes : List ℕ) → line_begun (bytes ++ 10 ∷ []) ≡ []
unfolding line_begun
line_begun-lf bytes = after_last-push_yes is_lf bytes 10 refl

pub lines_ended-byte : (bytes : List ℕ) (byte : ℕ) → is_lf byte ≡ false → lines_ended (bytes ++ byte ∷ []) ≡ lines_ended bytes
unfolding lines_ended
lines_ended-byte bytes byte e = ap lines_in (before_last-push_no is_lf bytes byte e)

pub line_begun-byte : (bytes : List ℕ) (byte : ℕ) → is_lf byte ≡ false → line_begun (bytes ++ byte ∷ []) ≡ line_begun bytes ++ byte ∷ []
unfolding line_begun
line_begun-byte bytes byte e = after_last-push_no is_lf bytes byte e

-- ---- lines that have ended stay

Grows : List ℕ → List ℕ → Type 0
Grows old new = (more : List (List ℕ)) × (lines_ended new ≡ lines_ended old ++ more)

grows_step : (b : Bool) (bytes : List ℕ) (byte : ℕ) → is_lf byte ≡ b → Grows bytes (bytes ++ byte ∷ [])
unfolding Grows Parted lines_ended lines_in
grows_step true bytes byte e =
    let h = parted bytes in
    (filter is_filled (after_last is_lf bytes ∷ []), ap lines_in (before_last-push_yes is_lf bytes byte e) ∙ ap (filter is_filled) h.1 ∙ filter-append is_filled h.0 (after_last is_lf bytes ∷ []) ∙ ap (λ (s : List (List ℕ)). s ++ filter is_filled (after_last is_lf bytes ∷ [])) (sym h.2))
grows_step false bytes byte e = ([], ap lines_in (before_last-push_no is_lf bytes byte e) ∙ sym (append-nil _))

grows_trans : (xs ys zs : List ℕ) → Grows xs ys → Grows ys zs → Grows xs zs
unfolding Grows
grows_trans xs ys zs h k =
    (h.0 ++ k.0, k.1 ∙ ap (λ (s : List (List ℕ)). s ++ k.0) h.1 ∙ append_assoc (lines_ended xs) h.0 k.0)

pub lines_ended-append : (read piece : List ℕ) → (more : List (List ℕ)) × (lines_ended (read ++ piece) ≡ lines_ended read ++ more)
unfolding Grows
lines_ended-append read piece =
    by_bytes (Grows read) (λ bytes byte h. grows_trans read bytes (bytes ++ byte ∷ []) h (grows_step (is_lf byte) bytes byte refl)) read piece ([], sym (append-nil _))
