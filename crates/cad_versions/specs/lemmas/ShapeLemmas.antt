-- Corners are read as they were written.
use Rattle.std.proofs.Common.{◌≡◌, ◌≢◌, ℕ, ◌+◌, ◌<◌, ◌^◌, ℤ, zero, suc, List, [], ◌∷◌, ◌++◌, length, take, drop, get_or, refl, sym, ap, ap₂, ◌∙◌, arith, append_assoc, append-nil, FitsSigned, to_z-of_z, length-append}
use Rattle.std.proofs.lemmas.Int.{ints, of_z-to_z}
use Rattle.std.proofs.lemmas.Nat.{be_bytes_8, from_be_bytes-to_be_bytes_8, from_be_bytes-to_be_bytes_2}
use Rattle.std.proofs.lemmas.List.{length-take-le}
use Rattle.std.proofs.Math.Seq.{take-append_seam, drop-append_seam, take-nil}
use Rattle.std.specs.Int.{to_be_bytes, from_be_bytes, cast_unsigned, cast_signed, w16, w64}
use Rattle.cad_shape.specs.declared.point.Point.{Point}
use Rattle.cad_shape.specs.lemmas.SameLemmas.{coordinate_fits, same_point}
use Rattle.cad_versions.specs.ShapeBytes.{coordinate_bytes, corner_bytes, corners_bytes}

pub length-coordinate_bytes : (n : ℤ) → length (coordinate_bytes n) ≡ 8
unfolding coordinate_bytes
length-coordinate_bytes n = refl

pub coordinate_read : (bytes : List ℕ) (n : ℕ) → length bytes ≡ 8 → ((i : ℕ) → get_or bytes i 0 < 256) → n ≡ from_be_bytes w64 bytes → n < 2 ^ 64 → coordinate_bytes (cast_signed w64 n) ≡ bytes
unfolding coordinate_bytes
coordinate_read bytes n len small is fits = ap (to_be_bytes w64) (of_z-to_z w64 n fits) ∙ be_bytes_8 bytes n len small is

unsigned_fits : (n : ℤ) → FitsSigned w64 n → cast_unsigned w64 n < 2 ^ 64
unsigned_fits n h = grind (arith, ints, h)

pub coordinate_same : (m n : ℤ) → FitsSigned w64 m → FitsSigned w64 n → coordinate_bytes m ≡ coordinate_bytes n → m ≡ n
unfolding coordinate_bytes
coordinate_same m n hm hn e =
    let same : cast_unsigned w64 m ≡ cast_unsigned w64 n = sym (from_be_bytes-to_be_bytes_8 _ (unsigned_fits m hm)) ∙ ap (from_be_bytes w64) e ∙ from_be_bytes-to_be_bytes_8 _ (unsigned_fits n hn) in
    sym (to_z-of_z hm) ∙ ap (cast_signed w64) same ∙ to_z-of_z hn

-- the fronts of two equal lists are equal if they are equally long
pub front_same : (xs ys us vs : List ℕ) → length xs ≡ length ys → xs ++ us ≡ ys ++ vs → xs ≡ ys
front_same xs ys us vs n e = sym (take-append_seam xs us) ∙ ap (take (length xs)) e ∙ ap (λ k. take k (ys ++ vs)) n ∙ take-append_seam ys vs

pub back_same : (xs ys us vs : List ℕ) → length xs ≡ length ys → xs ++ us ≡ ys ++ vs → us ≡ vs
back_same xs ys us vs n e = sym (drop-append_seam xs us) ∙ ap (drop (length xs)) e ∙ ap (λ k. drop k (ys ++ vs)) n ∙ drop-append_seam ys vs

-- a corner at the front has its first number there, and its second one after it
pub x_at_front : (bytes rest : List ℕ) (x : ℤ) (corner : Point) (more : List ℕ) → FitsSigned w64 x → bytes ≡ coordinate_bytes x ++ rest → bytes ≡ corner_bytes corner ++ more → (x ≡ corner.x) × (rest ≡ coordinate_bytes corner.y ++ more)
x_at_front bytes rest x corner more fits is held =
    let both : coordinate_bytes x ++ rest ≡ coordinate_bytes corner.x ++ (coordinate_bytes corner.y ++ more) = sym is ∙ held ∙ append_assoc (coordinate_bytes corner.x) (coordinate_bytes corner.y) more in
    let long : length (coordinate_bytes x) ≡ length (coordinate_bytes corner.x) = length-coordinate_bytes x ∙ sym (length-coordinate_bytes corner.x) in
    (coordinate_same x corner.x fits (coordinate_fits corner.x corner.x_in_range) (front_same _ _ rest (coordinate_bytes corner.y ++ more) long both), back_same (coordinate_bytes x) (coordinate_bytes corner.x) _ _ long both)

pub y_at_front : (rest more : List ℕ) (y : ℤ) (left : List ℕ) (corner : Point) → FitsSigned w64 y → rest ≡ coordinate_bytes y ++ left → rest ≡ coordinate_bytes corner.y ++ more → (y ≡ corner.y) × (left ≡ more)
y_at_front rest more y left corner fits is held =
    let both : coordinate_bytes y ++ left ≡ coordinate_bytes corner.y ++ more = sym is ∙ held in
    let long : length (coordinate_bytes y) ≡ length (coordinate_bytes corner.y) = length-coordinate_bytes y ∙ sym (length-coordinate_bytes corner.y) in
    (coordinate_same y corner.y fits (coordinate_fits corner.y corner.y_in_range) (front_same _ _ left more long both), back_same (coordinate_bytes y) (coordinate_bytes corner.y) _ _ long both)

-- too short for a number
pub too_short : (rest : List ℕ) (n : ℤ) (more : List ℕ) → length rest < 8 → rest ≢ coordinate_bytes n ++ more
too_short rest n more short e = absurd (omega (arith, ap length e ∙ length-append (coordinate_bytes n) more, length-coordinate_bytes n))

pub corners_bytes-append : (xs ys : List Point) → corners_bytes (xs ++ ys) ≡ corners_bytes xs ++ corners_bytes ys
corners_bytes-append [] ys = refl
corners_bytes-append (x ∷ xs) ys = ap (λ l. corner_bytes x ++ l) (corners_bytes-append xs ys) ∙ sym (append_assoc (corner_bytes x) (corners_bytes xs) (corners_bytes ys))

pub first_is_long : (bytes : List ℕ) (corner : Point) (rest : List ℕ) → length bytes < 8 → bytes ≢ corner_bytes corner ++ rest
first_is_long bytes corner rest short e = too_short bytes corner.x (coordinate_bytes corner.y ++ rest) short (e ∙ append_assoc (coordinate_bytes corner.x) (coordinate_bytes corner.y) rest)

small_from : (bs : List ℕ) (n i : ℕ) → get_or bs i 0 < 256 → get_or (take n bs) i 0 < 256
small_from [] n i h = rw take-nil h
small_from (b ∷ bs) zero i h = omega arith
small_from (b ∷ bs) (suc n) zero h = h
small_from (b ∷ bs) (suc n) (suc i) h = small_from bs n i h

pub eight_taken : (bytes eight rest : List ℕ) → eight ≡ take 8 bytes → length rest + 8 ≡ length bytes → ((i : ℕ) → get_or bytes i 0 < 256) → (length eight ≡ 8) × ((i : ℕ) → get_or eight i 0 < 256)
eight_taken bytes eight rest is long small = (rw is (length-take-le 8 bytes (omega arith)), λ i. rw is (small_from bytes 8 i (small i)))

pub length-corner_bytes : (p : Point) → length (corner_bytes p) ≡ 16
length-corner_bytes p = length-append (coordinate_bytes p.x) (coordinate_bytes p.y) ∙ omega (arith, length-coordinate_bytes p.x, length-coordinate_bytes p.y)

same_corner : (p q : Point) (us vs : List ℕ) → corner_bytes p ++ us ≡ corner_bytes q ++ vs → (p ≡ q) × (us ≡ vs)
same_corner p q us vs e =
    let fits = coordinate_fits p.x p.x_in_range in
    let x = x_at_front (corner_bytes p ++ us) (coordinate_bytes p.y ++ us) p.x q vs fits (append_assoc (coordinate_bytes p.x) (coordinate_bytes p.y) us) e in
    let y = y_at_front (coordinate_bytes p.y ++ us) vs p.y us q (coordinate_fits p.y p.y_in_range) refl x.1 in
    (same_point p q x.0 y.0, y.1)

not_empty : (p : Point) (us : List ℕ) → corner_bytes p ++ us ≡ [] → ⊥
not_empty p us e = absurd (omega (arith, length-append (corner_bytes p) us, length-corner_bytes p, ap length e))

-- if the bytes of a list of corners begin with those of another list, so does the list, and the rest of the bytes are those of its rest
pub corners_left : (xs ps : List Point) (rest : List ℕ) → corners_bytes xs ++ rest ≡ corners_bytes ps → (qs : List Point) × (rest ≡ corners_bytes qs) × (ps ≡ xs ++ qs)
corners_left [] ps rest e = (ps, e, refl)
corners_left (x ∷ xs) [] rest e = absurd (not_empty x (corners_bytes xs ++ rest) (sym (append_assoc (corner_bytes x) (corners_bytes xs) rest) ∙ e))
corners_left (x ∷ xs) (p ∷ ps) rest e =
    let both = same_corner x p (corners_bytes xs ++ rest) (corners_bytes ps) (sym (append_assoc (corner_bytes x) (corners_bytes xs) rest) ∙ e) in
    let more = corners_left xs ps rest both.1 in
    (more.0, more.1, ap₂ ◌∷◌ (sym both.0) more.2)

pub corners_same : (xs ps : List Point) → corners_bytes xs ≡ corners_bytes ps → xs ≡ ps
corners_same xs ps e =
    let more = corners_left xs ps [] (append-nil _ ∙ e) in
    sym (more.2 ∙ ap (λ l. xs ++ l) (none_left more.0 more.1) ∙ append-nil xs)
  where
    none_left : (qs : List Point) → [] ≡ corners_bytes qs → qs ≡ []
    none_left [] e = refl
    none_left (q ∷ qs) e = absurd (not_empty q (corners_bytes qs) (sym e))

-- if no corner begins at the rest, the bytes are not those of corners
pub no_corners : (xs : List Point) (bytes rest : List ℕ) → rest ≢ [] → ((corner : Point) (more : List ℕ) → rest ≢ corner_bytes corner ++ more) → bytes ≡ corners_bytes xs ++ rest → (ps : List Point) → bytes ≢ corners_bytes ps
no_corners xs bytes rest some none is ps e = let left = corners_left xs ps rest (sym is ∙ e) in go left.0 left.1
  where
    go : (qs : List Point) → rest ≡ corners_bytes qs → ⊥
    go [] e = some e
    go (q ∷ qs) e = none q (corners_bytes qs) e

-- one more corner
pub corner_taken : (xs : List Point) (corner : Point) (bytes rest more : List ℕ) → bytes ≡ corners_bytes xs ++ rest → rest ≡ corner_bytes corner ++ more → bytes ≡ corners_bytes (xs ++ corner ∷ []) ++ more
corner_taken xs corner bytes rest more is here =
    is ∙ ap (λ l. corners_bytes xs ++ l) here ∙ sym (append_assoc (corners_bytes xs) (corner_bytes corner) more)
    ∙ ap (λ l. (corners_bytes xs ++ l) ++ more) (sym (append-nil (corner_bytes corner))) ∙ ap (λ l. l ++ more) (sym (corners_bytes-append xs (corner ∷ [])))

pub corner_is_long : (corner : Point) (rest more : List ℕ) → rest ≡ corner_bytes corner ++ more → length more < length rest
corner_is_long corner rest more e = omega (arith, ap length e ∙ length-append (corner_bytes corner) more, length-corner_bytes corner)

pub count_same : (m n : ℕ) (us vs : List ℕ) → m < 2 ^ 16 → n < 2 ^ 16 → to_be_bytes w16 m ++ us ≡ to_be_bytes w16 n ++ vs → (m ≡ n) × (us ≡ vs)
count_same m n us vs hm hn e =
    let same : to_be_bytes w16 m ≡ to_be_bytes w16 n = front_same (to_be_bytes w16 m) (to_be_bytes w16 n) us vs refl e in
    (sym (from_be_bytes-to_be_bytes_2 m hm) ∙ ap (from_be_bytes w16) same ∙ from_be_bytes-to_be_bytes_2 n hn, back_same (to_be_bytes w16 m) (to_be_bytes w16 n) us vs refl e)
