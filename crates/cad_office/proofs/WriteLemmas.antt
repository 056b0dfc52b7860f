-- Texts written piece by piece.
use Rattle.std.proofs.Common.{◌≡◌, ℕ, zero, suc, ◌+◌, ◌<◌, arith, get_or, List, [], ◌∷◌, ◌++◌, Option, length, take, drop, map, refl, sym, ap, ◌∙◌, append_assoc, append-nil, length-append}
use Rattle.std.proofs.Math.Seq.{take-append-add}
use Rattle.std.proofs.lemmas.List.{take-append-le}
use Rattle.std.proofs.KnownBytes.{Appends-trans}
use Rattle.std.specs.Io.KnownBytes.{Appends}
use Rattle.cad_io.specs.Writing.{WritesCut}
use Rattle.cad_office.specs.Answers.{joined}

-- a piece among the others
pub joined_at : {A : Type 0} (f : A → List ℕ) (xs : List A) (i : ℕ) (d : A) → i < length xs → joined (map f xs) ≡ joined (map f (take i xs)) ++ (f (get_or xs i d) ++ joined (map f (drop (suc i) xs)))
joined_at f [] i d h = absurd (omega arith)
joined_at f (x ∷ xs) zero d h = refl
joined_at f (x ∷ xs) (suc i) d h =
    ap (λ (s : List ℕ). f x ++ s) (joined_at f xs i d (omega arith)) ∙ sym (append_assoc (f x) (joined (map f (take i xs))) _)

-- one piece more
pub joined_next : {A : Type 0} (f : A → List ℕ) (xs : List A) (i : ℕ) (d : A) → i < length xs → joined (map f (take (suc i) xs)) ≡ joined (map f (take i xs)) ++ f (get_or xs i d)
joined_next f [] i d h = absurd (omega arith)
joined_next f (x ∷ xs) zero d h = append-nil (f x)
joined_next f (x ∷ xs) (suc i) d h =
    ap (λ (s : List ℕ). f x ++ s) (joined_next f xs i d (omega arith)) ∙ sym (append_assoc (f x) (joined (map f (take i xs))) _)

-- pieces that were written, and a front of the next one
pub cut_with : (a b c : Option (List ℕ)) (done piece rest all : List ℕ) → all ≡ done ++ (piece ++ rest) → Appends a b done → WritesCut b c piece → WritesCut a c all
cut_with a b c done piece rest all e x cut =
    let n = cut.2.0 in
    let short : n < length piece = cut.2.1 in
    let front : done ++ cut.0 ≡ take (length done + n) all =
    ap (λ (s : List ℕ). done ++ s) (cut.2.2 ∙ sym (take-append-le n piece rest (omega (arith, short)))) ∙ sym (take-append-add done (piece ++ rest) n) ∙ ap (take (length done + n)) (sym e) in
    let long : length done + n < length all = omega (arith, short, ap length e, length-append done (piece ++ rest), length-append piece rest) in
    (done ++ cut.0, Appends-trans a b c done cut.0 x cut.1, (length done + n, long, front))
