-- Deeds, one after the other.
use Rattle.std.proofs.Common.{if◌then◌else◌, ◌≡◌, ℕ, nat_eq, Bool, true, false, ◌||◌, List, [], ◌∷◌, ◌++◌, Option, None, Some, refl, sym, ap, ◌∙◌, append_assoc, append-nil}
use Rattle.std.proofs.lemmas.Bool.{eq-eqb}
use Rattle.cad_network.specs.Deeds.{Deed, came, office_came, woke, gave, took, blocked, failed, left, Adds, given_by, taken_by, comes, IsQuiet}

pub Adds-nil : (h : Option (List Deed)) → Adds h h []
Adds-nil None = tt
Adds-nil (Some xs) = sym (append-nil xs)

pub Adds-trans : (a b c : Option (List Deed)) (xs ys : List Deed) → Adds a b xs → Adds b c ys → Adds a c (xs ++ ys)
Adds-trans a b None xs ys e f = tt
Adds-trans a None (Some r) xs ys e f = absurd f
Adds-trans None (Some q) (Some r) xs ys e f = absurd e
Adds-trans (Some p) (Some q) (Some r) xs ys e f = f ∙ (ap (λ (l : List Deed). l ++ ys) e ∙ append_assoc p xs ys)

given-append : (s : ℕ) (d : Deed) (bytes : List ℕ) (same : Bool) (xs ys rest : List ℕ) → rest ≡ xs ++ ys → (if same then bytes ++ rest else rest) ≡ (if same then bytes ++ xs else xs) ++ ys
given-append s d bytes true xs ys rest e = ap (λ (l : List ℕ). bytes ++ l) e ∙ sym (append_assoc bytes xs ys)
given-append s d bytes false xs ys rest e = e

pub given_by-append : (s : ℕ) (xs ys : List Deed) → given_by s (xs ++ ys) ≡ given_by s xs ++ given_by s ys
given_by-append s [] ys = refl
given_by-append s (came d ∷ xs) ys = given_by-append s xs ys
given_by-append s (office_came d ∷ xs) ys = given_by-append s xs ys
given_by-append s (gave d bytes ∷ xs) ys = given-append s (came d) bytes (nat_eq d s) (given_by s xs) (given_by s ys) (given_by s (xs ++ ys)) (given_by-append s xs ys)
given_by-append s (took d bytes ∷ xs) ys = given_by-append s xs ys
given_by-append s (woke d ∷ xs) ys = given_by-append s xs ys
given_by-append s (blocked d ∷ xs) ys = given_by-append s xs ys
given_by-append s (failed d ∷ xs) ys = given_by-append s xs ys
given_by-append s (left d ∷ xs) ys = given_by-append s xs ys

pub taken_by-append : (s : ℕ) (xs ys : List Deed) → taken_by s (xs ++ ys) ≡ taken_by s xs ++ taken_by s ys
taken_by-append s [] ys = refl
taken_by-append s (came d ∷ xs) ys = taken_by-append s xs ys
taken_by-append s (office_came d ∷ xs) ys = taken_by-append s xs ys
taken_by-append s (gave d bytes ∷ xs) ys = taken_by-append s xs ys
taken_by-append s (took d bytes ∷ xs) ys = given-append s (came d) bytes (nat_eq d s) (taken_by s xs) (taken_by s ys) (taken_by s (xs ++ ys)) (taken_by-append s xs ys)
taken_by-append s (woke d ∷ xs) ys = taken_by-append s xs ys
taken_by-append s (blocked d ∷ xs) ys = taken_by-append s xs ys
taken_by-append s (failed d ∷ xs) ys = taken_by-append s xs ys
taken_by-append s (left d ∷ xs) ys = taken_by-append s xs ys

pub given_by-one : (s : ℕ) (bytes : List ℕ) → given_by s (gave s bytes ∷ []) ≡ bytes
given_by-one s bytes = rw (eq-eqb s s refl) (append-nil bytes)

pub taken_by-one : (s : ℕ) (bytes : List ℕ) → taken_by s (took s bytes ∷ []) ≡ bytes
taken_by-one s bytes = rw (eq-eqb s s refl) (append-nil bytes)

pub quiet-append : (s : ℕ) (xs ys : List Deed) → IsQuiet s xs → IsQuiet s ys → IsQuiet s (xs ++ ys)
quiet-append s xs ys x y = (given_by-append s xs ys ∙ rw (x.0, y.0) refl, taken_by-append s xs ys ∙ rw (x.1, y.1) refl)

or_assoc : (a b d e : Bool) → e ≡ (b || d) → (a || e) ≡ ((a || b) || d)
or_assoc true b d e h = refl
or_assoc false b d e h = h

pub comes-append : (s : ℕ) (xs ys : List Deed) → comes s (xs ++ ys) ≡ (comes s xs || comes s ys)
comes-append s [] ys = refl
comes-append s (came d ∷ xs) ys = or_assoc (nat_eq d s) (comes s xs) (comes s ys) (comes s (xs ++ ys)) (comes-append s xs ys)
comes-append s (office_came d ∷ xs) ys = or_assoc (nat_eq d s) (comes s xs) (comes s ys) (comes s (xs ++ ys)) (comes-append s xs ys)
comes-append s (gave d bytes ∷ xs) ys = comes-append s xs ys
comes-append s (took d bytes ∷ xs) ys = comes-append s xs ys
comes-append s (woke d ∷ xs) ys = comes-append s xs ys
comes-append s (blocked d ∷ xs) ys = comes-append s xs ys
comes-append s (failed d ∷ xs) ys = comes-append s xs ys
comes-append s (left d ∷ xs) ys = comes-append s xs ys

pub or_none : (a b : Bool) → (a || b) ≡ false → (a ≡ false) × (b ≡ false)
or_none true b e = absurd (let clash : true ≡ false = e in cc)
or_none false b e = (refl, e)

-- deeds at another socket
pub gave_apart : (s t : ℕ) (bytes : List ℕ) → nat_eq t s ≡ false → IsQuiet s (gave t bytes ∷ [])
gave_apart s t bytes e = (rw e refl, refl)

pub took_apart : (s t : ℕ) (bytes : List ℕ) → nat_eq t s ≡ false → IsQuiet s (took t bytes ∷ [])
took_apart s t bytes e = (refl, rw e refl)
