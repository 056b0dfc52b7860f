-- Runs of bytes that pass: where the longest one ends.
use Rattle.std.proofs.Common.{◌≡◌, ℕ, ◌≤◌, Bool, true, false, List, [], ◌∷◌, ◌++◌, length, if◌then◌else◌, refl, ap, arith}
use Rattle.cql_lexer.specs.Runs.{Run, stop, more}
use Rattle.cql_lexer.specs.inner.Scan.{run_of, after_run, IsPast}

run_at : (p : ℕ → Bool) (x : ℕ) (xs : List ℕ) (b : Bool) → p x ≡ b → Run p xs (run_of p xs) (after_run p xs) → Run p (x ∷ xs) (if b then x ∷ run_of p xs else []) (if b then after_run p xs else x ∷ xs)
run_at p x xs true passes run = more passes run
run_at p x xs false passes run = stop

-- the bytes that pass are a run
pub run_is : (p : ℕ → Bool) (xs : List ℕ) → Run p xs (run_of p xs) (after_run p xs)
run_is p [] = stop
run_is p (x ∷ xs) = run_at p x xs (p x) refl (run_is p xs)

shorter_at : (b : Bool) (x : ℕ) (xs ys : List ℕ) → length ys ≤ length xs → length (if b then ys else x ∷ xs) ≤ length (x ∷ xs)
shorter_at true x xs ys shorter = omega arith
shorter_at false x xs ys shorter = omega arith

pub after_shorter : (p : ℕ → Bool) (xs : List ℕ) → length (after_run p xs) ≤ length xs
after_shorter p [] = omega arith
after_shorter p (x ∷ xs) = shorter_at (p x) x xs (after_run p xs) (after_shorter p xs)

-- and no run is longer
pub run_longest : {p : ℕ → Bool} {xs run ys : List ℕ} → Run p xs run ys → length (after_run p xs) ≤ length ys
run_longest {p} {xs} stop = after_shorter p xs
run_longest (more passes run) = rw passes (run_longest run)

pub run_shorter : {p : ℕ → Bool} {xs run ys : List ℕ} → Run p xs run ys → length ys ≤ length xs
run_shorter stop = omega arith
run_shorter (more passes run) = omega (arith, run_shorter run)

pub run_splits : {p : ℕ → Bool} {xs run ys : List ℕ} → Run p xs run ys → xs ≡ run ++ ys
run_splits stop = refl
run_splits (more {x} passes run) = ap (λ w. x ∷ w) (run_splits run)

-- a run up to a byte that does not pass is the whole one
pub run_whole : {p : ℕ → Bool} {y : ℕ} {xs run ys : List ℕ} → Run p xs run (y ∷ ys) → p y ≡ false → (run_of p xs ≡ run) × (after_run p xs ≡ y ∷ ys)
run_whole stop fails = (rw fails refl, rw fails refl)
run_whole (more {x} {xs} passes run) fails = let whole = run_whole run fails in (rw passes (ap (λ w. x ∷ w) whole.0), rw passes whole.1)

-- what comes behind the bytes that pass does not
past_if : (p : ℕ → Bool) (x : ℕ) (xs : List ℕ) (b : Bool) → p x ≡ b → IsPast p (after_run p xs) → IsPast p (if b then after_run p xs else x ∷ xs)
past_if p x xs true passes past = past
past_if p x xs false passes past = passes

pub past_after : (p : ℕ → Bool) (xs : List ℕ) → IsPast p (after_run p xs)
past_after p [] = tt
past_after p (x ∷ xs) = past_if p x xs (p x) refl (past_after p xs)

first_past : (p : ℕ → Bool) {xs : List ℕ} (y : ℕ) (ys : List ℕ) → xs ≡ y ∷ ys → IsPast p xs → p y ≡ false
first_past p y ys is past = rw is at past

pub past_run : (p : ℕ → Bool) (xs : List ℕ) (y : ℕ) (ys : List ℕ) → after_run p xs ≡ y ∷ ys → p y ≡ false
past_run p xs y ys is = first_past p y ys is (past_after p xs)
