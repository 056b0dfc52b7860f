use Rattle.std.proofs.Common.{◌≡◌, ℕ, suc, ◌+◌, Bool, true, false, cond, List, [], ◌∷◌, take, drop, if◌then◌else◌, refl, ap, arith}
use Rattle.std.proofs.lemmas.List.Folds.{length-prefix_len}
use Rattle.std.specs.List.{prefix_len}
use Rattle.cql_lexer.specs.inner.Scan.{after_run, is_in, run_of}
use Rattle.cql_lexer.proofs.class.ByteClass.split_run.Goals as goal

taken_at : (n : ℕ) (x : ℕ) (xs ys : List ℕ) (b : Bool) → take n xs ≡ ys → take (cond b (1 + n) 0) (x ∷ xs) ≡ (if b then x ∷ ys else [])
taken_at n x xs ys true is = let next : 1 + n ≡ suc n = omega arith in rw next (ap (λ w. x ∷ w) is)
taken_at n x xs ys false is = refl

taken : (p : ℕ → Bool) (xs : List ℕ) → take (prefix_len p xs) xs ≡ run_of p xs
taken p [] = refl
taken p (x ∷ xs) = taken_at (prefix_len p xs) x xs (run_of p xs) (p x) (taken p xs)

dropped_at : (n : ℕ) (x : ℕ) (xs ys : List ℕ) (b : Bool) → drop n xs ≡ ys → drop (cond b (1 + n) 0) (x ∷ xs) ≡ (if b then ys else x ∷ xs)
dropped_at n x xs ys true is = let next : 1 + n ≡ suc n = omega arith in rw next is
dropped_at n x xs ys false is = refl

dropped : (p : ℕ → Bool) (xs : List ℕ) → drop (prefix_len p xs) xs ≡ after_run p xs
dropped p [] = refl
dropped p (x ∷ xs) = dropped_at (prefix_len p xs) x xs (after_run p xs) (p x) (dropped p xs)

pub returns-clause-run : goal.returns-clause-run
returns-clause-run c = rw (c.split_at.ensures.front, c.run_length.ensures, length-prefix_len) (taken (is_in c.args.self) c.args.bytes.now)

pub returns-clause-rest : goal.returns-clause-rest
returns-clause-rest c = rw (c.split_at.ensures.back, c.run_length.ensures, length-prefix_len) (dropped (is_in c.args.self) c.args.bytes.now)
