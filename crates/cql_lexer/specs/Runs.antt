-- Runs of bytes that pass a test.
use Rattle.std.specs.Prelude.{◌≡◌, ℕ, Bool, true, List, [], ◌∷◌}

-- the first bytes, some or none, which all pass the test, and the bytes left
pub data Run (passes : ℕ → Bool) : List ℕ → List ℕ → List ℕ → Type 0 where
  stop : {xs : List ℕ} → Run passes xs [] xs
  more : {x : ℕ} {xs run ys : List ℕ} → passes x ≡ true → Run passes xs run ys → Run passes (x ∷ xs) (x ∷ run) ys
