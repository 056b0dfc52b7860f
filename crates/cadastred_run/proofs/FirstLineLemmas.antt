-- What more bytes do to a first line.
use Rattle.std.proofs.Common.{◌≡◌, ℕ, ◌<◌, ◌≤◌, ◌||◌, Bool, true, false, cond, not, zero, suc, List, [], ◌∷◌, ◌++◌, length, take, refl, sym, ap, ap₂, ◌∙◌, arith, true≢false, append-nil, ◌==◌}
use Rattle.std.specs.List.{list_any}
use Rattle.std.proofs.lemmas.List.Folds.{list_any-append}
use Rattle.std.proofs.lemmas.Bool.Decides.{nat_tests}
use Rattle.cadastred_run.specs.inner.FirstLines.{ends_line, begun, line_of}

-- before a line has begun
pub begun_later : (xs ys : List ℕ) → begun xs ≡ [] → begun (xs ++ ys) ≡ begun ys
begun_later [] ys e = refl
begun_later (x ∷ xs) ys e = go (ends_line x) e (begun_later xs ys)
  where
    go : (b : Bool) → cond b (begun xs) (x ∷ xs) ≡ [] → (begun xs ≡ [] → begun (xs ++ ys) ≡ begun ys) → cond b (begun (xs ++ ys)) (x ∷ xs ++ ys) ≡ begun ys
    go true k more = more k
    go false k more = absurd cc

-- once it has
pub begun_more : (xs ys : List ℕ) (w : ℕ) (ws : List ℕ) → begun xs ≡ w ∷ ws → begun (xs ++ ys) ≡ (w ∷ ws) ++ ys
begun_more [] ys w ws e = absurd cc
begun_more (x ∷ xs) ys w ws e = go (ends_line x) e (begun_more xs ys w ws)
  where
    go : (b : Bool) → cond b (begun xs) (x ∷ xs) ≡ w ∷ ws → (begun xs ≡ w ∷ ws → begun (xs ++ ys) ≡ (w ∷ ws) ++ ys) → cond b (begun (xs ++ ys)) (x ∷ xs ++ ys) ≡ (w ∷ ws) ++ ys
    go true k more = more k
    go false k more = ap (λ l. l ++ ys) k

-- a line that has not ended goes on
pub line_more : (xs ys : List ℕ) → list_any ends_line xs ≡ false → line_of (xs ++ ys) ≡ xs ++ line_of ys
line_more [] ys e = refl
line_more (x ∷ xs) ys e = go (ends_line x) e (line_more xs ys)
  where
    go : (b : Bool) → (b || list_any ends_line xs) ≡ false → (list_any ends_line xs ≡ false → line_of (xs ++ ys) ≡ xs ++ line_of ys) → cond b [] (x ∷ line_of (xs ++ ys)) ≡ x ∷ xs ++ line_of ys
    go true k more = absurd (true≢false k)
    go false k more = ap (λ l. x ∷ l) (more k)

pub line_whole : (xs : List ℕ) → list_any ends_line xs ≡ false → line_of xs ≡ xs
line_whole xs e = ap line_of (sym (append-nil xs)) ∙ line_more xs [] e ∙ append-nil xs

-- one that has ended does not
pub line_ended : (xs ys : List ℕ) → list_any ends_line xs ≡ true → line_of (xs ++ ys) ≡ line_of xs
line_ended [] ys e = absurd (true≢false (sym e))
line_ended (x ∷ xs) ys e = go (ends_line x) e (line_ended xs ys)
  where
    go : (b : Bool) → (b || list_any ends_line xs) ≡ true → (list_any ends_line xs ≡ true → line_of (xs ++ ys) ≡ line_of xs) → cond b [] (x ∷ line_of (xs ++ ys)) ≡ cond b [] (x ∷ line_of xs)
    go true k more = refl
    go false k more = ap (λ l. x ∷ l) (more k)

-- ---- a byte more

take_none : (n : ℕ) → take {A = ℕ} n [] ≡ []
take_none zero = refl
take_none (suc n) = refl

take_push : (n : ℕ) (ws : List ℕ) (byte : ℕ) → length (take n ws) < n → take n ws ++ byte ∷ [] ≡ take n (ws ++ byte ∷ [])
take_push zero ws byte h = absurd (omega (arith, h))
take_push (suc n) [] byte h = ap (λ l. byte ∷ l) (sym (take_none n))
take_push (suc n) (w ∷ ws) byte h = ap (λ l. w ∷ l) (take_push n ws byte (omega (arith, h)))

take_full : (n : ℕ) (ws more : List ℕ) → n ≤ length (take n ws) → take n ws ≡ take n (ws ++ more)
take_full zero ws more h = refl
take_full (suc n) [] more h = absurd (omega (arith, h))
take_full (suc n) (w ∷ ws) more h = ap (λ l. w ∷ l) (take_full n ws more (omega (arith, h)))

some : (n : ℕ) → not (suc n == 0) ≡ true
some n = grind (arith, nat_tests)

take_some : (n w : ℕ) (ws : List ℕ) → 0 < n → not (length (take n (w ∷ ws)) == 0) ≡ true
take_some zero w ws h = absurd (omega (arith, h))
take_some (suc n) w ws h = some (length (take n ws))

begun_byte : (read : List ℕ) (byte : ℕ) → ends_line byte ≡ false → begun (read ++ byte ∷ []) ≡ begun read ++ byte ∷ []
begun_byte read byte h = by (begun read) refl
  where
    by : (ws : List ℕ) → begun read ≡ ws → begun (read ++ byte ∷ []) ≡ ws ++ byte ∷ []
    by [] e = begun_later read (byte ∷ []) e ∙ ap (λ b. cond b [] (byte ∷ [])) h
    by (w ∷ ws) e = begun_more read (byte ∷ []) w ws e

goes_on : (ws : List ℕ) (byte : ℕ) → list_any ends_line ws ≡ false → ends_line byte ≡ false → list_any ends_line (ws ++ byte ∷ []) ≡ false
goes_on ws byte none h = list_any-append ends_line ws (byte ∷ []) ∙ ap₂ (λ a b. a || (b || false)) none h

module _ (read kept : List ℕ) (byte : ℕ) (line : kept ≡ take 512 (line_of (begun read))) (on : list_any ends_line (begun read) ≡ false) where
  kept_is : kept ≡ take 512 (begun read)
  kept_is = line ∙ ap (take 512) (line_whole (begun read) on)

  module _ (h : ends_line byte ≡ false) where
    pub still_on : list_any ends_line (begun (read ++ byte ∷ [])) ≡ false
    still_on = ap (list_any ends_line) (begun_byte read byte h) ∙ goes_on (begun read) byte on h

    longer : line_of (begun (read ++ byte ∷ [])) ≡ begun read ++ byte ∷ []
    longer = ap line_of (begun_byte read byte h) ∙ line_whole (begun read ++ byte ∷ []) (goes_on (begun read) byte on h)

    pub byte_kept : length kept < 512 → kept ++ byte ∷ [] ≡ take 512 (line_of (begun (read ++ byte ∷ [])))
    byte_kept few =
        let short : length (take 512 (begun read)) < 512 = rw (← kept_is) few in
        ap (λ l. l ++ byte ∷ []) kept_is ∙ take_push 512 (begun read) byte short ∙ sym (ap (take 512) longer)

    pub byte_left : 512 ≤ length kept → kept ≡ take 512 (line_of (begun (read ++ byte ∷ [])))
    byte_left full =
        let long : 512 ≤ length (take 512 (begun read)) = rw (← kept_is) full in
        kept_is ∙ take_full 512 (begun read) (byte ∷ []) long ∙ sym (ap (take 512) longer)

  -- an end, of an empty line or of the first one
  module _ (h : ends_line byte ≡ true) where
    pub end_ends : list_any ends_line (begun (read ++ byte ∷ [])) ≡ not (length kept == 0)
    end_ends = by (begun read) refl
      where
        by : (ws : List ℕ) → begun read ≡ ws → list_any ends_line (begun (read ++ byte ∷ [])) ≡ not (length kept == 0)
        by [] e = ap (list_any ends_line) (begun_later read (byte ∷ []) e ∙ ap (λ b. cond b [] (byte ∷ [])) h) ∙ sym (ap (λ l. not (length l == 0)) (kept_is ∙ ap (take 512) e ∙ take_none 512))
        by (w ∷ ws) e =
            ap (list_any ends_line) (begun_more read (byte ∷ []) w ws e) ∙ list_any-append ends_line (w ∷ ws) (byte ∷ [])
            ∙ ap₂ (λ a b. a || (b || false)) (sym (ap (list_any ends_line) e) ∙ on) h
            ∙ sym (ap (λ l. not (length l == 0)) (kept_is ∙ ap (take 512) e) ∙ take_some 512 w ws (omega arith))

    pub end_left : kept ≡ take 512 (line_of (begun (read ++ byte ∷ [])))
    end_left = by (begun read) refl
      where
        by : (ws : List ℕ) → begun read ≡ ws → kept ≡ take 512 (line_of (begun (read ++ byte ∷ [])))
        by [] e = kept_is ∙ ap (take 512) (e ∙ sym (ap line_of (begun_later read (byte ∷ []) e ∙ ap (λ b. cond b [] (byte ∷ [])) h)))
        by (w ∷ ws) e =
            let none : list_any ends_line (w ∷ ws) ≡ false = sym (ap (list_any ends_line) e) ∙ on in
            kept_is ∙ ap (take 512) (e ∙ sym (ap line_of (begun_more read (byte ∷ []) w ws e) ∙ line_more (w ∷ ws) (byte ∷ []) none ∙ ap (λ l. (w ∷ ws) ++ l) (ap (λ b. cond b [] (byte ∷ [])) h) ∙ append-nil (w ∷ ws)))

-- ---- bytes behind the end

pub stays_ended : (read more : List ℕ) → list_any ends_line (begun read) ≡ true → (line_of (begun (read ++ more)) ≡ line_of (begun read)) × (list_any ends_line (begun (read ++ more)) ≡ true)
stays_ended read more ended = by (begun read) refl
  where
    by : (ws : List ℕ) → begun read ≡ ws → (line_of (begun (read ++ more)) ≡ line_of (begun read)) × (list_any ends_line (begun (read ++ more)) ≡ true)
    by [] e = absurd (true≢false (sym ended ∙ ap (list_any ends_line) e))
    by (w ∷ ws) e =
        let all : list_any ends_line (w ∷ ws) ≡ true = sym (ap (list_any ends_line) e) ∙ ended in
        let longer = begun_more read more w ws e in
        (ap line_of longer ∙ line_ended (w ∷ ws) more all ∙ ap line_of (sym e), ap (list_any ends_line) longer ∙ list_any-append ends_line (w ∷ ws) more ∙ ap (λ b. b || list_any ends_line more) all)
