-- How many pages a walk has.
use Rattle.std.proofs.Common.{◌≡◌, ℕ, ◌+◌, ◌-◌, ◌/◌, ◌≤◌, ◌<◌, ℤ, Bool, true, false, List, [], ◌∷◌, ◌++◌, length, take, Option, refl, sym, ap, ◌∙◌, arith, length-append, le-div_iff_mul-le, div-lt_iff_lt-mul}
use Rattle.std.specs.Bool.{MatchBool}
use Rattle.std.specs.List.Sorted.{IsStrictlySortedBy}
use Rattle.std.proofs.Math.Nat.{add-div_right}
use Rattle.std.proofs.lemmas.List.{length-take-le}
use Rattle.std.proofs.lemmas.Bool.{ltb-true, ltb-false}
use Rattle.cad_feature.specs.Features.{Item, by_identifier}
use Rattle.cad_run.specs.Slices.{later, is_more}
use Rattle.cad_answer.specs.Laws.{last_of, AreWalk, WalksAreWhole}
use Rattle.cad_http.specs.Walks.{joined, pages_of}
use Rattle.cad_http.specs.Laws.{WalksHaveThatManyPages}

-- ---- quotients

one_page : (limit n : ℕ) → 1 ≤ limit → n ≤ limit → 1 ≡ pages_of limit n
one_page limit n some few =
    let h : (n + (limit - 1)) / limit < 2 = (div-lt_iff_lt-mul {k = limit} {x = n + (limit - 1)} {y = 2} (omega arith)).1 (omega arith) in
    omega (arith, h)

-- a full page more
one_more : (limit n m : ℕ) → 1 ≤ limit → n ≡ limit + m → 1 ≤ m → 1 + pages_of limit m ≡ pages_of limit n
one_more limit n m some full rest =
    let q = (m + (limit - 1)) / limit in
    let h : 1 ≤ q = (le-div_iff_mul-le {k = limit} {x = 1} {y = m + (limit - 1)} (omega arith)).1 (omega arith) in
    let e : n + (limit - 1) ≡ m + (limit - 1) + limit = omega arith in
    let s : (n + (limit - 1)) / limit ≡ q + 1 = ap (λ k. k / limit) e ∙ add-div_right (m + (limit - 1)) {k = limit} (omega arith) in
    omega (arith, h, s)

-- ---- the pages of a walk

-- what a full page leaves
left : (limit : ℕ) (page xs ys : List Item) → page ≡ take limit xs → limit < length xs → page ++ ys ≡ xs → length xs ≡ limit + length ys
left limit page xs ys e more whole =
    let front : length page ≡ limit = ap length e ∙ length-take-le limit xs (omega arith) in
    let all : length page + length ys ≡ length xs = sym (length-append page ys) ∙ ap length whole in
    omega arith

ends_or_goes_on : WalksAreWhole → (limit : ℕ) (xs : List Item) (last : Option (ℤ × ℤ)) (page : List Item) (pages : List (List Item)) (more : Bool) → 1 ≤ limit → IsStrictlySortedBy by_identifier xs
    → AreWalk limit xs last (page ∷ pages) → is_more last limit xs ≡ more → MatchBool more (AreWalk limit xs (last_of page) pages) (pages ≡ [])
    → (AreWalk limit xs (last_of page) pages → length pages ≡ pages_of limit (length (later (last_of page) xs)))
    → length (page ∷ pages) ≡ pages_of limit (length (later last xs))
ends_or_goes_on whole limit xs last page pages true some up walk is walked counted =
    let n = length (later last xs) in
    let m = length (later (last_of page) xs) in
    let rest : joined pages ≡ later (last_of page) xs = whole limit xs (last_of page) pages some up walked in
    let more : limit < n = ltb-true limit n is in
    let full : n ≡ limit + m = left limit page (later last xs) (later (last_of page) xs) walk.0 more (ap (λ us. page ++ us) (sym rest) ∙ whole limit xs last (page ∷ pages) some up walk) in
    let one : 1 + pages_of limit m ≡ pages_of limit n = one_more limit n m some full (omega arith) in
    omega (arith, counted walked)
ends_or_goes_on whole limit xs last page pages false some up walk is none counted =
    ap (λ us. length (page ∷ us)) none ∙ one_page limit (length (later last xs)) some (ltb-false limit (length (later last xs)) is)

pub count : WalksAreWhole → WalksHaveThatManyPages
count whole limit xs last [] some up walk = absurd walk
count whole limit xs last (page ∷ pages) some up walk =
    ends_or_goes_on whole limit xs last page pages (is_more last limit xs) some up walk refl walk.1 (count whole limit xs (last_of page) pages some up)
