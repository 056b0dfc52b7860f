-- Entries that are added one after the other.
use Rattle.std.proofs.Common.{◌≡◌, ◌∙◌, ℕ, zero, suc, ◌+◌, ◌-◌, ◌≤◌, Bool, true, false, cond, List, [], ◌∷◌, ◌++◌, ap, sym, refl, arith, ◌==◌}
use Rattle.std.specs.Prelude.{◌&&◌}
use Rattle.cad_positions.specs.Hits.{hits, once, picks}
use Rattle.cad_grid.specs.declared.entry.Entry.{Entry}
use Rattle.cad_grid.specs.Entries.{entered, for_position, tally}

pub picks_push : {X : Type 0} → (p : X → Bool) (f : X → ℕ) (v : ℕ) (xs : List X) (x : X) → picks p f v (xs ++ x ∷ []) ≡ picks p f v xs + once (p x && (f x == v))
picks_push p f v [] x = omega arith
picks_push p f v (y ∷ ys) x = omega (arith, picks_push p f v ys x)

pub hits_push : (v : ℕ) (xs : List ℕ) (x : ℕ) → hits v (xs ++ x ∷ []) ≡ hits v xs + once (x == v)
hits_push v [] x = omega arith
hits_push v (y ∷ ys) x = omega (arith, hits_push v ys x)

tally_end : (f : ℕ → ℕ) (a n : ℕ) → tally f a (suc n) ≡ tally f a n + f (a + n)
tally_end f a zero = let e : a + 0 ≡ a = omega arith in rw e (omega arith)
tally_end f a (suc n) = let e : a + suc n ≡ (a + 1) + n = omega arith in rw e (omega (arith, tally_end f (a + 1) n))

abbrev for_test : Bool → ℕ → ℕ
for_test b n = cond b n 0

for_both : (position v m n : ℕ) → for_position position v m + for_position position v n ≡ for_position position v (m + n)
for_both position v m n = elim (position == v) as (λ b. cond b m 0 + cond b n 0 ≡ cond b (m + n) 0) [ true ↦ refl | false ↦ refl ]

none_of : (b : Bool) → for_test b 0 ≡ 0
none_of true = refl
none_of false = refl

for_none : (position v : ℕ) → for_position position v 0 ≡ 0
for_none position v = none_of (position == v)

for_once : (b : Bool) (position v : ℕ) → once (b && (position == v)) ≡ for_position position v (once b)
for_once true position v = refl
for_once false position v = sym (for_none position v)

-- ---- what is counted, one number after the other

pub none_counted : (f : ℕ → ℕ) (position v now before from at : ℕ) → now ≡ before → at ≡ from → now ≡ before + for_position position v (tally f from (at - from))
none_counted f position v now before from at e h = let n : at - from ≡ 0 = omega arith in rw n (omega (arith, for_none position v))

pub one_counted : (f : ℕ → ℕ) (position v old new before from at : ℕ) → from ≤ at → new ≡ old + for_position position v (f at) → old ≡ before + for_position position v (tally f from (at - from)) → new ≡ before + for_position position v (tally f from ((at + 1) - from))
one_counted f position v old new before from at l e i =
    let n : (at + 1) - from ≡ suc (at - from) = omega arith in
    let m : from + (at - from) ≡ at = omega arith in
    rw (n, tally_end f from (at - from), m) (omega (arith, for_both position v (tally f from (at - from)) (f at)))

pub one_entered : (q : ℕ → ℕ → Bool) (v : ℕ) (es : List Entry) (e : Entry) → entered q v (es ++ e ∷ []) ≡ entered q v es + for_position e.position v (once (q e.row e.column))
one_entered q v es e = picks_push (λ x. q x.row x.column) (λ x. x.position) v es e ∙ ap (λ n. entered q v es + n) (for_once (q e.row e.column) e.position v)
