-- Lists of plans that are gathered one by one, and their costs.
use Rattle.std.proofs.Common.{◌≡◌, ◌∙◌, ap, refl, sym, ℕ, suc, ◌+◌, ◌≤◌, min, Bool, true, false, nat_lt, if◌then◌else◌, List, [], ◌∷◌, ◌++◌, append_assoc, map, filter, length, get_or, drop, add-one, drop-cons, arith, append-nil}
use Rattle.std.proofs.lemmas.List.{drop_all}
use Rattle.cad_lookup.specs.Ways.{Way, Counts, cost, min_of, most, total}
use Rattle.cql_rewrite.specs.inner.Choices.{Costs, ways_after, filter_step, min_moved}
use Rattle.cql_rewrite.specs.Menus.{is_narrow}
use Rattle.cad_plan.specs.inner.Gathered.{with_if}

pub map_next : {X Y : Type 0} (f : X → Y) (xs : List X) (i : ℕ) (x : X) → suc i ≤ length xs → x ≡ get_or xs i x → map f (drop i xs) ≡ f x ∷ map f (drop (i + 1) xs)
map_next f xs i x h e = rw (add-one, drop-cons xs i x h, ← e) refl

pub map_over : {X Y : Type 0} (f : X → Y) (xs : List X) (i : ℕ) → length xs ≤ i → map f (drop i xs) ≡ []
map_over f xs i h = ap (map f) (drop_all i xs h)

pub map_push : {X Y : Type 0} (f : X → Y) (xs : List X) (x : X) → map f (xs ++ x ∷ []) ≡ map f xs ++ f x ∷ []
map_push f [] x = refl
map_push f (y ∷ xs) x = ap (λ ys. f y ∷ ys) (map_push f xs x)

-- one more of those that are left
pub moved : {Y : Type 0} (old new left rest all : List Y) (w : Y) → new ≡ old ++ w ∷ [] → left ≡ w ∷ rest → old ++ left ≡ all → new ++ rest ≡ all
moved old new left rest all w e f h = ap (λ ys. ys ++ rest) e ∙ append_assoc old (w ∷ []) rest ∙ ap (λ ys. old ++ ys) (sym f) ∙ h

pub done : {Y : Type 0} (now left all : List Y) → left ≡ [] → now ++ left ≡ all → now ≡ all
done now left all e h = sym (append-nil now) ∙ ap (λ ys. now ++ ys) (sym e) ∙ h

-- ---- sums

total_push : (cs : List ℕ) (c : ℕ) → total (cs ++ c ∷ []) ≡ total cs + c
total_push [] c = omega arith
total_push (d ∷ cs) c = omega (arith, total_push cs c)

pub summed : (counts : Counts) (old new : List Way) (w : Way) (sum part next : ℕ) → new ≡ old ++ w ∷ [] → part ≡ cost counts w → sum ≡ min most (total (map (cost counts) old)) → next ≡ min (sum + part) most
    → next ≡ min most (total (map (cost counts) new))
summed counts old new w sum part next e p s n =
    let t : total (map (cost counts) new) ≡ total (map (cost counts) old) + cost counts w = ap (λ ws. total (map (cost counts) ws)) e ∙ ap total (map_push (cost counts) old w) ∙ total_push (map (cost counts) old) (cost counts w) in
    omega (arith, t, p, s, n)

-- what is left of a sum
pub sum_next : (sum part next rest whole : ℕ) (left : List ℕ) (cs : List ℕ) → left ≡ part ∷ cs → next ≡ min (sum + part) most → min most (sum + total left) ≡ whole → min most (next + total cs) ≡ whole
sum_next sum part next rest whole left cs e n h = let t : total left ≡ part + total cs = ap total e in omega (arith, t, n, h)

pub sum_done : (sum whole : ℕ) (left : List ℕ) → left ≡ [] → sum ≤ most → min most (sum + total left) ≡ whole → sum ≡ whole
sum_done sum whole left e s h = let t : total left ≡ 0 = ap total e in omega (arith, t, s, h)

-- ---- leasts

least_push : (n : ℕ) (cs : List ℕ) (c : ℕ) → min_of n (cs ++ c ∷ []) ≡ min c (min_of n cs)
least_push n [] c = refl
least_push n (d ∷ cs) c = omega (arith, least_push n cs c)

pub least_next : (least part next whole : ℕ) (left cs : List ℕ) → left ≡ part ∷ cs → next ≡ min least part → min_of least left ≡ whole → min_of next cs ≡ whole
least_next least part next whole left cs e n h =
    let s : next ≡ min part least = omega (arith, n) in
    ap (λ m. min_of m cs) s ∙ min_moved part least cs ∙ ap (min_of least) (sym e) ∙ h

-- ---- ways other than all

after_if : (b : Bool) (old rest : List Way) (w : Way) → with_if b old w ++ rest ≡ old ++ ways_after b w rest
after_if true old rest w = append_assoc old (w ∷ []) rest
after_if false old rest w = refl

pub narrow_next : (counts : Counts) (every part : ℕ) (old new left rest all : List Way) (w : Way) → every ≡ counts.every → part ≡ cost counts w → Costs counts w → new ≡ with_if (nat_lt part every) old w → left ≡ w ∷ rest
    → old ++ filter is_narrow left ≡ all → new ++ filter is_narrow rest ≡ all
narrow_next counts every part old new left rest all w n p c e f h =
    let b : nat_lt part every ≡ is_narrow w = ap (λ m. nat_lt m every) p ∙ ap (nat_lt (cost counts w)) n ∙ sym c in
    ap (λ ws. ws ++ filter is_narrow rest) (e ∙ ap (λ t. with_if t old w) b) ∙ after_if (is_narrow w) old (filter is_narrow rest) w
    ∙ ap (λ ws. old ++ ws) (sym (filter_step w rest) ∙ ap (filter is_narrow) (sym f)) ∙ h

least_if : (counts : Counts) (every : ℕ) (b : Bool) (old : List Way) (w : Way) → min_of every (map (cost counts) (with_if b old w)) ≡ (if b then (min (min_of every (map (cost counts) old)) (cost counts w)) else (min_of every (map (cost counts) old)))
least_if counts every true old w = ap (min_of every) (map_push (cost counts) old w) ∙ least_push every (map (cost counts) old) (cost counts w) ∙ min_turned (cost counts w) (min_of every (map (cost counts) old))
  where
    min_turned : (m n : ℕ) → min m n ≡ min n m
    min_turned m n = omega arith
least_if counts every false old w = refl

pub narrow_cost : (counts : Counts) (every part least next : ℕ) (old new : List Way) (w : Way) (b : Bool) → part ≡ cost counts w → new ≡ with_if b old w → next ≡ (if b then (min least part) else least) → least ≡ min_of every (map (cost counts) old)
    → next ≡ min_of every (map (cost counts) new)
narrow_cost counts every part least next old new w b p e n l =
    n ∙ ap (λ m. if b then (min m part) else m) l ∙ ap (λ m. if b then (min (min_of every (map (cost counts) old)) m) else (min_of every (map (cost counts) old))) p
    ∙ sym (least_if counts every b old w) ∙ ap (λ ws. min_of every (map (cost counts) ws)) (sym e)
