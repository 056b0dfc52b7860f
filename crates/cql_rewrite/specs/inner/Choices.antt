-- What a choice costs, and when it is other than all.
use Rattle.std.specs.Prelude.{◌≡◌, ◌≤◌, ◌<◌, ℕ, min, nat_lt, Bool, true, false, if◌then◌else◌, List, [], ◌∷◌, ◌++◌, map, filter, ⊤}
use Rattle.std.proofs.lemmas.Bool.{le-ltb}
use Rattle.std.proofs.Common.{◌∙◌, ap, refl, sym, arith, cond}
use Rattle.cad_lookup.specs.Ways.{Way, all_features, no_feature, in_range, near_block, meet_of, join_of, ways_in, Counts, cost, min_of}
use Rattle.cad_lookup.specs.WayLaws.{cost_all, cost_meet}
use Rattle.cql_rewrite.specs.Menus.{cheaper, first_least, chosen, is_narrow, meets_of, and_menu}

-- ---- the cost of a choice

min_if : (m n : ℕ) → cond (nat_lt m n) m n ≡ min m n
min_if m n = grind arith

cost_if : (counts : Counts) (b : Bool) (v w : Way) → cost counts (if b then v else w) ≡ cond b (cost counts v) (cost counts w)
cost_if counts true v w = refl
cost_if counts false v w = refl

pub cheaper_cost : (counts : Counts) (w v : Way) → cost counts (cheaper counts w v) ≡ min (cost counts v) (cost counts w)
cheaper_cost counts w v = cost_if counts (nat_lt (cost counts v) (cost counts w)) v w ∙ min_if (cost counts v) (cost counts w)

pub min_moved : (c n : ℕ) (cs : List ℕ) → min_of (min c n) cs ≡ min c (min_of n cs)
min_moved c n [] = refl
min_moved c n (d ∷ cs) = omega (arith, min_moved c n cs)

pub first_cost : (counts : Counts) (w : Way) (ws : List Way) → cost counts (first_least counts w ws) ≡ min_of (cost counts w) (map (cost counts) ws)
first_cost counts w [] = refl
first_cost counts w (v ∷ vs) =
    first_cost counts (cheaper counts w v) vs ∙ ap (λ n. min_of n (map (cost counts) vs)) (cheaper_cost counts w v)
    ∙ min_moved (cost counts v) (cost counts w) (map (cost counts) vs)

-- ---- a choice is all, or costs less

-- it is all, or costs less than all
abbrev pub Costs : Counts → Way → Type 0
Costs counts w = is_narrow w ≡ nat_lt (cost counts w) counts.every

not_less : (n : ℕ) → nat_lt n n ≡ false
not_less n = grind arith

pub all_costs : (counts : Counts) → Costs counts all_features
all_costs counts = sym (not_less counts.every) ∙ ap (λ n. nat_lt n counts.every) (sym (cost_all counts))

pub not_narrow : (w : Way) → is_narrow w ≡ false → w ≡ all_features
not_narrow all_features h = refl
not_narrow no_feature h = absurd cc
not_narrow (in_range property low high) h = absurd cc
not_narrow (near_block property block) h = absurd cc
not_narrow (meet_of ways) h = absurd cc
not_narrow (join_of ways) h = absurd cc

narrow_if_less : (counts : Counts) (w : Way) → cost counts w < counts.every → is_narrow w ≡ true
narrow_if_less counts all_features h = let e = cost_all counts in absurd (omega arith)
narrow_if_less counts no_feature h = refl
narrow_if_less counts (in_range property low high) h = refl
narrow_if_less counts (near_block property block) h = refl
narrow_if_less counts (meet_of ways) h = refl
narrow_if_less counts (join_of ways) h = refl

-- what costs, at most as much as all
at_most_if : (counts : Counts) (w : Way) (b : Bool) → is_narrow w ≡ b → b ≡ nat_lt (cost counts w) counts.every → cost counts w ≤ counts.every
at_most_if counts w true e h = grind arith
at_most_if counts w false e h = let k : cost counts w ≡ counts.every = ap (cost counts) (not_narrow w e) ∙ cost_all counts in omega arith

pub at_most_all : (counts : Counts) (w : Way) → Costs counts w → cost counts w ≤ counts.every
at_most_all counts w h = at_most_if counts w (is_narrow w) refl h

less_told : (m n : ℕ) → true ≡ nat_lt m n → m < n
less_told m n h = grind arith

less_tells : (m n : ℕ) → m < n → true ≡ nat_lt m n
less_tells m n h = grind arith

cheaper_if : (counts : Counts) (w v : Way) (b : Bool) → b ≡ nat_lt (cost counts v) (cost counts w) → Costs counts w → Costs counts (if b then v else w)
cheaper_if counts w v true e h =
    let less : cost counts v < counts.every = omega (arith, less_told (cost counts v) (cost counts w) e, at_most_all counts w h) in
    narrow_if_less counts v less ∙ less_tells (cost counts v) counts.every less
cheaper_if counts w v false e h = h

pub first_costs : (counts : Counts) (w : Way) (ws : List Way) → Costs counts w → Costs counts (first_least counts w ws)
first_costs counts w [] h = h
first_costs counts w (v ∷ vs) h = first_costs counts (cheaper counts w v) vs (cheaper_if counts w v (nat_lt (cost counts v) (cost counts w)) refl h)

-- ---- when the first stays

pub cheaper_stays : (counts : Counts) (w v : Way) → cost counts w ≤ cost counts v → cheaper counts w v ≡ w
cheaper_stays counts w v h = ap (λ b. if b then v else w) (le-ltb (cost counts v) (cost counts w) h)

pub cheaper_goes : (counts : Counts) (w v : Way) → cost counts v < cost counts w → cheaper counts w v ≡ v
cheaper_goes counts w v h = ap (λ b. if b then v else w) (sym (less_tells (cost counts v) (cost counts w) h))

pub stays : (counts : Counts) (w : Way) (ws : List Way) → cost counts w ≤ min_of (cost counts w) (map (cost counts) ws) → first_least counts w ws ≡ w
stays counts w [] h = refl
stays counts w (v ∷ vs) h = ap (λ u. first_least counts u vs) (cheaper_stays counts w v (omega arith)) ∙ stays counts w vs (omega arith)

-- ---- the choice of an AND

abbrev pub EachCosts : Counts → List Way → Type 0
EachCosts counts [] = ⊤
EachCosts counts (w ∷ ws) = Costs counts w × EachCosts counts ws

-- for two or more their meet, else the only one, or all
abbrev pub met : List Way → Way
met [] = all_features
met (w ∷ []) = w
met (v ∷ w ∷ ws) = meet_of (ways_in (v ∷ w ∷ ws))

cost_if_all : (counts : Counts) (w : Way) → false ≡ is_narrow w → cost counts w ≡ counts.every
cost_if_all counts w e = ap (cost counts) (not_narrow w (sym e)) ∙ cost_all counts

-- the ways that are other than all, after one way
abbrev pub ways_after : Bool → Way → List Way → List Way
ways_after true w ws = w ∷ ws
ways_after false w ws = ws

pub filter_step : (w : Way) (ws : List Way) → filter is_narrow (w ∷ ws) ≡ ways_after (is_narrow w) w (filter is_narrow ws)
filter_step all_features ws = refl
filter_step no_feature ws = refl
filter_step (in_range property low high) ws = refl
filter_step (near_block property block) ws = refl
filter_step (meet_of ways) ws = refl
filter_step (join_of ways) ws = refl

under_step : (counts : Counts) (k rest : ℕ) (w : Way) (narrow : List Way) (b : Bool) → b ≡ is_narrow w → k ≤ counts.every
    → (k ≤ min_of counts.every (map (cost counts) narrow) → k ≤ rest) → k ≤ min_of counts.every (map (cost counts) (ways_after b w narrow)) → k ≤ min (cost counts w) rest
under_step counts k rest w narrow true at e ih f = let r = ih (omega arith) in omega arith
under_step counts k rest w narrow false at e ih f = let r = ih f in omega (arith, cost_if_all counts w at)

-- a number that is at most the cost of all, and of each that is other than all, is at most each cost
under_each : (counts : Counts) (k n : ℕ) (ws : List Way) → k ≤ n → k ≤ counts.every → k ≤ min_of counts.every (map (cost counts) (filter is_narrow ws)) → k ≤ min_of n (map (cost counts) ws)
under_each counts k n [] h e f = h
under_each counts k n (w ∷ ws) h e f =
    under_step counts k (min_of n (map (cost counts) ws)) w (filter is_narrow ws) (is_narrow w) refl e (under_each counts k n ws h e)
    (rw (filter_step w ws) at f)

-- with the cost of all, if each costs at most that
pub min_over : (n c : ℕ) (cs : List ℕ) → c ≤ n → min c (min_of n cs) ≡ min_of c cs
min_over n c [] h = omega arith
min_over n c (d ∷ cs) h = omega (arith, min_over n c cs h)

pub met_cost : (counts : Counts) (ws : List Way) → EachCosts counts ws → cost counts (met ws) ≡ min_of counts.every (map (cost counts) ws)
met_cost counts [] h = cost_all counts
met_cost counts (w ∷ []) h = omega (arith, at_most_all counts w h.0)
met_cost counts (v ∷ w ∷ ws) h = cost_meet counts (v ∷ w ∷ ws) ∙ sym (min_over counts.every (cost counts v) (map (cost counts) (w ∷ ws)) (at_most_all counts v h.0))

narrow_if : (counts : Counts) (w : Way) (ws : List Way) (b : Bool) → Costs counts w → EachCosts counts ws → EachCosts counts (ways_after b w ws)
narrow_if counts w ws true h k = (h, k)
narrow_if counts w ws false h k = k

pub narrow_costs : (counts : Counts) (ws : List Way) → EachCosts counts ws → EachCosts counts (filter is_narrow ws)
narrow_costs counts [] h = h
narrow_costs counts (w ∷ ws) h = rw (filter_step w ws) (narrow_if counts w (filter is_narrow ws) (is_narrow w) h.0 (narrow_costs counts ws h.1))

pub min_of_under : (n : ℕ) (cs : List ℕ) → min_of n cs ≤ n
min_of_under n [] = omega arith
min_of_under n (c ∷ cs) = omega (arith, min_of_under n cs)

none_narrow : (counts : Counts) (ws : List Way) → [] ≡ filter is_narrow ws → first_least counts all_features ws ≡ all_features
none_narrow counts ws e =
    let a = cost_all counts in
    let f : min_of counts.every (map (cost counts) (filter is_narrow ws)) ≡ counts.every = ap (λ fs. min_of counts.every (map (cost counts) fs)) (sym e) in
    stays counts all_features ws (under_each counts (cost counts all_features) (cost counts all_features) ws (omega arith) (omega arith) (omega arith))

same_head : (v w : Way) (vs ws : List Way) → v ∷ vs ≡ w ∷ ws → v ≡ w
same_head v w vs ws e = cc

same_tail : (v w : Way) (vs ws : List Way) → v ∷ vs ≡ w ∷ ws → vs ≡ ws
same_tail v w vs ws e = cc

one_step : (counts : Counts) (w v : Way) (vs : List Way) (b : Bool) → b ≡ is_narrow v → Costs counts v → w ∷ [] ≡ ways_after b v (filter is_narrow vs)
    → (w ∷ [] ≡ filter is_narrow vs → first_least counts all_features vs ≡ w) → first_least counts (cheaper counts all_features v) vs ≡ w
one_step counts w v vs true at h e ih =
    let a = cost_all counts in
    let less : cost counts v < counts.every = less_told (cost counts v) counts.every (at ∙ h) in
    let f : min_of counts.every (map (cost counts) (filter is_narrow vs)) ≡ counts.every = ap (λ fs. min_of counts.every (map (cost counts) fs)) (sym (same_tail w v [] (filter is_narrow vs) e)) in
    ap (λ u. first_least counts u vs) (cheaper_goes counts all_features v (omega arith))
    ∙ stays counts v vs (under_each counts (cost counts v) (cost counts v) vs (omega arith) (omega arith) (omega arith))
    ∙ sym (same_head w v [] (filter is_narrow vs) e)
one_step counts w v vs false at h e ih =
    let a = cost_all counts in
    let k = cost_if_all counts v at in
    ap (λ u. first_least counts u vs) (cheaper_stays counts all_features v (omega arith)) ∙ ih e

one_narrow : (counts : Counts) (w : Way) (ws : List Way) → EachCosts counts ws → w ∷ [] ≡ filter is_narrow ws → first_least counts all_features ws ≡ w
one_narrow counts w [] h e = absurd cc
one_narrow counts w (v ∷ vs) h e = one_step counts w v vs (is_narrow v) refl h.0 (e ∙ filter_step v vs) (one_narrow counts w vs h.1)

-- the first of those that are other than all is one of them
first_narrow : (counts : Counts) (w : Way) (ws fs : List Way) → EachCosts counts ws → w ∷ fs ≡ filter is_narrow ws → cost counts w < counts.every
first_narrow counts w [] fs h e = absurd cc
first_narrow counts w (v ∷ vs) fs h e = first_if counts w v vs fs (is_narrow v) refl h.0 (e ∙ filter_step v vs) (first_narrow counts w vs fs h.1)
  where
    first_if : (counts : Counts) (w v : Way) (vs fs : List Way) (b : Bool) → b ≡ is_narrow v → Costs counts v → w ∷ fs ≡ ways_after b v (filter is_narrow vs) → (w ∷ fs ≡ filter is_narrow vs → cost counts w < counts.every) → cost counts w < counts.every
    first_if counts w v vs fs true at h e ih = rw (same_head w v fs (filter is_narrow vs) e) (less_told (cost counts v) counts.every (at ∙ h))
    first_if counts w v vs fs false at h e ih = ih e

more_narrow : (counts : Counts) (ws : List Way) (v w : Way) (fs : List Way) → EachCosts counts ws → v ∷ w ∷ fs ≡ filter is_narrow ws → chosen counts (all_features ∷ (meets_of (v ∷ w ∷ fs) ++ ws)) ≡ met (v ∷ w ∷ fs)
more_narrow counts ws v w fs h e =
    let m : Way = met (v ∷ w ∷ fs) in
    let a = cost_all counts in
    let first = first_narrow counts v ws (w ∷ fs) h e in
    let same : min_of counts.every (map (cost counts) (filter is_narrow ws)) ≡ min_of counts.every (map (cost counts) (v ∷ w ∷ fs)) = ap (λ gs. min_of counts.every (map (cost counts) gs)) (sym e) in
    let over = min_over counts.every (cost counts v) (map (cost counts) (w ∷ fs)) (omega arith) in
    let c : cost counts m ≡ min_of counts.every (map (cost counts) (v ∷ w ∷ fs)) = cost_meet counts (v ∷ w ∷ fs) ∙ sym over in
    let less : cost counts m < cost counts all_features = omega arith in
    ap (λ u. first_least counts u ws) (cheaper_goes counts all_features m less)
    ∙ stays counts m ws (under_each counts (cost counts m) (cost counts m) ws (omega arith) (omega arith) (omega arith))

and_with : (counts : Counts) (ws fs : List Way) → EachCosts counts ws → fs ≡ filter is_narrow ws → chosen counts (all_features ∷ (meets_of fs ++ ws)) ≡ met fs
and_with counts ws [] h e = none_narrow counts ws e
and_with counts ws (w ∷ []) h e = one_narrow counts w ws h e
and_with counts ws (v ∷ w ∷ fs) h e = more_narrow counts ws v w fs h e

pub and_choice : (counts : Counts) (ws : List Way) → EachCosts counts ws → chosen counts (and_menu ws) ≡ met (filter is_narrow ws)
and_choice counts ws h = and_with counts ws (filter is_narrow ws) h refl
