-- The line of the clients whose replies are worked on.
use Rattle.std.specs.Prelude.{⊤}
use Rattle.std.specs.List.{list_any}
use Rattle.std.proofs.Common.{◌≡◌, ◌==◌, ℕ, zero, suc, nat_eq, ◌+◌, ◌<◌, ◌≤◌, Bool, true, false, not, ◌&&◌, ◌||◌, cond, List, [], ◌∷◌, ◌++◌, length, take, drop, append-nil, Option, None, Some, refl, sym, ap, subst, ◌∙◌, if◌then◌else◌, arith}
use Rattle.std.proofs.lemmas.Bool.{eqb-true, eq-eqb}
use Rattle.std.proofs.lemmas.List.{take-append-drop}
use Rattle.cad_event_loop.specs.Turns.{Standing, absent, waiting, ready, working, woken, is_among, without, others_in_turn, moved_back, is_first, lined_up, settled, stands_after, line_after, is_turn_of}
use Rattle.cad_event_loop.specs.Works.{Work, wakes, opens, acts, waits, ends, office_comes, enters, office_leaves, aside}
use Rattle.cad_event_loop.specs.inner.Line.{first_of, is_once, is_worked_on, IsLineOf}

both_false : (a b : Bool) → (a || b) ≡ false → (a ≡ false) × (b ≡ false)
both_false true b e = absurd (let clash : true ≡ false = e in cc)
both_false false b e = (refl, e)

either_false : (a b : Bool) → a ≡ false → b ≡ false → (a || b) ≡ false
either_false true b e f = absurd (let clash : true ≡ false = e in cc)
either_false false b e f = f

first_true : (a b : Bool) → a ≡ true → (a || b) ≡ true
first_true true b e = refl
first_true false b e = absurd (let clash : false ≡ true = e in cc)

last_true : (a b : Bool) → b ≡ true → (a || b) ≡ true
last_true true b e = refl
last_true false b e = e

-- c is among these, as the code looks for it
pub among_any : (c : ℕ) (line : List ℕ) → list_any (λ number. number == c) line ≡ is_among c line
among_any c [] = refl
among_any c (x ∷ xs) = ap (λ (b : Bool). nat_eq x c || b) (among_any c xs)

-- numbers that differ
pub unlike : (a b : ℕ) → nat_eq a b ≡ false → nat_eq b a ≡ false
unlike a b e = go (nat_eq b a) refl
  where
    go : (same : Bool) → nat_eq b a ≡ same → nat_eq b a ≡ false
    go true f = let yes = eq-eqb a b (sym (eqb-true b a f)) in let clash : true ≡ false = sym yes ∙ e in cc
    go false f = f

-- no number is in the line twice
abbrev IsOnce : List ℕ → Type 0
IsOnce [] = ⊤
IsOnce (first ∷ rest) = (is_among first rest ≡ false) × IsOnce rest

once_so : (line : List ℕ) → is_once line ≡ true → IsOnce line
once_so [] e = tt
once_so (x ∷ xs) e = go (is_among x xs) refl e (once_so xs)
  where
    go : (within : Bool) → is_among x xs ≡ within → (not within && is_once xs) ≡ true → (is_once xs ≡ true → IsOnce xs) → (is_among x xs ≡ false) × IsOnce xs
    go true f e so = absurd (let clash : false ≡ true = e in cc)
    go false f e so = (f, so e)

once_back : (line : List ℕ) → IsOnce line → is_once line ≡ true
once_back [] once = refl
once_back (x ∷ xs) once = ap (λ (b : Bool). not b && is_once xs) once.0 ∙ once_back xs once.1

-- c among others
among_insert : (c d : ℕ) (xs ys : List ℕ) → is_among d (xs ++ c ∷ ys) ≡ (nat_eq c d || is_among d (xs ++ ys))
among_insert c d [] ys = refl
among_insert c d (x ∷ xs) ys = ap (λ (b : Bool). nat_eq x d || b) (among_insert c d xs ys) ∙ go (nat_eq x d) (nat_eq c d)
  where
    go : (a b : Bool) → (a || (b || is_among d (xs ++ ys))) ≡ (b || (a || is_among d (xs ++ ys)))
    go true true = refl
    go true false = refl
    go false true = refl
    go false false = refl

once_insert : (c : ℕ) (xs ys : List ℕ) → is_among c (xs ++ ys) ≡ false → IsOnce (xs ++ ys) → IsOnce (xs ++ c ∷ ys)
once_insert c [] ys out once = (out, once)
once_insert c (x ∷ xs) ys out once =
    let apart = both_false (nat_eq x c) (is_among c (xs ++ ys)) out in
    (among_insert c x xs ys ∙ either_false (nat_eq c x) (is_among x (xs ++ ys)) (unlike x c apart.0) once.0, once_insert c xs ys apart.1 once.1)

-- the line without c
pub none_without : (c : ℕ) (line : List ℕ) → is_among c line ≡ false → without c line ≡ line
none_without c [] out = refl
none_without c (x ∷ xs) out =
    let apart = both_false (nat_eq x c) (is_among c xs) out in
    ap (λ (b : Bool). cond (not b) (x ∷ without c xs) (without c xs)) apart.0 ∙ ap (λ (l : List ℕ). x ∷ l) (none_without c xs apart.1)

self_without : (c : ℕ) (line : List ℕ) → is_among c (without c line) ≡ false
self_without c [] = refl
self_without c (x ∷ xs) = go (self_without c xs) (nat_eq x c) refl
  where
    go : is_among c (without c xs) ≡ false → (same : Bool) → nat_eq x c ≡ same → is_among c (cond (not (nat_eq x c)) (x ∷ without c xs) (without c xs)) ≡ false
    go rest true e = ap (λ (b : Bool). is_among c (cond (not b) (x ∷ without c xs) (without c xs))) e ∙ rest
    go rest false e = ap (λ (b : Bool). is_among c (cond (not b) (x ∷ without c xs) (without c xs))) e ∙ either_false (nat_eq x c) (is_among c (without c xs)) e rest

other_without : (c d : ℕ) (line : List ℕ) → nat_eq c d ≡ false → is_among d (without c line) ≡ is_among d line
other_without c d [] other = refl
other_without c d (x ∷ xs) other = go (other_without c d xs other) (nat_eq x c) refl
  where
    go : is_among d (without c xs) ≡ is_among d xs → (same : Bool) → nat_eq x c ≡ same → is_among d (cond (not (nat_eq x c)) (x ∷ without c xs) (without c xs)) ≡ (nat_eq x d || is_among d xs)
    go rest true e =
        ap (λ (b : Bool). is_among d (cond (not b) (x ∷ without c xs) (without c xs))) e
        ∙ (rest ∙ sym (ap (λ (b : Bool). b || is_among d xs) (ap (λ (n : ℕ). nat_eq n d) (eqb-true x c e) ∙ other)))
    go rest false e = ap (λ (b : Bool). is_among d (cond (not b) (x ∷ without c xs) (without c xs))) e ∙ ap (λ (b : Bool). nat_eq x d || b) rest

once_without : (c : ℕ) (line : List ℕ) → IsOnce line → IsOnce (without c line)
once_without c [] once = tt
once_without c (x ∷ xs) once = go (once_without c xs once.1) (nat_eq x c) refl
  where
    go : IsOnce (without c xs) → (same : Bool) → nat_eq x c ≡ same → IsOnce (cond (not (nat_eq x c)) (x ∷ without c xs) (without c xs))
    go rest true e = subst (λ (b : Bool). IsOnce (cond (not b) (x ∷ without c xs) (without c xs))) (sym e) rest
    go rest false e = subst (λ (b : Bool). IsOnce (cond (not b) (x ∷ without c xs) (without c xs))) (sym e) (other_without c x xs (unlike x c e) ∙ once.0, rest)

length_without : (c : ℕ) (line : List ℕ) → IsOnce line → length line ≤ length (without c line) + 1
length_without c [] once = omega arith
length_without c (x ∷ xs) once = go (length_without c xs once.1) (nat_eq x c) refl
  where
    go : length xs ≤ length (without c xs) + 1 → (same : Bool) → nat_eq x c ≡ same → suc (length xs) ≤ length (cond (not (nat_eq x c)) (x ∷ without c xs) (without c xs)) + 1
    go rest true e =
        let out : is_among c xs ≡ false = ap (λ (n : ℕ). is_among n xs) (sym (eqb-true x c e)) ∙ once.0 in
        let all = ap (λ (l : List ℕ). length l) (none_without c xs out) in
        subst (λ (b : Bool). suc (length xs) ≤ length (cond (not b) (x ∷ without c xs) (without c xs)) + 1) (sym e) (omega (arith, all))
    go rest false e =
        subst (λ (b : Bool). suc (length xs) ≤ length (cond (not b) (x ∷ without c xs) (without c xs)) + 1) (sym e) (omega (arith, rest))

-- the first goes behind others
among_moved : (d : ℕ) (line : List ℕ) → is_among d (moved_back line) ≡ is_among d line
among_moved d [] = refl
among_moved d (first ∷ rest) =
    among_insert first d (take others_in_turn rest) (drop others_in_turn rest) ∙ ap (λ (l : List ℕ). nat_eq first d || is_among d l) (take-append-drop others_in_turn rest)

once_moved : (line : List ℕ) → IsOnce line → IsOnce (moved_back line)
once_moved [] once = tt
once_moved (first ∷ rest) once =
    let same : rest ≡ take others_in_turn rest ++ drop others_in_turn rest = sym (take-append-drop others_in_turn rest) in
    once_insert first (take others_in_turn rest) (drop others_in_turn rest) (subst (λ (l : List ℕ). is_among first l ≡ false) same once.0) (subst (λ (l : List ℕ). IsOnce l) same once.1)

first_among : (c : ℕ) (line : List ℕ) → is_first c line ≡ true → is_among c line ≡ true
first_among c [] e = e
first_among c (x ∷ xs) e = first_true (nat_eq x c) (is_among c xs) e

none_first : (c : ℕ) (line : List ℕ) → is_among c line ≡ false → is_first c line ≡ false
none_first c [] e = refl
none_first c (x ∷ xs) e = (both_false (nat_eq x c) (is_among c xs) e).0

-- the line after a turn of c, by which its reply is to be worked on or not
module _ (c : ℕ) (line : List ℕ) where
  -- one of three cases
  kept_cases : (P : List ℕ → Type 0) → (is_first c line ≡ true → P (moved_back line)) → (is_among c line ≡ true → P line) → (is_among c line ≡ false → P (line ++ c ∷ [])) → P (lined_up c line)
  kept_cases P front within out = go (is_first c line) refl (is_among c line) refl
    where
      go : (first : Bool) → is_first c line ≡ first → (among : Bool) → is_among c line ≡ among → P (lined_up c line)
      go true e among f = subst (λ (b : Bool). P (if b then moved_back line else (if is_among c line then line else line ++ c ∷ []))) (sym e) (front e)
      go false e true f =
          subst (λ (b : Bool). P (if b then moved_back line else (if is_among c line then line else line ++ c ∷ []))) (sym e)
          (subst (λ (b : Bool). P (if b then line else line ++ c ∷ [])) (sym f) (within f))
      go false e false f =
          subst (λ (b : Bool). P (if b then moved_back line else (if is_among c line then line else line ++ c ∷ []))) (sym e)
          (subst (λ (b : Bool). P (if b then line else line ++ c ∷ [])) (sym f) (out f))

  same_line : line ≡ line ++ []
  same_line = sym (append-nil line)

  kept_self : is_among c (lined_up c line) ≡ true
  kept_self = kept_cases (λ l. is_among c l ≡ true)
      (λ first. among_moved c line ∙ first_among c line first)
      (λ within. within)
      (λ out. among_insert c c line [] ∙ first_true (nat_eq c c) (is_among c (line ++ [])) (eq-eqb c c refl))

  kept_other : (d : ℕ) → nat_eq c d ≡ false → is_among d (lined_up c line) ≡ is_among d line
  kept_other d other = kept_cases (λ l. is_among d l ≡ is_among d line)
      (λ first. among_moved d line)
      (λ within. refl)
      (λ out. among_insert c d line [] ∙ (ap (λ (b : Bool). b || is_among d (line ++ [])) other ∙ ap (λ (l : List ℕ). is_among d l) (append-nil line)))

  kept_once : IsOnce line → IsOnce (lined_up c line)
  kept_once once = kept_cases (λ l. IsOnce l)
      (λ first. once_moved line once)
      (λ within. once)
      (λ out. once_insert c line [] (subst (λ (l : List ℕ). is_among c l ≡ false) same_line out) (subst (λ (l : List ℕ). IsOnce l) same_line once))

  settled_self : (left : Bool) → is_among c (settled c left line) ≡ left
  settled_self true = kept_self
  settled_self false = self_without c line

  settled_other : (left : Bool) (d : ℕ) → nat_eq c d ≡ false → is_among d (settled c left line) ≡ is_among d line
  settled_other true d other = kept_other d other
  settled_other false d other = other_without c d line other

  settled_once : (left : Bool) → IsOnce line → IsOnce (settled c left line)
  settled_once true once = kept_once once
  settled_once false once = once_without c line once

-- those whose replies are worked on are in the line still, after turns of c
pub line_settled : (c : ℕ) (left : Bool) (stands next : ℕ → Standing) (line : List ℕ) → IsLineOf stands line → ((d : ℕ) → nat_eq c d ≡ false → next d ≡ stands d) → left ≡ is_worked_on (next c) → IsLineOf next (settled c left line)
line_settled c left stands next line is others own = record {
  once = once_back (settled c left line) (settled_once c line left (once_so line is.once));
  each = λ d. go d (nat_eq c d) refl;
}
  where
    go : (d : ℕ) (same : Bool) → nat_eq c d ≡ same → is_among d (settled c left line) ≡ is_worked_on (next d)
    go d true e = subst (λ (n : ℕ). is_among n (settled c left line) ≡ is_worked_on (next n)) (eqb-true c d e) (settled_self c line left ∙ own)
    go d false e = settled_other c line left d e ∙ (is.each d ∙ sym (ap is_worked_on (others d e)))

-- where each stands alike
pub line_alike : (stands next : ℕ → Standing) (line : List ℕ) → IsLineOf stands line → ((d : ℕ) → is_worked_on (next d) ≡ is_worked_on (stands d)) → IsLineOf next line
line_alike stands next line is same = record { once = is.once; each = λ d. is.each d ∙ sym (same d) }

pub woken_alike : (told : Bool) (it : Standing) → is_worked_on (if told then woken it else it) ≡ is_worked_on it
woken_alike false it = refl
woken_alike true absent = refl
woken_alike true waiting = refl
woken_alike true ready = refl
woken_alike true working = refl

-- there is room in the line, where all of it are below n
few : (n : ℕ) (line : List ℕ) → IsOnce line → ((d : ℕ) → is_among d line ≡ true → d < n) → length line ≤ n
few zero [] once below = omega arith
few zero (x ∷ xs) once below = let none = below x (first_true (nat_eq x x) (is_among x xs) (eq-eqb x x refl)) in absurd (omega (arith, none))
few (suc n) line once below =
    let most = few n (without n line) (once_without n line once) least in
    let count = length_without n line once in
    omega (arith, most, count)
  where
    go : (d : ℕ) (same : Bool) → nat_eq n d ≡ same → is_among d (without n line) ≡ true → d < n
    go d true e is = let out = subst (λ (k : ℕ). is_among k (without n line) ≡ false) (eqb-true n d e) (self_without n line) in let clash : true ≡ false = sym is ∙ out in absurd (cc)
    go d false e is =
        let most = below d (sym (other_without n d line e) ∙ is) in
        let differ : (n ≡ d → ⊥) = (λ same. let yes = eq-eqb n d same in let clash : true ≡ false = sym yes ∙ e in cc) in
        less d most differ
      where
        less : (d : ℕ) → d < suc n → (n ≡ d → ⊥) → d < n
        less d most differ = omega (arith, most, differ)

    least : (d : ℕ) → is_among d (without n line) ≡ true → d < n
    least d is = go d (nat_eq n d) refl is

among_all : (c : ℕ) (n : ℕ) (line : List ℕ) → c < n → ((d : ℕ) → is_among d line ≡ true → d < n) → (d : ℕ) → (nat_eq c d || is_among d line) ≡ true → d < n
among_all c n line within below d is = go (nat_eq c d) refl is
  where
    go : (same : Bool) → nat_eq c d ≡ same → (same || is_among d line) ≡ true → d < n
    go true e is = subst (λ (k : ℕ). k < n) (eqb-true c d e) within
    go false e is = below d is

pub room_for : (c n : ℕ) (stands : ℕ → Standing) (line : List ℕ) → IsLineOf stands line → ((d : ℕ) → n ≤ d → stands d ≡ absent) → c < n → is_among c line ≡ false → length line < n
room_for c n stands line is none within out =
    let most = few n (c ∷ line) (out, once_so line is.once) (among_all c n line within below) in
    omega (arith, most)
  where
    under : (d : ℕ) → (n ≤ d → ⊥) → d < n
    under d not = omega (arith, not)

    below : (d : ℕ) → is_among d line ≡ true → d < n
    below d in_it = under d (λ past. let clash : true ≡ false = sym in_it ∙ (is.each d ∙ ap is_worked_on (none d past)) in cc)

-- nobody's reply is worked on
pub line_none : (stands : ℕ → Standing) → ((c : ℕ) → stands c ≡ absent) → IsLineOf stands []
line_none stands none = record { once = refl; each = λ c. sym (ap is_worked_on (none c)) }

-- the line in a visit of c, which is not in it at first
abbrev pub joined : ℕ → Standing → List ℕ → List ℕ
joined c working base = base ++ c ∷ []
joined c absent base = base
joined c waiting base = base
joined c ready base = base

module _ (c : ℕ) (base : List ℕ) (out : is_among c base ≡ false) where
  kept_new : lined_up c base ≡ base ++ c ∷ []
  kept_new = rw (none_first c base out, out) refl

  kept_last : lined_up c (base ++ c ∷ []) ≡ base ++ c ∷ []
  kept_last = go base out
    where
      go : (xs : List ℕ) → is_among c xs ≡ false → lined_up c (xs ++ c ∷ []) ≡ xs ++ c ∷ []
      go [] e = rw (eq-eqb c c refl) refl
      go (x ∷ xs) e =
          let apart = both_false (nat_eq x c) (is_among c xs) e in
          let within : is_among c (xs ++ c ∷ []) ≡ true = among_insert c c xs [] ∙ first_true (nat_eq c c) (is_among c (xs ++ [])) (eq-eqb c c refl) in
          rw (apart.0, within) refl

  without_last : without c (base ++ c ∷ []) ≡ base
  without_last = go base out
    where
      go : (xs : List ℕ) → is_among c xs ≡ false → without c (xs ++ c ∷ []) ≡ xs
      go [] e = rw (eq-eqb c c refl) refl
      go (x ∷ xs) e =
          let apart = both_false (nat_eq x c) (is_among c xs) e in
          ap (λ (b : Bool). cond (not b) (x ∷ without c (xs ++ c ∷ [])) (without c (xs ++ c ∷ []))) apart.0 ∙ ap (λ (l : List ℕ). x ∷ l) (go xs apart.1)

  out_step : (stand : Standing) → without c (joined c stand base) ≡ base
  out_step working = without_last
  out_step absent = none_without c base out
  out_step waiting = none_without c base out
  out_step ready = none_without c base out

  acted_step : (stand : Standing) (owing : Bool) → settled c owing (joined c stand base) ≡ joined c (if owing then working else ready) base
  acted_step stand false = out_step stand
  acted_step working true = kept_last
  acted_step absent true = kept_new
  acted_step waiting true = kept_new
  acted_step ready true = kept_new

  -- one turn of it
  pub line_step : (stand : Standing) (work : Work) → is_turn_of c work ≡ true → line_after (joined c stand base) work ≡ joined c (stands_after c stand work) base
  line_step stand (acts s d act owing) e =
      ap (λ (n : ℕ). settled n owing (joined c stand base)) (eqb-true d c e) ∙ (acted_step stand owing ∙ ap (λ (b : Bool). joined c (if b then (if owing then working else ready) else stand) base) (sym e))
  line_step stand (waits s d) e =
      ap (λ (n : ℕ). without n (joined c stand base)) (eqb-true d c e) ∙ (out_step stand ∙ ap (λ (b : Bool). joined c (if b then waiting else stand) base) (sym e))
  line_step stand (ends s d (Some ending) deeds said) e =
      ap (λ (n : ℕ). without n (joined c stand base)) (eqb-true d c e) ∙ (out_step stand ∙ ap (λ (b : Bool). joined c (if b then absent else stand) base) (sym e))
  line_step stand (ends s d None deeds said) e = absurd (let clash : false ≡ true = e in cc)
  line_step stand (wakes places) e = absurd (let clash : false ≡ true = e in cc)
  line_step stand (opens s d) e = absurd (let clash : false ≡ true = e in cc)
  line_step stand (office_comes o k) e = absurd (let clash : false ≡ true = e in cc)
  line_step stand (enters o k text turned deeds said) e = absurd (let clash : false ≡ true = e in cc)
  line_step stand (office_leaves o k overdue) e = absurd (let clash : false ≡ true = e in cc)
  line_step stand (aside deeds said) e = absurd (let clash : false ≡ true = e in cc)

  pub joined_none : (stand : Standing) → is_worked_on stand ≡ false → joined c stand base ≡ base
  joined_none working e = absurd (let clash : true ≡ false = e in cc)
  joined_none absent e = refl
  joined_none waiting e = refl
  joined_none ready e = refl

  -- as the code keeps it
  pub settled_joined : (stand : Standing) → settled c (is_worked_on stand) base ≡ joined c stand base
  settled_joined working = kept_new
  settled_joined absent = none_without c base out
  settled_joined waiting = none_without c base out
  settled_joined ready = none_without c base out

-- the reply of the first is worked on
pub first_works : (c : ℕ) (stands : ℕ → Standing) (line : List ℕ) → IsLineOf stands line → Some c ≡ first_of line → stands c ≡ working
first_works c stands [] is e = absurd (let clash : ◌≡◌ {A = Option ℕ} (Some c) None = e in cc)
first_works c stands (first ∷ rest) is e =
    let same : first ≡ c = cc in
    let within : is_among c (first ∷ rest) ≡ true = first_true (nat_eq first c) (is_among c rest) (eq-eqb first c same) in
    works (stands c) (sym (is.each c) ∙ within)
  where
    works : (it : Standing) → is_worked_on it ≡ true → it ≡ working
    works working e = refl
    works absent e = absurd (let clash : false ≡ true = e in cc)
    works waiting e = absurd (let clash : false ≡ true = e in cc)
    works ready e = absurd (let clash : false ≡ true = e in cc)
