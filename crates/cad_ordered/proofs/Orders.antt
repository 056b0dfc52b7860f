-- What follows where values stand in their order beside their positions.
use Rattle.std.proofs.Common.{◌≡◌, ◌∙◌, ℕ, zero, suc, ◌+◌, ◌<◌, ◌≤◌, Bool, true, false, cond, List, [], ◌∷◌, length, map, get_or, ap, sym, refl, arith, ◌⊎◌, inl, inr, ◌==◌, ext_get_or}
use Rattle.std.proofs.lemmas.List.{length-map, get_or-map}
use Rattle.std.proofs.Math.ListN.{get_or-eq_default}
use Rattle.std.specs.List.{zip, All}
use Rattle.std.proofs.lemmas.Bool.Decides.{nat_tests}
use Rattle.std.proofs.lemmas.List.Elements.{All-get_or, All-from_get_or, All-cons}
use Rattle.std.proofs.lemmas.List.Sorted.{All-permutation, IsPermutation-map, length_permutation}
use Rattle.cad_feature.specs.Values.{Datum, null}
use Rattle.cad_positions.specs.Hits.{hits, once, hits_at, some_hit, hits_permutation}
use Rattle.cad_positions.specs.Between.{below}
use Rattle.cad_positions.specs.Rankings.{AreInverse}
use Rattle.cad_range.specs.Ranges.{has_order}
use Rattle.cad_ordered.specs.Columns.{IsOrderOf, keyed_from, by_rank, AreOrdered}

zip_places : (ds : List Datum) (ps : List ℕ) → length ds ≡ length ps → map (λ (e : Datum × ℕ). e.1) (zip ds ps) ≡ ps
zip_places [] [] h = refl
zip_places [] (p ∷ ps) h = absurd (omega arith)
zip_places (d ∷ ds) [] h = absurd (omega arith)
zip_places (d ∷ ds) (p ∷ ps) h = ap (λ xs. p ∷ xs) (zip_places ds ps (omega arith))

step : (b : Bool) (x : Datum) (p v : ℕ) (es : List (Datum × ℕ)) → hits v (map (λ (e : Datum × ℕ). e.1) (cond b ((x, p) ∷ es) es)) ≡ cond b (once (p == v)) 0 + hits v (map (λ (e : Datum × ℕ). e.1) es)
step true x p v es = refl
step false x p v es = omega arith

at_self : (b : Bool) (v : ℕ) → cond b (once (v == v)) 0 ≡ once b
at_self true v = grind (arith, nat_tests)
at_self false v = refl

off : (b : Bool) (p v : ℕ) → (v < p) ⊎ (p < v) → cond b (once (p == v)) 0 ≡ 0
off true p v (inl h) = grind (arith, nat_tests)
off true p v (inr h) = grind (arith, nat_tests)
off false p v h = refl

none_before : (a v : ℕ) (ds : List Datum) → v < a → hits v (map (λ (e : Datum × ℕ). e.1) (keyed_from a ds)) ≡ 0
none_before a v [] h = refl
none_before a v (x ∷ xs) h = omega (arith, step (has_order x) x a v (keyed_from (a + 1) xs), off (has_order x) a v (inl h), none_before (a + 1) v xs (omega arith))

pub keyed_hits : (a k : ℕ) (ds : List Datum) → hits (a + k) (map (λ (e : Datum × ℕ). e.1) (keyed_from a ds)) ≡ once (has_order (get_or ds k null))
keyed_hits a k [] = refl
keyed_hits a zero (x ∷ xs) = let e : a + 0 ≡ a = omega arith in rw e (omega (arith, step (has_order x) x a a (keyed_from (a + 1) xs), at_self (has_order x) a, none_before (a + 1) a xs (omega arith)))
keyed_hits a (suc k) (x ∷ xs) =
    let e : a + suc k ≡ (a + 1) + k = omega arith in
    rw e (omega (arith, step (has_order x) x a ((a + 1) + k) (keyed_from (a + 1) xs), off (has_order x) a ((a + 1) + k) (inr (omega arith)), keyed_hits (a + 1) k xs))

pub place_hits : (ds : List Datum) (ps : List ℕ) (vs : List Datum) → IsOrderOf ds ps vs → (v : ℕ) → hits v ps ≡ once (has_order (get_or vs v null))
place_hits ds ps vs o v =
    let z = zip_places ds ps o.beside in
    let p = IsPermutation-map (λ (e : Datum × ℕ). e.1) (keyed_from 0 vs) (zip ds ps) o.same in
    let n : 0 + v ≡ v = omega arith in
    ap (hits v) (sym z) ∙ hits_permutation v _ _ p ∙ (rw n at (keyed_hits 0 v vs))

at_most_one : (b : Bool) → once b ≤ 1
at_most_one true = omega arith
at_most_one false = omega arith

pub once_each : (ds : List Datum) (ps : List ℕ) (vs : List Datum) → IsOrderOf ds ps vs → (v : ℕ) → hits v ps ≤ 1
once_each ds ps vs o v = omega (arith, place_hits ds ps vs o v, at_most_one (has_order (get_or vs v null)))

past : (vs : List Datum) (v : ℕ) → length vs ≤ v → has_order (get_or vs v null) ≡ false
past [] v h = refl
past (x ∷ xs) zero h = absurd (omega arith)
past (x ∷ xs) (suc v) h = past xs v (omega arith)

pub all_known : (ds : List Datum) (ps : List ℕ) (vs : List Datum) → IsOrderOf ds ps vs → All (λ p. p < length vs) ps
all_known ds ps vs o = All-from_get_or (λ p. p < length vs) ps 0 (λ i h. elim (below (get_or ps i 0) (length vs)) [
  | inl l ↦ l
  | inr l ↦ absurd (omega (arith, hits_at ps i h, place_hits ds ps vs o (get_or ps i 0), ap once (past vs (get_or ps i 0) l)))
])

keyed_length : (b : Bool) (x : Datum × ℕ) (es : List (Datum × ℕ)) → length (cond b (x ∷ es) es) ≤ suc (length es)
keyed_length true x es = omega arith
keyed_length false x es = omega arith

keyed_fewer : (a : ℕ) (vs : List Datum) → length (keyed_from a vs) ≤ length vs
keyed_fewer a [] = omega arith
keyed_fewer a (x ∷ xs) = omega (arith, keyed_length (has_order x) (x, a) (keyed_from (a + 1) xs), keyed_fewer (a + 1) xs)

zip_length : (ds : List Datum) (ps : List ℕ) → length ds ≡ length ps → length (zip ds ps) ≡ length ps
zip_length [] [] h = refl
zip_length [] (p ∷ ps) h = absurd (omega arith)
zip_length (d ∷ ds) [] h = absurd (omega arith)
zip_length (d ∷ ds) (p ∷ ps) h = ap suc (zip_length ds ps (omega arith))

pub no_more : (ds : List Datum) (ps : List ℕ) (vs : List Datum) → IsOrderOf ds ps vs → length ps ≤ length vs
no_more ds ps vs o = omega (arith, zip_length ds ps o.beside, length_permutation _ _ o.same, keyed_fewer 0 vs)

fits_cons : (b : Bool) (P : Datum × ℕ → Type 0) (x : Datum × ℕ) (es : List (Datum × ℕ)) → P x → All P es → All P (cond b (x ∷ es) es)
fits_cons true P x es h k = All-cons P x es h k
fits_cons false P x es h k = k

keyed_fits : (a : ℕ) (vs : List Datum) (P : Datum × ℕ → Type 0) → ((k : ℕ) → P (get_or vs k null, a + k)) → All P (keyed_from a vs)
keyed_fits a [] P h = λ k d l. absurd (omega arith)
keyed_fits a (x ∷ xs) P h = fits_cons (has_order x) P (x, a) (keyed_from (a + 1) xs) (let e : a + 0 ≡ a = omega arith in rw e at (h 0))
    (keyed_fits (a + 1) xs P (λ k. let e : a + suc k ≡ (a + 1) + k = omega arith in rw e at (h (suc k))))

zip_at : (ds : List Datum) (ps : List ℕ) (i : ℕ) (d : Datum × ℕ) → length ds ≡ length ps → i < length ps → get_or (zip ds ps) i d ≡ (get_or ds i null, get_or ps i 0)
zip_at [] [] i d h l = absurd (omega arith)
zip_at [] (p ∷ ps) i d h l = absurd (omega arith)
zip_at (x ∷ ds) [] i d h l = absurd (omega arith)
zip_at (x ∷ ds) (p ∷ ps) zero d h l = refl
zip_at (x ∷ ds) (p ∷ ps) (suc i) d h l = zip_at ds ps i d (omega arith) (omega arith)

value_is : (ds : List Datum) (ps : List ℕ) (vs : List Datum) → IsOrderOf ds ps vs → (i : ℕ) → i < length ps → get_or vs (get_or ps i 0) null ≡ get_or ds i null
value_is ds ps vs o i l =
    let all = All-permutation (λ e. get_or vs e.1 null ≡ e.0) (keyed_from 0 vs) (zip ds ps) o.same (keyed_fits 0 vs (λ e. get_or vs e.1 null ≡ e.0) (λ k. let n : 0 + k ≡ k = omega arith in rw n refl)) in
    rw (zip_at ds ps i (null, 0) o.beside l) at (All-get_or (λ e. get_or vs e.1 null ≡ e.0) (zip ds ps) i (null, 0) (omega (arith, zip_length ds ps o.beside)) all)

unranked : (b : Bool) → (b ≡ true → ⊥) → b ≡ false
unranked true h = absurd (h refl)
unranked false h = refl

-- the values by rank are those given, where the two orders are inverse
pub by_rank_is : (ds : List Datum) (ps ranks : List ℕ) (vs : List Datum) → IsOrderOf ds ps vs → AreInverse ps ranks → length ranks ≡ length vs → AreOrdered vs → by_rank ds ranks ≡ vs
by_rank_is ds ps ranks vs o i e nulls = ext_get_or null (by_rank ds ranks) vs (length-map ranks (λ (r : ℕ). get_or ds r null) ∙ e) (λ p h.
    let l : p < length ranks = omega (arith, length-map ranks (λ (r : ℕ). get_or ds r null)) in
    get_or-map (λ (r : ℕ). get_or ds r null) ranks p 0 null l ∙ elim (below (get_or ranks p 0) (length ps)) [
      | inl k ↦ sym (rw (i.stands p l k) at (value_is ds ps vs o (get_or ranks p 0) k))
      | inr k ↦ get_or-eq_default ds null (omega (arith, o.beside)) ∙ sym (nulls p (unranked (has_order (get_or vs p null)) (λ s.
          let t = some_hit p ps (omega (arith, place_hits ds ps vs o p, ap once s)) in
          absurd (omega (arith, i.ranked t.0 t.1, ap (λ q. get_or ranks q 0) t.2)))))
    ])
