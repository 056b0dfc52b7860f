-- Costs of forms.
use Rattle.std.proofs.Common.{◌≡◌, ◌∙◌, ap, sym, refl, ℕ, zero, suc, ◌+◌, ◌≤◌, min, Bool, true, false, ◌&&◌, List, [], ◌∷◌, ◌++◌, map, length, get_or, drop, add-one, drop-cons, Vec, Option, None, cond, arith}
use Rattle.std.proofs.Common.{Some, String}
use Rattle.std.specs.List.{remove}
use Rattle.std.specs.declared.alloc.Global.{Global}
use Rattle.std.specs.Cmp.{first_so, second_so}
use Rattle.std.proofs.lemmas.List.{drop_all}
use Rattle.cql_types.specs.declared.filter.Filter.{Filter}
use Rattle.cad_feature.specs.declared.range.Range.{Range as RangeOf}
use Rattle.cad_range.specs.Ranges.{lies_in, lies_in_if_any}
use Rattle.cql_rewrite.specs.declared.form.Normal.{Normal}
use Rattle.cql_rewrite.specs.declared.form.Normal.TheVariants.{Constant, Range, Like, And, rolls-Constant, rolls-Range, rolls-Like, rolls-And}
use Rattle.cql_rewrite.specs.declared.form.Normal.TheFolds.{fold-roll-Normal, fold_out-Normal}
use Rattle.cql_rewrite.specs.declared.form.Normal.TheOpen.{Normal-F}
use Rattle.cql_rewrite.specs.Meets.{Written, meets}
use Rattle.cql_rewrite.specs.Costs.{bound_on, every, how_many, least, least_of_all, least_of_some, least_or, least_step, min_of, range_count, total}
use Rattle.cql_rewrite.specs.inner.Choices.{min_of_under}
use Rattle.cql_rewrite.proofs.Forms.{meets_Constant}

pub least_Constant : (t : List Written) (b : Bool) → least t (Constant b) ≡ cond b (every t) 0
least_Constant t true = ap (least t) (sym (rolls-Constant true)) ∙ fold-roll-Normal ℕ (least_step t) (Normal-F.Constant true)
least_Constant t false = ap (least t) (sym (rolls-Constant false)) ∙ fold-roll-Normal ℕ (least_step t) (Normal-F.Constant false)

pub least_Range : (t : List Written) (r : RangeOf) → least t (Range r) ≡ how_many (λ x. lies_in x.item r) t
least_Range t r = ap (least t) (sym (rolls-Range r)) ∙ fold-roll-Normal ℕ (least_step t) (Normal-F.Range r)

pub least_Like : (t : List Written) (pattern : String Global) (r : RangeOf) → least t (Like pattern r) ≡ how_many (λ x. lies_in x.item r) t
least_Like t pattern r = ap (least t) (sym (rolls-Like pattern r)) ∙ fold-roll-Normal ℕ (least_step t) (Normal-F.Like pattern r)

pub least_And : (t : List Written) (v : Vec Normal Global) → least t (And v) ≡ least_of_all t v.items
least_And t v = ap (least t) (sym (rolls-And v)) ∙ fold-roll-Normal ℕ (least_step t) (Normal-F.And v)

-- ---- counting

count_step : (b : Bool) (m n : ℕ) → m ≤ n → cond b (suc m) m ≤ suc n
count_step true m n h = omega arith
count_step false m n h = omega arith

pub count_at_most : {X : Type 0} (p : X → Bool) (xs : List X) → how_many p xs ≤ length xs
count_at_most p [] = omega arith
count_at_most p (x ∷ xs) = count_step (p x) _ _ (count_at_most p xs)

under_step : (a b : Bool) (m n : ℕ) → (a ≡ true → b ≡ true) → m ≤ n → cond a (suc m) m ≤ cond b (suc n) n
under_step true true m n h k = omega arith
under_step true false m n h k = let e = h refl in absurd (cc)
under_step false true m n h k = omega arith
under_step false false m n h k = omega arith

-- what passes one test passes another
pub count_under : {X : Type 0} (p q : X → Bool) (xs : List X) → ((x : X) → p x ≡ true → q x ≡ true) → how_many p xs ≤ how_many q xs
count_under p q [] h = omega arith
count_under p q (x ∷ xs) h = under_step (p x) (q x) _ _ (h x) (count_under p q xs h)

pub count_alike : {X : Type 0} (p q : X → Bool) (xs : List X) → ((x : X) → p x ≡ q x) → how_many p xs ≡ how_many q xs
count_alike p q [] h = refl
count_alike p q (x ∷ xs) h = rw (h x, count_alike p q xs h) refl

pub none_pass : {X : Type 0} (xs : List X) → how_many (λ x. false) xs ≡ 0
none_pass [] = refl
none_pass (x ∷ xs) = none_pass xs

pub all_pass : {X : Type 0} (xs : List X) → how_many (λ x. true) xs ≡ length xs
all_pass [] = refl
all_pass (x ∷ xs) = ap suc (all_pass xs)

constant_count : (t : List Written) (b : Bool) → cond b (every t) 0 ≡ how_many (λ x. b) t
constant_count t true = sym (all_pass t)
constant_count t false = sym (none_pass t)

-- a constant and a range cost what meets them
pub counted_Constant : (t : List Written) (b : Bool) → least t (Constant b) ≡ how_many (λ x. meets x.item (Constant b)) t
counted_Constant t b = least_Constant t b ∙ constant_count t b ∙ sym (count_alike (λ x. meets x.item (Constant b)) (λ x. b) t (λ x. meets_Constant x.item b))

pub nothing_counted : (t : List Written) → least t (Constant false) ≡ range_count t None
nothing_counted t = least_Constant t false ∙ sym (none_pass t)

-- ---- no form costs more than all features

step_under : (t : List Written) (form : Normal-F ℕ) → least_step t form ≤ every t
step_under t (Normal-F.Constant true) = omega arith
step_under t (Normal-F.Constant false) = omega arith
step_under t (Normal-F.Range r) = count_at_most (λ x. lies_in x.item r) t
step_under t (Normal-F.Like pattern r) = count_at_most (λ x. lies_in x.item r) t
step_under t (Normal-F.Atom f side) = omega arith
step_under t (Normal-F.Owned f side) = omega arith
step_under t (Normal-F.Folded text) = omega arith
step_under t (Normal-F.LikeFolded p) = omega arith
step_under t (Normal-F.Near f property shape) = omega arith
step_under t (Normal-F.And parts) = min_of_under (every t) parts.items
step_under t (Normal-F.Or parts) = omega arith

pub least_under : (t : List Written) (n : Normal) → least t n ≤ every t
least_under t n = rw (fold_out-Normal ℕ (least_step t) n) (step_under t _)

pub least_or_under : (t : List Written) (o : Option Normal) → least_or t o ≤ every t
least_or_under t None = omega arith
least_or_under t (Some n) = least_under t n

pub all_under : (t : List Written) (ns : List Normal) → least_of_all t ns ≤ every t
all_under t ns = min_of_under (every t) (map (least t) ns)

-- ---- lists of forms

pub least_of_all_more : (t : List Written) (ns : List Normal) (n : Normal) → least_of_all t (ns ++ n ∷ []) ≡ min (least_of_all t ns) (least t n)
least_of_all_more t [] n = omega arith
least_of_all_more t (m ∷ ns) n = omega (arith, least_of_all_more t ns n)

pub least_of_all_remove : (t : List Written) (ns : List Normal) (i : ℕ) (d : Normal) → suc i ≤ length ns → least_of_all t ns ≡ min (least_of_all t (remove ns i)) (least t (get_or ns i d))
least_of_all_remove t [] i d h = absurd (omega arith)
least_of_all_remove t (n ∷ ns) zero d h = omega arith
least_of_all_remove t (n ∷ ns) (suc i) d h = omega (arith, least_of_all_remove t ns i d (omega arith))

pub least_of_some_more : (t : List Written) (ns : List Normal) (n : Normal) → total (map (least t) (ns ++ n ∷ [])) ≡ total (map (least t) ns) + least t n
least_of_some_more t [] n = omega arith
least_of_some_more t (m ∷ ns) n = omega (arith, least_of_some_more t ns n)

pub least_only : (t : List Written) (n : Normal) → least t n ≤ least_of_all t (n ∷ [])
least_only t n = omega (arith, least_under t n)

-- a range joined of two costs no more than each
pub joined_under : (t : List Written) (r : Option RangeOf) (a b : RangeOf) → ((x : Written) → lies_in_if_any x.item r ≡ (lies_in x.item a && lies_in x.item b)) → range_count t r ≤ min (least t (Range a)) (least t (Range b))
joined_under t r a b h = rw (least_Range t a, least_Range t b)
    (let one : range_count t r ≤ how_many (λ (x : Written). lies_in x.item a) t = count_under _ _ t (λ x e. first_so (lies_in x.item a) (lies_in x.item b) (sym (h x) ∙ e)) in
    let two : range_count t r ≤ how_many (λ (x : Written). lies_in x.item b) t = count_under _ _ t (λ x e. second_so (lies_in x.item a) (lies_in x.item b) (sym (h x) ∙ e)) in
    omega (arith, one, two))

-- ---- the bounds of parts

pub bounds_next : (side : Bool) (t : List Written) (fs : List Filter) (i : ℕ) (f : Filter) → suc i ≤ length fs → f ≡ get_or fs i f →
    map (bound_on side t) (drop i fs) ≡ bound_on side t f ∷ map (bound_on side t) (drop (i + 1) fs)
bounds_next side t fs i f h e = rw (add-one, drop-cons fs i f, ← e) refl

-- ---- what was added

pub least_of_all_pushed : (t : List Written) (old new : List Normal) (n : Normal) → new ≡ old ++ n ∷ [] → least_of_all t new ≤ min (least_of_all t old) (least t n)
least_of_all_pushed t old new n e = rw e (omega (arith, least_of_all_more t old n))

pub least_of_all_two : (t : List Written) (old mid new : List Normal) (a b : Normal) → mid ≡ old ++ a ∷ [] → new ≡ mid ++ b ∷ [] → least_of_all t new ≤ min (least_of_all t old) (min (least t a) (least t b))
least_of_all_two t old mid new a b e f = omega (arith, least_of_all_pushed t old mid a e, least_of_all_pushed t mid new b f)

pub joined_costs : (t : List Written) (old new : List Normal) (a b : RangeOf) (r : Option RangeOf) (n : Normal) → new ≡ old ++ n ∷ [] → least t n ≡ range_count t r → ((x : Written) → lies_in_if_any x.item r ≡ (lies_in x.item a && lies_in x.item b)) →
    least_of_all t new ≤ min (least_of_all t old) (min (least t (Range a)) (least t (Range b)))
joined_costs t old new a b r n e f g = omega (arith, least_of_all_pushed t old new n e, f, joined_under t r a b g)

pub costs_moved : (t : List Written) (xs ys zs : List Normal) (old new : Normal) (i : ℕ) → suc i ≤ length xs → old ≡ get_or xs i old → ys ≡ remove xs i → least_of_all t zs ≤ min (least_of_all t ys) (min (least t old) (least t new)) → least_of_all t zs ≤ min (least_of_all t xs) (least t new)
costs_moved t xs ys zs old new i h at taken joined =
    let all : least_of_all t xs ≡ min (least_of_all t (remove xs i)) (least t (get_or xs i old)) = least_of_all_remove t xs i old h in
    let here : least t (get_or xs i old) ≡ least t old = ap (least t) (sym at) in
    let rest : least_of_all t ys ≡ least_of_all t (remove xs i) = ap (least_of_all t) taken in
    omega (arith, all, here, rest, joined)

pub only_one : (t : List Written) (ns : List Normal) (n : Normal) → length ns ≡ 1 → n ≡ get_or ns 0 n → least t n ≤ least_of_all t ns
only_one t [] n h e = absurd (omega arith)
only_one t (m ∷ []) n h e = rw e (least_only t m)
only_one t (m ∷ k ∷ ns) n h e = absurd (omega arith)

-- one part more of an AND
pub and_next : (side : Bool) (t : List Written) (forms new : List Normal) (n : Normal) (f : Filter) (fs : List Filter) (i : ℕ) {whole : ℕ} → suc i ≤ length fs → f ≡ get_or fs i f →
    least_of_all t new ≤ min (least_of_all t forms) (least t n) → least t n ≤ bound_on side t f →
    min (least_of_all t forms) (min_of (every t) (map (bound_on side t) (drop i fs))) ≤ whole → min (least_of_all t new) (min_of (every t) (map (bound_on side t) (drop (i + 1) fs))) ≤ whole
and_next side t forms new n f fs i h at added part so_far =
    let e : min_of (every t) (map (bound_on side t) (drop i fs)) ≡ min (bound_on side t f) (min_of (every t) (map (bound_on side t) (drop (i + 1) fs))) = ap (min_of (every t)) (bounds_next side t fs i f h at) in
    omega (arith, e, added, part, so_far)

pub and_done : (side : Bool) (t : List Written) (forms : List Normal) (n : Normal) (fs : List Filter) (i : ℕ) {whole : ℕ} → length fs ≤ i → least t n ≤ least_of_all t forms →
    min (least_of_all t forms) (min_of (every t) (map (bound_on side t) (drop i fs))) ≤ whole → least t n ≤ whole
and_done side t forms n fs i h under so_far =
    let e : min_of (every t) (map (bound_on side t) (drop i fs)) ≡ every t = ap (λ gs. min_of (every t) (map (bound_on side t) gs)) (drop_all i fs h) in
    omega (arith, e, under, so_far, all_under t forms)

-- one part more of an OR
pub or_next : (side : Bool) (t : List Written) (forms new : List Normal) (n : Normal) (f : Filter) (fs : List Filter) (i : ℕ) {whole : ℕ} → suc i ≤ length fs → f ≡ get_or fs i f →
    total (map (least t) new) ≤ total (map (least t) forms) + least t n → least t n ≤ bound_on side t f →
    total (map (least t) forms) + total (map (bound_on side t) (drop i fs)) ≤ whole → total (map (least t) new) + total (map (bound_on side t) (drop (i + 1) fs)) ≤ whole
or_next side t forms new n f fs i h at added part so_far =
    let e : total (map (bound_on side t) (drop i fs)) ≡ bound_on side t f + total (map (bound_on side t) (drop (i + 1) fs)) = ap total (bounds_next side t fs i f h at) in
    omega (arith, e, added, part, so_far)

-- ---- parts that are added one by one

pub least_on : (t : List Written) (now new rest left : List Normal) (part : Normal) {whole : ℕ} → rest ≡ part ∷ left → least_of_all t new ≤ min (least_of_all t now) (least t part) → min (least_of_all t now) (least_of_all t rest) ≤ whole → min (least_of_all t new) (least_of_all t left) ≤ whole
least_on t now new rest left part steps added so_far =
    let e : least_of_all t rest ≡ min (least t part) (least_of_all t left) = ap (least_of_all t) steps in
    omega (arith, e, added, so_far)

pub least_stepped : (t : List Written) (now rest : List Normal) {whole : ℕ} → rest ≡ [] → min (least_of_all t now) (least_of_all t rest) ≤ whole → least_of_all t now ≤ whole
least_stepped t now rest steps so_far =
    let e : least_of_all t rest ≡ every t = ap (least_of_all t) steps in
    omega (arith, e, so_far, all_under t now)

-- ---- constants among parts

-- what every feature meets adds no cost to an AND
pub always_costs : (t : List Written) (parts : List Normal) (n : Normal) → n ≡ Constant true → least_of_all t parts ≤ min (least_of_all t parts) (least t n)
always_costs t parts n e =
    let all : least t n ≡ every t = ap (least t) e ∙ least_Constant t true in
    omega (arith, all, all_under t parts)

total_at : (t : List Written) (ns : List Normal) (i : ℕ) (d : Normal) → suc i ≤ length ns → least t (get_or ns i d) ≤ total (map (least t) ns)
total_at t [] i d h = absurd (omega arith)
total_at t (n ∷ ns) zero d h = omega arith
total_at t (n ∷ ns) (suc i) d h = omega (arith, total_at t ns i d (omega arith))

-- an OR with a part that every feature meets costs all
pub all_of_some : (t : List Written) (ns : List Normal) (i : ℕ) (n : Normal) → n ≡ Constant true → suc i ≤ length ns → n ≡ get_or ns i n → least_of_some t ns ≡ every t
all_of_some t ns i n always h e =
    let one : least t (get_or ns i n) ≡ every t = ap (least t) (sym e ∙ always) ∙ least_Constant t true in
    omega (arith, one, total_at t ns i n h)

pub either_pushed : (t : List Written) (old new : List Normal) (n : Normal) → new ≡ old ++ n ∷ [] → total (map (least t) new) ≤ total (map (least t) old) + least t n
either_pushed t old new n e = omega (arith, ap (λ ns. total (map (least t) ns)) e ∙ least_of_some_more t old n)

pub only_some : (t : List Written) (ns : List Normal) (n : Normal) → length ns ≡ 1 → n ≡ get_or ns 0 n → least t n ≤ least_of_some t ns
only_some t [] n h e = absurd (omega arith)
only_some t (m ∷ []) n h e = rw e (omega (arith, least_under t m))
only_some t (m ∷ k ∷ ns) n h e = absurd (omega arith)
