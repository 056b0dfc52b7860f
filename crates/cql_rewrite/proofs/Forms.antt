-- The features that meet each kind of form.
use Rattle.std.proofs.Common.{◌≡◌, ◌∙◌, ap, sym, refl, ℕ, List, [], ◌∷◌, ◌++◌, map, ◌||◌, ◌&&◌, Bool, true, false, Vec}
use Rattle.std.specs.List.{list_all, list_any}
use Rattle.std.specs.declared.alloc.Global.{Global}
use Rattle.std.proofs.Common.{String}
use Rattle.cad_feature.specs.Features.{Item, datum_at}
use Rattle.cad_feature.specs.Folded.{FoldedValue, PatternOfFolded}
use Rattle.cql_text.specs.Fronts.{text_of}
use Rattle.cql_meaning.specs.Values.{text_in}
use Rattle.cad_feature.specs.declared.range.Range.{Range as RangeOf}
use Rattle.cad_range.specs.Ranges.{lies_in}
use Rattle.cql_rewrite.specs.declared.form.Normal.{Normal}
use Rattle.cql_rewrite.specs.declared.form.Normal.TheVariants.{Constant, Range, Like, Owned, Folded, LikeFolded, Near, And, Or, rolls-Constant, rolls-Range, rolls-Like, rolls-Owned, rolls-Folded, rolls-LikeFolded, rolls-Near, rolls-And, rolls-Or}
use Rattle.cql_rewrite.specs.declared.form.Normal.TheFolds.{fold-roll-Normal}
use Rattle.cql_rewrite.specs.declared.form.Normal.TheOpen.{Normal-F}
use Rattle.std.proofs.Common.{◌<◌, zero, suc, length, get_or, Option, Some, None, Bor, arith}
use Rattle.std.specs.Prelude.{IfOk, IfSome, IsTrue, Result, Ok, Err}
use Rattle.std.specs.List.{remove}
use Rattle.std.proofs.lemmas.Bool.{and_parts, or_right, or_left}
use Rattle.cad_shape.specs.declared.shape.Shape.{Shape}
use Rattle.cad_shape.specs.Shapes.{shape_corners}
use Rattle.cad_grid.specs.Blocks.{block_around}
use Rattle.cad_grid.specs.Near.{is_near}
use Rattle.cql_types.specs.declared.filter.Filter.{Filter}
use Rattle.cad_range.specs.Ranges.{lies_in_if_any}
use Rattle.cql_meaning.specs.Sides.{Sides, conjunction}
use Rattle.cql_rewrite.specs.Meets.{folds, folds_step, in_side, is_folded_to, is_liked, is_liked_folded, joined_test, meet_step, meets, side_of}
use Rattle.cql_meaning.specs.lemmas.ListLemmas.{list_any-map}

-- two clauses of one returned value
pub both_ok : {X Y : Type 0} (r : Result X Y) (P Q R : X → Type 0) → ((x : X) → P x → Q x → R x) → IfOk r P → IfOk r Q → IfOk r R
both_ok (Ok x) P Q R f p q = f x p q
both_ok (Err y) P Q R f p q = tt

pub list_all-map : {A B : Type 0} (p : B → Bool) (f : A → B) (xs : List A) → list_all p (map f xs) ≡ list_all (λ x. p (f x)) xs
list_all-map p f [] = refl
list_all-map p f (x ∷ xs) = ap (λ b. p (f x) && b) (list_all-map p f xs)

pub meets_Constant : (x : Item) (b : Bool) → meets x (Constant b) ≡ b
meets_Constant x b = ap (meets x) (sym (rolls-Constant b)) ∙ fold-roll-Normal Bool (meet_step x) (Normal-F.Constant b)

pub meets_Range : (x : Item) (r : RangeOf) → meets x (Range r) ≡ lies_in x r
meets_Range x r = ap (meets x) (sym (rolls-Range r)) ∙ fold-roll-Normal Bool (meet_step x) (Normal-F.Range r)

pub meets_Like : (x : Item) (pattern : String Global) (r : RangeOf) → meets x (Like pattern r) ≡ (lies_in x r && is_liked (text_in (datum_at x r.property)) (text_of pattern))
meets_Like x pattern r = ap (meets x) (sym (rolls-Like pattern r)) ∙ fold-roll-Normal Bool (meet_step x) (Normal-F.Like pattern r)

pub meets_Near : (x : Item) (f : Bor Filter) (property : ℕ) (shape : Bor Shape) → meets x (Near f property shape) ≡ (is_near property (block_around (shape_corners shape.now)) x && in_side true x f.now)
meets_Near x f property shape = ap (meets x) (sym (rolls-Near f property shape)) ∙ fold-roll-Normal Bool (meet_step x) (Normal-F.Near f property shape)

pub told_by_second : (a b : Bool) → (b ≡ true → a ≡ true) → (a && b) ≡ b
told_by_second a true h = rw (h refl) refl
told_by_second true false h = refl
told_by_second false false h = refl

pub meets_Owned : (x : Item) (f : Filter) (side : Bool) → meets x (Owned f side) ≡ in_side side x f
meets_Owned x f side = ap (meets x) (sym (rolls-Owned f side)) ∙ fold-roll-Normal Bool (meet_step x) (Normal-F.Owned f side)

pub meets_Folded : (x : Item) (text : FoldedValue) → meets x (Folded text) ≡ is_folded_to (text_in (datum_at x text.property)) text.text
meets_Folded x text = ap (meets x) (sym (rolls-Folded text)) ∙ fold-roll-Normal Bool (meet_step x) (Normal-F.Folded text)

pub meets_LikeFolded : (x : Item) (p : PatternOfFolded) → meets x (LikeFolded p) ≡ is_liked_folded (text_in (datum_at x p.property)) p.pattern
meets_LikeFolded x p = ap (meets x) (sym (rolls-LikeFolded p)) ∙ fold-roll-Normal Bool (meet_step x) (Normal-F.LikeFolded p)

pub folds_LikeFolded : (p : PatternOfFolded) → folds (LikeFolded p) ≡ true
folds_LikeFolded p = ap folds (sym (rolls-LikeFolded p)) ∙ fold-roll-Normal Bool folds_step (Normal-F.LikeFolded p)

pub meets_And : (x : Item) (v : Vec Normal Global) → meets x (And v) ≡ list_all (meets x) v.items
meets_And x v = ap (meets x) (sym (rolls-And v)) ∙ fold-roll-Normal Bool (meet_step x) (Normal-F.And v) ∙ list_all-map (λ b. b) (meets x) v.items

pub meets_Or : (x : Item) (v : Vec Normal Global) → meets x (Or v) ≡ list_any (meets x) v.items
meets_Or x v = ap (meets x) (sym (rolls-Or v)) ∙ fold-roll-Normal Bool (meet_step x) (Normal-F.Or v) ∙ list_any-map (λ b. b) (meets x) v.items

-- ---- lists of forms

and_comm : (a b : Bool) → (a && b) ≡ (b && a)
and_comm a b = grind arith

and_assoc' : (a b c : Bool) → (a && (b && c)) ≡ ((a && b) && c)
and_assoc' a b c = grind arith

-- one of a list, and the others
pub all_remove : {X : Type 0} (p : X → Bool) (xs : List X) (i : ℕ) (d : X) → i < length xs → list_all p xs ≡ (list_all p (remove xs i) && p (get_or xs i d))
all_remove p [] i d h = absurd (omega arith)
all_remove p (x ∷ xs) zero d h = and_comm (p x) (list_all p xs)
all_remove p (x ∷ xs) (suc i) d h = rw (all_remove p xs i d (omega arith)) (and_assoc' (p x) (list_all p (remove xs i)) (p (get_or xs i d)))

-- one of a list that was taken out and joined with another
pub and_moved : {X : Type 0} (p : X → Bool) (xs ys zs : List X) (old new : X) (i : ℕ) → i < length xs → old ≡ get_or xs i old → ys ≡ remove xs i → list_all p zs ≡ (list_all p ys && (p old && p new)) → list_all p zs ≡ (list_all p xs && p new)
and_moved p xs ys zs old new i h at taken joined =
    rw (joined, taken, all_remove p xs i old h, ← at) (and_assoc' (list_all p (remove xs i)) (p old) (p new))

pub all_more : {X : Type 0} (p : X → Bool) (xs : List X) (x : X) → list_all p (xs ++ x ∷ []) ≡ (list_all p xs && p x)
all_more p [] x = and_comm (p x) true
all_more p (y ∷ xs) x = ap (λ b. p y && b) (all_more p xs x) ∙ and_assoc' (p y) (list_all p xs) (p x)

-- two ranges that were joined
pub joined_meets : (x : Item) (old new : List Normal) (a b : RangeOf) (r : Option RangeOf) (n : Normal) → new ≡ old ++ n ∷ [] → meets x n ≡ lies_in_if_any x r → lies_in_if_any x r ≡ (lies_in x a && lies_in x b) →
    list_all (meets x) new ≡ (list_all (meets x) old && (meets x (Range a) && meets x (Range b)))
joined_meets x old new a b r n e f g = rw (e, all_more (meets x) old n, f, g, meets_Range x a, meets_Range x b) refl

pub all_two : {X : Type 0} (p : X → Bool) (old mid new : List X) (a b : X) → mid ≡ old ++ a ∷ [] → new ≡ mid ++ b ∷ [] → list_all p new ≡ (list_all p old && (p a && p b))
all_two p old mid new a b e f = rw (f, all_more p mid b, e, all_more p old a) (sym (and_assoc' (list_all p old) (p a) (p b)))

-- ---- forms that fold no case

pub folds_And : (v : Vec Normal Global) → folds (And v) ≡ list_any folds v.items
folds_And v = ap folds (sym (rolls-And v)) ∙ fold-roll-Normal Bool folds_step (Normal-F.And v) ∙ list_any-map (λ b. b) folds v.items

pub folds_Or : (v : Vec Normal Global) → folds (Or v) ≡ list_any folds v.items
folds_Or v = ap folds (sym (rolls-Or v)) ∙ fold-roll-Normal Bool folds_step (Normal-F.Or v) ∙ list_any-map (λ b. b) folds v.items

-- ---- two parts

pub and_last : (a b : Bool) → (a && b) ≡ (a && (b && true))
and_last a b = grind arith

or_last : (a b : Bool) → (a || b) ≡ (a || (b || false))
or_last a b = grind arith

pub two_all : {X : Type 0} (p : X → Bool) (none one two : List X) (a b : Bool) → none ≡ [] → list_all p one ≡ (list_all p none && a) → list_all p two ≡ (list_all p one && b) → list_all p two ≡ (a && b)
two_all p none one two a b e f g = g ∙ ap (λ c. c && b) (f ∙ ap (λ l. list_all p l && a) e)

pub two_any : {X : Type 0} (p : X → Bool) (none one two : List X) (a b : Bool) → none ≡ [] → list_any p one ≡ (list_any p none || a) → list_any p two ≡ (list_any p one || b) → list_any p two ≡ (a || b)
two_any p none one two a b e f g = g ∙ ap (λ c. c || b) (f ∙ ap (λ l. list_any p l || a) e)

pub pair_sides : (side : Bool) (s t : Sides) → joined_test side (side_of side s) (side_of side t) ≡ side_of side (conjunction (s ∷ t ∷ []))
pair_sides true s t = and_last s.yes t.yes
pair_sides false s t = or_last s.no t.no

-- what holds of all holds of one
pub all_at : {X : Type 0} (p : X → Bool) (xs : List X) (i : ℕ) (d : X) → list_all p xs ≡ true → i < length xs → p (get_or xs i d) ≡ true
all_at p [] i d h l = absurd (omega arith)
all_at p (x ∷ xs) zero d h l = (and_parts (p x) (list_all p xs) h).0
all_at p (x ∷ xs) (suc i) d h l = all_at p xs i d (and_parts (p x) (list_all p xs) h).1 (omega arith)

pub part_met : (x : Item) (parts : List Normal) (i : ℕ) (part : Normal) → list_all (meets x) parts ≡ true → i < length parts → part ≡ get_or parts i part → meets x part ≡ true
part_met x parts i part h l e = ap (meets x) e ∙ all_at (meets x) parts i part h l

-- what a part of an AND offers is offered by the whole
pub offered_by_part : (n : Normal) (parts : Vec Normal Global) → n ≡ And parts → (r : Option (Bor RangeOf)) → IfSome r (λ range. (x : Item) → IsTrue (list_all (meets x) parts.items) → IsTrue (lies_in x range.now)) →
    IfSome r (λ range. (x : Item) → IsTrue (meets x n) → IsTrue (lies_in x range.now))
offered_by_part n parts e None h = h
offered_by_part n parts e (Some range) h = λ x m. h x (sym (meets_And x parts) ∙ ap (meets x) (sym e) ∙ m)

-- ---- parts that are added one by one

pub all_step : {X : Type 0} (p : X → Bool) (now new rest left : List X) (part : X) {whole : Bool} → rest ≡ part ∷ left → list_all p new ≡ (list_all p now && p part) → (list_all p now && list_all p rest) ≡ whole → (list_all p new && list_all p left) ≡ whole
all_step p now new rest left part steps added so_far =
    ap (λ b. b && list_all p left) added ∙ sym (and_assoc' (list_all p now) (p part) (list_all p left)) ∙ ap (λ l. list_all p now && list_all p l) (sym steps) ∙ so_far

and_true : (a : Bool) → (a && true) ≡ a
and_true a = grind arith

pub all_stepped : {X : Type 0} (p : X → Bool) (now rest : List X) {whole : Bool} → rest ≡ [] → (list_all p now && list_all p rest) ≡ whole → list_all p now ≡ whole
all_stepped p now rest steps so_far = sym (and_true (list_all p now)) ∙ ap (λ l. list_all p now && list_all p l) (sym steps) ∙ so_far

-- ---- constants among parts

pub added_always : (x : Item) (n : Normal) (b : Bool) → n ≡ Constant true → b ≡ (b && meets x n)
added_always x n b e = sym (ap (λ m. b && m) (ap (meets x) e ∙ meets_Constant x true) ∙ and_true b)

pub or_false : (a : Bool) → (a || false) ≡ a
or_false a = grind arith

pub or_assoc : (a b c : Bool) → ((a || b) || c) ≡ (a || (b || c))
or_assoc a b c = grind arith

pub added_never : (x : Item) (n : Normal) (b : Bool) → n ≡ Constant false → b ≡ (b || meets x n)
added_never x n b e = sym (ap (λ m. b || m) (ap (meets x) e ∙ meets_Constant x false) ∙ or_false b)

pub any_more : {X : Type 0} (p : X → Bool) (xs : List X) (x : X) → list_any p (xs ++ x ∷ []) ≡ (list_any p xs || p x)
any_more p [] x = or_false (p x)
any_more p (y ∷ xs) x = ap (λ b. p y || b) (any_more p xs x) ∙ sym (or_assoc (p y) (list_any p xs) (p x))

-- what holds of one holds of some
any_at : {X : Type 0} (p : X → Bool) (xs : List X) (i : ℕ) (d : X) → p (get_or xs i d) ≡ true → i < length xs → list_any p xs ≡ true
any_at p [] i d h l = absurd (omega arith)
any_at p (x ∷ xs) zero d h l = or_left (p x) (list_any p xs) h
any_at p (x ∷ xs) (suc i) d h l = or_right (p x) (list_any p xs) (any_at p xs i d h (omega arith))

pub met_by_all : (x : Item) (parts : List Normal) (i : ℕ) (part : Normal) → part ≡ Constant true → i < length parts → part ≡ get_or parts i part → list_any (meets x) parts ≡ true
met_by_all x parts i part always l e = any_at (meets x) parts i part (ap (meets x) (sym e ∙ always) ∙ meets_Constant x true) l

pub only_any : {X : Type 0} (p : X → Bool) (xs : List X) (x : X) → length xs ≡ 1 → x ≡ get_or xs 0 x → p x ≡ list_any p xs
only_any p [] x h e = absurd (omega arith)
only_any p (y ∷ []) x h e = ap p e ∙ sym (or_false (p y))
only_any p (y ∷ z ∷ xs) x h e = absurd (omega arith)
