-- Each way of a menu has each feature that meets the form.
use Rattle.std.proofs.Common.{◌≡◌, ◌∙◌, refl, sym, subst, Bool, true, false, ◌||◌, List, [], ◌∷◌, ◌++◌, map, if◌then◌else◌, filter, nat_lt}
use Rattle.std.specs.List.{list_all, list_any}
use Rattle.std.specs.Cmp.{first_so, second_so}
use Rattle.std.proofs.lemmas.Bool.{and_from}
use Rattle.cad_grid.specs.Blocks.{block_around}
use Rattle.cad_shape.specs.Shapes.{shape_corners}
use Rattle.cad_feature.specs.Features.{Item}
use Rattle.cad_lookup.specs.Ways.{Way, all_features, near_block, meet_of, join_of, ways_in, range_way, Counts, cost, is_found}
use Rattle.cad_lookup.specs.WayLaws.{found_all, found_range, found_near, found_meet, found_join}
use Rattle.cql_rewrite.specs.declared.form.Normal.{Normal}
use Rattle.cql_rewrite.specs.declared.form.Normal.TheOpen.{Normal-F}
use Rattle.cql_rewrite.specs.declared.form.Normal.TheFolds.{fold-roll-Normal, ind-Normal, map-Normal}
use Rattle.cql_rewrite.specs.Meets.{meet_step, meets}
use Rattle.cql_rewrite.specs.Menus.{cheaper, first_least, chosen, is_narrow, meets_of, and_menu, or_menu, menu_step, menu}

-- every one of them has the feature
abbrev Has : Item → List Way → Type 0
Has x ws = list_all (λ w. is_found w x) ws ≡ true

either : (x : Item) (b : Bool) (v w : Way) → is_found v x ≡ true → is_found w x ≡ true → is_found (if b then v else w) x ≡ true
either x true v w h k = h
either x false v w h k = k

first_has : (counts : Counts) (x : Item) (w : Way) (ws : List Way) → is_found w x ≡ true → Has x ws → is_found (first_least counts w ws) x ≡ true
first_has counts x w [] h k = h
first_has counts x w (v ∷ vs) h k =
    first_has counts x (cheaper counts w v) vs
    (either x (nat_lt (cost counts v) (cost counts w)) v w (first_so _ (list_all (λ w. is_found w x) vs) k) h)
    (second_so (is_found v x) _ k)

pub chosen_has : (counts : Counts) (x : Item) (ws : List Way) → Has x ws → is_found (chosen counts ws) x ≡ true
chosen_has counts x [] h = found_all x
chosen_has counts x (w ∷ ws) h = first_has counts x w ws (first_so _ (list_all (λ w. is_found w x) ws) h) (second_so (is_found w x) _ h)

-- ---- AND

pair_has : (x : Item) (v : Way) (ws : List Way) → is_found v x ≡ true → Has x ws → Has x (v ∷ ws)
pair_has x v ws h k = and_from (is_found v x) (list_all (λ w. is_found w x) ws) h k

join_has : (x : Item) (vs ws : List Way) → Has x vs → Has x ws → Has x (vs ++ ws)
join_has x [] ws h k = k
join_has x (v ∷ vs) ws h k = pair_has x v (vs ++ ws) (first_so _ (list_all (λ w. is_found w x) vs) h) (join_has x vs ws (second_so (is_found v x) _ h) k)

kept_has : (x : Item) (b : Bool) (w : Way) (ws : List Way) → is_found w x ≡ true → Has x ws → Has x (if b then (w ∷ ws) else ws)
kept_has x true w ws h k = pair_has x w ws h k
kept_has x false w ws h k = k

narrow_has : (x : Item) (ws : List Way) → Has x ws → Has x (filter is_narrow ws)
narrow_has x [] h = refl
narrow_has x (w ∷ ws) h = kept_has x (is_narrow w) w (filter is_narrow ws) (first_so _ (list_all (λ w. is_found w x) ws) h) (narrow_has x ws (second_so (is_found w x) _ h))

meets_has : (x : Item) (ws : List Way) → Has x ws → Has x (meets_of ws)
meets_has x [] h = refl
meets_has x (w ∷ []) h = refl
meets_has x (v ∷ w ∷ ws) h = pair_has x (meet_of (ways_in (v ∷ w ∷ ws))) [] (found_meet (v ∷ w ∷ ws) x ∙ h) refl

and_has : (x : Item) (ws : List Way) → Has x ws → Has x (and_menu ws)
and_has x ws h = pair_has x all_features (meets_of (filter is_narrow ws) ++ ws) (found_all x) (join_has x (meets_of (filter is_narrow ws)) ws (meets_has x (filter is_narrow ws) (narrow_has x ws h)) h)

-- ---- OR

or_has : (x : Item) (ws : List Way) → list_any (λ w. is_found w x) ws ≡ true → Has x (or_menu ws)
or_has x ws h = pair_has x all_features (join_of (ways_in ws) ∷ []) (found_all x) (pair_has x (join_of (ways_in ws)) [] (found_join ws x ∙ h) refl)

-- ---- forms

pair_of : (x : Item) (w : Way) → is_found w x ≡ true → Has x (all_features ∷ w ∷ [])
pair_of x w h = pair_has x all_features (w ∷ []) (found_all x) (pair_has x w [] h refl)

only_all : (x : Item) → Has x (all_features ∷ [])
only_all x = pair_has x all_features [] (found_all x) refl

abbrev Covered : Counts → Item → Normal → Type 0
Covered counts x n = meets x n ≡ true → Has x (menu counts n)

-- each of the forms
abbrev Known : Counts → Item → Type 0
Known counts x = (n : Normal) × Covered counts x n

parts_all : (counts : Counts) (x : Item) (ns : List (Known counts x)) → list_all (λ b. b) (map (meets x) (map (λ k. k.0) ns)) ≡ true → Has x (map (chosen counts) (map (menu counts) (map (λ k. k.0) ns)))
parts_all counts x [] h = refl
parts_all counts x (k ∷ ns) h =
    pair_has x (chosen counts (menu counts k.0)) _ (chosen_has counts x (menu counts k.0) (k.1 (first_so _ _ h))) (parts_all counts x ns (second_so (meets x k.0) _ h))

from_either : (a b c d : Bool) → (a || b) ≡ true → (a ≡ true → c ≡ true) → (b ≡ true → d ≡ true) → (c || d) ≡ true
from_either true b c d h k l = rw (k refl) refl
from_either false b c d h k l = rw (l h) (any_true c)
  where
    any_true : (a : Bool) → (a || true) ≡ true
    any_true true = refl
    any_true false = refl

parts_any : (counts : Counts) (x : Item) (ns : List (Known counts x)) → list_any (λ b. b) (map (meets x) (map (λ k. k.0) ns)) ≡ true → list_any (λ w. is_found w x) (map (chosen counts) (map (menu counts) (map (λ k. k.0) ns))) ≡ true
parts_any counts x [] h = absurd cc
parts_any counts x (k ∷ ns) h = from_either (meets x k.0) _ (is_found (chosen counts (menu counts k.0)) x) _ h (λ m. chosen_has counts x (menu counts k.0) (k.1 m)) (parts_any counts x ns)

step_covers : (counts : Counts) (x : Item) (y : Normal-F (Known counts x)) →
    meet_step x (map-Normal Normal Bool (meets x) (map-Normal (Known counts x) Normal (λ k. k.0) y)) ≡ true
    → Has x (menu_step counts (map-Normal Normal (List Way) (menu counts) (map-Normal (Known counts x) Normal (λ k. k.0) y)))
step_covers counts x (Normal-F.Constant true) h = only_all x
step_covers counts x (Normal-F.Constant false) h = absurd cc
step_covers counts x (Normal-F.Range r) h = pair_of x (range_way r) (found_range r x ∙ h)
step_covers counts x (Normal-F.Like pattern r) h = pair_of x (range_way r) (found_range r x ∙ first_so _ _ h)
step_covers counts x (Normal-F.Atom f side) h = only_all x
step_covers counts x (Normal-F.Owned f side) h = only_all x
step_covers counts x (Normal-F.Folded text) h = only_all x
step_covers counts x (Normal-F.LikeFolded p) h = only_all x
step_covers counts x (Normal-F.Near f property shape) h = pair_of x (near_block property (block_around (shape_corners shape.now))) (found_near property (block_around (shape_corners shape.now)) x ∙ first_so _ _ h)
step_covers counts x (Normal-F.And parts) h = and_has x _ (parts_all counts x parts.items h)
step_covers counts x (Normal-F.Or parts) h = or_has x _ (parts_any counts x parts.items h)

pub covered : (counts : Counts) (x : Item) (n : Normal) → Covered counts x n
covered counts x = ind-Normal (Covered counts x) (λ d y is h.
    subst (Has x) (sym (fold-roll-Normal (List Way) (menu_step counts) d))
    (subst (λ d'. meet_step x (map-Normal Normal Bool (meets x) d') ≡ true → Has x (menu_step counts (map-Normal Normal (List Way) (menu counts) d'))) is (step_covers counts x y)
    (sym (fold-roll-Normal Bool (meet_step x) d) ∙ h)))
