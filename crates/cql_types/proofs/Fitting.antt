-- What a tree means has the kind of the tree.
use Rattle.std.proofs.Common.{if◌then◌else◌, ◌≡◌, refl, ap, sym, subst, ◌∙◌, ℕ, ℤ, Bool, true, List, [], ◌∷◌, Option, None, Ok}
use Rattle.std.specs.Option.{is_some}
use Rattle.cad_schema.specs.declared.property.PropertyKind.{PropertyKind}
use Rattle.cad_schema.specs.declared.property.PropertyKind.TheVariants as property
use Rattle.cad_schema.specs.Attributes.{Named}
use Rattle.cad_shape.specs.declared.ring.Ring.{Ring}
use Rattle.cad_shape.specs.RegionRings.{rings_of, region_is}
use Rattle.cql_tree.specs.Syntax.{Syntax, Parts, Leaf, Op, part, node, place_of}
use Rattle.cql_types.specs.declared.filter.EndTerm.{EndTerm}
use Rattle.cql_tree.specs.declared.expression.Operation.{Operation}
use Rattle.cql_types.specs.declared.filter.Step.{Step}
use Rattle.cql_types.specs.declared.judged.Judged.{Judged}
use Rattle.cql_types.specs.declared.judged.Node.{Node}
use Rattle.cql_types.specs.Kinds.{Kind, Mark, whole, text, pattern, day, flag, truth, span, spot, area, frame, condition, open_end, line, is_whole, is_text, is_pattern, is_day, is_flag, is_time, is_end, is_line, is_value, is_condition, is_equality, is_comparable, is_same, is_related, first_not, first_unlike, misfit, made, leaf_kind, kind_of_name, kind_of_property, kind_of_day, kind_of_number, IsSound, Has, Have, leaf_has, node_has}
use Rattle.cql_types.specs.Kinds as kinds
use Rattle.cql_types.specs.Fits.{whole_fits, text_fits, pattern_fits, day_fits, flag_fits, span_fits, shape_fits, any_fits, condition_fits}
use Rattle.cql_types.specs.Literals.{AreNumbers, no_number, one_number, AreRings, no_ring, one_ring}
use Rattle.cql_types.specs.Means.{kind_of, mark_of, marks_of, Are, no_term, one_term, AreSteps, no_step, one_step, property_node, IsLeaf, property_name, number, literal, date, Makes, computed, casei, casei_pattern, like, between, date_node, compare_whole, compare_text, compare_day, compare_flag, in_whole, in_text, in_day, in_flag, is_null, negation, conjunction, disjunction, spatial, temporal, IsEnd, open_text, day_text, day_name, Draws, interval, point, region, box, Means, Mean, leaf_means, node_means, literal_means}
use Rattle.cql_types.specs.Means as means
use Rattle.cql_types.proofs.Terms.{is_true}

property_fits : (i : ℕ) (k : PropertyKind) → kind_of (property_node i k) ≡ kind_of_property k
property_fits i property.Text = refl
property_fits i property.Whole = refl
property_fits i property.Flag = refl
property_fits i property.Day = refl
property_fits i property.Span = refl
property_fits i property.Spot = refl
property_fits i property.Area = refl

leaf_fits : {s : List Named} {l : Leaf} {x : Node} → IsLeaf s l x → leaf_kind s l ≡ Ok (kind_of x)
leaf_fits (property_name {i = i} {k = k} e) = ap kind_of_name e ∙ ap Ok (sym (property_fits i k))
leaf_fits (number e) = ap kind_of_number e
leaf_fits (literal w e) = refl
leaf_fits means.truth = refl
leaf_fits (date d e) = ap kind_of_day e

-- parts that are terms of one kind fit
all_fit : {A : Type 0} {as_term : Node → Option A} (has : Kind → Bool) → ((x : Node) → is_some (as_term x) ≡ has (kind_of x)) →
    {js : List Judged} {xs : List A} → Are as_term js xs → first_not has (marks_of js) ≡ None
all_fit has law no_term = refl
all_fit has law (one_term {j = j} e r) = rw (is_true (law j.node) e) (all_fit has law r)

steps_fit : {bs : List Operation} {js : List Judged} {xs : List Step} → AreSteps bs js xs → first_not is_whole (marks_of js) ≡ None
steps_fit no_step = refl
steps_fit (one_step {j = j} b e r) = rw (is_true (whole_fits j.node) e) (steps_fit r)

one_fits : (has : Kind → Bool) (p : ℕ) (k : Kind) → has k ≡ true → first_not has ((p, k) ∷ []) ≡ None
one_fits has p k e = rw e

more_fit : (has : Kind → Bool) (p : ℕ) (k : Kind) (ms : List Mark) → has k ≡ true → first_not has ms ≡ None → first_not has ((p, k) ∷ ms) ≡ None
more_fit has p k ms e h = rw e h

-- a first kind that fits, and behind it what may stand beside it
beside_fits : (fits : Kind → Bool) (beside : Kind → Kind → Bool) (p : ℕ) (k : Kind) {has : Kind → Bool} (ms : List Mark) → fits k ≡ true → beside k ≡ has →
    first_not has ms ≡ None → first_unlike fits beside ((p, k) ∷ ms) ≡ None
beside_fits fits beside p k ms e f h = rw (e, f) h

whole_compares : (equality : Bool) (k : Kind) → is_whole k ≡ true → is_comparable equality k ≡ true
whole_compares e whole h = refl
whole_compares e text h = absurd cc
whole_compares e pattern h = absurd cc
whole_compares e day h = absurd cc
whole_compares e flag h = absurd cc
whole_compares e truth h = absurd cc
whole_compares e span h = absurd cc
whole_compares e spot h = absurd cc
whole_compares e area h = absurd cc
whole_compares e frame h = absurd cc
whole_compares e condition h = absurd cc
whole_compares e open_end h = absurd cc
whole_compares e line h = absurd cc

whole_same : (k : Kind) → is_whole k ≡ true → is_same k ≡ is_whole
whole_same whole h = refl
whole_same text h = absurd cc
whole_same pattern h = absurd cc
whole_same day h = absurd cc
whole_same flag h = absurd cc
whole_same truth h = absurd cc
whole_same span h = absurd cc
whole_same spot h = absurd cc
whole_same area h = absurd cc
whole_same frame h = absurd cc
whole_same condition h = absurd cc
whole_same open_end h = absurd cc
whole_same line h = absurd cc

text_compares : (equality : Bool) (k : Kind) → is_text k ≡ true → is_comparable equality k ≡ true
text_compares e whole h = absurd cc
text_compares e text h = refl
text_compares e pattern h = refl
text_compares e day h = absurd cc
text_compares e flag h = absurd cc
text_compares e truth h = absurd cc
text_compares e span h = absurd cc
text_compares e spot h = absurd cc
text_compares e area h = absurd cc
text_compares e frame h = absurd cc
text_compares e condition h = absurd cc
text_compares e open_end h = absurd cc
text_compares e line h = absurd cc

text_same : (k : Kind) → is_text k ≡ true → is_same k ≡ is_text
text_same whole h = absurd cc
text_same text h = refl
text_same pattern h = refl
text_same day h = absurd cc
text_same flag h = absurd cc
text_same truth h = absurd cc
text_same span h = absurd cc
text_same spot h = absurd cc
text_same area h = absurd cc
text_same frame h = absurd cc
text_same condition h = absurd cc
text_same open_end h = absurd cc
text_same line h = absurd cc

day_compares : (equality : Bool) (k : Kind) → is_day k ≡ true → is_comparable equality k ≡ true
day_compares e whole h = absurd cc
day_compares e text h = absurd cc
day_compares e pattern h = absurd cc
day_compares e day h = refl
day_compares e flag h = absurd cc
day_compares e truth h = absurd cc
day_compares e span h = absurd cc
day_compares e spot h = absurd cc
day_compares e area h = absurd cc
day_compares e frame h = absurd cc
day_compares e condition h = absurd cc
day_compares e open_end h = absurd cc
day_compares e line h = absurd cc

day_same : (k : Kind) → is_day k ≡ true → is_same k ≡ is_day
day_same whole h = absurd cc
day_same text h = absurd cc
day_same pattern h = absurd cc
day_same day h = refl
day_same flag h = absurd cc
day_same truth h = absurd cc
day_same span h = absurd cc
day_same spot h = absurd cc
day_same area h = absurd cc
day_same frame h = absurd cc
day_same condition h = absurd cc
day_same open_end h = absurd cc
day_same line h = absurd cc

flag_compares : (equality : Bool) → equality ≡ true → (k : Kind) → is_flag k ≡ true → is_comparable equality k ≡ true
flag_compares e q whole h = absurd cc
flag_compares e q text h = absurd cc
flag_compares e q pattern h = absurd cc
flag_compares e q day h = absurd cc
flag_compares e q flag h = q
flag_compares e q truth h = q
flag_compares e q span h = absurd cc
flag_compares e q spot h = absurd cc
flag_compares e q area h = absurd cc
flag_compares e q frame h = absurd cc
flag_compares e q condition h = absurd cc
flag_compares e q open_end h = absurd cc
flag_compares e q line h = absurd cc

flag_same : (k : Kind) → is_flag k ≡ true → is_same k ≡ is_flag
flag_same whole h = absurd cc
flag_same text h = absurd cc
flag_same pattern h = absurd cc
flag_same day h = absurd cc
flag_same flag h = refl
flag_same truth h = refl
flag_same span h = absurd cc
flag_same spot h = absurd cc
flag_same area h = absurd cc
flag_same frame h = absurd cc
flag_same condition h = absurd cc
flag_same open_end h = absurd cc
flag_same line h = absurd cc

-- what parts make, they make only where they fit
no_misfit : {op : Op} {js : List Judged} {x : Node} → Makes op js x → misfit op (marks_of js) ≡ None
no_misfit (disjunction fs r) = all_fit is_condition condition_fits r
no_misfit (conjunction fs r) = all_fit is_condition condition_fits r
no_misfit (negation {j = j} f e) = one_fits is_condition j.place (kind_of j.node) (is_true (condition_fits j.node) e)
no_misfit (compare_whole {c = c} {i = i} {j = j} e f) = let k = is_true (whole_fits i.node) e in
    beside_fits (is_comparable (is_equality c)) is_same i.place (kind_of i.node) (mark_of j ∷ []) (whole_compares (is_equality c) (kind_of i.node) k) (whole_same (kind_of i.node) k) (one_fits is_whole j.place (kind_of j.node) (is_true (whole_fits j.node) f))
no_misfit (compare_text {c = c} {i = i} {j = j} e f) = let k = is_true (text_fits i.node) e in
    beside_fits (is_comparable (is_equality c)) is_same i.place (kind_of i.node) (mark_of j ∷ []) (text_compares (is_equality c) (kind_of i.node) k) (text_same (kind_of i.node) k) (one_fits is_text j.place (kind_of j.node) (is_true (text_fits j.node) f))
no_misfit (compare_day {c = c} {i = i} {j = j} e f) = let k = is_true (day_fits i.node) e in
    beside_fits (is_comparable (is_equality c)) is_same i.place (kind_of i.node) (mark_of j ∷ []) (day_compares (is_equality c) (kind_of i.node) k) (day_same (kind_of i.node) k) (one_fits is_day j.place (kind_of j.node) (is_true (day_fits j.node) f))
no_misfit (compare_flag {c = c} {i = i} {j = j} q e f) = let k = is_true (flag_fits i.node) e in
    beside_fits (is_comparable (is_equality c)) is_same i.place (kind_of i.node) (mark_of j ∷ []) (flag_compares (is_equality c) q (kind_of i.node) k) (flag_same (kind_of i.node) k) (one_fits is_flag j.place (kind_of j.node) (is_true (flag_fits j.node) f))
no_misfit (like {i = i} {j = j} e f t) = rw (is_true (text_fits i.node) e) (one_fits is_pattern j.place (kind_of j.node) (is_true (pattern_fits j.node) f))
no_misfit (between {i = i} {j = j} {k = k} e f g t) =
    more_fit is_whole i.place (kind_of i.node) (mark_of j ∷ mark_of k ∷ []) (is_true (whole_fits i.node) e)
    (more_fit is_whole j.place (kind_of j.node) (mark_of k ∷ []) (is_true (whole_fits j.node) f)
    (one_fits is_whole k.place (kind_of k.node) (is_true (whole_fits k.node) g)))
no_misfit (in_whole {i = i} {js = js} xs e r t) = let k = is_true (whole_fits i.node) e in
    beside_fits (is_comparable true) is_same i.place (kind_of i.node) (marks_of js) (whole_compares true (kind_of i.node) k) (whole_same (kind_of i.node) k) (all_fit is_whole whole_fits r)
no_misfit (in_text {i = i} {js = js} xs e r t) = let k = is_true (text_fits i.node) e in
    beside_fits (is_comparable true) is_same i.place (kind_of i.node) (marks_of js) (text_compares true (kind_of i.node) k) (text_same (kind_of i.node) k) (all_fit is_text text_fits r)
no_misfit (in_day {i = i} {js = js} xs e r t) = let k = is_true (day_fits i.node) e in
    beside_fits (is_comparable true) is_same i.place (kind_of i.node) (marks_of js) (day_compares true (kind_of i.node) k) (day_same (kind_of i.node) k) (all_fit is_day day_fits r)
no_misfit (in_flag {i = i} {js = js} xs e r t) = let k = is_true (flag_fits i.node) e in
    beside_fits (is_comparable true) is_same i.place (kind_of i.node) (marks_of js) (flag_compares true refl (kind_of i.node) k) (flag_same (kind_of i.node) k) (all_fit is_flag flag_fits r)
no_misfit (is_null {j = j} e t) = one_fits is_value j.place (kind_of j.node) (is_true (any_fits j.node) e)
no_misfit (computed {j = j} {js = js} first steps e r) = more_fit is_whole j.place (kind_of j.node) (marks_of js) (is_true (whole_fits j.node) e) (steps_fit r)
no_misfit (casei {j = j} x e) = one_fits is_text j.place (kind_of j.node) (ap (λ y. is_text (kind_of y)) e)
no_misfit (casei_pattern {j = j} x e) = one_fits is_text j.place (kind_of j.node) (ap (λ y. is_text (kind_of y)) e)
no_misfit (date_node {j = j} e) = one_fits is_day j.place (kind_of j.node) (is_true (day_fits j.node) e)
no_misfit (spatial {r = r} {i = i} {j = j} e f g) = rw (is_true (shape_fits i.node) e) (one_fits (is_related r (kind_of i.node)) j.place (kind_of j.node) g)
no_misfit (temporal {i = i} {j = j} e f) =
    more_fit is_time i.place (kind_of i.node) (mark_of j ∷ []) (is_true (span_fits i.node) e) (one_fits is_time j.place (kind_of j.node) (is_true (span_fits j.node) f))

made_kind : {op : Op} {js : List Judged} {x : Node} → Makes op js x → made op (marks_of js) ≡ kind_of x
made_kind (disjunction fs r) = refl
made_kind (conjunction fs r) = refl
made_kind (negation f e) = refl
made_kind (compare_whole e f) = refl
made_kind (compare_text e f) = refl
made_kind (compare_day e f) = refl
made_kind (compare_flag q e f) = refl
made_kind (like e f t) = refl
made_kind (between e f g t) = refl
made_kind (in_whole xs e r t) = refl
made_kind (in_text xs e r t) = refl
made_kind (in_day xs e r t) = refl
made_kind (in_flag xs e r t) = refl
made_kind (is_null e t) = refl
made_kind (computed first steps e r) = refl
made_kind (casei x e) = ap (λ y. if is_pattern (kind_of y) then pattern else text) e
made_kind (casei_pattern x e) = ap (λ y. if is_pattern (kind_of y) then pattern else text) e
made_kind (date_node e) = refl
made_kind (spatial e f g) = refl
made_kind (temporal e f) = refl

-- a node over terms is no literal
sound : {op : Op} {js : List Judged} {x : Node} (ps : Parts) → Makes op js x → IsSound op ps
sound ps (disjunction fs r) = tt
sound ps (conjunction fs r) = tt
sound ps (negation f e) = tt
sound ps (compare_whole e f) = tt
sound ps (compare_text e f) = tt
sound ps (compare_day e f) = tt
sound ps (compare_flag q e f) = tt
sound ps (like e f t) = tt
sound ps (between e f g t) = tt
sound ps (in_whole xs e r t) = tt
sound ps (in_text xs e r t) = tt
sound ps (in_day xs e r t) = tt
sound ps (in_flag xs e r t) = tt
sound ps (is_null e t) = tt
sound ps (computed first steps e r) = tt
sound ps (casei x e) = tt
sound ps (casei_pattern x e) = tt
sound ps (date_node e) = tt
sound ps (spatial e f g) = tt
sound ps (temporal e f) = tt

-- ---- literals

pub numbers_have : {s : List Named} {ps : Parts} {zs : List ℤ} → AreNumbers ps zs → (ms : List Mark) × Have s ps ms × (first_not is_whole ms ≡ None)
numbers_have no_number = ([], kinds.no_more, refl)
numbers_have (one_number e r) = let rest = numbers_have r in
    (_, kinds.one_more (leaf_has (ap kind_of_number e)) rest.1, rest.2)

pub rings_have : {s : List Named} {ps : Parts} {rings : List Ring} → AreRings ps rings → (ms : List Mark) × Have s ps ms × (first_not is_line ms ≡ None)
rings_have no_ring = ([], kinds.no_more, refl)
rings_have (one_ring numbers r) =
    let here = numbers_have numbers in
    let rest = rings_have r in
    (_, kinds.one_more (node_has here.1 here.2 tt) rest.1, rest.2)

pub end_has : {s : List Named} {t : Syntax} {e : EndTerm} → IsEnd s t e → (k : Kind) × Has s t k × (is_end k ≡ true)
end_has (open_text o) = (open_end, leaf_has (rw o refl), refl)
end_has (day_text d o e) = (day, leaf_has (rw (o, e) refl), refl)
end_has (day_name e) = (day, leaf_has (ap kind_of_name e), refl)

pub drawn_has : {s : List Named} {op : Op} {ps : Parts} {x : Node} → Draws s op ps x → Has s (node op ps) (kind_of x)
drawn_has (interval {t = t} {u = u} from to e) =
    let first = end_has from in
    let last = end_has to in
    node_has (kinds.one_more first.1 (kinds.one_more last.1 kinds.no_more))
    (more_fit is_end (place_of t) first.0 ((place_of u, last.0) ∷ []) first.2 (one_fits is_end (place_of u) last.0 last.2)) e
drawn_has (point at numbers) =
    let have = numbers_have numbers in
    node_has have.1 have.2 (record { x = at.x; y = at.y; numbers = numbers; x_in_range = at.x_in_range; y_in_range = at.y_in_range })
drawn_has (region polygon lines) =
    let have = rings_have lines in
    node_has have.1 have.2 (record { rings = rings_of polygon; lines = lines; is_region = region_is polygon })
drawn_has (box b numbers width height) =
    let have = numbers_have numbers in
    node_has have.1 have.2 (record {
      x_min = b.x_min;
      y_min = b.y_min;
      x_max = b.x_max;
      y_max = b.y_max;
      numbers = numbers;
      low = (b.width.0, b.height.0);
      high = (b.width.1, b.height.1);
      width = width;
      height = height;
    })

mutual
  pub means_has : {s : List Named} {t : Syntax} {x : Node} → Means s t x → Has s t (kind_of x)
  means_has (leaf_means h) = leaf_has (leaf_fits h)
  means_has {s = s} {t = t} (node_means {ps = ps} m h) = subst (Has s t) (made_kind h) (node_has (mean_have m) (no_misfit h) (sound ps h))
  means_has (literal_means d) = drawn_has d

  pub mean_have : {s : List Named} {ps : Parts} {js : List Judged} → Mean s ps js → Have s ps (marks_of js)
  mean_have means.no_more = kinds.no_more
  mean_have {s = s} (means.one_more {t = t} {ts = ts} {j = j} {js = js} p h m) =
      subst (λ q. Have s (part t ts) ((q, kind_of j.node) ∷ marks_of js)) p (kinds.one_more (means_has h) (mean_have m))
