-- The nesting depth of features is small.
use Rattle.std.proofs.Common.{ℕ, ◌≤◌, List, [], ◌∷◌, map, codes, unwrap_or, Ordering, Less, Equal, Greater, arith}
use Rattle.std.specs.Ordering.{nat_cmp, match_ordering}
use Rattle.std.specs.Cmp.Lexicographic.{slice_cmp}
use Rattle.std.specs.List.{fold, filter}
use Rattle.serde_json.specs.Data.{Data, Members, no_members, member, put, depth, items_depth, members_depth}
use Rattle.serde_json.specs.View.{items_of}
use Rattle.cad_shape.specs.declared.point.Point.{Point}
use Rattle.cad_feature.specs.Values.{Datum}
use Rattle.cad_feature.specs.Values as datum
use Rattle.cad_feature.specs.Features.{Item}
use Rattle.cad_shape.specs.declared.ring.Ring.{Ring}
use Rattle.cad_shape.specs.Rings.{corners_of}
use Rattle.cad_shape.specs.RegionRings.{rings_of}
use Rattle.cad_schema.specs.declared.collection.Collection.{Collection}
use Rattle.cad_schema.specs.Schema.{schema_of}
use Rattle.cad_json.specs.Shapes.{corner_data, closed, ring_data, polygon_data}
use Rattle.cad_json.specs.Values.{value_data, with_property, is_property, named_values, value_named, geometry_data, properties_data}
use Rattle.cad_json.specs.Tree.{feature_data, features_data, feature_with_links}

items_low : {A : Type 0} (f : A → Data) (n : ℕ) → ((x : A) → depth (f x) ≤ n) → (xs : List A) → items_depth (items_of (map f xs)) ≤ n
items_low f n low [] = omega arith
items_low f n low (x ∷ xs) = omega (arith, low x, items_low f n low xs)

corner_low : (p : Point) → depth (corner_data p) ≤ 1
corner_low p = omega arith

ring_low : (r : Ring) → depth (ring_data r) ≤ 2
ring_low r = omega (arith, items_low corner_data 1 corner_low (closed (corners_of r)))

polygon_low : (rings : List Ring) → depth (polygon_data rings) ≤ 4
polygon_low rings = omega (arith, items_low ring_data 2 ring_low rings)

value_low : (v : Datum) → depth (value_data v) ≤ 4
value_low datum.null = omega arith
value_low (datum.a_text s) = omega arith
value_low (datum.a_whole n) = omega arith
value_low (datum.a_flag b) = omega arith
value_low (datum.a_day s) = omega arith
value_low (datum.a_span s) = omega arith
value_low (datum.a_spot p) = omega arith
value_low (datum.an_area r) = polygon_low (rings_of r)

match_low : (o : Ordering) (a b c : Members) (n : ℕ) → members_depth a ≤ n → members_depth b ≤ n → members_depth c ≤ n → members_depth (match_ordering o a b c) ≤ n
match_low Less a b c n p q r = p
match_low Equal a b c n p q r = q
match_low Greater a b c n p q r = r

put_low : (k : List ℕ) (d : Data) (ms : Members) (n : ℕ) → depth d ≤ n → members_depth ms ≤ n → members_depth (put k d ms) ≤ n
put_low k d no_members n p q = omega arith
put_low k d (member l e ms) n p q =
    let rest : members_depth ms ≤ n = omega arith in
    match_low (slice_cmp nat_cmp k l) _ _ _ n (omega arith) (omega arith) (omega (arith, put_low k d ms n p rest))

fold_low : (ms : Members) (named : List (List ℕ × Datum)) → members_depth ms ≤ 4 → members_depth (fold with_property ms named) ≤ 4
fold_low ms [] h = h
fold_low ms (n ∷ ns) h = fold_low (with_property ms n) ns (put_low n.0 (value_data n.1) ms 4 (value_low n.1) h)

geometry_low : (collection : Collection) (x : Item) → depth (geometry_data (schema_of collection) x.values) ≤ 4
geometry_low collection x = value_low (unwrap_or (value_named (codes "geometry") (named_values (schema_of collection) x.values)) datum.null)

properties_low : (collection : Collection) (x : Item) → depth (properties_data (schema_of collection) x.values) ≤ 5
properties_low collection x = omega (arith, fold_low no_members (filter (λ n. is_property n.0) (named_values (schema_of collection) x.values)) (omega arith))

pub feature_low : (collection : Collection) (x : Item) → depth (feature_data collection x) ≤ 6
feature_low collection x = omega (arith, geometry_low collection x, properties_low collection x)

pub with_links_low : (collection : Collection) (x : Item) (links : Data) → depth links ≤ 6 → depth (feature_with_links collection x links) ≤ 7
with_links_low collection x links low = omega (arith, geometry_low collection x, properties_low collection x, low)

pub features_low : (collection : Collection) (xs : List Item) → depth (features_data collection xs) ≤ 7
features_low collection xs = omega (arith, items_low (feature_data collection) 6 (feature_low collection) xs)
