-- The trees of features have their members in byte order of the names.
use Rattle.std.proofs.Common.{◌≡◌, ℕ, List, [], ◌∷◌, map, codes, unwrap_or, Ordering, Less, Equal, Greater, refl, ap, ◌∙◌}
use Rattle.std.specs.Ordering.{nat_cmp, match_ordering, ordering_reverse}
use Rattle.std.specs.Cmp.Lexicographic.{slice_cmp, nat_list_cmp_total}
use Rattle.std.specs.List.{fold, filter}
use Rattle.serde_json.specs.Data.{Data, Members, no_members, member, put}
use Rattle.serde_json.specs.View.{items_of}
use Rattle.cad_shape.specs.declared.point.Point.{Point}
use Rattle.cad_feature.specs.Values.{Datum}
use Rattle.cad_feature.specs.Values as datum
use Rattle.cad_feature.specs.Features.{Item}
use Rattle.cad_shape.specs.declared.ring.Ring.{Ring}
use Rattle.cad_shape.specs.Rings.{corners_of}
use Rattle.cad_shape.specs.RegionRings.{rings_of}
use Rattle.cad_schema.specs.declared.collection.Collection.{Collection}
use Rattle.cad_schema.specs.Schema.{schema_of}
use Rattle.cad_json.specs.Shapes.{corner_data, closed, ring_data, polygon_data}
use Rattle.cad_json.specs.Values.{value_data, with_property, is_property, named_values, value_named, geometry_data, properties_data}
use Rattle.cad_json.specs.Tree.{feature_data, features_data, feature_with_links}
use Rattle.cad_json.specs.Order.{IsBeforeFirst, IsInOrder, AreItemsInOrder, AreMembersInOrder}

items_in_order : {A : Type 0} (f : A → Data) → ((x : A) → IsInOrder (f x)) → (xs : List A) → AreItemsInOrder (items_of (map f xs))
items_in_order f each [] = tt
items_in_order f each (x ∷ xs) = (each x, items_in_order f each xs)

corner_in_order : (p : Point) → IsInOrder (corner_data p)
corner_in_order p = (tt, (tt, tt))

ring_in_order : (r : Ring) → IsInOrder (ring_data r)
ring_in_order r = items_in_order corner_data corner_in_order (closed (corners_of r))

polygon_in_order : (rings : List Ring) → IsInOrder (polygon_data rings)
polygon_in_order rings = (refl, items_in_order ring_data ring_in_order rings, (tt, tt, tt))

value_in_order : (v : Datum) → IsInOrder (value_data v)
value_in_order datum.null = tt
value_in_order (datum.a_text s) = tt
value_in_order (datum.a_whole n) = tt
value_in_order (datum.a_flag b) = tt
value_in_order (datum.a_day s) = tt
value_in_order (datum.a_span s) = tt
value_in_order (datum.a_spot p) = (refl, corner_in_order p, (tt, tt, tt))
value_in_order (datum.an_area r) = polygon_in_order (rings_of r)

-- a name before a new one and before the first is before the first with the new one
before_put : (l k : List ℕ) (d : Data) (ms : Members) → slice_cmp nat_cmp l k ≡ Less → IsBeforeFirst l ms → IsBeforeFirst l (put k d ms)
before_put l k d no_members new before = new
before_put l k d (member m e ms) new before =
    elim (slice_cmp nat_cmp k m) as (λ o. IsBeforeFirst l (match_ordering o (member k d (member m e ms)) (member m d ms) (member m e (put k d ms)))) [ Less ↦ new | Equal ↦ before | Greater ↦ before ]

put_at_in_order : (o : Ordering) (k l : List ℕ) (d e : Data) (ms : Members) → slice_cmp nat_cmp k l ≡ o → IsInOrder d → AreMembersInOrder (member l e ms) → AreMembersInOrder (put k d ms)
    → AreMembersInOrder (match_ordering o (member k d (member l e ms)) (member l d ms) (member l e (put k d ms)))
put_at_in_order Less k l d e ms is one all later = (is, one, all)
put_at_in_order Equal k l d e ms is one all later = (all.0, one, all.2)
put_at_in_order Greater k l d e ms is one all later =
    let turned : slice_cmp nat_cmp l k ≡ Less = nat_list_cmp_total.antisymm l k ∙ ap ordering_reverse is in
    (before_put l k d ms turned all.0, all.1, later)

put_in_order : (k : List ℕ) (d : Data) (ms : Members) → IsInOrder d → AreMembersInOrder ms → AreMembersInOrder (put k d ms)
put_in_order k d no_members one all = (tt, one, tt)
put_in_order k d (member l e ms) one all = put_at_in_order (slice_cmp nat_cmp k l) k l d e ms refl one all (put_in_order k d ms one all.2)

fold_in_order : (ms : Members) (named : List (List ℕ × Datum)) → AreMembersInOrder ms → AreMembersInOrder (fold with_property ms named)
fold_in_order ms [] all = all
fold_in_order ms (n ∷ ns) all = fold_in_order (with_property ms n) ns (put_in_order n.0 (value_data n.1) ms (value_in_order n.1) all)

geometry_in_order : (collection : Collection) (x : Item) → IsInOrder (geometry_data (schema_of collection) x.values)
geometry_in_order collection x = value_in_order (unwrap_or (value_named (codes "geometry") (named_values (schema_of collection) x.values)) datum.null)

properties_in_order : (collection : Collection) (x : Item) → IsInOrder (properties_data (schema_of collection) x.values)
properties_in_order collection x = fold_in_order no_members (filter (λ n. is_property n.0) (named_values (schema_of collection) x.values)) tt

pub feature_in_order : (collection : Collection) (x : Item) → IsInOrder (feature_data collection x)
feature_in_order collection x =
    (refl, geometry_in_order collection x, (refl, tt, (refl, properties_in_order collection x, (tt, tt, tt))))

pub with_links_in_order : (collection : Collection) (x : Item) (links : Data) → IsInOrder links → IsInOrder (feature_with_links collection x links)
with_links_in_order collection x links all =
    (refl, geometry_in_order collection x, (refl, tt, (refl, all, (refl, properties_in_order collection x, (tt, tt, tt)))))

-- the members of the features of a list are in order
pub features_in_order : (collection : Collection) (xs : List Item) → IsInOrder (features_data collection xs)
features_in_order collection xs = items_in_order (feature_data collection) (feature_in_order collection) xs
