-- Edits that fit keep the kinds of values.
use Rattle.std.proofs.Common.{◌≡◌, ℕ, zero, suc, ◌+◌, ◌<◌, Bool, true, false, cond, ◌&&◌, List, [], ◌∷◌, ◌++◌, length, map, filter, take, find, get_or, Option, Some, None, IfSome, option_map, option_and_then, append_assoc, lit<, refl, sym, ap, ◌∙◌, subst, arith}
use Rattle.std.specs.List.{AllByRecursion}
use Rattle.std.specs.List.Sorted.{IsStrictlySortedBy}
use Rattle.std.specs.Option.{option_to_list}
use Rattle.std.proofs.lemmas.List.{map_push}
use Rattle.std.proofs.lemmas.List.Elements.{All-from_recursion, recursion_from_All}
use Rattle.std.proofs.lemmas.List.Kept.{IsStrictlySortedBy-filter}
use Rattle.std.proofs.lemmas.Str.{scalars-chars, IsUtf8-had}
use Rattle.cad_day.specs.declared.day.Day.{Day}
use Rattle.cad_day.specs.declared.interval.Interval.{Interval}
use Rattle.cad_day.specs.Intervals.{interval_of}
use Rattle.cad_versions.specs.declared.command.Command.{Command}
use Rattle.cad_versions.specs.declared.object_id.ObjectId.{ObjectId}
use Rattle.cad_versions.specs.declared.words.Words.{Words}
use Rattle.cad_versions.specs.BodyParts.{name_in, unit_named, party_named}
use Rattle.cad_versions.specs.Command.{body_added}
use Rattle.cad_versions.specs.VersionedObject.{VersionedObject}
use Rattle.cad_schema.specs.declared.attribute.Attribute.{Attribute}
use Rattle.cad_schema.specs.declared.attribute.Attribute.TheVariants as attribute
use Rattle.cad_schema.specs.declared.collection.Collection.{Collection}
use Rattle.cad_schema.specs.declared.collection.Collection.TheVariants.{Units, Parties}
use Rattle.cad_schema.specs.declared.property.PropertyKind.TheVariants as kind
use Rattle.cad_schema.specs.declared.property.Property.{Property}
use Rattle.cad_schema.specs.Attributes.{Named, named, attribute_of, attributes_of}
use Rattle.cad_schema.specs.Schema.{schema_of}
use Rattle.cad_feature.specs.Features.{Item, datum_at, by_identifier, FitSchema, IsFeatureOf, AreFeaturesOf}
use Rattle.cad_feature.specs.Flatten.{or_null, as_text}
use Rattle.cad_feature.specs.declared.value.Value.{Value}
use Rattle.cad_feature.specs.Values.{Datum, null, a_day, a_span, datum_of, IsOfKind}
use Rattle.cad_layer.specs.Identifiers.{is_item_of, of_object}
use Rattle.cad_layer.specs.lemmas.ItemLemmas.{items_total}
use Rattle.cad_layer.specs.Merging.{put, put_if}
use Rattle.cad_layer.specs.lemmas.MergeLemmas.{all_put, put_ascends}
use Rattle.cad_layer.specs.lemmas.SearchLemmas.{suc_plus}
use Rattle.cad_changes.proofs.Fitting.{IsTextIfAny, Fit}
use Rattle.cad_changes.specs.Touching.{first_of, Edits, or_old, span_to, edited_datum, edited_data, edited, renames, names_unit, names_party, touches, edits_by, item_left, items_left, has_day, name_of, name_among, names_joined}
use Rattle.cad_changes.proofs.TouchedLemmas.{images_ascend}
use Rattle.cad_versions.specs.lemmas.ListLemmas.{all_filtered}

day_fits : (closing : Option Day) (d : Datum) → IsOfKind kind.Day d → IsOfKind kind.Day (or_old (option_map a_day closing) d)
day_fits None d h = h
day_fits (Some day) d h = refl

span_fits : (first : Option Day) (closing : Option Day) (d : Datum) → IsOfKind kind.Span d → IsOfKind kind.Span (or_old (option_map (span_to first) closing) d)
span_fits first None d h = h
span_fits first (Some last) d h = go (interval_of first (Some last))
  where
    go : (o : Option Interval) → IsOfKind kind.Span (or_null a_span o)
    go None = tt
    go (Some days) = refl

name_fits : (o : Option Datum) (d : Datum) → IsTextIfAny o → IsOfKind kind.Text d → IsOfKind kind.Text (or_old o d)
name_fits None d text h = h
name_fits (Some new) d text h = text

module _ (e : Edits) (fit : Fit e) (first : Option Day) where
  datum_fits : (a : Attribute) (d : Datum) → IsOfKind (named a).1 d → IsOfKind (named a).1 (edited_datum e first a d)
  datum_fits attribute.Object d h = h
  datum_fits attribute.Number d h = h
  datum_fits attribute.Begin d h = h
  datum_fits attribute.End d h = day_fits e.closing d h
  datum_fits attribute.Lifespan d h = span_fits first e.closing d h
  datum_fits attribute.Name d h = h
  datum_fits attribute.Type d h = h
  datum_fits attribute.Label d h = h
  datum_fits attribute.Area d h = h
  datum_fits attribute.Geometry d h = h
  datum_fits attribute.ReferencePoint d h = h
  datum_fits attribute.Unit d h = h
  datum_fits attribute.UnitName d h = name_fits e.unit_name d fit.unit h
  datum_fits attribute.Party d h = h
  datum_fits attribute.PartyName d h = name_fits e.party_name d fit.party h
  datum_fits attribute.ShareNum d h = h
  datum_fits attribute.ShareDen d h = h
  datum_fits attribute.PartyRequired d h = h

  data_fit : (attributes : List Attribute) (ds : List Datum) → FitSchema (map named attributes) ds → FitSchema (map named attributes) (edited_data e first attributes ds)
  data_fit [] [] h = h
  data_fit [] (d ∷ ds) h = absurd h
  data_fit (a ∷ rest) [] h = absurd h
  data_fit (a ∷ rest) (d ∷ ds) h = (datum_fits a d h.0, data_fit rest ds h.1)

pub edited_fits : (e : Edits) (collection : Collection) (x y : Item) → y ≡ edited e collection x → IsFeatureOf collection x → Fit e → IsFeatureOf collection y
edited_fits e collection x y is of fit = subst (IsFeatureOf collection) (sym is) (record {
  fits = data_fit e fit (first_of x) (attributes_of collection) x.values of.fits;
})

-- ---- one value more

edited_more : (e : Edits) (first : Option Day) (attributes : List Attribute) (ds : List Datum) (i : ℕ) (a : Attribute) → i < length attributes
    → edited_data e first (take (i + 1) attributes) ds ≡ edited_data e first (take i attributes) ds ++ edited_datum e first (get_or attributes i a) (get_or ds i null) ∷ []
edited_more e first [] ds i a h = absurd (omega (arith, h))
edited_more e first (b ∷ rest) [] zero a h = refl
edited_more e first (b ∷ rest) [] (suc i) a h = rw (suc_plus i) (ap (λ l. edited_datum e first b null ∷ l) (edited_more e first rest [] i a (omega (arith, h))))
edited_more e first (b ∷ rest) (c ∷ ds) zero a h = refl
edited_more e first (b ∷ rest) (c ∷ ds) (suc i) a h = rw (suc_plus i) (ap (λ l. edited_datum e first b c ∷ l) (edited_more e first rest ds i a (omega (arith, h))))

said_at : (ps : List Property) (i : ℕ) (p : Property) → get_or (map attribute_of ps) i (attribute_of p) ≡ attribute_of (get_or ps i p)
said_at [] i p = refl
said_at (q ∷ ps) zero p = refl
said_at (q ∷ ps) (suc i) p = said_at ps i p

said_length : (ps : List Property) → length (map attribute_of ps) ≡ length ps
said_length [] = refl
said_length (p ∷ ps) = ap suc (said_length ps)

pub data_more : (e : Edits) (first : Option Day) (ps : List Property) (ds : List Datum) (i : ℕ) (p : Property) (xs ys : List Value) (x : Value) → i < length ps → map datum_of xs ≡ edited_data e first (take i (map attribute_of ps)) ds
    → ys ≡ xs ++ x ∷ [] → datum_of x ≡ edited_datum e first (attribute_of (get_or ps i p)) (get_or ds i null) → map datum_of ys ≡ edited_data e first (take (i + 1) (map attribute_of ps)) ds
data_more e first ps ds i p xs ys x h so_far added is =
    let long : i < length (map attribute_of ps) = omega (arith, h, said_length ps) in
    ap (map datum_of) added ∙ map_push datum_of xs x ∙ ap (λ (l : List Datum). l ++ datum_of x ∷ []) so_far
    ∙ ap (λ (d : Datum). edited_data e first (take i (map attribute_of ps)) ds ++ d ∷ []) (is ∙ ap (λ (a : Attribute). edited_datum e first a (get_or ds i null)) (sym (said_at ps i p)))
    ∙ sym (edited_more e first (map attribute_of ps) ds i (attribute_of p) long)

-- ---- what is touched

words_fit : (o : Option Words) → IsOfKind kind.Text (or_null as_text o)
words_fit None = tt
words_fit (Some words) = (refl, scalars-chars words.spelling (IsUtf8-had words.spelling words.utf8))

renamed_fits : (b : Bool) (o : Option Words) → IsTextIfAny (cond b (Some (or_null as_text o)) None)
renamed_fits true o = words_fit o
renamed_fits false o = tt

left_fits : (c : Command) (collection : Collection) (x : Item) → IsFeatureOf collection x → IsFeatureOf collection (item_left c collection x)
left_fits c collection x of = edited_fits (edits_by c collection x) collection x (item_left c collection x) refl of (record {
  unit = renamed_fits (renames c x && names_unit c collection x) (option_and_then name_in (body_added c));
  party = renamed_fits (renames c x && names_party c collection x) (option_and_then name_in (body_added c));
})

-- the features that are left are features of the collection, and in their order
pub all_left_fit : (c : Command) (collection : Collection) (xs : List Item) → AllByRecursion (IsFeatureOf collection) xs → AllByRecursion (IsFeatureOf collection) (items_left c collection xs)
all_left_fit c collection [] all = tt
all_left_fit c collection (x ∷ xs) all = go (touches c collection x) (all_left_fit c collection xs all.1)
  where
    go : (b : Bool) → AllByRecursion (IsFeatureOf collection) (items_left c collection xs) → AllByRecursion (IsFeatureOf collection) (map (item_left c collection) (cond b (x ∷ filter (touches c collection) xs) (filter (touches c collection) xs)))
    go true more = (left_fits c collection x all.0, more)
    go false more = more

pub left_ascend : (c : Command) (collection : Collection) (xs : List Item) → IsStrictlySortedBy by_identifier xs → IsStrictlySortedBy by_identifier (items_left c collection xs)
left_ascend c collection xs up =
    images_ascend by_identifier by_identifier (item_left c collection) (λ a b. refl) (filter (touches c collection) xs) (IsStrictlySortedBy-filter by_identifier (touches c collection) xs up)

-- ---- names among units and parties

fits_at : (ps : List Named) (ds : List Datum) → FitSchema ps ds → (i : ℕ) (p : Named) → i < length ps → IsOfKind (get_or ps i p).1 (get_or ds i null)
fits_at [] ds h i p k = absurd (omega (arith, k))
fits_at (q ∷ ps) [] h i p k = absurd h
fits_at (q ∷ ps) (d ∷ ds) h zero p k = h.0
fits_at (q ∷ ps) (d ∷ ds) h (suc i) p k = fits_at ps ds h.1 i p (omega (arith, k))

all_found : {X : Type 0} (P : X → Type 0) (p : X → Bool) (xs : List X) → AllByRecursion P xs → AllByRecursion P (option_to_list (find p xs))
all_found P p [] all = tt
all_found P p (x ∷ xs) all = go (p x) (all_found P p xs all.1)
  where
    go : (b : Bool) → AllByRecursion P (option_to_list (find p xs)) → AllByRecursion P (option_to_list (cond b (Some x) (find p xs)))
    go true more = (all.0, tt)
    go false more = more

module _ (collection : Collection) (text : (x : Item) → IsFeatureOf collection x → IsOfKind kind.Text (datum_at x 5)) (xs : List Item) (all : AllByRecursion (IsFeatureOf collection) xs) (day : Day) where
  name_of_fits : (o : Option Item) → AllByRecursion (IsFeatureOf collection) (option_to_list o) → IsOfKind kind.Text (name_of o)
  name_of_fits None h = tt
  name_of_fits (Some x) h = text x h.0

  among_fits : (object : Option ObjectId) → IsTextIfAny (option_map (name_among xs day) object)
  among_fits None = tt
  among_fits (Some object) = name_of_fits (find (has_day day) (of_object object xs)) (all_found (IsFeatureOf collection) (has_day day) (of_object object xs) (all_filtered (IsFeatureOf collection) (is_item_of object) xs all))

unit_text : (x : Item) → IsFeatureOf Units x → IsOfKind kind.Text (datum_at x 5)
unit_text x of = fits_at (schema_of Units) x.values of.fits 5 (named attribute.Name) (lit< tt)

party_text : (x : Item) → IsFeatureOf Parties x → IsOfKind kind.Text (datum_at x 5)
party_text x of = fits_at (schema_of Parties) x.values of.fits 5 (named attribute.Name) (lit< tt)

pub joined_fit : (units parties : List Item) → AllByRecursion (IsFeatureOf Units) units → AllByRecursion (IsFeatureOf Parties) parties → (v : VersionedObject) → Fit (names_joined units parties v)
joined_fit units parties us ps v = record {
  unit = among_fits Units unit_text units us v.first (unit_named v.body);
  party = among_fits Parties party_text parties ps v.first (party_named v.body);
}

-- ---- all of them

pub touched_listed : (collection : Collection) (xs ys : List Item) (added : Option Item) (c : Command) → ys ≡ put_if by_identifier added (items_left c collection xs) → AreFeaturesOf collection xs → IfSome added (IsFeatureOf collection) → AreFeaturesOf collection ys
touched_listed collection xs ys added c is all new = subst (AreFeaturesOf collection) (sym is) (go added new)
  where
    rest : AllByRecursion (IsFeatureOf collection) (items_left c collection xs)
    rest = all_left_fit c collection xs (recursion_from_All (IsFeatureOf collection) xs all.each)

    up : IsStrictlySortedBy by_identifier (items_left c collection xs)
    up = left_ascend c collection xs all.ascending

    go : (o : Option Item) → IfSome o (IsFeatureOf collection) → AreFeaturesOf collection (put_if by_identifier o (items_left c collection xs))
    go None h = record { each = All-from_recursion (IsFeatureOf collection) (items_left c collection xs) rest; ascending = up }
    go (Some x) h = record {
      each = All-from_recursion (IsFeatureOf collection) (put by_identifier x (items_left c collection xs)) (all_put by_identifier items_total (IsFeatureOf collection) x (items_left c collection xs) h rest);
      ascending = put_ascends by_identifier items_total x (items_left c collection xs) up;
    }

-- ---- one feature more

left_apart : (c : Command) (collection : Collection) (x : Item) (xs : List Item) → items_left c collection (x ∷ xs) ≡ items_left c collection (x ∷ []) ++ items_left c collection xs
left_apart c collection x xs = go (touches c collection x)
  where
    go : (b : Bool) → map (item_left c collection) (cond b (x ∷ filter (touches c collection) xs) (filter (touches c collection) xs)) ≡ map (item_left c collection) (cond b (x ∷ []) []) ++ items_left c collection xs
    go true = refl
    go false = refl

pub left_step : (c : Command) (collection told : Collection) (all old new : List Item) (x : Item) (here rest : List Item) → told ≡ collection → items_left c collection all ≡ old ++ items_left c collection here → here ≡ x ∷ rest
    → new ≡ old ++ items_left c told (x ∷ []) → items_left c collection all ≡ new ++ items_left c collection rest
left_step c collection told all old new x here rest same so_far front added =
    so_far ∙ ap (λ (l : List Item). old ++ items_left c collection l) front ∙ ap (λ (l : List Item). old ++ l) (left_apart c collection x rest)
    ∙ sym (append_assoc old (items_left c collection (x ∷ [])) (items_left c collection rest))
    ∙ ap (λ (l : List Item). l ++ items_left c collection rest) (sym (added ∙ ap (λ (k : Collection). old ++ items_left c k (x ∷ [])) same))

-- ---- one feature alone

pub one_rises : (x : Item) (xs ys zs : List Item) → xs ≡ ys → ys ≡ zs ++ x ∷ [] → zs ≡ [] → IsStrictlySortedBy by_identifier xs
unfolding IsStrictlySortedBy
one_rises x xs ys zs e f g = subst (IsStrictlySortedBy by_identifier) (sym (e ∙ f ∙ ap (λ (l : List Item). l ++ x ∷ []) g)) (tt, tt)
