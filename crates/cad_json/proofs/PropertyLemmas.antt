-- What the properties of a feature hold under each name.
use Rattle.std.proofs.Common.{◌≡◌, ℕ, zero, suc, List, [], ◌∷◌, map, Bool, true, false, not, ◌&&◌, cond, Option, Some, None, refl, sym, ap, subst, ◌∙◌, option_map, if◌then◌else◌, slice_get}
use Rattle.std.proofs.lemmas.Bool.{or_parts}
use Rattle.std.specs.List.{fold, filter, find, list_any}
use Rattle.std.specs.Str.{bytes_eq}
use Rattle.std.proofs.lemmas.Slice.Eq.{bytes_eq-Decides}
use Rattle.serde_json.specs.Data.{Data, Members, no_members, put}
use Rattle.serde_json.specs.Find.{get_member}
use Rattle.serde_json.proofs.Views.{get_member-put, get_member-put_other}
use Rattle.cad_feature.specs.Values.{Datum}
use Rattle.cad_schema.specs.declared.collection.Collection.{Collection}
use Rattle.cad_schema.specs.Attributes.{Named}
use Rattle.cad_schema.specs.lemmas.NameLemmas.{each_passes}
use Rattle.cad_schema.specs.Schema.{schema_of}
use Rattle.cad_feature.specs.Features.{FitSchema}
use Rattle.cad_json.specs.Values.{value_data, named_values, is_property, with_property, value_named}

-- no name stands twice
abbrev pub are_apart : List (List ℕ) → Bool
are_apart [] = true
are_apart (n ∷ ns) = not (list_any (bytes_eq n) ns) && are_apart ns

-- the names of a schema
abbrev pub names_of : List Named → List (List ℕ)
names_of schema = map (λ p. p.0) schema

pub schema_apart : (c : Collection) → are_apart (names_of (schema_of c)) ≡ true
schema_apart c = each_passes (λ c. are_apart (names_of (schema_of c))) refl c

first_true : (a b : Bool) → (not a && b) ≡ true → a ≡ false
first_true true b h = absurd cc
first_true false b h = refl

second_true : (a b : Bool) → (not a && b) ≡ true → b ≡ true
second_true true b h = absurd cc
second_true false b h = h

-- two names that the test tells apart differ
differ : (a b : List ℕ) → bytes_eq a b ≡ false → a ≡ b → ⊥
differ a b apart same = let yes = (bytes_eq-Decides a b).1 same in absurd cc

-- the members with the properties among the named values put in
abbrev held : Members → List (List ℕ × Datum) → Members
held ms named = fold with_property ms (filter (λ n. is_property n.0) named)

-- a name that is not in the schema keeps what it had
absent : (k : List ℕ) (ms : Members) (schema : List Named) (values : List Datum) → list_any (bytes_eq k) (names_of schema) ≡ false
    → get_member k (held ms (named_values schema values)) ≡ get_member k ms
absent k ms [] values none = refl
absent k ms (p ∷ ps) [] none = refl
absent k ms (p ∷ ps) (v ∷ vs) none =
    let rest : List (List ℕ × Datum) = filter (λ n. is_property n.0) (named_values ps vs) in
    let later : list_any (bytes_eq k) (names_of ps) ≡ false = (or_parts (bytes_eq k p.0) _ none).1 in
    let other = differ k p.0 (or_parts (bytes_eq k p.0) _ none).0 in
    elim (is_property p.0) as (λ b. get_member k (fold with_property ms (cond b ((p.0, v) ∷ rest) rest)) ≡ get_member k ms) [
      | true ↦ absent k (put p.0 (value_data v) ms) ps vs later ∙ get_member-put_other k p.0 (value_data v) ms other
      | false ↦ absent k ms ps vs later
    ]

-- what stands under a name: the value, if the name is a property's, else what was there before
abbrev found : Bool → Option Datum → Option Data → Option Data
found false o before = before
found true None before = before
found true (Some v) before = Some (value_data v)

module _ (name : List ℕ) (ms : Members) (p : Named) (v : Datum) (ps : List Named) (vs : List Datum) where
  here : (c : Bool) → is_property p.0 ≡ c → p.0 ≡ name → list_any (bytes_eq p.0) (names_of ps) ≡ false
      → get_member name (fold with_property ms (cond c ((p.0, v) ∷ filter (λ n. is_property n.0) (named_values ps vs)) (filter (λ n. is_property n.0) (named_values ps vs))))
      ≡ found (is_property name) (Some v) (get_member name ms)
  here true is same none =
      let at_name : get_member p.0 (held (put p.0 (value_data v) ms) (named_values ps vs)) ≡ Some (value_data v) =
      absent p.0 (put p.0 (value_data v) ms) ps vs none ∙ get_member-put p.0 (value_data v) ms in
      subst (λ (n : List ℕ). get_member n (held (put p.0 (value_data v) ms) (named_values ps vs)) ≡ Some (value_data v)) same at_name
      ∙ ap (λ b. found b (Some v) (get_member name ms)) (sym is ∙ ap is_property same)
  here false is same none =
      subst (λ (n : List ℕ). get_member n (held ms (named_values ps vs)) ≡ get_member n ms) same (absent p.0 ms ps vs none)
      ∙ ap (λ b. found b (Some v) (get_member name ms)) (sym is ∙ ap is_property same)

  past : (c : Bool) → (name ≡ p.0 → ⊥) → ((before : Members) → get_member name (held before (named_values ps vs)) ≡ found (is_property name) (value_named name (named_values ps vs)) (get_member name before))
      → get_member name (fold with_property ms (cond c ((p.0, v) ∷ filter (λ n. is_property n.0) (named_values ps vs)) (filter (λ n. is_property n.0) (named_values ps vs))))
      ≡ found (is_property name) (value_named name (named_values ps vs)) (get_member name ms)
  past true other later =
      later (put p.0 (value_data v) ms) ∙ ap (found (is_property name) (value_named name (named_values ps vs))) (get_member-put_other name p.0 (value_data v) ms other)
  past false other later = later ms

  turn : (b : Bool) → bytes_eq p.0 name ≡ b → list_any (bytes_eq p.0) (names_of ps) ≡ false
      → ((before : Members) → get_member name (held before (named_values ps vs)) ≡ found (is_property name) (value_named name (named_values ps vs)) (get_member name before))
      → get_member name (held ms ((p.0, v) ∷ named_values ps vs))
      ≡ found (is_property name) (option_map (λ (n : List ℕ × Datum). n.1) (cond b (Some (p.0, v)) (find (λ n. bytes_eq n.0 name) (named_values ps vs)))) (get_member name ms)
  turn true is none later = here (is_property p.0) refl ((bytes_eq-Decides p.0 name).0 is) none
  turn false is none later = past (is_property p.0) (λ same. differ p.0 name is (sym same)) later

-- the members hold the value under each name that is a property's
held_found : (name : List ℕ) (schema : List Named) (values : List Datum) → are_apart (names_of schema) ≡ true → (ms : Members)
    → get_member name (held ms (named_values schema values)) ≡ found (is_property name) (value_named name (named_values schema values)) (get_member name ms)
held_found name [] values apart ms = elim (is_property name) as (λ b. get_member name ms ≡ found b None (get_member name ms)) [ true ↦ refl | false ↦ refl ]
held_found name (p ∷ ps) [] apart ms = elim (is_property name) as (λ b. get_member name ms ≡ found b None (get_member name ms)) [ true ↦ refl | false ↦ refl ]
held_found name (p ∷ ps) (v ∷ vs) apart ms =
    turn name ms p v ps vs (bytes_eq p.0 name) refl (first_true _ _ apart) (held_found name ps vs (second_true _ _ apart))

found_if : (b : Bool) (o : Option Datum) → found b o None ≡ (if b then option_map value_data o else None)
found_if true None = refl
found_if true (Some v) = refl
found_if false o = refl

-- the properties of a feature under a name
pub get_member-properties : (name : List ℕ) (schema : List Named) (values : List Datum) → are_apart (names_of schema) ≡ true
    → get_member name (fold with_property no_members (filter (λ n. is_property n.0) (named_values schema values)))
    ≡ (if is_property name then option_map value_data (value_named name (named_values schema values)) else None)
get_member-properties name schema values apart = held_found name schema values apart no_members ∙ found_if (is_property name) _

-- a name in the schema is none of those that no name there is equal to
not_among : (k : List ℕ) (schema : List Named) (i : ℕ) (p : Named) → list_any (bytes_eq k) (names_of schema) ≡ false → slice_get schema i ≡ Some p → bytes_eq k p.0 ≡ false
not_among k [] i p none is = absurd cc
not_among k (q ∷ qs) zero p none is =
    let same : q ≡ p = cc in
    subst (λ (o : Named). bytes_eq k o.0 ≡ false) same (or_parts (bytes_eq k q.0) _ none).0
not_among k (q ∷ qs) (suc i) p none is = not_among k qs i p (or_parts (bytes_eq k q.0) _ none).1 is

-- the value in the place of a name is the value under that name
pub value_named-at : (schema : List Named) (values : List Datum) (i : ℕ) (p : Named) (v : Datum) → are_apart (names_of schema) ≡ true
    → slice_get schema i ≡ Some p → slice_get values i ≡ Some v → value_named p.0 (named_values schema values) ≡ Some v
value_named-at [] values i p v apart here there = absurd cc
value_named-at (q ∷ qs) [] i p v apart here there = absurd cc
value_named-at (q ∷ qs) (w ∷ ws) zero p v apart here there =
    let same : q ≡ p = cc in
    let equal : bytes_eq q.0 p.0 ≡ true = (bytes_eq-Decides q.0 p.0).1 (ap (λ (n : Named). n.0) same) in
    let value : w ≡ v = cc in
    rw equal (ap Some value)
value_named-at (q ∷ qs) (w ∷ ws) (suc i) p v apart here there =
    let other : bytes_eq q.0 p.0 ≡ false = not_among q.0 qs i p (first_true _ _ apart) here in
    rw other (value_named-at qs ws i p v (second_true _ _ apart) here there)

-- a value stands in the place of each property
value_at : (schema : List Named) (values : List Datum) → FitSchema schema values → (i : ℕ) (p : Named) → slice_get schema i ≡ Some p
    → (v : Datum) × (slice_get values i ≡ Some v)
value_at [] values fit i p here = absurd cc
value_at (q ∷ qs) [] fit i p here = absurd fit
value_at (q ∷ qs) (w ∷ ws) fit zero p here = (w, refl)
value_at (q ∷ qs) (w ∷ ws) fit (suc i) p here = value_at qs ws fit.1 i p here

-- and under its name among the properties
pub get_member-at : (schema : List Named) (values : List Datum) (i : ℕ) (p : Named) → are_apart (names_of schema) ≡ true → FitSchema schema values
    → slice_get schema i ≡ Some p → is_property p.0 ≡ true
    → (v : Datum) × (slice_get values i ≡ Some v) × (get_member p.0 (fold with_property no_members (filter (λ n. is_property n.0) (named_values schema values))) ≡ Some (value_data v))
get_member-at schema values i p apart fit here is =
    let there = value_at schema values fit i p here in
    let value = value_named-at schema values i p there.0 apart here there.1 in (
      there.0,
      there.1,
      get_member-properties p.0 schema values apart
          ∙ ap (λ b. if b then option_map value_data (value_named p.0 (named_values schema values)) else None) is
          ∙ ap (option_map value_data) value,
    )
