-- Laws of features.
use Rattle.std.proofs.Common.{◌≡◌, ℕ, zero, suc, ◌≤ℤ◌, Bool, true, false, List, [], ◌∷◌, find, cond, Option, Some, None, refl, sym, ap, ◌∙◌, subst, arith, true≢false, int_le, Contains}
use Rattle.std.specs.List.{All}
use Rattle.std.specs.Option.{ForSome}
use Rattle.std.specs.Str.{chars}
use Rattle.std.proofs.lemmas.Int.{ints}
use Rattle.std.proofs.lemmas.Option.{option_and_then_some}
use Rattle.cad_day.specs.declared.day.Day.{Day}
use Rattle.cad_day.specs.declared.interval.Interval.{Interval}
use Rattle.cad_day.specs.Days.{number_of}
use Rattle.cad_day.specs.Intervals.{interval_of, where_turned, is_turned, not_turned}
use Rattle.cad_versions.specs.declared.object_id.ObjectId.{ObjectId}
use Rattle.cad_versions.specs.declared.words.Words.{Words}
use Rattle.cad_versions.specs.BodyParts.{name_in}
use Rattle.cad_versions.specs.lemmas.SameLemmas.{same_object}
use Rattle.cad_versions.specs.Texts.{bytes_of}
use Rattle.cad_versions.specs.VersionedObject.{VersionedObject, IsVersion}
use Rattle.cad_versions.specs.Versions.{is_of, history}
use Rattle.cad_feature.specs.Flatten.{or_null, as_text, version_on, name_on, joined_name}
use Rattle.cad_feature.specs.Laws.{HoldsDay, WasNamed}
use Rattle.cad_feature.specs.Lifespans.{holds_on, is_up_to}
use Rattle.cad_feature.specs.Values.{null, a_text, a_span}
use Rattle.std.proofs.lemmas.Bool.{and_parts}

-- ---- lifespans

in_order : (v : VersionedObject) → IsVersion v → is_turned (Some v.first) v.last ≡ false
in_order v is = go v.last is.forward
  where
    go : (last : Option Day) → ForSome last (λ last. number_of v.first ≤ℤ number_of last) → is_turned (Some v.first) last ≡ false
    go None h = refl
    go (Some last) h = let forward = h last refl in grind (arith, ints)

pub lifespan_is : (v : VersionedObject) → IsVersion v → (days : Interval) × (or_null a_span (interval_of (Some v.first) v.last) ≡ a_span days) × (days.from ≡ Some v.first) × (days.to ≡ v.last)
unfolding interval_of
lifespan_is v is = go (is_turned (Some v.first) v.last) refl
  where
    go : (b : Bool) (e : is_turned (Some v.first) v.last ≡ b) → (days : Interval) × (or_null a_span (where_turned (Some v.first) v.last b e) ≡ a_span days) × (days.from ≡ Some v.first) × (days.to ≡ v.last)
    go true e = absurd (true≢false (sym e ∙ in_order v is))
    go false e = (record { from = Some v.first; to = v.last; in_order = not_turned (Some v.first) v.last e }, refl, refl, refl)

-- ---- names

holds_says : (day : Day) (v : VersionedObject) → holds_on day v ≡ true → HoldsDay day v
holds_says day v e =
    let parts = and_parts (int_le (number_of v.first) (number_of day)) (is_up_to v.last day) e in
    record { begun = grind (arith, ints, parts.0); lasts = go v.last parts.1 }
  where
    go : (last : Option Day) → is_up_to last day ≡ true → ForSome last (λ last. number_of day ≤ℤ number_of last)
    go None k = λ d e. absurd cc
    go (Some last) k = λ d e. let same : last ≡ d = cc in subst (λ (x : Day). number_of day ≤ℤ number_of x) same (grind (arith, ints))

-- what is found among the versions of an object
abbrev pub Found : ObjectId → (VersionedObject → Bool) → List VersionedObject → VersionedObject → Type 0
Found object p vs w = Contains vs w × (is_of object w ≡ true) × (p w ≡ true)

found_later : (object : ObjectId) (p : VersionedObject → Bool) (v : VersionedObject) (vs : List VersionedObject) (w : VersionedObject) → Found object p vs w → Found object p (v ∷ vs) w
found_later object p v vs w rest = ((suc rest.0.0, omega (arith, rest.0.1), rest.0.2), rest.1, rest.2)

found_of : (object : ObjectId) (p : VersionedObject → Bool) (vs : List VersionedObject) (w : VersionedObject) → find p (history object vs) ≡ Some w → Found object p vs w
found_of object p [] w e = absurd cc
found_of object p (v ∷ vs) w e = go (is_of object v) refl (λ e. found_later object p v vs w (found_of object p vs w e)) e
  where
    here : (c : Bool) → p v ≡ c → is_of object v ≡ true → (find p (history object vs) ≡ Some w → Found object p (v ∷ vs) w) → cond c (Some v) (find p (history object vs)) ≡ Some w → Found object p (v ∷ vs) w
    here true k i later e =
        let same : v ≡ w = cc in
        ((zero, omega arith, same), ap (is_of object) (sym same) ∙ i, ap p (sym same) ∙ k)
    here false k i later e = later e

    go : (b : Bool) → is_of object v ≡ b → (find p (history object vs) ≡ Some w → Found object p (v ∷ vs) w) → find p (cond b (v ∷ history object vs) (history object vs)) ≡ Some w → Found object p (v ∷ vs) w
    go true i later e = here (p v) refl i later e
    go false i later e = later e

it_is : (object : ObjectId) (v : VersionedObject) → is_of object v ≡ true → v.object ≡ object
it_is object v e = same_object v.object object (grind (arith, ints))

was_named : (vs : List VersionedObject) (day : Day) (words : Words) (o : Option ObjectId) → joined_name vs day o ≡ Some words → (object : ObjectId) × (o ≡ Some object) × WasNamed vs day object words
was_named vs day words o e =
    option_and_then_some (name_on vs day) o words e (λ object is named.
    option_and_then_some (λ v. name_in v.body) (version_on vs day object) words named (λ w found says.
    let of = found_of object (holds_on day) vs w found in
    (object, is, record { version = w; stands = of.0; of_object = it_is object w of.1; holds = holds_says day w of.2; says = says })))

text_joined : (o : Option Words) (characters : List ℕ) → or_null as_text o ≡ a_text characters → (words : Words) × (o ≡ Some words) × (characters ≡ chars (bytes_of words))
text_joined None characters e = absurd cc
text_joined (Some words) characters e = (words, refl, cc)

pub names_told : (vs : List VersionedObject) (day : Day) (named : Option ObjectId) (characters : List ℕ) → or_null as_text (joined_name vs day named) ≡ a_text characters
    → (object : ObjectId) × (words : Words) × (named ≡ Some object) × (characters ≡ chars (bytes_of words)) × WasNamed vs day object words
names_told vs day named characters e =
    let text = text_joined (joined_name vs day named) characters e in
    let was = was_named vs day text.0 named text.1 in
    (was.0, text.0, was.1, text.2, was.2)

not_held : (day : Day) (v : VersionedObject) → ¬ HoldsDay day v → holds_on day v ≡ false
not_held day v none = go (holds_on day v) refl
  where
    go : (b : Bool) → holds_on day v ≡ b → holds_on day v ≡ false
    go true e = absurd (none (holds_says day v e))
    go false e = e

none_found : (object : ObjectId) (day : Day) (vs : List VersionedObject) → All (λ w. w.object ≡ object → ¬ HoldsDay day w) vs → find (holds_on day) (history object vs) ≡ None
none_found object day [] none = refl
none_found object day (v ∷ vs) none = go (is_of object v) refl (none_found object day vs (λ k d h. none (suc k) d (omega (arith, h))))
  where
    go : (b : Bool) → is_of object v ≡ b → find (holds_on day) (history object vs) ≡ None → find (holds_on day) (cond b (v ∷ history object vs) (history object vs)) ≡ None
    go true e rest = rw (not_held day v (none 0 v (omega arith) (it_is object v e))) rest
    go false e rest = rest

pub none_told : (vs : List VersionedObject) (day : Day) (named : Option ObjectId) (object : ObjectId) → named ≡ Some object → All (λ w. w.object ≡ object → ¬ HoldsDay day w) vs → or_null as_text (joined_name vs day named) ≡ null
none_told vs day named object is none = rw (is, none_found object day vs none) refl
