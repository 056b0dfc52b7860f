-- Resources and their collections, and the parts of their paths.
use Rattle.std.proofs.Common.{◌≡◌, ℕ, if◌then◌else◌, List, Bool, true, false, Option, Some, None, option_map, refl, ap, ◌∙◌}
use Rattle.std.specs.Option.{option_and_then}
use Rattle.cad_schema.specs.declared.collection.Collection.{Collection}
use Rattle.cad_schema.specs.Collections.{name_of, collection_named}
use Rattle.cad_schema.specs.lemmas.NameLemmas.{names_are_read_back, what_is_read_has_the_name}
use Rattle.cad_resource.specs.Heads.{is_target}
use Rattle.cad_resource.specs.Places.{Place, landing, collections, collection, queryables, items, item, place_of, known, path_of, named}
use Rattle.cad_resource.specs.Laws.{KnownPathsAreReadBack, ResourcesHaveOnePath}
use Rattle.cad_resource.proofs.PathLemmas.{paths_are_read_back, places_have_one_path}

-- ---- laws of resources

known_named : (place : Place Collection) → known (named place) ≡ Some place
known_named landing = refl
known_named collections = refl
known_named (collection c) = ap (option_map collection) (names_are_read_back c)
known_named (queryables c) = ap (option_map queryables) (names_are_read_back c)
known_named (items c) = ap (option_map items) (names_are_read_back c)
known_named (item c id) = ap (option_map (λ (found : Collection). item found id)) (names_are_read_back c)

pub known_paths_are_read_back : KnownPathsAreReadBack
known_paths_are_read_back place is = ap (option_and_then known) (paths_are_read_back (named place) is) ∙ known_named place

-- what was made of a known collection is made of its name
known_by : (make : List ℕ → Place (List ℕ)) (of : Collection → Place Collection) (same : (c : Collection) → make (name_of c) ≡ named (of c))
    → (name : List ℕ) (place : Place Collection) (o : Option Collection) → collection_named name ≡ o → option_map of o ≡ Some place → make name ≡ named place
known_by make of same name place None found e = absurd (let told : None ≡ Some place = e in cc)
known_by make of same name place (Some c) found e =
    let told : Some (of c) ≡ Some place = e in
    let is : of c ≡ place = cc in
    ap make (what_is_read_has_the_name name c found) ∙ same c ∙ ap named is

known_is : (place : Place (List ℕ)) (found : Place Collection) → known place ≡ Some found → place ≡ named found
known_is landing found e = let told : Some landing ≡ Some found = e in let is : landing ≡ found = cc in ap named is
known_is collections found e = let told : Some collections ≡ Some found = e in let is : collections ≡ found = cc in ap named is
known_is (collection c) found e = known_by collection collection (λ c. refl) c found (collection_named c) refl e
known_is (queryables c) found e = known_by queryables queryables (λ c. refl) c found (collection_named c) refl e
known_is (items c) found e = known_by items items (λ c. refl) c found (collection_named c) refl e
known_is (item c id) found e = known_by (λ name. item name id) (λ (c : Collection). item c id) (λ c. refl) c found (collection_named c) refl e

pub resources_have_one_path : ResourcesHaveOnePath
resources_have_one_path bytes place e = by_place (place_of bytes) refl e
  where
    by_place : (o : Option (Place (List ℕ))) → place_of bytes ≡ o → option_and_then known o ≡ Some place → bytes ≡ path_of (named place)
    by_place None found e = absurd (let told : None ≡ Some place = e in cc)
    by_place (Some p) found e = (places_have_one_path bytes p found).0 ∙ ap path_of (known_is p place e)

-- ---- targets

-- a text that is given of a target is the target
pub target_found : (target text : List ℕ) → Some text ≡ (if is_target target then Some target else None) → (is_target target ≡ true) × (text ≡ target)
target_found target text e = by_target (is_target target) refl e
  where
    by_target : (t : Bool) → is_target target ≡ t → Some text ≡ (if t then Some target else None) → (is_target target ≡ true) × (text ≡ target)
    by_target true is e = (is, let told : Some text ≡ Some target = e in cc)
    by_target false is e = absurd (let told : Some text ≡ None = e in cc)
