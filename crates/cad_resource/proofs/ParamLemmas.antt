-- What the parameters of a route take of its path.
use Rattle.std.proofs.Common.{◌≡◌, ℕ, ◌+◌, ◌-◌, ◌<◌, ◌≤◌, ◌&&◌, ltb, leb, List, [], ◌∷◌, ◌++◌, Bool, true, false, Option, Some, None, length, take, drop, codes, IsUtf8, refl, sym, ap, subst, ◌∙◌, arith, length-append, get_or, append-nil}
use Rattle.std.proofs.lemmas.Bool.{and_parts}
use Rattle.std.proofs.lemmas.Bool.Decides.{nat_tests}
use Rattle.std.proofs.lemmas.List.{append_assoc, take_at, drop_at, get_or_at}
use Rattle.std.proofs.lemmas.Str.{IsUtf8-take, IsUtf8-drop, IsUtf8-from_ascii, IsCharBoundary-before_ascii, IsCharBoundary-after_ascii}
use Rattle.std.proofs.lemmas.Str.Ascii.{IsAscii-nil, IsAscii-cons}
use Rattle.matchit.specs.Params.{after_token, wild_from, wild_stop, part_of, walk, named, AllText}
use Rattle.matchit.specs.Router.{RouteOf}
use Rattle.matchit.specs.Seek.{first, has_slash, segment}
use Rattle.cad_resource.specs.declared.route.Route.{Route}
use Rattle.cad_resource.specs.declared.route.Route.TheVariants.{Collection, Queryables, Items, Item}
use Rattle.cad_resource.specs.Laws.{IsPlace}
use Rattle.cad_resource.specs.Places.{Place, landing, collections, collection, queryables, items, item, place_of, path_of}
use Rattle.cad_resource.specs.RouteRows.{place_by, route_of, route_rows, taken}
use Rattle.cad_resource.proofs.PathLemmas.{no_slash_of, places_have_one_path}
use Rattle.cad_resource.proofs.RouteLemmas.{AreBytes, found_route, keyed, route_key, segment_cut, value_is}

-- ---- where a parameter begins

-- each token stands for itself
abbrev are_bytes : List ℕ → Bool
are_bytes [] = true
are_bytes (x ∷ text) = ltb x 256 && are_bytes text

-- the bytes before a parameter are passed one by one
wild_behind : (text rest : List ℕ) (len token at : ℕ) → are_bytes text ≡ true → at + length text ≤ len
    → wild_from (text ++ rest) len token at ≡ wild_from rest len (token + length text) (at + length text)
wild_behind [] rest len token at small fits =
    let t : token ≡ token + 0 = omega arith in
    let p : at ≡ at + 0 = omega arith in
    ap (λ n. wild_from rest len n at) t ∙ ap (λ n. wild_from rest len (token + 0) n) p
wild_behind (x ∷ text) rest len token at small fits =
    let both = and_parts (ltb x 256) (are_bytes text) small in
    let inside : ltb at len ≡ true = grind (arith, nat_tests) in
    let onward : wild_from (text ++ rest) len (token + 1) (at + 1) ≡ wild_from rest len (token + 1 + length text) (at + 1 + length text) =
    wild_behind text rest len (token + 1) (at + 1) both.1 (omega (arith, fits)) in
    let first : wild_from ((x ∷ text) ++ rest) len token at ≡ wild_from rest len (token + 1 + length text) (at + 1 + length text) = rw (both.0, inside) onward in
    let t : token + 1 + length text ≡ token + length (x ∷ text) = omega arith in
    let p : at + 1 + length text ≡ at + length (x ∷ text) = omega arith in
    first ∙ ap (λ n. wild_from rest len n (at + 1 + length text)) t ∙ ap (λ n. wild_from rest len (token + length (x ∷ text)) n) p

-- the collection's name begins behind the second slash
wild_name : (rest : List ℕ) (len : ℕ) → 13 ≤ len → wild_from (codes "/collections/" ++ 256 ∷ rest) len 0 0 ≡ (13, 13)
wild_name rest len fits = wild_behind (codes "/collections/") (256 ∷ rest) len 0 0 refl fits

-- ---- parts of a path

part_between : (front c back : List ℕ) → part_of (front ++ (c ++ back)) (length front) (length front + length c) ≡ c
part_between front c back =
    let whole : length (front ++ (c ++ back)) ≡ length front + (length c + length back) = length-append front (c ++ back) ∙ ap (λ n. length front + n) (length-append c back) in
    let low : leb (length front) (length front + length c) ≡ true = grind (arith, nat_tests) in
    let high : leb (length front + length c) (length (front ++ (c ++ back))) ≡ true = grind (arith, nat_tests) in
    let size : length front + length c - length front ≡ length c = omega arith in
    rw (low, high) (
    ap (λ n. take n (drop (length front) (front ++ (c ++ back)))) size ∙ ap (take (length c)) (drop_at front (c ++ back) (length front) refl) ∙ take_at c back (length c) refl
    )

-- what stands behind a front, to the end
part_behind : (path front c : List ℕ) (at : ℕ) → path ≡ front ++ c → at ≡ length front → part_of path at (length path) ≡ c
part_behind path front c at is place =
    let whole : length path ≡ length front + length c = ap length is ∙ length-append front c in
    ap (λ n. part_of path at n) whole
    ∙ ap (λ n. part_of path n (length front + length c)) place
    ∙ ap (λ (q : List ℕ). part_of q (length front) (length front + length c)) (is ∙ sym (ap (λ (c : List ℕ). front ++ c) (append-nil c)))
    ∙ part_between front c []

-- the collection's name ends before the third slash
name_stop : (c more : List ℕ) → has_slash c ≡ false → 13 + length (segment (drop 13 (codes "/collections/" ++ (c ++ 47 ∷ more)))) - 1 ≡ 13 + length c
name_stop c more h =
    let seg : segment (drop 13 (codes "/collections/" ++ (c ++ 47 ∷ more))) ≡ c ++ 47 ∷ [] = ap segment (drop_at (codes "/collections/") (c ++ 47 ∷ more) 13 refl) ∙ segment_cut c more h in
    let long : length (c ++ 47 ∷ []) ≡ length c + 1 = length-append c (47 ∷ []) in
    let size : 13 + length (c ++ 47 ∷ []) - 1 ≡ 13 + length c = omega (arith, long) in
    ap (λ (s : List ℕ). 13 + length s - 1) seg ∙ size

-- ---- what the parameters of each route take

abbrev Taken : Type 0
Taken = List (List ℕ × List ℕ)

abbrev taken_by : RouteOf Route → List ℕ → Taken
taken_by key path = walk key.pattern key.text path key.names 0 0

behind_front : (rest : List ℕ) → 13 ≤ length (codes "/collections/" ++ rest)
behind_front rest = let long : length (codes "/collections/" ++ rest) ≡ 13 + length rest = length-append (codes "/collections/") rest in omega (arith, long)

take_collection : (c : List ℕ) → taken_by (route_key Collection) (path_of (collection c)) ≡ (codes "c", c) ∷ []
unfolding route_key
take_collection c =
    let path = codes "/collections/" ++ c in
    let pattern = codes "/collections/" ++ 256 ∷ [] in
    ap (λ (w : ℕ × ℕ). let r : Taken = (codes "c", part_of path w.1 (wild_stop pattern w.0 path w.1)) ∷ [] in r) (wild_name [] (length path) (behind_front c))
    ∙ ap (λ (t : List ℕ). let r : Taken = (codes "c", t) ∷ [] in r) (part_behind path (codes "/collections/") c 13 refl refl)

take_below : (c more : List ℕ) → has_slash c ≡ false
    → (pattern : List ℕ) → wild_stop pattern 13 (codes "/collections/" ++ (c ++ 47 ∷ more)) 13 ≡ 13 + length (segment (drop 13 (codes "/collections/" ++ (c ++ 47 ∷ more)))) - 1
    → part_of (codes "/collections/" ++ (c ++ 47 ∷ more)) 13 (wild_stop pattern 13 (codes "/collections/" ++ (c ++ 47 ∷ more)) 13) ≡ c
take_below c more h pattern stop =
    ap (λ n. part_of (codes "/collections/" ++ (c ++ 47 ∷ more)) 13 n) (stop ∙ name_stop c more h) ∙ part_between (codes "/collections/") c (47 ∷ more)

take_items : (c : List ℕ) → has_slash c ≡ false → taken_by (route_key Items) (path_of (items c)) ≡ (codes "c", c) ∷ []
unfolding route_key
take_items c h =
    let path = codes "/collections/" ++ (c ++ codes "/items") in
    let pattern = codes "/collections/" ++ 256 ∷ codes "/items" in
    ap (λ (w : ℕ × ℕ). let r : Taken = (codes "c", part_of path w.1 (wild_stop pattern w.0 path w.1)) ∷ [] in r) (wild_name (codes "/items") (length path) (behind_front (c ++ codes "/items")))
    ∙ ap (λ (t : List ℕ). let r : Taken = (codes "c", t) ∷ [] in r) (take_below c (codes "items") h pattern refl)

take_queryables : (c : List ℕ) → has_slash c ≡ false → taken_by (route_key Queryables) (path_of (queryables c)) ≡ (codes "c", c) ∷ []
unfolding route_key
take_queryables c h =
    let path = codes "/collections/" ++ (c ++ codes "/queryables") in
    let pattern = codes "/collections/" ++ 256 ∷ codes "/queryables" in
    ap (λ (w : ℕ × ℕ). let r : Taken = (codes "c", part_of path w.1 (wild_stop pattern w.0 path w.1)) ∷ [] in r) (wild_name (codes "/queryables") (length path) (behind_front (c ++ codes "/queryables")))
    ∙ ap (λ (t : List ℕ). let r : Taken = (codes "c", t) ∷ [] in r) (take_below c (codes "queryables") h pattern refl)

-- the path of a feature, the texts of its route's name, and where they stand
abbrev item_path : List ℕ → List ℕ → List ℕ
item_path c id = codes "/collections/" ++ (c ++ (codes "/items/" ++ id))

abbrev item_pattern : List ℕ
item_pattern = codes "/collections/" ++ 256 ∷ codes "/items/" ++ 256 ∷ []

abbrev item_front : List ℕ → List ℕ
item_front c = codes "/collections/" ++ (c ++ codes "/items/")

-- the identifier begins behind the fourth slash
take_identifier : (c id : List ℕ)
    → part_of (item_path c id) (wild_from (codes "/items/" ++ 256 ∷ []) (length (item_path c id)) 14 (13 + length c)).1
    (wild_stop item_pattern (wild_from (codes "/items/" ++ 256 ∷ []) (length (item_path c id)) 14 (13 + length c)).0 (item_path c id) (wild_from (codes "/items/" ++ 256 ∷ []) (length (item_path c id)) 14 (13 + length c)).1)
    ≡ id
take_identifier c id =
    let path = item_path c id in
    let long : length path ≡ 13 + (length c + (7 + length id)) =
    length-append (codes "/collections/") (c ++ (codes "/items/" ++ id))
    ∙ ap (λ n. 13 + n) (length-append c (codes "/items/" ++ id) ∙ ap (λ n. length c + n) (length-append (codes "/items/") id)) in
    let begins : wild_from (codes "/items/" ++ 256 ∷ []) (length path) 14 (13 + length c) ≡ (21, 13 + length c + 7) =
    wild_behind (codes "/items/") (256 ∷ []) (length path) 14 (13 + length c) refl (omega (arith, long)) in
    let front_long : length (item_front c) ≡ 13 + length c + 7 =
    length-append (codes "/collections/") (c ++ codes "/items/") ∙ (let inner : length (c ++ codes "/items/") ≡ length c + 7 = length-append c (codes "/items/") in omega (arith, inner)) in
    let whole : path ≡ item_front c ++ id =
    ap (λ (l : List ℕ). codes "/collections/" ++ l) (sym (append_assoc c (codes "/items/") id)) ∙ sym (append_assoc (codes "/collections/") (c ++ codes "/items/") id) in
    ap (λ (w : ℕ × ℕ). part_of path w.1 (wild_stop item_pattern w.0 path w.1)) begins ∙ part_behind path (item_front c) id (13 + length c + 7) whole (sym front_long)

item_path_is : (c id : List ℕ) → path_of (item c id) ≡ item_path c id
item_path_is c id = ap (λ (l : List ℕ). codes "/collections/" ++ l) (append_assoc c (codes "/items/") id)

take_item : (c id : List ℕ) → has_slash c ≡ false → taken_by (route_key Item) (item_path c id) ≡ (codes "c", c) ∷ (codes "id", id) ∷ []
unfolding route_key
take_item c id h =
    let path = item_path c id in
    let pattern = item_pattern in
    let text = codes "/collections/{c}/items/{id}" in
    ap (λ (w : ℕ × ℕ). let r : Taken = (codes "c", part_of path w.1 (wild_stop pattern w.0 path w.1)) ∷ walk pattern text path ((24, 26) ∷ []) (after_token w.0) (wild_stop pattern w.0 path w.1) in r)
    (wild_name (codes "/items/" ++ 256 ∷ []) (length path) (behind_front (c ++ (codes "/items/" ++ id))))
    ∙ ap (λ n. let r : Taken = (codes "c", part_of path 13 n) ∷ walk pattern text path ((24, 26) ∷ []) 14 n in r) (name_stop c (codes "items/" ++ id) h)
    ∙ ap (λ (t : List ℕ). let r : Taken = (codes "c", t) ∷ walk pattern text path ((24, 26) ∷ []) 14 (13 + length c) in r) (part_between (codes "/collections/") c (codes "/items/" ++ id))
    ∙ ap (λ (t : List ℕ). let r : Taken = (codes "c", c) ∷ (codes "id", t) ∷ [] in r) (take_identifier c id)

-- ---- text

-- what stands before a slash is text, and so is what stands behind it
cut_text : (before behind : List ℕ) → IsUtf8 (before ++ 47 ∷ behind) → IsUtf8 before × IsUtf8 behind
cut_text before behind utf8 =
    let bytes = before ++ 47 ∷ behind in
    let is : get_or bytes (length before) 0 ≡ 47 = get_or_at before 47 behind 0 (length before) refl in
    let low : get_or bytes (length before) 0 < 128 = omega (arith, is) in
    let within : length before < length bytes = omega (arith, length-append before (47 ∷ behind)) in
    let front : take (length before) bytes ≡ before = take_at before (47 ∷ behind) (length before) refl in
    let split : bytes ≡ (before ++ 47 ∷ []) ++ behind = sym (append_assoc before (47 ∷ []) behind) in
    let back : drop (length before + 1) bytes ≡ behind = rw split (drop_at (before ++ 47 ∷ []) behind (length before + 1) (length-append before (47 ∷ []))) in (
      subst IsUtf8 front (IsUtf8-take bytes (length before) utf8 (IsCharBoundary-before_ascii bytes (length before) within low)),
      subst IsUtf8 back (IsUtf8-drop bytes (length before + 1) utf8 (IsCharBoundary-after_ascii bytes (length before) utf8 within low)),
    )

below_text : (rest : List ℕ) → IsUtf8 (codes "/collections/" ++ rest) → IsUtf8 rest
below_text rest utf8 = (cut_text (codes "/collections") rest utf8).1

c_text : IsUtf8 (codes "c")
c_text = IsUtf8-from_ascii (codes "c") (IsAscii-cons 99 [] (omega arith) IsAscii-nil)

id_text : IsUtf8 (codes "id")
id_text = IsUtf8-from_ascii (codes "id") (IsAscii-cons 105 (codes "d") (omega arith) (IsAscii-cons 100 [] (omega arith) IsAscii-nil))

-- ---- a path's place is that of its route and of what the parameters took

abbrev pub IsTaken : RouteOf Route → List ℕ → Place (List ℕ) → Type 0
IsTaken key path place =
    AllText (taken_by key path)
    × (place_by key.value (taken (named (codes "c") (taken_by key path))) (taken (named (codes "id") (taken_by key path))) ≡ place)

abbrev Names : Route → Place (List ℕ) → Taken → Type 0
Names r place w = AllText w × (place_by r (taken (named (codes "c") w)) (taken (named (codes "id") w)) ≡ place)

is_taken : (place : Place (List ℕ)) → IsPlace place → IsUtf8 (path_of place) → Names (route_of place) place (taken_by (route_key (route_of place)) (path_of place))
unfolding route_key
is_taken landing is utf8 = (tt, refl)
is_taken collections is utf8 = (tt, refl)
is_taken (collection c) is utf8 = subst (Names Collection (collection c)) (sym (take_collection c)) ((c_text, below_text c utf8, tt), refl)
is_taken (queryables c) is utf8 =
    let text = (cut_text c (codes "queryables") (below_text (c ++ codes "/queryables") utf8)).0 in
    subst (Names Queryables (queryables c)) (sym (take_queryables c (no_slash_of c is.no_slash))) ((c_text, text, tt), refl)
is_taken (items c) is utf8 =
    let text = (cut_text c (codes "items") (below_text (c ++ codes "/items") utf8)).0 in
    subst (Names Items (items c)) (sym (take_items c (no_slash_of c is.no_slash))) ((c_text, text, tt), refl)
is_taken (item c id) is utf8 =
    let whole = item_path_is c id in
    let texts = cut_text c (codes "items/" ++ id) (below_text (c ++ (codes "/items/" ++ id)) (subst IsUtf8 whole utf8)) in
    let names : Names Item (item c id) (taken_by (route_key Item) (item_path c id)) =
    subst (Names Item (item c id)) (sym (take_item c id (no_slash_of c is.0.no_slash))) ((c_text, texts.0, (id_text, (cut_text (codes "items") id texts.1).1, tt)), refl) in
    subst (λ (q : List ℕ). Names Item (item c id) (taken_by (route_key Item) q)) (sym whole) names

pub route_taken : (path : List ℕ) (key : RouteOf Route) → IsUtf8 path → AreBytes path → first route_rows path ≡ Some key → (place : Place (List ℕ)) × (place_of path ≡ Some place) × IsTaken key path place
route_taken path key utf8 bytes e = by_place (place_of path) refl
  where
    by_place : (o : Option (Place (List ℕ))) → place_of path ≡ o → (place : Place (List ℕ)) × (place_of path ≡ Some place) × IsTaken key path place
    by_place None is = absurd (let told : Some key ≡ None = sym e ∙ found_route path bytes ∙ ap (keyed route_key) is in cc)
    by_place (Some place) is =
        let told : Some key ≡ Some (route_key (route_of place)) = sym e ∙ found_route path bytes ∙ ap (keyed route_key) is in
        let same : key ≡ route_key (route_of place) = cc in
        let one = places_have_one_path path place is in
        let names : Names (route_of place) place (taken_by (route_key (route_of place)) path) =
        subst (λ (q : List ℕ). Names (route_of place) place (taken_by (route_key (route_of place)) q)) (sym one.0) (is_taken place one.1 (subst IsUtf8 one.0 utf8)) in
        let keyed_names : IsTaken (route_key (route_of place)) path place =
        subst (λ (r : Route). Names r place (taken_by (route_key (route_of place)) path)) (sym (value_is (route_of place))) names in
        (place, is, subst (λ (k : RouteOf Route). IsTaken k path place) (sym same) keyed_names)

pub route_missing : (path : List ℕ) → AreBytes path → first route_rows path ≡ None → place_of path ≡ None
route_missing path bytes e = by_place (place_of path) refl
  where
    by_place : (o : Option (Place (List ℕ))) → place_of path ≡ o → place_of path ≡ None
    by_place None is = is
    by_place (Some place) is = absurd (let told : None ≡ Some (route_key (route_of place)) = sym e ∙ found_route path bytes ∙ ap (keyed route_key) is in cc)
