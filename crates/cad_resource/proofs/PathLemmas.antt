-- Paths and their segments.
use Rattle.std.proofs.Common.{◌≡◌, ◌≢◌, ℕ, ◌<◌, ◌==◌, cond, List, [], ◌∷◌, ◌++◌, Bool, true, false, All, Option, Some, None, length, codes, refl, sym, ap, subst, ◌∙◌, arith}
use Rattle.std.specs.List.{onto_first}
use Rattle.std.specs.Str.{bytes_eq}
use Rattle.std.proofs.lemmas.Bool.{eqb-false}
use Rattle.std.proofs.lemmas.Bool.Decides.{nat_tests}
use Rattle.std.proofs.lemmas.List.{append_assoc}
use Rattle.std.proofs.lemmas.List.Elements.{All-nil, All-cons, All-head, All-tail}
use Rattle.std.proofs.lemmas.Slice.Eq.{bytes_eq-Decides}
use Rattle.matchit.specs.Seek.{has_slash}
use Rattle.cad_resource.specs.Places.{Place, landing, collections, collection, queryables, items, item, segments, below_queryables, below_items, below_collection, below_collections, below_root, place_at, place_of, path_of}
use Rattle.cad_resource.specs.Laws.{IsSegment, IsPlace, PathsAreReadBack, PlacesHaveOnePath}

-- ---- slashes

pub no_slash_parts : (s r : Bool) → cond s true r ≡ false → (s ≡ false) × (r ≡ false)
no_slash_parts true r h = absurd (let e : true ≡ false = h in cc)
no_slash_parts false r h = (refl, h)

slash_is : (b : ℕ) → (b == 47) ≡ true → 47 ≡ b
slash_is b e = grind (arith, nat_tests)

other_byte : (b : ℕ) → b ≢ 47 → (b == 47) ≡ false
other_byte b other = grind (arith, nat_tests)

-- whatever holds of one segment, and of a segment with a slash and more behind it, holds of every path
pub by_cut : (P : List ℕ → Type 0) → ((s : List ℕ) → has_slash s ≡ false → P s)
    → ((s rest : List ℕ) → has_slash s ≡ false → P (s ++ 47 ∷ rest)) → (q : List ℕ) → P q
by_cut P one more [] = one [] refl
by_cut P one more (b ∷ q) =
    by_byte (b == 47) refl (λ e. by_cut (λ (x : List ℕ). P (b ∷ x)) (λ s h. one (b ∷ s) (rw e h)) (λ s rest h. more (b ∷ s) rest (rw e h)) q)
  where
    by_byte : (t : Bool) → (b == 47) ≡ t → ((b == 47) ≡ false → P (b ∷ q)) → P (b ∷ q)
    by_byte true e go = subst (λ (x : ℕ). P (x ∷ q)) (slash_is b e) (more [] q refl)
    by_byte false e go = go e

-- a path without a slash is one segment
pub segments_one : (s : List ℕ) → has_slash s ≡ false → segments s ≡ s ∷ []
segments_one [] h = refl
segments_one (b ∷ s) h =
    let p = no_slash_parts (b == 47) (has_slash s) h in
    rw p.0 (ap (onto_first b) (segments_one s p.1))

-- a slash ends a segment
pub segments_more : (s rest : List ℕ) → has_slash s ≡ false → segments (s ++ 47 ∷ rest) ≡ s ∷ segments rest
segments_more [] rest h = refl
segments_more (b ∷ s) rest h =
    let p = no_slash_parts (b == 47) (has_slash s) h in
    rw p.0 (ap (onto_first b) (segments_more s rest p.1))

-- there is a first segment
abbrev pub HasFirst : List ℕ → Type 0
HasFirst q = (s : List ℕ) × (others : List (List ℕ)) × (segments q ≡ s ∷ others)

pub first_segment : (q : List ℕ) → HasFirst q
first_segment = by_cut HasFirst (λ s h. (s, [], segments_one s h)) (λ s rest h. (s, segments rest, segments_more s rest h))

pub no_slash_of : (s : List ℕ) → All (λ b. b ≢ 47) s → has_slash s ≡ false
no_slash_of [] all = refl
no_slash_of (b ∷ s) all =
    rw (other_byte b (All-head (λ (b : ℕ). b ≢ 47) b s all)) (no_slash_of s (All-tail (λ (b : ℕ). b ≢ 47) b s all))

all_of : (s : List ℕ) → has_slash s ≡ false → All (λ b. b ≢ 47) s
all_of [] h = All-nil (λ (b : ℕ). b ≢ 47)
all_of (b ∷ s) h =
    let p = no_slash_parts (b == 47) (has_slash s) h in
    All-cons (λ (b : ℕ). b ≢ 47) b s (eqb-false b 47 p.0) (all_of s p.1)

some_byte : (b : ℕ) (s : List ℕ) → 0 < length (b ∷ s)
some_byte b s = omega arith

is_segment : (b : ℕ) (s : List ℕ) → has_slash (b ∷ s) ≡ false → IsSegment (b ∷ s)
is_segment b s h = record { some = some_byte b s; no_slash = all_of (b ∷ s) h }

-- ---- the path of a place names it

no_empty : IsSegment [] → ⊥
no_empty segment = let some : 0 < 0 = segment.some in omega arith

pub paths_are_read_back : PathsAreReadBack
paths_are_read_back landing is = refl
paths_are_read_back collections is = refl
paths_are_read_back (collection []) is = absurd (no_empty is)
paths_are_read_back (collection (b ∷ c)) is = ap below_collections (segments_one (b ∷ c) (no_slash_of (b ∷ c) is.no_slash))
paths_are_read_back (queryables []) is = absurd (no_empty is)
paths_are_read_back (queryables (b ∷ c)) is = ap below_collections (segments_more (b ∷ c) (codes "queryables") (no_slash_of (b ∷ c) is.no_slash))
paths_are_read_back (items []) is = absurd (no_empty is)
paths_are_read_back (items (b ∷ c)) is = ap below_collections (segments_more (b ∷ c) (codes "items") (no_slash_of (b ∷ c) is.no_slash))
paths_are_read_back (item [] id) is = absurd (no_empty is.0)
paths_are_read_back (item (b ∷ c) []) is = absurd (no_empty is.1)
paths_are_read_back (item (b ∷ c) (d ∷ id)) is =
    ap (λ (q : List ℕ). below_collections (segments q)) (append_assoc (b ∷ c) (codes "/items/") (d ∷ id))
    ∙ ap below_collections (segments_more (b ∷ c) (codes "items/" ++ d ∷ id) (no_slash_of (b ∷ c) is.0.no_slash))
    ∙ ap (below_items (b ∷ c)) (segments_one (d ∷ id) (no_slash_of (d ∷ id) is.1.no_slash))

-- ---- nothing but its path names a place

-- the path is that of the place
abbrev Names : List ℕ → Place (List ℕ) → Type 0
Names bytes place = (bytes ≡ path_of place) × IsPlace place

abbrev got : Place (List ℕ) → Option (Place (List ℕ)) → Place (List ℕ)
got other None = other
got other (Some place) = place

some_is : (a b : Place (List ℕ)) → Some a ≡ Some b → a ≡ b
some_is a b e = ap (got a) e

none_is : {A : Type 0} (place : Place (List ℕ)) → None ≡ Some place → A
none_is place e = absurd (let told : None ≡ Some place = e in cc)

in_items : (c q : List ℕ) (place : Place (List ℕ)) → below_items c (segments q) ≡ Some place → (item c q ≡ place) × IsSegment q
in_items c q place = by_cut (λ (q : List ℕ). below_items c (segments q) ≡ Some place → (item c q ≡ place) × IsSegment q) one more q
  where
    one : (s : List ℕ) → has_slash s ≡ false → below_items c (segments s) ≡ Some place → (item c s ≡ place) × IsSegment s
    one [] h e = none_is place e
    one (b ∷ s) h e =
        let found : below_items c ((b ∷ s) ∷ []) ≡ Some place = rw (segments_one (b ∷ s) h) at e in
        (some_is (item c (b ∷ s)) place found, is_segment b s h)

    deeper : (s t : List ℕ) (ts : List (List ℕ)) → below_items c (s ∷ t ∷ ts) ≡ Some place → ⊥
    deeper [] t ts e = none_is place e
    deeper (b ∷ s) t ts e = none_is place e

    more : (s rest : List ℕ) → has_slash s ≡ false → below_items c (segments (s ++ 47 ∷ rest)) ≡ Some place → (item c (s ++ 47 ∷ rest) ≡ place) × IsSegment (s ++ 47 ∷ rest)
    more s rest h e =
        let first = first_segment rest in
        let cut : segments (s ++ 47 ∷ rest) ≡ s ∷ first.0 ∷ first.1 = segments_more s rest h ∙ ap (λ (l : List (List ℕ)). s ∷ l) first.2 in
        absurd (deeper s first.0 first.1 (ap (below_items c) (sym cut) ∙ e))

in_queryables : (c q : List ℕ) (place : Place (List ℕ)) → below_queryables c (segments q) ≡ Some place → ⊥
in_queryables c q place e =
    let first = first_segment q in none_is place (ap (below_queryables c) (sym first.2) ∙ e)

in_collection : (c q : List ℕ) (place : Place (List ℕ)) → IsSegment c → below_collection c (segments q) ≡ Some place → Names (codes "/collections/" ++ (c ++ 47 ∷ q)) place
in_collection c q place is =
    by_cut (λ (q : List ℕ). below_collection c (segments q) ≡ Some place → Names (codes "/collections/" ++ (c ++ 47 ∷ q)) place) one more q
  where
    last_queryables : (s : List ℕ) (t : Bool) → bytes_eq s (codes "queryables") ≡ t → cond t (Some (queryables c)) None ≡ Some place
        → Names (codes "/collections/" ++ (c ++ 47 ∷ s)) place
    last_queryables s true same e =
        subst (Names (codes "/collections/" ++ (c ++ 47 ∷ s))) (some_is (queryables c) place e) (ap (λ (s : List ℕ). codes "/collections/" ++ (c ++ 47 ∷ s)) ((bytes_eq-Decides s (codes "queryables")).0 same), is)
    last_queryables s false same e = none_is place e

    last : (s : List ℕ) (t : Bool) → bytes_eq s (codes "items") ≡ t
        → cond t (Some (items c)) (cond (bytes_eq s (codes "queryables")) (Some (queryables c)) None) ≡ Some place
        → Names (codes "/collections/" ++ (c ++ 47 ∷ s)) place
    last s true same e =
        subst (Names (codes "/collections/" ++ (c ++ 47 ∷ s))) (some_is (items c) place e) (ap (λ (s : List ℕ). codes "/collections/" ++ (c ++ 47 ∷ s)) ((bytes_eq-Decides s (codes "items")).0 same), is)
    last s false same e = last_queryables s (bytes_eq s (codes "queryables")) refl e

    one : (s : List ℕ) → has_slash s ≡ false → below_collection c (segments s) ≡ Some place → Names (codes "/collections/" ++ (c ++ 47 ∷ s)) place
    one s h e = last s (bytes_eq s (codes "items")) refl (ap (below_collection c) (sym (segments_one s h)) ∙ e)

    deeper_queryables : (s rest : List ℕ) (t : Bool) → cond t (below_queryables c (segments rest)) None ≡ Some place → ⊥
    deeper_queryables s rest true e = in_queryables c rest place e
    deeper_queryables s rest false e = none_is place e

    deeper : (s rest : List ℕ) (t : Bool) → bytes_eq s (codes "items") ≡ t
        → cond t (below_items c (segments rest)) (cond (bytes_eq s (codes "queryables")) (below_queryables c (segments rest)) None) ≡ Some place
        → Names (codes "/collections/" ++ (c ++ 47 ∷ (s ++ 47 ∷ rest))) place
    deeper s rest true same e =
        let found = in_items c rest place e in
        subst (Names (codes "/collections/" ++ (c ++ 47 ∷ (s ++ 47 ∷ rest)))) found.0 (
          ap (λ (s : List ℕ). codes "/collections/" ++ (c ++ 47 ∷ (s ++ 47 ∷ rest))) ((bytes_eq-Decides s (codes "items")).0 same)
              ∙ ap (λ (q : List ℕ). codes "/collections/" ++ q) (sym (append_assoc c (codes "/items/") rest)),
          (is, found.1),
        )
    deeper s rest false same e = absurd (deeper_queryables s rest (bytes_eq s (codes "queryables")) e)

    more : (s rest : List ℕ) → has_slash s ≡ false → below_collection c (segments (s ++ 47 ∷ rest)) ≡ Some place
        → Names (codes "/collections/" ++ (c ++ 47 ∷ (s ++ 47 ∷ rest))) place
    more s rest h e = deeper s rest (bytes_eq s (codes "items")) refl (ap (below_collection c) (sym (segments_more s rest h)) ∙ e)

in_collections : (q : List ℕ) (place : Place (List ℕ)) → below_collections (segments q) ≡ Some place → Names (codes "/collections/" ++ q) place
in_collections q place = by_cut (λ (q : List ℕ). below_collections (segments q) ≡ Some place → Names (codes "/collections/" ++ q) place) one more q
  where
    one : (s : List ℕ) → has_slash s ≡ false → below_collections (segments s) ≡ Some place → Names (codes "/collections/" ++ s) place
    one [] h e = none_is place e
    one (b ∷ s) h e =
        let found : below_collections ((b ∷ s) ∷ []) ≡ Some place = ap below_collections (sym (segments_one (b ∷ s) h)) ∙ e in
        subst (Names (codes "/collections/" ++ b ∷ s)) (some_is (collection (b ∷ s)) place found) (refl, is_segment b s h)

    more : (s rest : List ℕ) → has_slash s ≡ false → below_collections (segments (s ++ 47 ∷ rest)) ≡ Some place → Names (codes "/collections/" ++ (s ++ 47 ∷ rest)) place
    more [] rest h e = none_is place e
    more (b ∷ s) rest h e = in_collection (b ∷ s) rest place (is_segment b s h) (ap below_collections (sym (segments_more (b ∷ s) rest h)) ∙ e)

in_root : (q : List ℕ) (place : Place (List ℕ)) → below_root (segments q) ≡ Some place → Names (47 ∷ q) place
in_root q place = by_cut (λ (q : List ℕ). below_root (segments q) ≡ Some place → Names (47 ∷ q) place) one more q
  where
    last : (s : List ℕ) (t : Bool) → bytes_eq s (codes "collections") ≡ t → cond t (Some collections) None ≡ Some place → Names (47 ∷ s) place
    last s true same e =
        subst (Names (47 ∷ s)) (some_is collections place e) (ap (λ (s : List ℕ). 47 ∷ s) ((bytes_eq-Decides s (codes "collections")).0 same), tt)
    last s false same e = none_is place e

    one : (s : List ℕ) → has_slash s ≡ false → below_root (segments s) ≡ Some place → Names (47 ∷ s) place
    one [] h e = subst (Names (47 ∷ [])) (some_is landing place e) (refl, tt)
    one (b ∷ s) h e = last (b ∷ s) (bytes_eq (b ∷ s) (codes "collections")) refl (ap below_root (sym (segments_one (b ∷ s) h)) ∙ e)

    deeper : (s rest : List ℕ) (t : Bool) → bytes_eq s (codes "collections") ≡ t → cond t (below_collections (segments rest)) None ≡ Some place
        → Names (47 ∷ (s ++ 47 ∷ rest)) place
    deeper s rest true same e =
        let found = in_collections rest place e in
        (ap (λ (s : List ℕ). 47 ∷ (s ++ 47 ∷ rest)) ((bytes_eq-Decides s (codes "collections")).0 same) ∙ found.0, found.1)
    deeper s rest false same e = none_is place e

    more : (s rest : List ℕ) → has_slash s ≡ false → below_root (segments (s ++ 47 ∷ rest)) ≡ Some place → Names (47 ∷ (s ++ 47 ∷ rest)) place
    more [] rest h e =
        let first = first_segment rest in
        none_is place (ap (λ (l : List (List ℕ)). below_root ([] ∷ l)) (sym first.2) ∙ e)
    more (b ∷ s) rest h e = deeper (b ∷ s) rest (bytes_eq (b ∷ s) (codes "collections")) refl (ap below_root (sym (segments_more (b ∷ s) rest h)) ∙ e)

pub places_have_one_path : PlacesHaveOnePath
places_have_one_path [] place e = none_is place e
places_have_one_path (b ∷ q) place e = by_byte (b == 47) refl e
  where
    by_byte : (t : Bool) → (b == 47) ≡ t → place_of (b ∷ q) ≡ Some place → Names (b ∷ q) place
    by_byte true same e =
        subst (λ (x : ℕ). Names (x ∷ q) place) (slash_is b same) (in_root q place (subst (λ (x : ℕ). place_of (x ∷ q) ≡ Some place) (sym (slash_is b same)) e))
    by_byte false other e =
        let first = first_segment q in
        let cut : segments (b ∷ q) ≡ (b ∷ first.0) ∷ first.1 = rw other (ap (onto_first b) first.2) in
        none_is place (ap place_at (sym cut) ∙ e)
