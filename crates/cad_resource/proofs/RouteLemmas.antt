-- What a router finds that has the routes of the server.
use Rattle.std.proofs.Common.{◌≡◌, ℕ, zero, suc, ◌+◌, ◌-◌, ◌<◌, ◌==◌, ◌&&◌, nat_eq, nat_lt, ltb, cond, List, [], ◌∷◌, ◌++◌, Bool, true, false, Option, Some, None, option_map, length, drop, get_or, codes, refl, sym, ap, subst, ◌∙◌, arith, length-append, append-nil}
use Rattle.std.specs.Cmp.Lexicographic.{pointwise}
use Rattle.std.specs.List.{onto_first}
use Rattle.std.specs.Str.{bytes_eq}
use Rattle.std.proofs.lemmas.Slice.Eq.{bytes_eq-Decides}
use Rattle.std.proofs.Math.Seq.{drop-append_seam}
use Rattle.std.proofs.lemmas.Bool.{and_parts}
use Rattle.std.proofs.lemmas.Bool.Decides.{nat_tests}
use Rattle.matchit.specs.Rows.{RowsOf}
use Rattle.matchit.specs.Router.{RouteOf}
use Rattle.matchit.proofs.OnLiterals.{matchit_on_literals}
use Rattle.matchit.specs.Seek.{segment, has_slash, own, step, or_else, seek, param_step, first, cuts, longest_suffix}
use Rattle.cad_resource.specs.declared.route.Route.{Route}
use Rattle.cad_resource.specs.declared.route.Route.TheVariants.{Landing, Collections, Collection, Queryables, Items, Item}
use Rattle.cad_resource.specs.Places.{Place, collections, queryables, items, segments, below_queryables, below_items, below_collection, below_collections, below_root, place_at, place_of}
use Rattle.cad_resource.specs.RouteRows.{route_of, route_rows}
use Rattle.cad_resource.proofs.PathLemmas.{no_slash_parts, by_cut, segments_one, segments_more, first_segment}

-- ---- rows

-- the rows with one more byte in front
abbrev pub pre : {K : Type 0} → ℕ → RowsOf K → RowsOf K
pre x [] = []
pre x ((t, key) ∷ rest) = (x ∷ t, key) ∷ pre x rest

-- the rows with a text in front
abbrev pub pre_all : {K : Type 0} → List ℕ → RowsOf K → RowsOf K
pre_all [] rs = rs
pre_all (x ∷ text) rs = pre x (pre_all text rs)

-- the rows, and a route that ends here
abbrev pub with_end : {K : Type 0} → RowsOf K → K → RowsOf K
with_end rs key = rs ++ ([], key) ∷ []

or_else_none : {K : Type 0} (o : Option K) → or_else o None ≡ o
or_else_none None = refl
or_else_none (Some k) = refl

param_step_none : {K : Type 0} (path : List ℕ) → (param_step {K = K} [] path).1 ≡ []
unfolding param_step
param_step_none {K} path = elim (has_slash path) as (λ s. (cond s (0, []) (let r : ℕ × RowsOf K = (length path, []) in r)).1 ≡ []) [ true ↦ refl | false ↦ refl ]

-- with no routes nothing is found
seek_none : {K : Type 0} (n : ℕ) (path : List ℕ) → seek {K = K} n [] path ≡ None
unfolding seek
seek_none {K} n [] = refl
seek_none {K} (suc n) (b ∷ path) = seek_none {K = K} n path
seek_none {K} zero (b ∷ path) =
    rw (seek_none {K = K} 0 path, param_step_none {K = K} (b ∷ path), seek_none {K = K} ((param_step {K = K} [] (b ∷ path)).0 - 1) path) refl

step_same : {K : Type 0} (x b : ℕ) (rs : RowsOf K) → (x == b) ≡ true → step b (pre x rs) ≡ rs
step_same x b [] e = refl
step_same x b ((t, key) ∷ rest) e = rw (e, step_same x b rest e) refl

step_other : {K : Type 0} (x b : ℕ) (rs : RowsOf K) → (x == b) ≡ false → step b (pre x rs) ≡ []
step_other x b [] e = refl
step_other x b ((t, key) ∷ rest) e = rw (e, step_other x b rest e) refl

step-append : {K : Type 0} (b : ℕ) (rs others : RowsOf K) → step b (rs ++ others) ≡ step b rs ++ step b others
step-append b [] others = refl
step-append b (([], k) ∷ rest) others = step-append b rest others
step-append {K} b ((x ∷ t, k) ∷ rest) others =
    elim (x == b) as (λ s. cond s ((t, k) ∷ step b (rest ++ others)) (step b (rest ++ others)) ≡ cond s ((t, k) ∷ step b rest) (step b rest) ++ step b others) [
      | true ↦ ap (λ (r : RowsOf K). (t, k) ∷ r) (step-append b rest others)
      | false ↦ step-append b rest others
    ]

step-with_end : {K : Type 0} (b : ℕ) (rs : RowsOf K) (key : K) → step b (with_end rs key) ≡ step b rs
step-with_end b rs key = step-append b rs (([], key) ∷ []) ∙ append-nil (step b rs)

-- a route that ends here is not found by more bytes
seek-with_end : {K : Type 0} (rs : RowsOf K) (key : K) (b : ℕ) (path : List ℕ) → seek 0 (with_end rs key) (b ∷ path) ≡ seek 0 rs (b ∷ path)
unfolding seek
seek-with_end rs key b path = rw (step-with_end b rs key, step-with_end 256 rs key, step-with_end 257 rs key) refl

-- ---- bytes

-- a byte that goes on
seek_byte : {K : Type 0} (x b : ℕ) (rs : RowsOf K) (path : List ℕ) → (x == 256) ≡ false → (x == 257) ≡ false → (x == b) ≡ true
    → seek 0 (pre x rs) (b ∷ path) ≡ seek 0 rs path
unfolding seek
seek_byte {K} x b rs path p q e =
    rw (step_same x b rs e, step_other x 256 rs p, step_other x 257 rs q, param_step_none {K = K} (b ∷ path), seek_none {K = K} ((param_step {K = K} [] (b ∷ path)).0 - 1) path)
    (or_else_none (seek 0 rs path))

-- a byte that does not
seek_other : {K : Type 0} (x b : ℕ) (rs : RowsOf K) (path : List ℕ) → (x == 256) ≡ false → (x == 257) ≡ false → (x == b) ≡ false
    → seek 0 (pre x rs) (b ∷ path) ≡ None
unfolding seek
seek_other {K} x b rs path p q e =
    rw (step_other x b rs e, step_other x 256 rs p, step_other x 257 rs q, seek_none {K = K} 0 path, param_step_none {K = K} (b ∷ path), seek_none {K = K} ((param_step {K = K} [] (b ∷ path)).0 - 1) path)
    refl

-- no route ends before its first byte
seek_early : {K : Type 0} (x : ℕ) (rs : RowsOf K) → seek 0 (pre x rs) [] ≡ None
unfolding seek
seek_early x [] = refl
seek_early x ((t, key) ∷ rest) = seek_early x rest

-- rows with other first bytes do not end here either
own_early : {K : Type 0} (rs others : RowsOf K) → seek 0 (pre 105 rs ++ pre 113 others) [] ≡ None
unfolding seek
own_early [] others = seek_early 113 others
own_early ((t, key) ∷ rest) others = own_early rest others

-- two groups of rows with other first bytes: no parameter and no catch-all is among them
step_both : {K : Type 0} (x : ℕ) (a c : RowsOf K) → (105 == x) ≡ false → (113 == x) ≡ false → step x (pre 105 a ++ pre 113 c) ≡ []
step_both x a c p q = step-append x (pre 105 a) (pre 113 c) ∙ rw (step_other 105 x a p, step_other 113 x c q) refl

seek_stepped : {K : Type 0} (a c : RowsOf K) (b : ℕ) (path : List ℕ) → seek 0 (pre 105 a ++ pre 113 c) (b ∷ path) ≡ seek 0 (step b (pre 105 a ++ pre 113 c)) path
unfolding seek
seek_stepped {K} a c b path =
    rw (step_both 256 a c refl refl, step_both 257 a c refl refl, param_step_none {K = K} (b ∷ path), seek_none {K = K} ((param_step {K = K} [] (b ∷ path)).0 - 1) path)
    (or_else_none (seek 0 (step b (pre 105 a ++ pre 113 c)) path))

not_both : (b : ℕ) → (105 == b) ≡ true → (113 == b) ≡ false
not_both b e = grind (arith, nat_tests)

-- what is found is found in one of them
seek_either : {K : Type 0} (a c : RowsOf K) (path : List ℕ)
    → seek 0 (pre 105 a ++ pre 113 c) path ≡ or_else (seek 0 (pre 105 a) path) (seek 0 (pre 113 c) path)
seek_either {K} a c [] = own_early a c ∙ sym (rw (seek_early {K = K} 105 a, seek_early {K = K} 113 c) refl)
seek_either {K} a c (b ∷ path) = seek_stepped a c b path ∙ by_byte (105 == b) (113 == b) refl refl
  where
    by_other : (t : Bool) → (105 == b) ≡ false → (113 == b) ≡ t
        → seek 0 (step b (pre 105 a ++ pre 113 c)) path ≡ or_else (seek 0 (pre 105 a) (b ∷ path)) (seek 0 (pre 113 c) (b ∷ path))
    by_other true p q =
        let stepped : step b (pre 105 a ++ pre 113 c) ≡ c = step-append b (pre 105 a) (pre 113 c) ∙ rw (step_other 105 b a p, step_same 113 b c q) refl in
        ap (λ (rs : RowsOf K). seek 0 rs path) stepped
        ∙ sym (rw (seek_other 105 b a path refl refl p, seek_byte 113 b c path refl refl q) refl)
    by_other false p q =
        ap (λ (rs : RowsOf K). seek 0 rs path) (step_both b a c p q) ∙ seek_none {K = K} 0 path
        ∙ sym (rw (seek_other 105 b a path refl refl p, seek_other 113 b c path refl refl q) refl)

    by_byte : (s t : Bool) → (105 == b) ≡ s → (113 == b) ≡ t
        → seek 0 (step b (pre 105 a ++ pre 113 c)) path ≡ or_else (seek 0 (pre 105 a) (b ∷ path)) (seek 0 (pre 113 c) (b ∷ path))
    by_byte true t p q =
        let stepped : step b (pre 105 a ++ pre 113 c) ≡ a = step-append b (pre 105 a) (pre 113 c) ∙ rw (step_same 105 b a p, step_other 113 b c (not_both b p)) (append-nil a) in
        ap (λ (rs : RowsOf K). seek 0 rs path) stepped
        ∙ sym (rw (seek_byte 105 b a path refl refl p, seek_other 113 b c path refl refl (not_both b p)) (or_else_none (seek 0 a path)))
    by_byte false t p q = by_other t p q

-- ---- segments

-- each byte is ASCII and no slash
abbrev is_word : List ℕ → Bool
is_word [] = true
is_word (x ∷ text) = (nat_lt x 128 && nat_lt 47 x) && is_word text

no_param : (x : ℕ) → nat_lt x 128 ≡ true → (x == 256) ≡ false
no_param x l = grind (arith, nat_tests)

no_catch_all : (x : ℕ) → nat_lt x 128 ≡ true → (x == 257) ≡ false
no_catch_all x l = grind (arith, nat_tests)

no_slash_byte : (x : ℕ) → nat_lt 47 x ≡ true → (x == 47) ≡ false
no_slash_byte x l = grind (arith, nat_tests)

same_turned : (x b : ℕ) → (x == b) ≡ true → nat_eq b x ≡ true
same_turned x b e = grind (arith, nat_tests)

other_turned : (x b : ℕ) → (x == b) ≡ false → nat_eq b x ≡ false
other_turned x b e = grind (arith, nat_tests)

slash_turned : (b : ℕ) → (b == 47) ≡ false → (47 == b) ≡ false
slash_turned b e = grind (arith, nat_tests)

slash_same : (b : ℕ) → (b == 47) ≡ true → (47 == b) ≡ true
slash_same b e = grind (arith, nat_tests)

-- behind these rows a segment has ended
abbrev IsBoundary : {K : Type 0} → RowsOf K → Type 0
IsBoundary rs = (b : ℕ) (path : List ℕ) → (b == 47) ≡ false → seek 0 rs (b ∷ path) ≡ None

-- behind the segment is the end or a slash
abbrev EndsSegment : List ℕ → Type 0
EndsSegment [] = Unit {0}
EndsSegment (b ∷ path) = b ≡ 47

-- a segment of a route is found by its own text alone
segment_found : {K : Type 0} (text : List ℕ) (rs : RowsOf K) (s tail : List ℕ) → is_word text ≡ true → IsBoundary rs → has_slash s ≡ false → EndsSegment tail
    → seek 0 (pre_all text rs) (s ++ tail) ≡ cond (bytes_eq s text) (seek 0 rs tail) None
segment_found [] rs [] tail w boundary h ends = refl
segment_found [] rs (b ∷ s) tail w boundary h ends = boundary b (s ++ tail) (no_slash_parts (b == 47) (has_slash s) h).0
segment_found (x ∷ text) rs [] [] w boundary h ends = seek_early x (pre_all text rs)
segment_found (x ∷ text) rs [] (b ∷ tail) w boundary h ends =
    let both = and_parts (nat_lt x 128 && nat_lt 47 x) (is_word text) w in
    let byte = and_parts (nat_lt x 128) (nat_lt 47 x) both.0 in
    let other : (x == b) ≡ false = subst (λ (c : ℕ). (x == c) ≡ false) (sym ends) (no_slash_byte x byte.1) in
    seek_other x b (pre_all text rs) tail (no_param x byte.0) (no_catch_all x byte.0) other
segment_found {K} (x ∷ text) rs (b ∷ s) tail w boundary h ends =
    let both = and_parts (nat_lt x 128 && nat_lt 47 x) (is_word text) w in
    let byte = and_parts (nat_lt x 128) (nat_lt 47 x) both.0 in
    by_byte (x == b) refl (no_param x byte.0) (no_catch_all x byte.0) (segment_found text rs s tail both.1 boundary (no_slash_parts (b == 47) (has_slash s) h).1 ends)
  where
    by_byte : (t : Bool) → (x == b) ≡ t → (x == 256) ≡ false → (x == 257) ≡ false
        → seek 0 (pre_all text rs) (s ++ tail) ≡ cond (bytes_eq s text) (seek 0 rs tail) None
        → seek 0 (pre x (pre_all text rs)) (b ∷ (s ++ tail)) ≡ cond (bytes_eq (b ∷ s) (x ∷ text)) (seek 0 rs tail) None
    by_byte true e p q ih = seek_byte x b (pre_all text rs) (s ++ tail) p q e ∙ ih ∙ sym (rw (same_turned x b e) refl)
    by_byte false e p q ih = seek_other x b (pre_all text rs) (s ++ tail) p q e ∙ sym (rw (other_turned x b e) refl)

end_boundary : {K : Type 0} (key : K) → IsBoundary (([], key) ∷ [])
unfolding seek
end_boundary {K} key b path e =
    rw (seek_none {K = K} 0 path, param_step_none {K = K} (b ∷ path), seek_none {K = K} ((param_step {K = K} [] (b ∷ path)).0 - 1) path) refl

slash_boundary : {K : Type 0} (rs : RowsOf K) (key : K) → IsBoundary (with_end (pre 47 rs) key)
slash_boundary rs key b path e = seek-with_end (pre 47 rs) key b path ∙ seek_other 47 b rs path refl refl (slash_turned b e)

-- ---- parameters

cond_false : {A : Type 0} (b : Bool) (x y : A) → b ≡ false → cond b x y ≡ y
cond_false b x y e = rw e refl

-- the segment of a name that a slash ends
pub segment_cut : (c more : List ℕ) → has_slash c ≡ false → segment (c ++ 47 ∷ more) ≡ c ++ 47 ∷ []
segment_cut [] more h = refl
segment_cut (b ∷ c) more h =
    let p = no_slash_parts (b == 47) (has_slash c) h in
    cond_false (b == 47) (b ∷ []) (b ∷ segment (c ++ 47 ∷ more)) p.0 ∙ ap (λ (s : List ℕ). b ∷ s) (segment_cut c more p.1)

segment_all : (c : List ℕ) → has_slash c ≡ false → segment c ≡ c
segment_all [] h = refl
segment_all (b ∷ c) h =
    let p = no_slash_parts (b == 47) (has_slash c) h in
    cond_false (b == 47) (b ∷ []) (b ∷ segment c) p.0 ∙ ap (λ (s : List ℕ). b ∷ s) (segment_all c p.1)

back_one : (b : ℕ) (c : List ℕ) → length ((b ∷ c) ++ 47 ∷ []) - 1 ≡ length (b ∷ c)
back_one b c = let long : length ((b ∷ c) ++ 47 ∷ []) ≡ length (b ∷ c) + 1 = length-append (b ∷ c) (47 ∷ []) in omega arith

and_true : (x y : Bool) → x ≡ true → y ≡ true → (x && y) ≡ true
and_true x y p q = rw (p, q) refl

and_false : (x y : Bool) → y ≡ false → (x && y) ≡ false
and_false true y q = q
and_false false y q = refl

-- that name, with its slash, ends in the slash
cuts_there : (b : ℕ) (c : List ℕ) → cuts ((b ∷ c) ++ 47 ∷ []) (47 ∷ []) ≡ true
cuts_there b c =
    let seg : List ℕ = (b ∷ c) ++ 47 ∷ [] in
    let long : length seg ≡ length (b ∷ c) + 1 = length-append (b ∷ c) (47 ∷ []) in
    let some : ltb 1 (length seg) ≡ true = grind (arith, nat_tests) in
    and_true _ _ some (ap (λ n. pointwise nat_eq (47 ∷ []) (drop n seg)) (back_one b c) ∙ ap (λ (d : List ℕ). pointwise nat_eq (47 ∷ []) d) (drop-append_seam (b ∷ c) (47 ∷ [])))

-- a name without a slash does not end in one
no_slash_drop : (n : ℕ) (c : List ℕ) → has_slash c ≡ false → has_slash (drop n c) ≡ false
no_slash_drop zero c h = h
no_slash_drop (suc n) [] h = h
no_slash_drop (suc n) (b ∷ c) h = no_slash_drop n c (no_slash_parts (b == 47) (has_slash c) h).1

not_slash : (x : ℕ) → (x == 47) ≡ false → nat_eq 47 x ≡ false
not_slash x e = grind (arith, nat_tests)

no_slash_last : (d : List ℕ) → has_slash d ≡ false → pointwise nat_eq (47 ∷ []) d ≡ false
no_slash_last [] h = refl
no_slash_last (x ∷ d) h = rw (not_slash x (no_slash_parts (x == 47) (has_slash d) h).0) refl

cuts_none : (c : List ℕ) → has_slash c ≡ false → cuts c (47 ∷ []) ≡ false
cuts_none c h = and_false (ltb 1 (length c)) _ (no_slash_last (drop (length c - 1) c) (no_slash_drop (length c - 1) c h))

-- passing a name
seek_skip : {K : Type 0} (rs : RowsOf K) (c q : List ℕ) → seek (length c) rs (c ++ q) ≡ seek 0 rs q
unfolding seek
seek_skip rs [] q = refl
seek_skip rs (b ∷ c) q = seek_skip rs c q

seek_skip_all : {K : Type 0} (rs : RowsOf K) (c : List ℕ) → seek (length c) rs c ≡ own rs
unfolding seek
seek_skip_all rs [] = refl
seek_skip_all rs (b ∷ c) = seek_skip_all rs c

one_less : (n : ℕ) → suc n - 1 ≡ n
one_less n = omega arith

-- a parameter at the front
at_param : {K : Type 0} (rs : RowsOf K) (b : ℕ) (path : List ℕ) → (256 == b) ≡ false
    → seek 0 (pre 256 rs) (b ∷ path) ≡ seek ((param_step rs (b ∷ path)).0 - 1) (param_step rs (b ∷ path)).1 path
unfolding seek
at_param {K} rs b path e =
    rw (step_other 256 b rs e, step_same 256 256 rs refl, step_other 256 257 rs refl, seek_none {K = K} 0 path) (or_else_none _)

-- each is a byte
abbrev pub AreBytes : List ℕ → Type 0
AreBytes path = (i : ℕ) → get_or path i 0 < 256

no_param_byte : (b : ℕ) → b < 256 → (256 == b) ≡ false
no_param_byte b small = grind (arith, nat_tests)

bytes_behind : (s rest : List ℕ) → AreBytes (s ++ 47 ∷ rest) → AreBytes rest
bytes_behind [] rest bytes = λ i. bytes (suc i)
bytes_behind (b ∷ s) rest bytes = bytes_behind s rest (λ i. bytes (suc i))

slash_inside : (s rest : List ℕ) → has_slash (s ++ 47 ∷ rest) ≡ true
slash_inside [] rest = refl
slash_inside (b ∷ s) rest = elim (b == 47) as (λ t. cond t true (has_slash (s ++ 47 ∷ rest)) ≡ true) [ true ↦ refl | false ↦ slash_inside s rest ]

-- a route that ended
seek_past : {K : Type 0} (key : K) (b : ℕ) (path : List ℕ) → seek 0 (([], key) ∷ []) (b ∷ path) ≡ None
unfolding seek
seek_past {K} key b path =
    rw (seek_none {K = K} 0 path, param_step_none {K = K} (b ∷ path), seek_none {K = K} ((param_step {K = K} [] (b ∷ path)).0 - 1) path) refl

-- a segment has one of two names
one_name : (s : List ℕ) → bytes_eq s (codes "items") ≡ true → bytes_eq s (codes "queryables") ≡ false
one_name s same = subst (λ (s : List ℕ). bytes_eq s (codes "queryables") ≡ false) (sym ((bytes_eq-Decides s (codes "items")).0 same)) refl

-- ---- the routes

module _ {K : Type 0} (key : Route → K) where
  -- behind `/items/`
  abbrev item_rows : RowsOf K
  item_rows = ([], key Item) ∷ []

  -- behind `/items`
  abbrev items_rows : RowsOf K
  items_rows = with_end (pre 47 (pre 256 item_rows)) (key Items)

  -- behind `/queryables`
  abbrev queryables_rows : RowsOf K
  queryables_rows = ([], key Queryables) ∷ []

  -- behind a collection's name and a slash
  abbrev below_rows : RowsOf K
  below_rows = pre_all (codes "items") items_rows ++ pre_all (codes "queryables") queryables_rows

  -- behind a collection's name
  abbrev named_rows : RowsOf K
  named_rows = with_end (pre 47 below_rows) (key Collection)

  -- behind `collections`
  abbrev collections_rows : RowsOf K
  collections_rows = with_end (pre 47 (pre 256 named_rows)) (key Collections)

  -- behind the first slash
  abbrev root_rows : RowsOf K
  root_rows = with_end (pre_all (codes "collections") collections_rows) (key Landing)

  -- all routes
  abbrev pub all_rows : RowsOf K
  all_rows = pre 47 root_rows

  -- what is found for a place
  abbrev pub keyed : Option (Place (List ℕ)) → Option K
  keyed o = option_map (λ place. key (route_of place)) o

  longest_cut : (seg : List ℕ) → cuts seg (47 ∷ []) ≡ true → longest_suffix seg named_rows ≡ 47 ∷ []
  longest_cut seg e = rw e refl

  longest_none : (seg : List ℕ) → cuts seg (47 ∷ []) ≡ false → longest_suffix seg named_rows ≡ []
  longest_none seg e = rw e refl

  step_cut : (b : ℕ) (c more : List ℕ) → has_slash (b ∷ c) ≡ false → param_step named_rows ((b ∷ c) ++ 47 ∷ more) ≡ (length (b ∷ c), pre 47 below_rows)
  unfolding param_step
  step_cut b c more h =
      rw (segment_cut (b ∷ c) more h, longest_cut _ (cuts_there b c)) (ap (λ n. let r : ℕ × RowsOf K = (n, pre 47 below_rows) in r) (back_one b c))

  step_all : (b : ℕ) (c : List ℕ) → has_slash (b ∷ c) ≡ false → param_step named_rows (b ∷ c) ≡ (length (b ∷ c), named_rows)
  unfolding param_step
  step_all b c h = rw (segment_all (b ∷ c) h, longest_none _ (cuts_none (b ∷ c) h), h) refl

  -- a name and a slash lead below the collection
  after_name : (b : ℕ) (c more : List ℕ) → (256 == b) ≡ false → has_slash (b ∷ c) ≡ false
      → seek 0 (pre 256 named_rows) ((b ∷ c) ++ 47 ∷ more) ≡ seek 0 below_rows more
  after_name b c more e h =
      at_param named_rows b (c ++ 47 ∷ more) e ∙ ap (λ (q : ℕ × RowsOf K). seek (q.0 - 1) q.1 (c ++ 47 ∷ more)) (step_cut b c more h)
      ∙ ap (λ n. seek n (pre 47 below_rows) (c ++ 47 ∷ more)) (one_less (length c)) ∙ seek_skip (pre 47 below_rows) c (47 ∷ more)
      ∙ seek_byte 47 47 below_rows more refl refl refl

  -- a name alone is the collection
  name_alone : (b : ℕ) (c : List ℕ) → (256 == b) ≡ false → has_slash (b ∷ c) ≡ false → seek 0 (pre 256 named_rows) (b ∷ c) ≡ Some (key Collection)
  name_alone b c e h =
      at_param named_rows b c e ∙ ap (λ (q : ℕ × RowsOf K). seek (q.0 - 1) q.1 c) (step_all b c h)
      ∙ ap (λ n. seek n named_rows c) (one_less (length c)) ∙ seek_skip_all named_rows c

  step_gone : (more : List ℕ) → seek ((param_step named_rows (47 ∷ more)).0 - 1) (param_step named_rows (47 ∷ more)).1 more ≡ None
  unfolding param_step
  step_gone more = seek_none {K = K} (0 - 1) more

  -- no name, no route
  name_missing : (more : List ℕ) → seek 0 (pre 256 named_rows) (47 ∷ more) ≡ None
  name_missing more = at_param named_rows 47 more refl ∙ step_gone more

  item_step : (s : Bool) (path : List ℕ) → has_slash path ≡ s → param_step item_rows path ≡ cond s (0, []) (length path, item_rows)
  unfolding param_step
  item_step s path h = ap (λ (t : Bool). cond t (let r : ℕ × RowsOf K = (0, []) in r) (length path, item_rows)) h

  -- an identifier without a slash is a feature's
  item_found : (b : ℕ) (id : List ℕ) → (256 == b) ≡ false → has_slash (b ∷ id) ≡ false → seek 0 (pre 256 item_rows) (b ∷ id) ≡ Some (key Item)
  item_found b id e h =
      at_param item_rows b id e ∙ ap (λ (q : ℕ × RowsOf K). seek (q.0 - 1) q.1 id) (item_step false (b ∷ id) h)
      ∙ ap (λ n. seek n item_rows id) (one_less (length id)) ∙ seek_skip_all item_rows id

  item_gone : (b : ℕ) (id : List ℕ) → (256 == b) ≡ false → has_slash (b ∷ id) ≡ true → seek 0 (pre 256 item_rows) (b ∷ id) ≡ None
  item_gone b id e h =
      at_param item_rows b id e ∙ ap (λ (q : ℕ × RowsOf K). seek (q.0 - 1) q.1 id) (item_step true (b ∷ id) h)
      ∙ seek_none {K = K} (0 - 1) id

  -- what follows the identifier of a feature
  found_in_items : (c q : List ℕ) → AreBytes q → seek 0 (pre 256 item_rows) q ≡ keyed (below_items c (segments q))
  found_in_items c =
      by_cut (λ (q : List ℕ). AreBytes q → seek 0 (pre 256 item_rows) q ≡ keyed (below_items c (segments q))) one more
    where
      one : (s : List ℕ) → has_slash s ≡ false → AreBytes s → seek 0 (pre 256 item_rows) s ≡ keyed (below_items c (segments s))
      one [] h bytes = seek_early 256 item_rows
      one (b ∷ s) h bytes =
          item_found b s (no_param_byte b (bytes 0)) h ∙ ap (λ (l : List (List ℕ)). keyed (below_items c l)) (sym (segments_one (b ∷ s) h))

      deeper : (b : ℕ) (s rest : List ℕ) → has_slash (b ∷ s) ≡ false → None ≡ keyed (below_items c (segments ((b ∷ s) ++ 47 ∷ rest)))
      deeper b s rest h =
          let first = first_segment rest in
          let cut : segments ((b ∷ s) ++ 47 ∷ rest) ≡ (b ∷ s) ∷ first.0 ∷ first.1 =
          segments_more (b ∷ s) rest h ∙ ap (λ (l : List (List ℕ)). (b ∷ s) ∷ l) first.2 in
          ap (λ (l : List (List ℕ)). keyed (below_items c l)) (sym cut)

      more : (s rest : List ℕ) → has_slash s ≡ false → AreBytes (s ++ 47 ∷ rest) → seek 0 (pre 256 item_rows) (s ++ 47 ∷ rest) ≡ keyed (below_items c (segments (s ++ 47 ∷ rest)))
      more [] rest h bytes = item_gone 47 rest refl refl
      more (b ∷ s) rest h bytes = item_gone b (s ++ 47 ∷ rest) (no_param_byte b (bytes 0)) (slash_inside (b ∷ s) rest) ∙ deeper b s rest h

  -- the two names below a collection
  grouped : (s tail : List ℕ) → has_slash s ≡ false → EndsSegment tail
      → seek 0 below_rows (s ++ tail) ≡ or_else (cond (bytes_eq s (codes "items")) (seek 0 items_rows tail) None) (cond (bytes_eq s (codes "queryables")) (seek 0 queryables_rows tail) None)
  grouped s tail h ends =
      seek_either (pre_all (codes "tems") items_rows) (pre_all (codes "ueryables") queryables_rows) (s ++ tail)
      ∙ ap (λ (o : Option K). or_else o (seek 0 (pre_all (codes "queryables") queryables_rows) (s ++ tail)))
      (segment_found (codes "items") items_rows s tail refl (slash_boundary (pre 256 item_rows) (key Items)) h ends)
      ∙ ap (λ (o : Option K). or_else (cond (bytes_eq s (codes "items")) (seek 0 items_rows tail) None) o)
      (segment_found (codes "queryables") queryables_rows s tail refl (end_boundary (key Queryables)) h ends)

  chosen : (t u : Bool) (a b : Option K) (x y : Option (Place (List ℕ))) → (t ≡ true → u ≡ false) → a ≡ keyed x → b ≡ keyed y
      → or_else (cond t a None) (cond u b None) ≡ keyed (cond t x (cond u y None))
  chosen true true a b x y one p q = absurd (let told : true ≡ false = one refl in cc)
  chosen true false a b x y one p q = or_else_none a ∙ p
  chosen false true a b x y one p q = q
  chosen false false a b x y one p q = refl

  items_here : seek 0 items_rows [] ≡ Some (key Items)
  unfolding seek
  items_here = refl

  queryables_here : seek 0 queryables_rows [] ≡ Some (key Queryables)
  unfolding seek
  queryables_here = refl

  items_further : (rest : List ℕ) → seek 0 items_rows (47 ∷ rest) ≡ seek 0 (pre 256 item_rows) rest
  items_further rest = seek-with_end (pre 47 (pre 256 item_rows)) (key Items) 47 rest ∙ seek_byte 47 47 (pre 256 item_rows) rest refl refl refl

  -- below a collection
  found_below : (c q : List ℕ) → AreBytes q → seek 0 below_rows q ≡ keyed (below_collection c (segments q))
  found_below c = by_cut (λ (q : List ℕ). AreBytes q → seek 0 below_rows q ≡ keyed (below_collection c (segments q))) one more
    where
      one : (s : List ℕ) → has_slash s ≡ false → AreBytes s → seek 0 below_rows s ≡ keyed (below_collection c (segments s))
      one s h bytes =
          ap (seek 0 below_rows) (sym (append-nil s)) ∙ grouped s [] h tt
          ∙ chosen (bytes_eq s (codes "items")) (bytes_eq s (codes "queryables")) (seek 0 items_rows []) (seek 0 queryables_rows []) (Some (items c)) (Some (queryables c)) (one_name s) items_here queryables_here
          ∙ ap (λ (l : List (List ℕ)). keyed (below_collection c l)) (sym (segments_one s h))

      past : (rest : List ℕ) → seek 0 queryables_rows (47 ∷ rest) ≡ keyed (below_queryables c (segments rest))
      past rest =
          let first = first_segment rest in
          seek_past (key Queryables) 47 rest ∙ ap (λ (l : List (List ℕ)). keyed (below_queryables c l)) (sym first.2)

      more : (s rest : List ℕ) → has_slash s ≡ false → AreBytes (s ++ 47 ∷ rest) → seek 0 below_rows (s ++ 47 ∷ rest) ≡ keyed (below_collection c (segments (s ++ 47 ∷ rest)))
      more s rest h bytes =
          grouped s (47 ∷ rest) h refl
          ∙ chosen (bytes_eq s (codes "items")) (bytes_eq s (codes "queryables")) (seek 0 items_rows (47 ∷ rest)) (seek 0 queryables_rows (47 ∷ rest)) (below_items c (segments rest)) (below_queryables c (segments rest)) (one_name s)
          (items_further rest ∙ found_in_items c rest (bytes_behind s rest bytes)) (past rest)
          ∙ ap (λ (l : List (List ℕ)). keyed (below_collection c l)) (sym (segments_more s rest h))

  -- below the collections
  found_named : (q : List ℕ) → AreBytes q → seek 0 (pre 256 named_rows) q ≡ keyed (below_collections (segments q))
  found_named = by_cut (λ (q : List ℕ). AreBytes q → seek 0 (pre 256 named_rows) q ≡ keyed (below_collections (segments q))) one more
    where
      one : (s : List ℕ) → has_slash s ≡ false → AreBytes s → seek 0 (pre 256 named_rows) s ≡ keyed (below_collections (segments s))
      one [] h bytes = seek_early 256 named_rows
      one (b ∷ s) h bytes =
          name_alone b s (no_param_byte b (bytes 0)) h ∙ ap (λ (l : List (List ℕ)). keyed (below_collections l)) (sym (segments_one (b ∷ s) h))

      more : (s rest : List ℕ) → has_slash s ≡ false → AreBytes (s ++ 47 ∷ rest) → seek 0 (pre 256 named_rows) (s ++ 47 ∷ rest) ≡ keyed (below_collections (segments (s ++ 47 ∷ rest)))
      more [] rest h bytes = name_missing rest
      more (b ∷ s) rest h bytes =
          after_name b s rest (no_param_byte b (bytes 0)) h ∙ found_below (b ∷ s) rest (bytes_behind (b ∷ s) rest bytes)
          ∙ ap (λ (l : List (List ℕ)). keyed (below_collections l)) (sym (segments_more (b ∷ s) rest h))

  collections_here : seek 0 collections_rows [] ≡ Some (key Collections)
  unfolding seek
  collections_here = refl

  collections_further : (rest : List ℕ) → seek 0 collections_rows (47 ∷ rest) ≡ seek 0 (pre 256 named_rows) rest
  collections_further rest =
      seek-with_end (pre 47 (pre 256 named_rows)) (key Collections) 47 rest ∙ seek_byte 47 47 (pre 256 named_rows) rest refl refl refl

  root_here : seek 0 root_rows [] ≡ Some (key Landing)
  unfolding seek
  root_here = refl

  -- the one name below the root
  named_collections : (b : ℕ) (s tail : List ℕ) (x : Option (Place (List ℕ))) → has_slash (b ∷ s) ≡ false → EndsSegment tail → seek 0 collections_rows tail ≡ keyed x
      → seek 0 root_rows ((b ∷ s) ++ tail) ≡ keyed (cond (bytes_eq (b ∷ s) (codes "collections")) x None)
  named_collections b s tail x h ends found =
      seek-with_end (pre_all (codes "collections") collections_rows) (key Landing) b (s ++ tail)
      ∙ segment_found (codes "collections") collections_rows (b ∷ s) tail refl (slash_boundary (pre 256 named_rows) (key Collections)) h ends
      ∙ if_named (bytes_eq (b ∷ s) (codes "collections"))
    where
      if_named : (t : Bool) → cond t (seek 0 collections_rows tail) None ≡ keyed (cond t x None)
      if_named true = found
      if_named false = refl

  -- below the first slash
  found_in_root : (q : List ℕ) → AreBytes q → seek 0 root_rows q ≡ keyed (below_root (segments q))
  found_in_root = by_cut (λ (q : List ℕ). AreBytes q → seek 0 root_rows q ≡ keyed (below_root (segments q))) one more
    where
      one : (s : List ℕ) → has_slash s ≡ false → AreBytes s → seek 0 root_rows s ≡ keyed (below_root (segments s))
      one [] h bytes = root_here
      one (b ∷ s) h bytes =
          ap (seek 0 root_rows) (sym (append-nil (b ∷ s))) ∙ named_collections b s [] (Some collections) h tt collections_here
          ∙ ap (λ (l : List (List ℕ)). keyed (below_root l)) (sym (segments_one (b ∷ s) h))

      empty : (rest : List ℕ) → None ≡ keyed (below_root ([] ∷ segments rest))
      empty rest = let first = first_segment rest in ap (λ (l : List (List ℕ)). keyed (below_root ([] ∷ l))) (sym first.2)

      more : (s rest : List ℕ) → has_slash s ≡ false → AreBytes (s ++ 47 ∷ rest) → seek 0 root_rows (s ++ 47 ∷ rest) ≡ keyed (below_root (segments (s ++ 47 ∷ rest)))
      more [] rest h bytes =
          seek-with_end (pre_all (codes "collections") collections_rows) (key Landing) 47 rest
          ∙ seek_other 99 47 (pre_all (codes "ollections") collections_rows) rest refl refl refl ∙ empty rest
      more (b ∷ s) rest h bytes =
          named_collections b s (47 ∷ rest) (below_collections (segments rest)) h refl (collections_further rest ∙ found_named rest (bytes_behind (b ∷ s) rest bytes))
          ∙ ap (λ (l : List (List ℕ)). keyed (below_root l)) (sym (segments_more (b ∷ s) rest h))

  -- what the router finds is the place
  pub found : (path : List ℕ) → AreBytes path → seek 0 all_rows path ≡ keyed (place_of path)
  found [] bytes = seek_early 47 root_rows
  found (b ∷ q) bytes = by_byte (b == 47) refl
    where
      by_byte : (t : Bool) → (b == 47) ≡ t → seek 0 all_rows (b ∷ q) ≡ keyed (place_of (b ∷ q))
      by_byte true e =
          seek_byte 47 b root_rows q refl refl (slash_same b e) ∙ found_in_root q (λ i. bytes (suc i))
          ∙ sym (ap (λ (t : Bool). keyed (place_at (cond t ([] ∷ segments q) (onto_first b (segments q))))) e)
      by_byte false e =
          let first = first_segment q in
          seek_other 47 b root_rows q refl refl (slash_turned b e)
          ∙ sym (ap (λ (t : Bool). keyed (place_at (cond t ([] ∷ segments q) (onto_first b (segments q))))) e ∙ ap (λ (l : List (List ℕ)). keyed (place_at (onto_first b l))) first.2)

-- ---- the routes of the server

-- a route as the router keeps it
unfoldable pub route_key : Route → RouteOf Route
route_key Landing = record { pattern = codes "/"; text = codes "/"; names = []; value = Landing }
route_key Collections =
    record { pattern = codes "/collections"; text = codes "/collections"; names = []; value = Collections }
route_key Collection =
    record { pattern = codes "/collections/" ++ 256 ∷ []; text = codes "/collections/{c}"; names = (14, 15) ∷ []; value = Collection }
route_key Queryables =
    record { pattern = codes "/collections/" ++ 256 ∷ codes "/queryables"; text = codes "/collections/{c}/queryables"; names = (14, 15) ∷ []; value = Queryables }
route_key Items =
    record { pattern = codes "/collections/" ++ 256 ∷ codes "/items"; text = codes "/collections/{c}/items"; names = (14, 15) ∷ []; value = Items }
route_key Item =
    record { pattern = codes "/collections/" ++ 256 ∷ codes "/items/" ++ 256 ∷ []; text = codes "/collections/{c}/items/{id}"; names = (14, 15) ∷ (24, 26) ∷ []; value = Item }

rows_are : route_rows ≡ all_rows route_key
unfolding matchit_on_literals route_key
rows_are = refl

pub value_is : (r : Route) → (route_key r).value ≡ r
unfolding route_key
value_is Landing = refl
value_is Collections = refl
value_is Collection = refl
value_is Queryables = refl
value_is Items = refl
value_is Item = refl

-- the route that a path has is that of its place
pub found_route : (path : List ℕ) → AreBytes path → first route_rows path ≡ keyed route_key (place_of path)
found_route path bytes = ap (λ (rows : RowsOf (RouteOf Route)). seek 0 rows path) rows_are ∙ found route_key path bytes
