-- Members in another order are read as one object.
use Rattle.std.proofs.Common.{◌≡◌, ◌≢◌, ℕ, List, Option, Some, None, Ordering, Less, Equal, Greater, is_eq, nat_cmp, refl, sym, ap, ◌∙◌}
use Rattle.std.proofs.lemmas.Cmp.{nat_list_cmp_total}
use Rattle.std.proofs.lemmas.Map.Text.{is_eq-slice_cmp}
use Rattle.std.proofs.lemmas.Slice.Eq.{bytes_eq-Decides}
use Rattle.std.specs.Cmp.Lexicographic.{slice_cmp}
use Rattle.std.specs.Option.{option_and_then, option_map}
use Rattle.std.specs.Ordering.{ordering_reverse}
use Rattle.json.specs.Json as json
use Rattle.serde_json.specs.Data.{Data, Members, no_members, member, object, put}
use Rattle.serde_json.specs.Read.{of_json, of_members}
use Rattle.cad_commands.specs.MemberOrder.{SameButForOrder, itself, exchanged, behind, inside, again}

abbrev order : List ℕ → List ℕ → Ordering
order a b = slice_cmp nat_cmp a b

turned : (a b : List ℕ) (r : Ordering) → order a b ≡ r → order b a ≡ ordering_reverse r
turned a b r is = nat_list_cmp_total.antisymm b a ∙ ap ordering_reverse is

-- a name above one that is not below a third is above the third
above_tie : (low high name : List ℕ) → order low high ≡ Less → order low name ≡ Equal → order high name ≡ Greater
above_tie low high name less tie = turned name high Less (sym (nat_list_cmp_total.congr low name high tie) ∙ less)

above_low : (low high name : List ℕ) → order low high ≡ Less → order low name ≡ Greater → order high name ≡ Greater
above_low low high name less more = turned name high Less (nat_list_cmp_total.trans name low high (turned low name Greater more) less)

put_at : (p q : Ordering) (low high name : List ℕ) (d e v : Data) (ms : Members)
    → order low high ≡ Less → order low name ≡ p → order high name ≡ q → put high e (put low d ms) ≡ put low d (put high e ms)
    → put high e (put low d (member name v ms)) ≡ put low d (put high e (member name v ms))
put_at Less Less low high name d e v ms less p q more = rw (p, q, less, turned low high Less less) refl
put_at Less Equal low high name d e v ms less p q more = rw (p, q, turned low high Less less, p) refl
put_at Less Greater low high name d e v ms less p q more = rw (p, q, turned low high Less less, p) refl
put_at Equal q low high name d e v ms less p r more = rw (p, above_tie low high name less p, p) refl
put_at Greater q low high name d e v ms less p r more = rw (p, above_low low high name less p, p) (ap (member name v) more)

put_lower_first : (low high : List ℕ) (d e : Data) (ms : Members) → order low high ≡ Less → put high e (put low d ms) ≡ put low d (put high e ms)
put_lower_first low high d e no_members less = rw (less, turned low high Less less) refl
put_lower_first low high d e (member name v ms) less = put_at _ _ low high name d e v ms less refl refl (put_lower_first low high d e ms less)

put_either_way : (r : Ordering) (a b : List ℕ) (d e : Data) (ms : Members) → order a b ≡ r → a ≢ b → put b e (put a d ms) ≡ put a d (put b e ms)
put_either_way Less a b d e ms is differ = put_lower_first a b d e ms is
put_either_way Equal a b d e ms is differ = absurd (differ ((bytes_eq-Decides a b).0 (sym (is_eq-slice_cmp a b) ∙ ap is_eq is)))
put_either_way Greater a b d e ms is differ = sym (put_lower_first b a e d ms (turned a b Greater is))

-- what members are put to those found before them
abbrev with_members : json.Json → Members → Option Members
with_members json.null found = None
with_members (json.boolean b) found = None
with_members (json.number s) found = None
with_members (json.string s) found = None
with_members (json.array js) found = None
with_members (json.object ms) found = of_members ms found

exchanged_values : (x y : Option Data) (a b : List ℕ) (ms : json.Members) (found : Members) → a ≢ b
    → option_and_then (λ d. option_and_then (λ e. of_members ms (put b e (put a d found))) y) x
    ≡ option_and_then (λ e. option_and_then (λ d. of_members ms (put a d (put b e found))) x) y
exchanged_values None None a b ms found differ = refl
exchanged_values None (Some e) a b ms found differ = refl
exchanged_values (Some d) None a b ms found differ = refl
exchanged_values (Some d) (Some e) a b ms found differ = ap (of_members ms) (put_either_way _ a b d e found refl differ)

behind_value : (x : Option Data) (name : List ℕ) (ms ns : json.Members) (found : Members) → ((before : Members) → of_members ms before ≡ of_members ns before)
    → option_and_then (λ d. of_members ms (put name d found)) x ≡ option_and_then (λ d. of_members ns (put name d found)) x
behind_value None name ms ns found same = refl
behind_value (Some d) name ms ns found same = same (put name d found)

-- values that differ in the order of members alone are read as one
same_read : {j k : json.Json} → SameButForOrder j k → ((found : Members) → with_members j found ≡ with_members k found) × (of_json j ≡ of_json k)
same_read itself = (λ found. refl, refl)
same_read (exchanged {name = name} {other = other} {j = j} {k = k} {ms = ms} differ) =
    let one : (found : Members) → of_members (json.member name j (json.member other k ms)) found ≡ of_members (json.member other k (json.member name j ms)) found =
    λ found. exchanged_values (of_json j) (of_json k) name other ms found differ in
    (one, ap (option_map object) (one no_members))
same_read (behind {name = name} {j = j} {ms = ms} {ns = ns} same) =
    let one : (found : Members) → of_members (json.member name j ms) found ≡ of_members (json.member name j ns) found =
    λ found. behind_value (of_json j) name ms ns found (same_read same).0 in
    (one, ap (option_map object) (one no_members))
same_read (inside {name = name} {j = j} {k = k} {ms = ms} same) =
    let one : (found : Members) → of_members (json.member name j ms) found ≡ of_members (json.member name k ms) found =
    λ found. ap (option_and_then (λ d. of_members ms (put name d found))) (same_read same).1 in
    (one, ap (option_map object) (one no_members))
same_read (again first second) =
    (λ found. (same_read first).0 found ∙ (same_read second).0 found, (same_read first).1 ∙ (same_read second).1)

pub same_value : (j k : json.Json) → SameButForOrder j k → of_json j ≡ of_json k
same_value j k same = (same_read same).1
