-- Members of a JSON object, and a map of them.
use Rattle.std.proofs.Common.{◌≡◌, ℕ, ◌+◌, ◌<◌, ◌++◌, Bor, map, take, get_or, List, [], ◌∷◌, length, Bool, true, false, true≢false, if◌then◌else◌, cond, Some, None, String, Global, nat_cmp, string_bytes, bytes_eq, refl, sym, ap, ◌∙◌, arith}
use Rattle.std.proofs.lemmas.List.{map-append, take_more}
use Rattle.std.proofs.lemmas.Map.Text.{is_eq-slice_cmp}
use Rattle.std.specs.BTreeMap.{is_at}
use Rattle.std.specs.Cmp.Lexicographic.{slice_cmp}
use Rattle.std.specs.Map.{remove_entry}
use Rattle.std.specs.Option.{is_some, option_and_then}
use Rattle.serde_json.specs.Data.{Data, Members, no_members, member}
use Rattle.serde_json.specs.Find.{get_member, as_null}
use Rattle.serde_json.specs.View.{members_view, view}
use Rattle.serde_json.specs.declared.value.Value.{Value}
use Rattle.cad_commands.specs.Members.{unless_null, member_in, without, without_all}

-- a member that is null is not there
pub null_member : (name : List ℕ) (ms : Members) (d : Data) (b : Bool) → Some d ≡ get_member name ms → b ≡ is_some (as_null d) → b ≡ true → None ≡ member_in name ms
null_member name ms d b found is holds =
    sym (ap (λ (c : Bool). if c then None else Some d) (sym is ∙ holds)) ∙ ap (option_and_then unless_null) found

pub other_member : (name : List ℕ) (ms : Members) (d : Data) (b : Bool) → Some d ≡ get_member name ms → b ≡ is_some (as_null d) → b ≡ false → Some d ≡ member_in name ms
other_member name ms d b found is fails =
    sym (ap (λ (c : Bool). if c then None else Some d) (sym is ∙ fails)) ∙ ap (option_and_then unless_null) found

view-either : (b c : Bool) (one other : List (String Global × Value)) → b ≡ c → members_view (cond b one other) ≡ (if c then members_view one else members_view other)
view-either true true one other e = refl
view-either false false one other e = refl
view-either true false one other e = absurd (true≢false e)
view-either false true one other e = absurd (true≢false (sym e))

-- what a map's entries say once one of them was taken out
pub view-remove_entry : (name : List ℕ) (es : List (String Global × Value)) → members_view (remove_entry (is_at (λ k. slice_cmp nat_cmp name (string_bytes k))) es) ≡ without name (members_view es)
view-remove_entry name [] = refl
view-remove_entry name (e ∷ es) =
    view-either _ _ _ _ (is_eq-slice_cmp name (string_bytes e.0)) ∙ ap (λ ms. if bytes_eq name (string_bytes e.0) then members_view es else member (string_bytes e.0) (view e.1) ms) (view-remove_entry name es)

without_all-push : (names : List (List ℕ)) (name : List ℕ) (ms : Members) → without name (without_all names ms) ≡ without_all (names ++ name ∷ []) ms
without_all-push [] name ms = refl
without_all-push (other ∷ names) name ms = without_all-push names name (without other ms)

-- one name more
pub without_all-next : (names : List (Bor (List ℕ))) (i : ℕ) (d : Bor (List ℕ)) (ms : Members) → i < length names
    → without (get_or names i d).now (without_all (map (λ name. name.now) (take i names)) ms) ≡ without_all (map (λ name. name.now) (take (i + 1) names)) ms
without_all-next names i d ms h =
    without_all-push (map (λ name. name.now) (take i names)) (get_or names i d).now ms
    ∙ ap (λ ns. without_all ns ms) (sym (ap (map (λ name. name.now)) (take_more names i d h) ∙ map-append (λ name. name.now) (take i names) (get_or names i d ∷ [])))

-- ---- the first of the others

-- no entry is left, so no member is
pub none_left : (es : List (String Global × Value)) → (0 < length es → ⊥) → members_view es ≡ no_members
none_left [] none = refl
none_left (e ∷ es) none = absurd (none (omega arith))

-- what was found by a text that is a name
pub found_by : (name text : List ℕ) (ms : Members) (d : Data) → Some d ≡ member_in text ms → text ≡ name → member_in name ms ≡ Some d
found_by name text ms d found is = sym (found ∙ ap (λ n. member_in n ms) is)
