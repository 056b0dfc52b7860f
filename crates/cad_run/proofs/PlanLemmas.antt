-- The positions of a plan's candidates.
use Rattle.std.proofs.Common.{◌≡◌, ◌∙◌, ℕ, ◌<◌, Bool, false, ◌&&◌, List, [], ◌∷◌, length, get_or, ap, sym, refl, slice_get, Option, Some, None, Vec, ⊎_elim, nat_lt, lt-ltb, le-ltb}
use Rattle.std.specs.List.{list_all, list_any}
use Rattle.std.specs.declared.alloc.Global.{Global}
use Rattle.std.proofs.lemmas.Option.{slice_get_cases}
use Rattle.cad_feature.specs.Features.{Item}
use Rattle.cad_lookup.specs.declared.plan.Plan.{Plan}
use Rattle.cad_lookup.specs.declared.plan.Plan.TheVariants as plan
use Rattle.cad_lookup.specs.Candidates.{is_candidate, candidate_All, candidate_Meet, candidate_Join}
use Rattle.cad_run.specs.declared.parts.Part.{Part}
use Rattle.cad_run.specs.inner.Parts.{has_all_parts, has_any_part, all_hold, any_holds}
use Rattle.cad_run.specs.Positions.{holds_for, holds_at}

none_of : {X : Type 0} (xs : List X) → list_any (λ x. false) xs ≡ false
none_of [] = refl
none_of (x ∷ xs) = none_of xs

pub all_has : (xs : List Item) (k : ℕ) → nat_lt k (length xs) ≡ holds_at (is_candidate plan.All) xs k
all_has xs k = ⊎_elim
    (λ (found : (x : Item) × (k < length xs) × (slice_get xs k ≡ Some x) × (get_or xs k x ≡ x)). lt-ltb k (length xs) found.1 ∙ sym (ap (holds_for (is_candidate plan.All)) found.2 ∙ candidate_All found.0))
    (λ past. le-ltb k (length xs) past.0 ∙ sym (ap (holds_for (is_candidate plan.All)) past.1))
    (slice_get_cases xs k).1

meet_has : (plans : Vec Plan Global) (xs : List Item) (k : ℕ) → (nat_lt k (length xs) && list_all (λ p. holds_at (is_candidate p) xs k) plans.items) ≡ holds_at (is_candidate (plan.Meet plans)) xs k
meet_has plans xs k = ⊎_elim
    (λ (found : (x : Item) × (k < length xs) × (slice_get xs k ≡ Some x) × (get_or xs k x ≡ x)). ap (λ b. b && list_all (λ p. holds_at (is_candidate p) xs k) plans.items) (lt-ltb k (length xs) found.1)
    ∙ ap (λ o. list_all (λ p. holds_for (is_candidate p) o) plans.items) found.2
    ∙ sym (ap (holds_for (is_candidate (plan.Meet plans))) found.2 ∙ candidate_Meet found.0 plans))
    (λ past. ap (λ b. b && list_all (λ p. holds_at (is_candidate p) xs k) plans.items) (le-ltb k (length xs) past.0)
    ∙ sym (ap (holds_for (is_candidate (plan.Meet plans))) past.1))
    (slice_get_cases xs k).1

any_told : (plans : Vec Plan Global) (o : Option Item) → list_any (λ p. holds_for (is_candidate p) o) plans.items ≡ holds_for (is_candidate (plan.Join plans)) o
any_told plans None = none_of plans.items
any_told plans (Some x) = sym (candidate_Join x plans)

join_has : (plans : Vec Plan Global) (xs : List Item) (k : ℕ) → list_any (λ p. holds_at (is_candidate p) xs k) plans.items ≡ holds_at (is_candidate (plan.Join plans)) xs k
join_has plans xs k = any_told plans (slice_get xs k)

-- ---- the parts of a plan

pub meet_part : (plans : Vec Plan Global) (p : Plan) (items : List Plan) (xs : List Item) (count k : ℕ) (parts : List Part) (found : Bool) → p ≡ plan.Meet plans → items ≡ plans.items → count ≡ length xs → found ≡ (nat_lt k count && has_all_parts parts k) → has_all_parts parts k ≡ all_hold items xs k → found ≡ holds_at (is_candidate p) xs k
meet_part plans p items xs count k parts found is same all made each =
    made ∙ ap (λ n. nat_lt k n && has_all_parts parts k) all ∙ ap (λ b. nat_lt k (length xs) && b) (each ∙ ap (λ ps. all_hold ps xs k) same)
    ∙ meet_has plans xs k ∙ ap (λ q. holds_at (is_candidate q) xs k) (sym is)

pub join_part : (plans : Vec Plan Global) (p : Plan) (items : List Plan) (xs : List Item) (k : ℕ) (parts : List Part) (found : Bool) → p ≡ plan.Join plans → items ≡ plans.items → found ≡ has_any_part parts k → has_any_part parts k ≡ any_holds items xs k → found ≡ holds_at (is_candidate p) xs k
join_part plans p items xs k parts found is same made each =
    made ∙ each ∙ ap (λ ps. any_holds ps xs k) same
    ∙ join_has plans xs k ∙ ap (λ q. holds_at (is_candidate q) xs k) (sym is)
