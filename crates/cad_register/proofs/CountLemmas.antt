-- Each version came with a command.
use Rattle.std.proofs.Common.{◌≡◌, ℕ, ◌+◌, ◌≤◌, ◌<◌, false, List, [], ◌∷◌, length, map, fold, take, refl, ap, ◌∙◌, arith, length-append}
use Rattle.std.proofs.lemmas.List.{length-map}
use Rattle.std.proofs.lemmas.Bool.Decides.{nat_tests}
use Rattle.cad_versions.specs.declared.object_id.ObjectId.{ObjectId}
use Rattle.cad_versions.specs.declared.command.Command.{Command}
use Rattle.cad_versions.specs.declared.command.Command.TheVariants.{Enter, Amend, Retire}
use Rattle.cad_versions.specs.VersionedObject.{VersionedObject}
use Rattle.cad_day.specs.DayBefore.{day_before}
use Rattle.cad_versions.specs.Versions.{is_of, history, closed_if_open, begun, next_number, versions_after, versions}
use Rattle.cad_versions.specs.Refusals.{is_full}
use Rattle.cad_versions.specs.AsOf.{as_of}
use Rattle.cad_versions.specs.Identifiers.{by_identifier}
use Rattle.cad_versions.specs.lemmas.SortLemmas.{length-sort_by}
use Rattle.cad_versions.specs.lemmas.ListLemmas.{filter_fewer}

one_more : (vs : List VersionedObject) (c : Command) → length (versions_after vs c) ≤ length vs + 1
one_more vs (Enter object first body) = omega (arith, length-append vs (begun object 1 first body ∷ []))
one_more vs (Amend object first body) =
    omega (arith, length-append (map (closed_if_open object (day_before first)) vs) (begun object (next_number object vs) first body ∷ []), length-map vs (closed_if_open object (day_before first)))
one_more vs (Retire object last) = omega (arith, length-map vs (closed_if_open object last))

few_from : (vs : List VersionedObject) (cs : List Command) → length (fold versions_after vs cs) ≤ length vs + length cs
few_from vs [] = omega arith
few_from vs (c ∷ cs) = omega (arith, few_from (versions_after vs c) cs, one_more vs c)

pub versions_few : (cs : List Command) → length (versions cs) ≤ length cs
versions_few cs = omega (arith, few_from [] cs)

pub not_full : (cs : List Command) (revision : ℕ) → revision ≡ length cs → revision < 2147483647 → is_full (versions cs) ≡ false
not_full cs revision e h = let few : length (versions cs) < 2147483647 = omega (arith, versions_few cs) in grind (arith, nat_tests)

take_all : {A : Type 0} (xs : List A) → take (length xs) xs ≡ xs
take_all [] = refl
take_all (x ∷ xs) = ap (λ l. x ∷ l) (take_all xs)

-- the newest revision lists as many versions as there are
pub counted : (cs : List Command) → length (as_of (length cs) cs) ≡ length (versions cs)
counted cs = length-sort_by by_identifier (versions (take (length cs) cs)) ∙ ap (λ l. length (versions l)) (take_all cs)

pub history_few : (object : ObjectId) (vs : List VersionedObject) → length (history object vs) ≤ length vs
history_few object vs = filter_fewer (is_of object) vs
