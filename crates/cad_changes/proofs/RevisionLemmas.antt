-- From one revision to the next.
use Rattle.std.proofs.Common.{◌≡◌, ℕ, ◌+◌, List, [], ◌∷◌, ◌++◌, length, fold, None, refl, sym, ap, ◌∙◌, subst, arith}
use Rattle.std.specs.List.Sorted.{IsStrictlySortedBy}
use Rattle.std.proofs.lemmas.List.{take_all, length-append}
use Rattle.cad_versions.specs.declared.command.Command.{Command}
use Rattle.cad_versions.specs.lemmas.AcceptedLemmas.{accepted_front}
use Rattle.cad_versions.specs.AsOf.{as_of}
use Rattle.cad_versions.specs.lemmas.HistoryLemmas.{HasHistories, histories}
use Rattle.cad_versions.specs.Identifiers.{by_identifier as by_version}
use Rattle.cad_versions.specs.lemmas.OrderLemmas.{identifiers_apart, versions_total}
use Rattle.cad_versions.specs.Refusals.{AreAccepted, refusal}
use Rattle.cad_versions.specs.Sorting.{sort_by}
use Rattle.cad_versions.specs.VersionedObject.{VersionedObject}
use Rattle.cad_versions.specs.Versions.{versions_after, versions}
use Rattle.cad_schema.specs.declared.collection.Collection.{Collection}
use Rattle.cad_feature.specs.Features.{by_identifier}
use Rattle.cad_feature.specs.Flatten.{features_in}
use Rattle.cad_changes.specs.Changes.{next, touched}
use Rattle.cad_layer.specs.Merging.{merged}
use Rattle.cad_changes.proofs.FeatureLemmas.{features_next}
use Rattle.cad_versions.specs.lemmas.SortLemmas.{sort_rises}
use Rattle.cad_changes.proofs.VersionLemmas.{AddsNew, adds_new, adds_new_sorted, sorted_after}

fold_push : (vs : List VersionedObject) (cs : List Command) (c : Command) → fold versions_after vs (cs ++ c ∷ []) ≡ versions_after (fold versions_after vs cs) c
fold_push vs [] c = refl
fold_push vs (d ∷ cs) c = fold_push (versions_after vs d) cs c

pub all_as_of : (cs : List Command) (n : ℕ) → length cs ≡ n → as_of n cs ≡ sort_by by_version (versions cs)
all_as_of cs n e = ap (λ ds. sort_by by_version (versions ds)) (take_all n cs (omega (arith, e)))

pub adds : (cs : List Command) (c : Command) → AreAccepted [] (cs ++ c ∷ []) → AddsNew (versions cs) c
adds cs c all = adds_new (versions cs) c (subst HasHistories (fold_push [] cs c) (histories (cs ++ c ∷ []) all))

pub revision_next : (cs : List Command) (c : Command) → AreAccepted [] (cs ++ c ∷ []) → as_of (length cs + 1) (cs ++ c ∷ []) ≡ next (as_of (length cs) cs) c
revision_next cs c all =
    all_as_of (cs ++ c ∷ []) (length cs + 1) (length-append cs (c ∷ [])) ∙ ap (sort_by by_version) (fold_push [] cs c) ∙ sorted_after (versions cs) c (adds cs c all)
    ∙ ap (λ vs. next vs c) (sym (all_as_of cs (length cs) refl))

pub last_accepted : (vs : List VersionedObject) (cs : List Command) (c : Command) → AreAccepted vs (cs ++ c ∷ []) → refusal (fold versions_after vs cs) c ≡ None
last_accepted vs [] c all = all.0
last_accepted vs (d ∷ cs) c all = last_accepted (versions_after vs d) cs c all.1

pub all_accepted : (cs : List Command) (c : Command) → AreAccepted [] (cs ++ c ∷ []) → AreAccepted [] cs
all_accepted cs c all = accepted_front [] cs (c ∷ []) all

-- the versions before the command, in their order
pub rises : (cs : List Command) (c : Command) → AreAccepted [] (cs ++ c ∷ []) → IsStrictlySortedBy by_version (sort_by by_version (versions cs))
rises cs c all = sort_rises by_version versions_total (versions cs) (identifiers_apart (versions cs) (histories cs (all_accepted cs c all)))

pub features_of_next : (cs : List Command) (c : Command) → AreAccepted [] (cs ++ c ∷ []) → (collection : Collection)
    → features_in (as_of (length cs + 1) (cs ++ c ∷ [])) collection ≡ merged by_identifier (features_in (as_of (length cs) cs) collection) (touched (as_of (length cs) cs) c collection)
features_of_next cs c all collection =
    let sorted = sort_by by_version (versions cs) in
    let here : as_of (length cs) cs ≡ sorted = all_as_of cs (length cs) refl in
    ap (λ vs. features_in vs collection) (revision_next cs c all)
    ∙ subst (λ vs. features_in (next vs c) collection ≡ merged by_identifier (features_in vs collection) (touched vs c collection)) (sym here)
    (features_next sorted c (adds_new_sorted (versions cs) c (adds cs c all)) collection (rises cs c all))
