-- Extents of features and of the changes to them.
use Rattle.std.proofs.Common.{◌≡◌, List, [], subst}
use Rattle.std.specs.List.{AllByRecursion}
use Rattle.cad_versions.specs.lemmas.ListLemmas.{all_weaker}
use Rattle.cad_feature.specs.Features.{Item, by_identifier}
use Rattle.cad_extents.specs.declared.extents.Extents.{Extents}
use Rattle.cad_extents.specs.Extents.{IsWithin}
use Rattle.cad_layer.specs.lemmas.ItemLemmas.{items_total}
use Rattle.cad_layer.specs.lemmas.MergeLemmas.{all_merged, merged_merged}
use Rattle.cad_layer.specs.Walks.{all_in}

-- those of features without changes
pub within_alone : (of given : Extents) (features seen changes : List Item) → given ≡ of → seen ≡ features → changes ≡ [] → AllByRecursion (IsWithin of) features → AllByRecursion (IsWithin given) (all_in seen changes)
within_alone of given features seen changes is same none all = rw (is, same, none) all

-- those of features and of more changes
pub within_more : (old new : Extents) (features changes touched seen more : List Item) → seen ≡ touched → more ≡ all_in changes touched
    → ((x : Item) → IsWithin old x → IsWithin new x) → AllByRecursion (IsWithin new) seen → AllByRecursion (IsWithin old) (all_in features changes) → AllByRecursion (IsWithin new) (all_in features more)
within_more old new features changes touched seen more lent is own added all =
    let wider = all_weaker (IsWithin old) (IsWithin new) own (all_in features changes) all in
    let both = all_merged by_identifier items_total (IsWithin new) (all_in features changes) touched wider (subst (AllByRecursion (IsWithin new)) lent added) in
    rw (is, merged_merged by_identifier items_total features changes touched) both
