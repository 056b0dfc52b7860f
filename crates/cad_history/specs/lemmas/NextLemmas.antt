-- Rows after a revision that changed them.
use Rattle.std.proofs.Common.{◌≡◌, ℕ, ◌<◌, ◌≤◌, not, List, [], ◌∷◌, map, filter, refl, arith}
use Rattle.std.specs.List.{AllByRecursion}
use Rattle.std.proofs.lemmas.List.Elements.{All-from_recursion, recursion_from_All}
use Rattle.std.proofs.lemmas.List.Kept.{IsStrictlySortedBy-filter}
use Rattle.cad_versions.specs.lemmas.ListLemmas.{all_weaker, all_filtered, all_mapped}
use Rattle.cad_schema.specs.declared.collection.Collection.{Collection}
use Rattle.cad_feature.specs.Features.{Item, IsFeatureOf, AreFeaturesOf, by_identifier}
use Rattle.cad_index.specs.Layers.{LayerFeatures}
use Rattle.cad_layer.specs.Walks.{all_in}
use Rattle.cad_layer.specs.lemmas.ItemLemmas.{items_total}
use Rattle.cad_layer.specs.lemmas.ListedLemmas.{all_listed, none_listed}
use Rattle.cad_layer.specs.lemmas.MergeLemmas.{all_merged}
use Rattle.cad_history.specs.inner.Ending.{ended, begun, has_version, replaced_by, is_in_none, absent_in, present_in, with_ended}
use Rattle.cad_history.specs.Rows.{Rows, AllAscend, AreRows, AreNext, IsOpenRow, IsEndedRow, row_count, is_shown_at, rows_at, earlier_at}
use Rattle.cad_history.specs.lemmas.RowLemmas.{begun_ascend, ended_ascend, shown_before, shown_after}
use Rattle.cad_history.specs.lemmas.TurnLemmas.{each_list, turns_next}

-- ---- features of the collection

pub filter_listed : (c : Collection) (q : Item → _) (xs : List Item) → AreFeaturesOf c xs → AreFeaturesOf c (filter q xs)
filter_listed c q xs all = record {
  each = All-from_recursion (IsFeatureOf c) (filter q xs) (all_filtered (IsFeatureOf c) q xs (recursion_from_All (IsFeatureOf c) xs all.each));
  ascending = IsStrictlySortedBy-filter by_identifier q xs all.ascending;
}

earlier_listed : (c : Collection) (r : ℕ) (layers : List LayerFeatures) → AllByRecursion (λ (layer : LayerFeatures). AreFeaturesOf c layer.features) layers → AreFeaturesOf c (earlier_at r layers)
earlier_listed c r [] all = none_listed c
earlier_listed c r (layer ∷ layers) all = all_listed c (rows_at r layer.features) (earlier_at r layers) (filter_listed c (is_shown_at r) layer.features all.0) (earlier_listed c r layers all.1)

pub rows_ascend : (rows : Rows) → AreRows rows → AllAscend rows.earlier
rows_ascend rows are = all_weaker (λ (layer : LayerFeatures). AreFeaturesOf rows.collection layer.features) _ (λ (layer : LayerFeatures) all. all.ascending) rows.earlier are.each

pub features_listed : (c : Collection) (r : ℕ) (newest : List Item) (earlier : List LayerFeatures) → AreFeaturesOf c newest → AllByRecursion (λ (layer : LayerFeatures). AreFeaturesOf c layer.features) earlier
    → AreFeaturesOf c (all_in (earlier_at r earlier) (rows_at r newest))
features_listed c r newest earlier all each = all_listed c (earlier_at r earlier) (rows_at r newest) (earlier_listed c r earlier each) (filter_listed c (is_shown_at r) newest all)

with_listed : (c : Collection) (layers : List LayerFeatures) (xs : List Item) → AllByRecursion (λ (layer : LayerFeatures). AreFeaturesOf c layer.features) layers → AreFeaturesOf c xs
    → AllByRecursion (λ (layer : LayerFeatures). AreFeaturesOf c layer.features) (with_ended c layers xs)
with_listed c [] [] all some = tt
with_listed c [] (x ∷ xs) all some = (some, tt)
with_listed c (layer ∷ layers) xs all some = (
  all_listed c layer.features (absent_in (layer ∷ layers) xs) all.0 (filter_listed c (is_in_none (layer ∷ layers)) xs some),
  with_listed c layers (present_in (layer ∷ layers) xs) all.1 (filter_listed c (λ x. not (is_in_none (layer ∷ layers) x)) xs some),
)

with_alike : (c : Collection) (layers : List LayerFeatures) (xs : List Item) → AllByRecursion (λ (layer : LayerFeatures). layer.collection ≡ c) layers
    → AllByRecursion (λ (layer : LayerFeatures). layer.collection ≡ c) (with_ended c layers xs)
with_alike c [] [] all = tt
with_alike c [] (x ∷ xs) all = (refl, tt)
with_alike c (layer ∷ layers) xs all = (all.0, with_alike c layers (present_in (layer ∷ layers) xs) all.1)

module _ (revision : ℕ) (few : revision < 4294967295) (touched : List Item) (old : Rows) (sooner : old.last < revision) (rows : AreRows old) (listed : AreFeaturesOf old.collection touched) where
  abbrev c : Collection
  c = old.collection

  pub begun_listed : AreFeaturesOf c (map (begun revision) touched)
  begun_listed = record {
    each = All-from_recursion (IsFeatureOf c) (map (begun revision) touched)
        (all_mapped (IsFeatureOf c) (begun revision) touched (all_weaker (IsFeatureOf c) (λ x. IsFeatureOf c (begun revision x)) (λ x h. record { fits = h.fits }) touched (recursion_from_All (IsFeatureOf c) touched listed.each)));
    ascending = begun_ascend revision old.last few old.newest touched rows.listed.ascending listed.ascending rows.newest_open touched listed.ascending;
  }

  replaced_listed : AreFeaturesOf c (replaced_by touched old.newest)
  replaced_listed = filter_listed c (λ x. has_version x touched) old.newest rows.listed

  pub ended_listed : AreFeaturesOf c (map (ended revision) (replaced_by touched old.newest))
  ended_listed = record {
    each = All-from_recursion (IsFeatureOf c) (map (ended revision) (replaced_by touched old.newest))
        (all_mapped (IsFeatureOf c) (ended revision) (replaced_by touched old.newest) (all_weaker (IsFeatureOf c) (λ x. IsFeatureOf c (ended revision x)) (λ x h. record { fits = h.fits }) (replaced_by touched old.newest)
        (recursion_from_All (IsFeatureOf c) (replaced_by touched old.newest) replaced_listed.each)));
    ascending = ended_ascend revision old.last few old.newest touched rows.listed.ascending listed.ascending rows.newest_open (replaced_by touched old.newest) replaced_listed.ascending;
  }

  all_end : (xs : List Item) → AllByRecursion (IsEndedRow revision) (map (ended revision) xs)
  all_end [] = tt
  all_end (x ∷ xs) = (omega arith, all_end xs)

  all_begin : (xs : List Item) → AllByRecursion (IsOpenRow revision) (map (begun revision) xs)
  all_begin [] = tt
  all_begin (x ∷ xs) = (record { begun = omega arith; endless = refl }, all_begin xs)

  abbrev pub next_rows : Rows
  next_rows = record {
    collection = c;
    newest = all_in old.newest (map (begun revision) touched);
    earlier = with_ended c old.earlier (map (ended revision) (replaced_by touched old.newest));
    last = revision;
  }

  pub are_rows : row_count next_rows ≤ 18446744073709551615 → AreRows next_rows
  are_rows countable = record {
    listed = all_listed c old.newest (map (begun revision) touched) rows.listed begun_listed;
    alike = with_alike c old.earlier (map (ended revision) (replaced_by touched old.newest)) rows.alike;
    each = with_listed c old.earlier (map (ended revision) (replaced_by touched old.newest)) rows.each ended_listed;
    newest_open = all_merged by_identifier items_total (IsOpenRow revision) old.newest (map (begun revision) touched)
        (all_weaker (IsOpenRow old.last) (IsOpenRow revision) (λ x row. record { begun = omega (arith, row.begun, sooner); endless = row.endless }) old.newest rows.newest_open) (all_begin touched);
    earlier_ended = each_list (IsEndedRow revision) c old.earlier (map (ended revision) (replaced_by touched old.newest))
        (all_weaker (λ (layer : LayerFeatures). AllByRecursion (IsEndedRow old.last) layer.features) (λ (layer : LayerFeatures). AllByRecursion (IsEndedRow revision) layer.features)
        (λ layer all. all_weaker (IsEndedRow old.last) (IsEndedRow revision) (λ x e. omega (arith, e, sooner)) layer.features all) old.earlier rows.earlier_ended)
        (all_end (replaced_by touched old.newest));
    in_turn = turns_next revision old.last few old.newest touched rows.listed.ascending listed.ascending rows.newest_open sooner c old.earlier rows.earlier_ended rows.in_turn;
    few = countable;
  }

  ascend : AllAscend old.earlier
  ascend = rows_ascend old rows

  pub are_next : AreNext revision touched old next_rows
  are_next = record {
    collection = refl;
    last = refl;
    before = λ r less. shown_before revision old.last few old.newest touched rows.listed.ascending listed.ascending rows.newest_open r less c old.earlier ascend;
    after = λ r later within. shown_after revision old.last few old.newest touched rows.listed.ascending listed.ascending rows.newest_open r later within sooner c old.earlier ascend rows.earlier_ended;
  }
