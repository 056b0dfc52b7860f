-- How many of features with changes pass a test, from what is counted of each.
use Rattle.std.proofs.Common.{◌≡◌, ◌+◌, ◌≤◌, Bool, true, false, List, [], ◌∷◌, length, filter, refl, ap, ap₂, sym, ◌∙◌, arith}
use Rattle.std.specs.List.{AllByRecursion}
use Rattle.std.proofs.lemmas.List.Sums.{count_by-le-length, length-filter}
use Rattle.cad_feature.specs.Features.{Item, by_identifier}
use Rattle.cad_lookup.specs.Ways.{how_many}
use Rattle.cad_layer.specs.lemmas.CountLemmas.{counted_by, merged_counted}
use Rattle.cad_layer.specs.lemmas.ItemLemmas.{items_total}
use Rattle.cad_layer.specs.lemmas.MomentLemmas.{each_counted}
use Rattle.cad_layer.specs.inner.Replaced.{replaced_in}
use Rattle.cad_layer.specs.Walks.{all_in, IsInOrder}

-- no more than there are
pub no_more : (test : Item → Bool) (xs : List Item) → how_many test xs ≤ length xs
no_more test xs = omega (arith, counted_by test xs, count_by-le-length test xs)

-- as an index counts them
pub filtered_counted : (test : Item → Bool) (xs : List Item) → length (filter test xs) ≡ how_many test xs
filtered_counted test xs = length-filter test xs ∙ sym (counted_by test xs)

module _ (base changes replaced : List Item) (up : IsInOrder base changes) (is : replaced ≡ replaced_in by_identifier base changes) where
  pub merged_count : (test : Item → Bool) → how_many test (all_in base changes) + how_many test replaced ≡ how_many test base + how_many test changes
  merged_count test = ap (λ xs. how_many test (all_in base changes) + how_many test xs) is ∙ merged_counted test by_identifier items_total base changes up.0 up.1

  pub merged_length : length (all_in base changes) + length replaced ≡ length base + length changes
  merged_length =
      ap₂ (λ m n. m + n) (sym (each_counted (all_in base changes))) (sym (each_counted replaced)) ∙ merged_count (λ x. true) ∙ ap₂ (λ m n. m + n) (each_counted base) (each_counted changes)

-- where none passes
pub none_counted : (test : Item → Bool) (xs : List Item) → AllByRecursion (λ x. test x ≡ false) xs → 0 ≡ how_many test xs
none_counted test [] none = refl
none_counted test (x ∷ xs) none = rw none.0 (none_counted test xs none.1)
