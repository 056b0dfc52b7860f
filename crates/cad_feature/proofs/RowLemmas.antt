-- Rows with the values of the revision at which their period starts.
use Rattle.std.proofs.Common.{◌≡◌, ℕ, zero, suc, ◌≤◌, ◌<◌, nat_le, nat_lt, ◌&&◌, true, List, [], ◌∷◌, ◌++◌, reverse, sym, ap, ◌∙◌, subst, arith, ◌⊎◌, inl, inr}
use Rattle.std.specs.List.{AllByRecursion}
use Rattle.std.proofs.lemmas.Bool.Decides.{nat_tests}
use Rattle.std.proofs.lemmas.List.{reverse-append}
use Rattle.cad_versions.specs.Entries.{Entry}
use Rattle.cad_schema.specs.declared.collection.Collection.{Collection}
use Rattle.cad_feature.specs.Features.{Item, IsFeatureOf}
use Rattle.cad_feature.specs.FeaturesThen.{feature_at}
use Rattle.cad_feature.specs.VersionRows.{IsRowOf, RunOn}
use Rattle.cad_feature.specs.declared.period.Period.{Period}
use Rattle.cad_feature.specs.inner.StoredVersions.{row_from, FeatureStays}

-- ---- what each revision leaves as it is

split : (r n : ℕ) → r ≤ suc n → (r ≡ suc n) ⊎ (r ≤ n)
split r n h = grind arith

module _ (item : ℕ → Item) where
  abbrev Stays : ℕ → ℕ → Type 0
  Stays from upto = (n : ℕ) → from ≤ n → n < upto → item (suc n) ≡ item n

  constant : (from upto : ℕ) → Stays from upto → (r : ℕ) → from ≤ r → r ≤ upto → item upto ≡ item r
  constant from zero stays r h k = ap item (omega (arith, k))
  constant from (suc upto) stays r h k = go (split r upto k) (constant from upto (λ n l m. stays n l (omega (arith, m))) r h)
    where
      go : (r ≡ suc upto) ⊎ (r ≤ upto) → (r ≤ upto → item upto ≡ item r) → item (suc upto) ≡ item r
      go (inl e) more = ap item (sym e)
      go (inr l) more = stays upto (omega (arith, h, l)) (omega arith) ∙ more l

-- ---- rows

inside : (start end r : ℕ) → (nat_le start r && nat_lt r end) ≡ true → (start ≤ r) × (r < end)
inside start end r h = (grind (arith, nat_tests), grind (arith, nat_tests))

module _ (es : List Entry) (collection : Collection) (e : Entry) where
  pub row_is : (period : Period) (x : Item) → x ≡ feature_at es collection e period.start → record { object = x.object; number = x.number; values = x.values; period = period } ≡ row_from es collection e period
  row_is period x is = λ i. record { object = (is i).object; number = (is i).number; values = (is i).values; period = period }

  -- since the period starts the version stays the same feature up to a revision, and the period has no later one that counts
  pub is_row : (newest last : ℕ) (period : Period) (row : Item) → row ≡ row_from es collection e period → IsFeatureOf collection row → FeatureStays period.start last es e
      → ((r : ℕ) → r < period.end → r ≤ newest → r ≤ last) → IsRowOf newest es collection e row
  is_row newest last period row is fits stays short = record {
    object = ap (λ (x : Item). x.object) is;
    number = ap (λ (x : Item). x.number) is;
    fits = fits;
    values = λ r within low. let period_is = ap (λ (x : Item). x.period) is in let inside_is = inside period.start period.end r (subst (λ (p : Period). (nat_le p.start r && nat_lt r p.end) ≡ true) period_is within) in
        subst (λ (x : Item). x.values ≡ (feature_at es collection e r).values) (sym is)
        (ap (λ (x : Item). x.values) (sym (constant (feature_at es collection e) period.start r (λ n from upto. stays collection n from (omega (arith, upto, short r inside_is.1 low))) period.start (omega arith) inside_is.0)));
  }

-- one row more, before the others
pub run_more : (start end until : ℕ) (row : Item) (rows pushed : List Item) → row.period ≡ record { start = start; end = end } → start < end → pushed ≡ rows ++ row ∷ [] → RunOn end until (reverse rows) → RunOn start until (reverse pushed)
run_more start end until row rows pushed period less is run =
    subst (RunOn start until) (sym (ap reverse is)) (subst (RunOn start until) (sym (reverse-append rows (row ∷ [])))
    (ap (λ (p : Period). p.start) period, subst (λ (p : Period). start < p.end) (sym period) less, subst (λ (p : Period). RunOn p.end until (reverse rows)) (sym period) run))

pub all_more : (P : Item → Type 0) (row : Item) (rows pushed : List Item) → pushed ≡ rows ++ row ∷ [] → P row → AllByRecursion P (reverse rows) → AllByRecursion P (reverse pushed)
all_more P row rows pushed is one all = subst (AllByRecursion P) (sym (ap reverse is)) (subst (AllByRecursion P) (sym (reverse-append rows (row ∷ []))) (one, all))
