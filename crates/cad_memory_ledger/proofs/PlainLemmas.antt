-- What accepted commands leave of the versions that are kept, and how these are shown.
use Rattle.std.proofs.Common.{◌≡◌, ℕ, Bool, true, false, cond, List, [], ◌∷◌, map, filter, None, sym, ap₂, ◌∙◌, subst}
use Rattle.std.specs.List.{AllByRecursion, IsDistinct}
use Rattle.std.specs.Ordering.{eq_by_cmp}
use Rattle.cad_versions.specs.declared.command.Command.{Command}
use Rattle.cad_versions.specs.Refusals.{refusal}
use Rattle.cad_versions.specs.Entries.{Entry, version_in, entries_after, entries_at, seen_at}
use Rattle.cad_versions.specs.Identifiers.{by_identifier}
use Rattle.cad_versions.specs.lemmas.HistoryLemmas.{HasHistories, histories_then}
use Rattle.cad_versions.specs.lemmas.EntryLemmas.{after_same}
use Rattle.cad_versions.specs.lemmas.OrderLemmas.{identifiers_apart}
use Rattle.cad_versions.specs.lemmas.ClosingLemmas.{few_after}
use Rattle.cad_memory_ledger.specs.inner.Plain.{AreHistories, AreApart}
use Rattle.cad_versions.specs.lemmas.ListLemmas.{all_filtered}

-- ---- what is kept

pub histories_after : (n : ℕ) (ls : List Entry) (c : Command) → refusal (map version_in ls) c ≡ None → AreHistories ls → AreHistories (entries_after n ls c)
histories_after n ls c e all = record {
  histories = subst HasHistories (sym (after_same n ls c)) (histories_then (map version_in ls) c e all.histories);
  few = few_after n ls c e all.few;
}

-- the same of what is kept, and of the command's parts
pub allowed : (ls now : List Entry) (c d : Command) → ls ≡ now → c ≡ d → refusal (map version_in now) c ≡ None → refusal (map version_in ls) d ≡ None
allowed ls now c d e f h = ap₂ (λ xs b. refusal (map version_in xs) b) e (sym f) ∙ h

-- ---- what is shown

distinct-filter : {X : Type 0} (e : X → X → Bool) (p : X → Bool) (xs : List X) → IsDistinct e xs → IsDistinct e (filter p xs)
unfolding IsDistinct
distinct-filter e p [] h = tt
distinct-filter e p (x ∷ xs) h =
    elim (p x) as (λ b. IsDistinct e (cond b (x ∷ filter p xs) (filter p xs))) [ true ↦ (all_filtered (λ y. e x y ≡ false) p xs h.0, distinct-filter e p xs h.1) | false ↦ distinct-filter e p xs h.1 ]

pub distinct_by : {A X : Type 0} (e : X → X → Bool) (f : A → X) (xs : List A) → IsDistinct e (map f xs) → IsDistinct (λ a b. e (f a) (f b)) xs
unfolding IsDistinct
distinct_by e f [] h = tt
distinct_by {A} e f (x ∷ xs) h = (go xs h.0, distinct_by e f xs h.1)
  where
    go : (ys : List A) → AllByRecursion (λ y. e (f x) y ≡ false) (map f ys) → AllByRecursion (λ y. e (f x) (f y) ≡ false) ys
    go [] k = tt
    go (y ∷ ys) k = (k.0, go ys k.1)

distinct_from : {A X : Type 0} (e : X → X → Bool) (f : A → X) (xs : List A) → IsDistinct (λ a b. e (f a) (f b)) xs → IsDistinct e (map f xs)
unfolding IsDistinct
distinct_from e f [] h = tt
distinct_from {A} e f (x ∷ xs) h = (go xs h.0, distinct_from e f xs h.1)
  where
    go : (ys : List A) → AllByRecursion (λ y. e (f x) (f y) ≡ false) ys → AllByRecursion (λ y. e (f x) y ≡ false) (map f ys)
    go [] k = tt
    go (y ∷ ys) k = (k.0, go ys k.1)

-- no two of the versions that a revision sees have one identifier
pub seen_apart : (r : ℕ) (ls : List Entry) → AreHistories ls → AreApart (map (seen_at r) (entries_at r ls))
seen_apart r ls all =
    distinct_from (eq_by_cmp by_identifier) (seen_at r) (entries_at r ls) (distinct-filter _ _ ls (distinct_by (eq_by_cmp by_identifier) version_in ls (identifiers_apart (map version_in ls) all.histories)))
