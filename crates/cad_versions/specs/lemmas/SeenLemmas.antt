-- What a revision lists are those of all entries that it sees, in their order.
use Rattle.std.proofs.Common.{◌≡◌, ℕ, ◌≤◌, pos, int_le, Bool, false, List, [], ◌∷◌, length, map, sym, ap, ◌∙◌, subst, is_eq}
use Rattle.std.specs.List.{AllByRecursion, IsDistinct}
use Rattle.std.specs.Cmp.{IsTotalOrder}
use Rattle.std.specs.Ordering.{eq_by_cmp}
use Rattle.std.proofs.lemmas.Cmp.{on_total}
use Rattle.cad_versions.specs.declared.command.Command.{Command}
use Rattle.cad_versions.specs.AsOf.{as_of, all_entries, entries_listed, entry_order, versions_at}
use Rattle.cad_versions.specs.Entries.{Entry, version_in, entries_of, entries_at, seen_at}
use Rattle.cad_versions.specs.lemmas.EntryLemmas.{IsDated, all_by, entries_dated, listing_is, versions_of_entries}
use Rattle.cad_versions.specs.lemmas.HistoryLemmas.{histories}
use Rattle.cad_versions.specs.Identifiers.{by_identifier}
use Rattle.cad_versions.specs.lemmas.ListLemmas.{all_unmapped}
use Rattle.cad_versions.specs.lemmas.OrderLemmas.{versions_total, identifiers_apart}
use Rattle.cad_versions.specs.Refusals.{AreAccepted}
use Rattle.cad_versions.specs.Sorting.{sort_by}
use Rattle.cad_versions.specs.lemmas.SortLemmas.{all_sorted, sort_filter}
use Rattle.cad_versions.specs.VersionedObject.{VersionedObject}
use Rattle.cad_versions.specs.Versions.{versions}

-- ---- entries in order

pub entries_total : IsTotalOrder entry_order
entries_total = on_total version_in versions_total

all_through : (v : VersionedObject) (ls : List Entry) → AllByRecursion (λ w. is_eq (by_identifier v w) ≡ false) (map version_in ls) → AllByRecursion (λ l. is_eq (by_identifier v (version_in l)) ≡ false) ls
all_through v ls all = all_unmapped (λ w. is_eq (by_identifier v w) ≡ false) version_in ls all

apart_through : (ls : List Entry) → IsDistinct (eq_by_cmp by_identifier) (map version_in ls) → IsDistinct (eq_by_cmp entry_order) ls
unfolding IsDistinct
apart_through [] apart = tt
apart_through (l ∷ ls) apart = (all_through (version_in l) ls apart.0, apart_through ls apart.1)

pub entries_apart : (cs : List Command) → AreAccepted [] cs → IsDistinct (eq_by_cmp entry_order) (entries_of cs)
entries_apart cs accepted = apart_through (entries_of cs) (subst (IsDistinct (eq_by_cmp by_identifier)) (sym (versions_of_entries cs)) (identifiers_apart (versions cs) (histories cs accepted)))

abbrev is_by : ℕ → Entry → Bool
is_by r e = int_le (pos e.entered) (pos r)

pub all_dated : (cs : List Command) → AllByRecursion (IsDated (length cs)) (all_entries cs)
all_dated cs = all_sorted entry_order (IsDated (length cs)) (entries_of cs) (entries_dated cs)

listed_then : (cs : List Command) → AreAccepted [] cs → (r : ℕ) → entries_listed r (entries_of cs) ≡ entries_at r (all_entries cs)
listed_then cs accepted r = sym (sort_filter entry_order (is_by r) entries_total (entries_of cs) (entries_apart cs accepted))

pub versions_then : (cs : List Command) → AreAccepted [] cs → (r : ℕ) → r ≤ length cs → as_of r cs ≡ versions_at r (all_entries cs)
versions_then cs accepted r h = sym (listing_is r cs h) ∙ ap (map (seen_at r)) (listed_then cs accepted r)
