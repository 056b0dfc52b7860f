use Rattle.std.proofs.Common.{rules, ◌-◌, length, take, drop, subst, sym}
use Rattle.std.specs.List.Sorted.{IsNonDecreasingBy}
use Rattle.std.proofs.lemmas.List.Sorted.{IsPartitionPoint-from_clause, IsPartitionedBy-ltb, IsPartitionedBy-leb, IsNonDecreasingBy-drop}
use Rattle.cad_versions.specs.Objects.{object_number}
use Rattle.cad_feature.specs.inner.StoredVersions.{number_of_entry}
use Rattle.cad_feature.proofs.EntryLemmas.{is_less, is_at_most, own_between}
use Rattle.cad_feature.proofs.RunLemmas.{rest_is}
use Rattle.cad_feature.proofs.entries.Entries.near.Goals as goal

pub returns : goal.returns
returns c =
    let es = c.args.self.now.entries.now in
    let object = c.args.object in
    let first = c.partition_point-first.result in
    let count = c.partition_point-count.result in
    let rest = take (length es - first) (drop first es) in
    let rising = c.args.self.now.rising in
    let rising_rest = subst (IsNonDecreasingBy number_of_entry) (sym (rest_is es first)) (IsNonDecreasingBy-drop number_of_entry first es rising) in
    let low = IsPartitionPoint-from_clause (is_less object) es first c.partition_point-first.ensures.partitioned (IsPartitionedBy-ltb number_of_entry es (object_number object) rising) (λ a r f' k. search rules) in
    let high = IsPartitionPoint-from_clause (is_at_most object) rest count c.partition_point-count.ensures.partitioned (IsPartitionedBy-leb number_of_entry rest (object_number object) rising_rest) (λ a r f' k. search rules) in
    own_between object es rest first count (rest_is es first) low high
