use Rattle.std.proofs.Common.{rules}
use Rattle.std.proofs.lemmas.List.Sorted.{IsPartitionPoint-from_clause}
use Rattle.cad_layer.specs.Identifiers.{identifier}
use Rattle.cad_layer.specs.lemmas.AfterLemmas.{is_no_later, parted, found_after}
use Rattle.cad_layer.proofs.changed.changes_after.Goals as goal

pub returns : goal.returns
returns c =
    let last = identifier c.args.object c.args.number in
    let xs = c.args.changes.now in
    found_after last xs c.partition_point-first.result (IsPartitionPoint-from_clause (is_no_later last) xs c.partition_point-first.result c.partition_point-first.ensures.partitioned (parted last xs c.requires) (λ a r f' k. search rules))
