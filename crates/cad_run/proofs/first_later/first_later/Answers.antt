use Rattle.std.proofs.Common.{rules}
use Rattle.std.proofs.lemmas.List.Sorted.{IsPartitionPoint-from_clause}
use Rattle.cad_run.specs.Slices.{identifier}
use Rattle.cad_layer.specs.lemmas.AfterLemmas.{is_no_later, parted}
use Rattle.cad_run.proofs.PageLemmas.{parted_at}
use Rattle.cad_run.proofs.first_later.first_later.Goals as goal

pub returns-clause-rest : goal.returns-clause-rest
returns-clause-rest c =
    let last = identifier c.args.last in
    let xs = c.args.features.now in
    parted_at last xs c.partition_point.result (IsPartitionPoint-from_clause (is_no_later last) xs c.partition_point.result c.partition_point.ensures.partitioned (parted last xs c.requires) (λ a r f' k. search rules))
