use Rattle.std.proofs.Common.{rules}
use Rattle.std.proofs.lemmas.List.Sorted.{IsPartitionPoint-from_clause}
use Rattle.cad_layer.proofs.RunLemmas.{is_less, is_no_more, begins, ends, rest_is, run_of}
use Rattle.cad_layer.proofs.finding.run_of.Goals as goal

pub returns : goal.returns
returns c =
    let vs = c.args.features.now in
    let object = c.args.object in
    let first = c.partition_point-first.result in
    let rest = rest_is vs first in
    let start = IsPartitionPoint-from_clause (is_less object) vs first c.partition_point-first.ensures.partitioned (begins object vs c.requires) (λ a r f' k. search rules) in
    let stop = IsPartitionPoint-from_clause (is_no_more object) _ c.partition_point-count.result c.partition_point-count.ensures.partitioned (rw rest (ends object vs first c.requires)) (λ a r f' k. search rules) in
    run_of object vs _ first c.partition_point-count.result rest start stop
