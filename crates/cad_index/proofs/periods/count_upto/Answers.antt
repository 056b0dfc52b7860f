use Rattle.std.proofs.Common.{rules, nat_le}
use Rattle.std.proofs.lemmas.List.Sorted.{IsPartitionPoint-from_clause, IsPartitionedBy-leb}
use Rattle.cad_index.proofs.PeriodLemmas.{counted_to}
use Rattle.cad_index.proofs.periods.count_upto.Goals as goal

pub returns : goal.returns
returns c =
    let times = c.args.times.now in
    let point = IsPartitionPoint-from_clause (λ time. nat_le time c.args.revision) times _ c.partition_point.ensures.partitioned (IsPartitionedBy-leb (λ time. time) times c.args.revision c.requires) (λ a r q k. search rules) in
    counted_to (λ time. nat_le time c.args.revision) times c.partition_point.result c.partition_point.ensures.bound point
