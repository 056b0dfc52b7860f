use Rattle.std.proofs.Common.{rules, ◌∙◌}
use Rattle.std.proofs.lemmas.List.Sorted.{IsPartitionPoint-from_clause}
use Rattle.cad_feature.proofs.RunLemmas.{is_less, begins, rest_is, run_of}
use Rattle.cad_feature.proofs.joining.from_object.Goals as goal

pub returns : goal.returns
returns c =
    let vs = c.near-near.result.now in
    let rising = c.near-near.ensures.rising in
    let object = c.args.object in
    let first = c.partition_point-first.result in
    let rest = rest_is vs first in
    let start = IsPartitionPoint-from_clause (is_less object) vs first c.partition_point-first.ensures.partitioned (begins object vs rising) (λ a r f' k. search rules) in
    run_of object vs _ first rest rising start ∙ c.near-near.ensures.all
