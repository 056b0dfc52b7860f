use Rattle.std.proofs.Common.{◌∙◌, arith, ap, sym}
use Rattle.std.proofs.lemmas.List.{length-map}
use Rattle.cad_ordered.specs.Ranged.{column, value_at}
use Rattle.cad_ordered.specs.Columns.{data_of, kind_of}
use Rattle.cad_positions.specs.Parts.{places_in, ranks_in}
use Rattle.cad_ordered.proofs.Orders.{once_each, all_known, no_more, by_rank_is}
use Rattle.cad_ordered.proofs.ordered.made.Goals as goal

pub new-requires-clause-fewer : goal.new-requires-clause-fewer
new-requires-clause-fewer c = let xs = c.args.features.now in let n = length-map xs (value_at c.args.place) in omega (arith, no_more _ _ (column c.args.place xs) c.requires.ordered, n)

pub new-requires-clause-known : goal.new-requires-clause-known
new-requires-clause-known c = let xs = c.args.features.now in let n = length-map xs (value_at c.args.place) in rw n at (all_known (data_of c.args.keys) c.args.places.items (column c.args.place xs) c.requires.ordered)

pub new-requires-clause-distinct : goal.new-requires-clause-distinct
new-requires-clause-distinct c = once_each _ _ _ c.requires.ordered

pub returns : goal.returns
returns c =
    let xs = c.args.features.now in
    let r = c.in_ok-ranking.ranking in
    let n = length-map xs (value_at c.args.place) in
    let same = c.in_ok-ranking.ensures in
    ap (λ vs. record { kind = kind_of c.args.keys; values = vs }) (by_rank_is (data_of c.args.keys) (places_in r) (ranks_in r) (column c.args.place xs) (rw same.places c.requires.ordered) r.inverse (same.counted ∙ sym n) c.requires.none)
