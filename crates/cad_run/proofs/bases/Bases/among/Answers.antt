use Rattle.std.proofs.Common.{◌∙◌, ap, sym, filter, arith}
use Rattle.cad_lookup.specs.Candidates.{is_candidate}
use Rattle.cad_positions.specs.Rest.{left_in}
use Rattle.cad_run.specs.Positions.{holds_at}
use Rattle.cad_run.specs.Sought.{is_in_time}
use Rattle.cad_run.proofs.PageLemmas.{rows_passing}
use Rattle.cad_run.proofs.bases.Bases.among.Goals as goal

pub returns : goal.returns
returns c =
    let xs = c.features-features.result.now in
    let test = is_candidate c.args.plan.now in
    ap (filter (is_in_time c.args.revision))
    (rows_passing test xs (left_in c.of.result)
    (λ k. c.of.ensures k ∙ c.in_ok-source.ensures k ∙ ap (λ ys. holds_at test ys k) (sym c.features-features.ensures.features))
    (omega (arith, c.features-features.ensures.few))
    ∙ ap (filter test) c.features-features.ensures.features)
