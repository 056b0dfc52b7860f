use Rattle.std.proofs.Common.{refl, arith, option_map}
use Rattle.cad_versions.specs.lemmas.ListLemmas.{filter_fewer}
use Rattle.cad_run.specs.Slices.{identifier, is_later}
use Rattle.cad_run.proofs.piecewise.page_in_pieces.Goals as goal

pub loop-budget-init : goal.loop-budget-init
loop-budget-init g c =
    let search = c.new-search.result in
    let new = c.new-search.ensures in
    let none = new.none.0 in
    let all = g.O.Opens.features c.args.features.now in
    record {
      owes = new.owes (g.T.CountedTest.passes c.args.test.now) all;
      same = refl;
      few = λ few. omega (arith, none, filter_fewer (is_later (option_map identifier search.after)) all, few);
    }
