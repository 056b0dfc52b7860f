use Rattle.std.proofs.Common.{ap, length, refl, arith}
use Rattle.cad_run.specs.lemmas.TakenLemmas.{later_rises}
use Rattle.cad_run.proofs.PlaceLemmas.{piece_owes, piece_few, piece_smaller}
use Rattle.cad_run.proofs.search.Search.piece.Goals as goal

pub go_on-requires : goal.go_on-requires
go_on-requires g c κs =
    let here = ap length c.seek_after.ensures.left in
    let few = c.requires.few in
    ((refl, tt), (omega (arith, here, few), later_rises _ _ _ c.seek_after.ensures.left c.requires.ascending))

pub returns-clause-owes : goal.returns-clause-owes
returns-clause-owes g c = piece_owes (g.T.CountedTest.passes c.args.test.now) c.args.self.now c.go_on.new.self _ _ _ c.go_on.result c.seek_after.ensures.left c.go_on.ensures.owed c.go_on.ensures.place

pub returns-clause-few : goal.returns-clause-few
returns-clause-few g c = piece_few c.args.self.now c.go_on.new.self _ _ _ c.go_on.result c.seek_after.ensures.left c.requires.few c.go_on.ensures.few c.go_on.ensures.place

pub returns-clause-smaller : goal.returns-clause-smaller
returns-clause-smaller g c = piece_smaller c.args.self.now c.go_on.new.self c.args.budget (g.S.CountedSource.ahead c.args.source.now) _ _ c.go_on.result c.seek_after.ensures.ahead c.go_on.ensures.onward
