use Rattle.cad_run.proofs.OwedLemmas.{first_search}
use Rattle.cad_run.proofs.search.Search.new.Goals as goal

pub returns-clause-owes : goal.returns-clause-owes
returns-clause-owes c = λ passes all. first_search passes all c.new.result.items c.args.after c.args.limit c.new.ensures.items
