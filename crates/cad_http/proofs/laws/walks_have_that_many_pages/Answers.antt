use Rattle.cad_http.proofs.CountLemmas.{count}
use Rattle.cad_http.proofs.laws.walks_have_that_many_pages.Goals as goal

pub returns : goal.returns
returns c = count c.walks_are_whole.ensures
