use Rattle.cad_http.proofs.WalkLemmas.{whole_answer}
use Rattle.cad_http.proofs.laws.walks_show_the_answer.Goals as goal

pub returns : goal.returns
returns c = whole_answer (record {
  requested = c.resources_are_requested.ensures;
  paths = c.paths_are_read_back.ensures.resources;
  faults = c.fault_or_asks.ensures;
  one = c.pairs_ask_one_thing.ensures;
  answer = c.the_same_has_one_answer.ensures;
  next = c.next_is_read_again.ensures;
  stay = c.revisions_stay.ensures;
  whole = c.walks_are_whole.ensures;
  count = c.walks_have_that_many_pages.ensures;
  listed = c.accepted_are_listed.ensures;
  few = c.accepted_are_few.ensures;
})
