use Rattle.cad_page.proofs.PlanLemmas.{form_alone}
use Rattle.cad_page.proofs.planning.page_form.Goals as goal

pub returns-in-None : goal.returns-in-None
returns-in-None c = form_alone c.args.ask.now c.in_ok-filter_form.filter_form (rw c.in-None.is at c.requires) c.in_ok-filter_form.ensures.stands c.in_ok-filter_form.ensures.costs

pub boxed_form-requires-clause-boxed : goal.boxed_form-requires-clause-boxed
boxed_form-requires-clause-boxed c = rw c.in-Some.is at c.requires
