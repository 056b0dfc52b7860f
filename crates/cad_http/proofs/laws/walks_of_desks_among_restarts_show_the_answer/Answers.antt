use Rattle.cad_http.proofs.laws.walks_of_desks_among_restarts_show_the_answer.Goals as goal

pub returns : goal.returns
returns g c first runs desk stands starts =
    c.walks_among_restarts_show_the_answer.ensures first runs (g.met.L.Ledger.were_accepted _ first stands.ledger) starts
