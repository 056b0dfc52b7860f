use Rattle.cad_desk.specs.Desks.{connections_of}
use Rattle.cad_http.proofs.laws.walks_of_desks_show_the_answer.Goals as goal

pub returns : goal.returns
returns g c commands old new events answers took counts stands =
    let ran = c.steps_are_a_run.ensures commands old new events answers took counts stands in (
      ran,
      c.walks_in_runs_show_the_answer.ensures (record { commands = commands; connections = connections_of old; events = events; answers = answers; ran = ran })
          (g.met.L.Ledger.were_accepted _ commands stands.ledger),
    )
