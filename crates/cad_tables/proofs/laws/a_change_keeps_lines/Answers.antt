use Rattle.cad_tables.proofs.LawLemmas.{keeps_lines}
use Rattle.cad_tables.proofs.laws.a_change_keeps_lines.Goals as goal

pub returns : goal.returns
returns g c = keeps_lines g.L.Stored.line
