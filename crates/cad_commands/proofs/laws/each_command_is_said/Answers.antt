use Rattle.std.proofs.Common.{subst, sym}
use Rattle.cad_commands.specs.Laws.{IsSaid}
use Rattle.cad_commands.proofs.laws.each_command_is_said.Goals as goal

pub returns-in-Enter : goal.returns-in-Enter
returns-in-Enter c = subst IsSaid (sym c.in-Enter.is) c.entry_is_said.ensures

pub returns-in-Amend : goal.returns-in-Amend
returns-in-Amend c = subst IsSaid (sym c.in-Amend.is) c.amendment_is_said.ensures
