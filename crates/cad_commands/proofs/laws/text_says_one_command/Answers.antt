use Rattle.cad_commands.proofs.OneCommand.{one_command_said}
use Rattle.cad_commands.proofs.laws.text_says_one_command.Goals as goal

pub returns : goal.returns
returns c = one_command_said
