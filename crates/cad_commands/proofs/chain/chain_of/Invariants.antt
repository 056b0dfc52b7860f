use Rattle.std.proofs.Common.{◌≡◌, take}
use Rattle.cad_commands.specs.Chains.{chain_of as chain_of_all, digest_of}
use Rattle.cad_commands.proofs.chain.chain_of.Given as goal

abbrev pub invariant-loop-command : goal.invariant-loop-command
invariant-loop-command l = digest_of l.chain ≡ chain_of_all (take l.command-index l.commands)
