use Rattle.std.proofs.Common.{◌≡◌, drop, option_map}
use Rattle.cad_server.specs.Turns.{damage_of, earlier_damage, first_early}
use Rattle.cad_server.proofs.turns.earlier_damage.Given as goal

abbrev pub invariant-loop-stored : goal.invariant-loop-stored
invariant-loop-stored l = earlier_damage l.versions ≡ option_map damage_of (first_early l.before (drop l.stored-index l.versions))
