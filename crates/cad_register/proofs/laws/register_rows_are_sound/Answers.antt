use Rattle.sqlite.specs.Held.{state}
use Rattle.cad_register.proofs.SoundLemmas.{standing_sound}
use Rattle.cad_register.proofs.laws.register_rows_are_sound.Goals as goal

pub returns : goal.returns
returns g c register commands revision it = (it.stands.holds.lines, it.stands.holds.holds, standing_sound (state g.S.Store register.connection) commands revision it.stands)
