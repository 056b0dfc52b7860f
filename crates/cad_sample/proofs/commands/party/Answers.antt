use Rattle.std.proofs.Common.{refl}
use Rattle.cad_sample.proofs.commands.party.Goals as goal

pub returns : goal.returns
unfolding lib.Utf8.encode
returns c = rw (c.in_ok-words.ensures, c.in_ok-words-2.ensures) refl
