use Rattle.std.proofs.Common.{refl, ap}
use Rattle.std.specs.Str.{chars}
use Rattle.std.proofs.lemmas.Str.{scalars-chars, IsUtf8-had}
use Rattle.cad_feature.specs.Values.{a_text}
use Rattle.cad_feature.proofs.values.text.Goals as goal

pub returns-in_ok-text-in-Some : goal.returns-in_ok-text-in-Some
returns-in_ok-text-in-Some c =
    let words = c.in-Some.words.now in
    rw c.in-Some.is (ap (λ bytes. a_text (chars bytes)) c.in_ok-text-in-Some.ensures, (refl, scalars-chars words.spelling (IsUtf8-had words.spelling words.utf8)))
