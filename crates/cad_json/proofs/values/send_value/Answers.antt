use Rattle.std.proofs.lemmas.Result.{on_ok_weaker}
use Rattle.std.proofs.lemmas.Str.{encodes-chars}
use Rattle.cad_json.proofs.values.send_value.Goals as goal

pub returns-in-Text : goal.returns-in-Text
returns-in-Text g c = rw (c.in-Text.is, ← c.as_ref.ensures, ← c.deref.ensures, encodes-chars c.deref.result.now c.deref.utf8) (on_ok_weaker c.str.result (λ e. (e, tt)) c.str.ensures)
