use Rattle.std.proofs.lemmas.Result.{err_from_is_err_and}
use Rattle.cad_register.proofs.ReadLemmas.{refused, no_words}
use Rattle.cad_register.proofs.columns.words_at.Goals as goal

pub returns-in_err-words-in-Text : goal.returns-in_err-words-in-Text
returns-in_err-words-in-Text c =
    let p = err_from_is_err_and c.from_residual.result c.from_residual.ensures.1 in
    rw (p.1, p.2) (refused _ (no_words c.in-Text.bytes.now _ c.in-Text.ensures) c.in_err-words-in-Text.ensures)
