use Rattle.std.proofs.lemmas.Result.{err_from_is_err_and}
use Rattle.cad_versions.specs.BodyParts.{parts_of}
use Rattle.cad_register.proofs.ReadLemmas.{refused}
use Rattle.cad_register.proofs.PartLemmas.{parts_same}
use Rattle.cad_register.proofs.stored_version.body_at.Goals as goal

pub returns-in_err-parts_at : goal.returns-in_err-parts_at
returns-in_err-parts_at c =
    let p = err_from_is_err_and c.from_residual.result c.from_residual.ensures.1 in
    rw (p.1, p.2) (refused _ (λ none body h. none (parts_of body) h.1) c.in_err-parts_at.ensures)

pub returns-in-None : goal.returns-in-None
returns-in-None c body h = c.in-None.ensures body (h.0, parts_same c.args.row.now (parts_of body) c.in_ok-parts_at.field-0 h.1 c.in_ok-parts_at.ensures)
