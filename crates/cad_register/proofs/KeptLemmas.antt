-- A row stands for one entry, and what is written for an entry stands for it.
use Rattle.std.proofs.Common.{◌≡◌, sym, ◌∙◌}
use Rattle.sqlite_value.specs.Order.{Row}
use Rattle.cad_versions.specs.Class.{class_of}
use Rattle.cad_versions.specs.BodyParts.{parts_of}
use Rattle.cad_versions.specs.lemmas.BodyLemmas.{same_body, same_class}
use Rattle.cad_versions.specs.Entries.{Entry}
use Rattle.cad_register.specs.StoredVersions.{IsRowOf}
use Rattle.cad_register.proofs.PartLemmas.{parts_same, counts_same, days_same, day_cell, object_cell, count_cell}

-- a row is that of one entry
pub entry_same : (row : Row) (e f : Entry) → IsRowOf row e → IsRowOf row f → e ≡ f
entry_same row e f h k =
    let v = e.version in
    let w = f.version in
    let object = object_cell v.object w.object (sym h.object ∙ k.object) in
    let number = count_cell v.number w.number (sym h.number ∙ k.number) in
    let class = same_class (class_of v.body) (class_of w.body) (count_cell _ _ (sym h.class ∙ k.class)) in
    let first = day_cell v.first w.first (sym h.first ∙ k.first) in
    let last = days_same v.last w.last _ h.last k.last in
    let entered = count_cell e.entered f.entered (sym h.entered.0 ∙ k.entered.0) in
    let closed = counts_same e.closed f.closed _ h.closed.0 k.closed.0 in
    let parts = parts_same row (parts_of v.body) (parts_of w.body) h.parts k.parts in
    let said = same_body v.body w.body class parts in
    λ i. record { version = record { object = object i; number = number i; first = first i; last = last i; body = said i }; entered = entered i; closed = closed i }
