use Rattle.std.proofs.Common.{◌≡◌, ◌∙◌, ap, rules, to_z, of_z, w64}
use Rattle.std.proofs.lemmas.Int.{to_z-of_z}
use Rattle.std.specs.Fmt.{signed_decimal}
use Rattle.std.specs.Prelude.{decimal}
use Rattle.cad_office.proofs.PrintLemmas.{day_pieces, damage_pieces}
use Rattle.cad_office.proofs.print.print_refusal.Goals as goal

pub returns-in-DayNotAfter : goal.returns-in-DayNotAfter
returns-in-DayNotAfter g c =
    let number = c.as_bytes-number.ensures.value ∙ (c.format.ensures.text ∙ ap decimal c.number.ensures) in
    let name = c.as_bytes-name.ensures.value ∙ c.name.ensures in
    let text = day_pieces c.args.fault c.in-DayNotAfter.day _ _ _ _ _ _ c.in-DayNotAfter.is c.as_slice-refused.ensures number c.as_slice-blank.ensures name c.bytes-day.ensures c.as_slice-end.ensures in
    rw text at c.write_pieces.ensures

pub returns-in-Damaged : goal.returns-in-Damaged
returns-in-Damaged g c =
    let number = c.as_bytes-number.ensures.value ∙ (c.format.ensures.text ∙ ap decimal c.number.ensures) in
    let name = c.as_bytes-name.ensures.value ∙ c.name.ensures in
    let first : to_z w64 (of_z w64 c.in-Damaged.object) ≡ c.in-Damaged.object = to_z-of_z w64 c.in-Damaged.object (search rules) in
    let second : to_z w64 (of_z w64 c.in-Damaged.version) ≡ c.in-Damaged.version = to_z-of_z w64 c.in-Damaged.version (search rules) in
    let object = c.as_bytes-object.ensures.value ∙ (c.format-in-Damaged.ensures.text ∙ ap signed_decimal first) in
    let version = c.as_bytes-version.ensures.value ∙ (c.format-in-Damaged-2.ensures.text ∙ ap signed_decimal second) in
    let text = damage_pieces c.args.fault c.in-Damaged.object c.in-Damaged.version _ _ _ _ _ _ _ _ c.in-Damaged.is c.as_slice-refused.ensures number c.as_slice-blank.ensures name object c.as_slice-point.ensures version c.as_slice-end.ensures in
    rw text at c.write_pieces-in-Damaged.ensures
