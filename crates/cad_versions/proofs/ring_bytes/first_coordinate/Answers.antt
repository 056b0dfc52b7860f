use Rattle.std.proofs.Common.{◌≡◌, ◌++◌, sym, subst, ap, ap₂, ◌∙◌, FitsSigned, to_z-of_z, take-append-drop}
use Rattle.std.specs.Int.{cast_unsigned, cast_signed, w64}
use Rattle.cad_versions.specs.ShapeBytes.{coordinate_bytes}
use Rattle.cad_versions.specs.lemmas.ShapeLemmas.{coordinate_read, eight_taken}
use Rattle.cad_versions.proofs.ring_bytes.first_coordinate.Goals as goal

pub returns : goal.returns
returns c =
    let bytes = c.args.bytes.now in
    let eight = c.in_ok-coordinate.coordinate.now in
    let n = c.from_be_bytes-bits.result in
    let r = c.cast_signed.result in
    let fits : FitsSigned w64 r = record { sfits = c.cast_signed.type_inv } in
    let fits_again : FitsSigned w64 (cast_signed w64 (cast_unsigned w64 r)) = subst (FitsSigned w64) (sym (to_z-of_z fits)) fits in
    let taken = eight_taken bytes eight c.in_ok-coordinate.rest.now c.in_ok-coordinate.ensures.cases.0 c.in_ok-coordinate.ensures.cases.2 (λ i. (c.type_inv.bytes i).fits) in
    let read : coordinate_bytes (cast_signed w64 n) ≡ eight = coordinate_read eight n taken.0 taken.1 c.from_be_bytes-bits.ensures c.from_be_bytes-bits.type_inv in
    let value : coordinate_bytes (cast_signed w64 (cast_unsigned w64 r)) ≡ eight = ap coordinate_bytes (to_z-of_z fits ∙ c.cast_signed.ensures) ∙ read in
    (sym (take-append-drop 8 bytes) ∙ ap₂ ◌++◌ (sym c.in_ok-coordinate.ensures.cases.0 ∙ sym value) (sym c.in_ok-coordinate.ensures.cases.1), fits_again)
