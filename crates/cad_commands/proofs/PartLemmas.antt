-- The members of a body, by its parts.
use Rattle.std.proofs.Common.{◌≡◌, ◌^◌, ◌<◌, ◌≤◌, refl, sym, ◌∙◌, arith}
use Rattle.std.specs.Option.{ForSome}
use Rattle.json.proofs.Printed.Utf8.{IsUtf8-are_ascii}
use Rattle.serde_json.specs.Data.{no_members, members_depth}
use Rattle.serde_json.specs.Data as json
use Rattle.cad_versions.specs.declared.body.Body.{Body}
use Rattle.cad_versions.specs.declared.body_parts.BodyParts.{BodyParts}
use Rattle.cad_versions.specs.BodyParts.{area_in, parts_of}
use Rattle.cad_versions.specs.Class.{class_attributes, class_of}
use Rattle.cad_commands.specs.Writing.{outline_json, holes_json, object_json, words_json, share_json, point_json, part_members, body_members}
use Rattle.cad_commands.proofs.ChosenLemmas.{chosen_plain, chosen_depth, puts_chosen, chosen_puts}
use Rattle.cad_commands.proofs.ClassLemmas.{class_ascends}
use Rattle.cad_commands.proofs.PlainLemmas.{words_plain, object_plain, point_plain, outline_plain, holes_plain, share_plain, any_plain, area_plain, area_depth, object_depth, share_depth, outline_depth, holes_depth, spot_depth, words_depth, flag_depth}
use Rattle.cad_commands.proofs.TextLemmas.{HasPlain, puts}

parts_plain : (parts : BodyParts) → ForSome parts.area (λ n. n < 2 ^ 32) → HasPlain (part_members parts)
parts_plain parts small = (
  IsUtf8-are_ascii _ refl,
  area_plain parts.area small,
  (
    IsUtf8-are_ascii _ refl,
    any_plain words_json words_plain parts.code,
    (
      IsUtf8-are_ascii _ refl,
      any_plain holes_json holes_plain parts.shape,
      (
        IsUtf8-are_ascii _ refl,
        any_plain words_json words_plain parts.label,
        (
          IsUtf8-are_ascii _ refl,
          any_plain words_json words_plain parts.name,
          (
            IsUtf8-are_ascii _ refl,
            any_plain object_json object_plain parts.party,
            (
              IsUtf8-are_ascii _ refl,
              any_plain json.boolean (λ flag. tt) parts.required,
              (
                IsUtf8-are_ascii _ refl,
                any_plain outline_json outline_plain parts.shape,
                (
                  IsUtf8-are_ascii _ refl,
                  any_plain share_json share_plain parts.share,
                  (
                    IsUtf8-are_ascii _ refl,
                    any_plain point_json point_plain parts.spot,
                    (IsUtf8-are_ascii _ refl, any_plain object_json object_plain parts.unit, tt),
                  ),
                ),
              ),
            ),
          ),
        ),
      ),
    ),
  ),
)

-- they are written as a JSON text
pub body_plain : (b : Body) → ForSome (area_in b) (λ n. n < 2 ^ 32) → HasPlain (body_members b)
body_plain b small = chosen_plain (class_attributes (class_of b)) (part_members (parts_of b)) (parts_plain (parts_of b) small)

parts_depth : (parts : BodyParts) → members_depth (part_members parts) ≤ 3
parts_depth parts =
    omega (arith, area_depth parts.area, words_depth parts.code, holes_depth parts.shape, words_depth parts.label, words_depth parts.name, object_depth parts.party, flag_depth parts.required, outline_depth parts.shape, share_depth parts.share, spot_depth parts.spot, object_depth parts.unit)

-- they nest no deeper than three
pub body_depth : (b : Body) → members_depth (body_members b) ≤ 3
body_depth b = omega (arith, chosen_depth (class_attributes (class_of b)) (part_members (parts_of b)), parts_depth (parts_of b))

-- they stand in byte order of their names
pub body_ascends : (b : Body) → puts (body_members b) no_members ≡ body_members b
body_ascends b = class_ascends (class_of b) (parts_of b)

-- and are what is put member by member
pub body_put : (b : Body) → puts_chosen (class_attributes (class_of b)) (part_members (parts_of b)) no_members ≡ body_members b
body_put b = sym (chosen_puts (class_attributes (class_of b)) (part_members (parts_of b)) no_members) ∙ body_ascends b
