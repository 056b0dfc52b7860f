-- The object that is made of a command says it, and is read back from its compact text.
use Rattle.std.proofs.Common.{◌≡◌, ℕ, ◌^◌, ◌<◌, ◌≤◌, List, codes, Some, IsUtf8, refl, ap, arith}
use Rattle.std.specs.Option.{ForSome, option_and_then}
use Rattle.json.proofs.Printed.Utf8.{IsUtf8-are_ascii}
use Rattle.serde_json.specs.Data.{Members, depth}
use Rattle.serde_json.specs.Data as json
use Rattle.serde_json.specs.Find.{as_object}
use Rattle.serde_json.specs.Read.{max_depth}
use Rattle.serde_json.specs.Written.{compact_text}
use Rattle.cad_day.specs.declared.day.Day.{Day}
use Rattle.cad_day.specs.Days.{number_of}
use Rattle.cad_day.specs.DayTexts.{day_named, day_text}
use Rattle.cad_versions.specs.declared.object_id.ObjectId.{ObjectId}
use Rattle.cad_versions.specs.declared.body.Body.{Body}
use Rattle.cad_versions.specs.declared.command.Command.{Command}
use Rattle.cad_versions.specs.declared.command.Command.TheVariants.{Enter, Amend, Retire}
use Rattle.cad_versions.specs.Class.{class_of}
use Rattle.cad_versions.specs.BodyParts.{area_in}
use Rattle.cad_commands.specs.Commands.{Says, SaysBeginning, SaysCommand}
use Rattle.cad_commands.specs.Laws.{IsSaid}
use Rattle.cad_commands.specs.Writing.{object_json, day_json, body_members, beginning_members, command_members, IsOneLine}
use Rattle.cad_commands.proofs.ClassLemmas.{body_said}
use Rattle.cad_commands.proofs.NameLemmas.{class_name_utf8, beginning_ascends}
use Rattle.cad_commands.proofs.PartLemmas.{body_plain, body_ascends, body_depth}
use Rattle.cad_commands.proofs.PlainLemmas.{day_plain, object_plain}
use Rattle.cad_commands.proofs.LengthLemmas.{weight}
use Rattle.cad_commands.proofs.TextLemmas.{IsPlain, text_utf8, text_is_read, text_lined, text_length}
use Rattle.cad_commands.proofs.WeightLemmas.{beginning_weight}

-- the day is read back from its text
abbrev IsReadBack : Day → Type 0
IsReadBack day = day_named (day_text (number_of day)) ≡ Some (number_of day)

beginning_said : (operation : List ℕ) (object : ObjectId) (first : Day) (b : Body) → IsReadBack first → ForSome (area_in b) (λ n. n < 2 ^ 32) → SaysBeginning (beginning_members operation object first b) (object, first, b)
beginning_said operation object first b back small =
    (refl, back, (class_of b, body_members b, refl, body_said b small))

pub enter_said : (object : ObjectId) (first : Day) (b : Body) → IsReadBack first → ForSome (area_in b) (λ n. n < 2 ^ 32) → SaysCommand (command_members (Enter object first b)) (Enter object first b)
enter_said object first b back small = (refl, beginning_said (codes "enter") object first b back small)

pub amend_said : (object : ObjectId) (first : Day) (b : Body) → IsReadBack first → ForSome (area_in b) (λ n. n < 2 ^ 32) → SaysCommand (command_members (Amend object first b)) (Amend object first b)
amend_said object first b back small = (refl, beginning_said (codes "amend") object first b back small)

pub retire_said : (object : ObjectId) (last : Day) → IsReadBack last → SaysCommand (command_members (Retire object last)) (Retire object last)
retire_said object last back = (refl, (refl, back, refl))

-- ---- that it is written as a JSON text

beginning_plain : (operation : List ℕ) (object : ObjectId) (first : Day) (b : Body) → IsUtf8 operation → ForSome (area_in b) (λ n. n < 2 ^ 32) → IsPlain (json.object (beginning_members operation object first b))
beginning_plain operation object first b named small = (
  (
    IsUtf8-are_ascii _ refl,
    named,
    (
      IsUtf8-are_ascii _ refl,
      day_plain first,
      (
        IsUtf8-are_ascii _ refl,
        object_plain object,
        (class_name_utf8 (class_of b), (body_plain b small, body_ascends b), tt),
      ),
    ),
  ),
  beginning_ascends (class_of b) (json.string operation) (day_json first) (object_json object) (json.object (body_members b)),
)

retire_plain : (object : ObjectId) (last : Day) → IsPlain (json.object (command_members (Retire object last)))
retire_plain object last = ((IsUtf8-are_ascii _ refl, IsUtf8-are_ascii _ refl, (IsUtf8-are_ascii _ refl, day_plain last, (IsUtf8-are_ascii _ refl, object_plain object, tt))), refl)

beginning_depth : (operation : List ℕ) (object : ObjectId) (first : Day) (b : Body) → depth (json.object (beginning_members operation object first b)) ≤ max_depth
beginning_depth operation object first b = omega (arith, body_depth b)

retire_depth : (object : ObjectId) (last : Day) → depth (json.object (command_members (Retire object last))) ≤ max_depth
retire_depth object last = omega arith

-- ---- the text

-- what an object's members say its compact text says
text_says : (ms : Members) (command : Command) → IsPlain (json.object ms) → depth (json.object ms) ≤ max_depth → SaysCommand ms command → Says (compact_text (json.object ms)) command
text_says ms command plain shallow said = (text_utf8 (json.object ms) plain, (ms, ap (option_and_then as_object) (text_is_read (json.object ms) plain shallow), said))

-- and it is one line
is_one_line_of : (command : Command) → IsPlain (json.object (command_members command)) → weight (json.object (command_members command)) ≤ 65536 → IsOneLine command
is_one_line_of command plain light = record {
  unbroken = text_lined (json.object (command_members command)) plain;
  short = omega (arith, text_length (json.object (command_members command)) plain, light);
}

pub enter_written : (object : ObjectId) (first : Day) (b : Body) → ForSome (area_in b) (λ n. n < 2 ^ 32) → SaysCommand (command_members (Enter object first b)) (Enter object first b) → IsSaid (Enter object first b)
enter_written object first b small said =
    let command = Enter object first b in
    let plain = beginning_plain (codes "enter") object first b (IsUtf8-are_ascii _ refl) small in
    (said, text_says (command_members command) command plain (beginning_depth (codes "enter") object first b) said, is_one_line_of command plain (beginning_weight (codes "enter") object first b (omega arith)))

pub amend_written : (object : ObjectId) (first : Day) (b : Body) → ForSome (area_in b) (λ n. n < 2 ^ 32) → SaysCommand (command_members (Amend object first b)) (Amend object first b) → IsSaid (Amend object first b)
amend_written object first b small said =
    let command = Amend object first b in
    let plain = beginning_plain (codes "amend") object first b (IsUtf8-are_ascii _ refl) small in
    (said, text_says (command_members command) command plain (beginning_depth (codes "amend") object first b) said, is_one_line_of command plain (beginning_weight (codes "amend") object first b (omega arith)))

pub retire_written : (object : ObjectId) (last : Day) → SaysCommand (command_members (Retire object last)) (Retire object last) → IsSaid (Retire object last)
retire_written object last said =
    let command = Retire object last in
    let plain = retire_plain object last in
    (said, text_says (command_members command) command plain (retire_depth object last) said, is_one_line_of command plain (omega arith))
