-- Commands as JSON objects (own profile).
use Rattle.std.specs.Prelude.{◌≡◌, ℕ, List, [], ◌∷◌, codes, Some, IsUtf8}
use Rattle.std.specs.Option.{option_and_then}
use Rattle.serde_json.specs.Data.{Data, Members}
use Rattle.serde_json.specs.Data as json
use Rattle.serde_json.specs.Find.{as_object, as_str}
use Rattle.serde_json.specs.Read.{read}
use Rattle.cad_day.specs.declared.day.Day.{Day}
use Rattle.cad_versions.specs.declared.object_id.ObjectId.{ObjectId}
use Rattle.cad_versions.specs.declared.body.Body.{Body}
use Rattle.cad_versions.specs.declared.body.Class.{Class}
use Rattle.cad_versions.specs.declared.command.Command.{Command}
use Rattle.cad_versions.specs.declared.command.Command.TheVariants as command
use Rattle.cad_versions.specs.Class.{class_name}
use Rattle.cad_commands.specs.declared.operation.Operation.{Operation}
use Rattle.cad_commands.specs.declared.operation.Operation.TheVariants.{Enter, Amend, Retire}
use Rattle.cad_commands.specs.Members.{Has, AreOnly, HasOneOther}
use Rattle.cad_commands.specs.Values.{IsObjectOf, IsDayOf}
use Rattle.cad_commands.specs.Bodies.{SaysBody}

abbrev pub operation_name : Operation → List ℕ
operation_name Enter = codes "enter"
operation_name Amend = codes "amend"
operation_name Retire = codes "retire"

abbrev pub IsOperationOf : Data → Operation → Type 0
IsOperationOf d operation = as_str d ≡ Some (operation_name operation)

-- the members that are not the body's
abbrev pub names_beside : List (List ℕ)
names_beside = codes "do" ∷ codes "object" ∷ codes "first" ∷ []

-- the one other member has the name of a class, and says a body of it
abbrev pub SaysOneBody : Members → Body → Type 0
SaysOneBody ms body =
    (class : Class) × (inner : Members) × HasOneOther names_beside ms (class_name class) (json.object inner) × SaysBody inner class body

-- what begins a version: its object, its first day and its body
abbrev pub SaysBeginning : Members → ObjectId × Day × Body → Type 0
SaysBeginning ms (object, first, body) =
    Has IsObjectOf (codes "object") ms object × Has IsDayOf (codes "first") ms first × SaysOneBody ms body

-- what ends an object: its last day, and nothing else
abbrev pub SaysEnd : Members → ObjectId × Day → Type 0
SaysEnd ms (object, last) =
    Has IsObjectOf (codes "object") ms object × Has IsDayOf (codes "last") ms last × AreOnly (codes "do" ∷ codes "object" ∷ codes "last" ∷ []) ms

abbrev pub SaysCommand : Members → Command → Type 0
SaysCommand ms (command.Enter object first body) = Has IsOperationOf (codes "do") ms Enter × SaysBeginning ms (object, first, body)
SaysCommand ms (command.Amend object first body) = Has IsOperationOf (codes "do") ms Amend × SaysBeginning ms (object, first, body)
SaysCommand ms (command.Retire object last) = Has IsOperationOf (codes "do") ms Retire × SaysEnd ms (object, last)

-- the text is the JSON text, in UTF-8, of an object that says the command (RFC 8259)
abbrev pub Says : List ℕ → Command → Type 0
Says text command =
    IsUtf8 text × ((ms : Members) × (option_and_then as_object (read text) ≡ Some ms) × SaysCommand ms command)
