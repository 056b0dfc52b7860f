-- The parts of a command.
use Rattle.std.specs.Prelude.{Option, Some, None}
use Rattle.cad_versions.specs.declared.object_id.ObjectId.{ObjectId}
use Rattle.cad_versions.specs.declared.body.Body.{Body}
use Rattle.cad_versions.specs.declared.command.Command.{Command}
use Rattle.cad_versions.specs.declared.command.Command.TheVariants.{Enter, Amend, Retire}

abbrev pub object_named : Command → ObjectId
object_named (Enter object first body) = object
object_named (Amend object first body) = object
object_named (Retire object last) = object

-- what the version says that the command adds, if it adds one
abbrev pub body_added : Command → Option Body
body_added (Enter object first body) = Some body
body_added (Amend object first body) = Some body
body_added (Retire object last) = None
