-- What an object of an operation says.
use Rattle.std.proofs.Common.{◌≡◌, ℕ, List, codes}
use Rattle.serde_json.specs.Data.{Data, Members}
use Rattle.cad_day.specs.declared.day.Day.{Day}
use Rattle.cad_versions.specs.declared.object_id.ObjectId.{ObjectId}
use Rattle.cad_versions.specs.declared.body.Body.{Body}
use Rattle.cad_versions.specs.declared.command.Command.{Command}
use Rattle.cad_versions.specs.declared.command.Command.TheVariants as a
use Rattle.cad_commands.specs.declared.operation.Operation.{Operation}
use Rattle.cad_commands.specs.declared.operation.Operation.TheVariants.{Enter, Amend, Retire}
use Rattle.cad_commands.specs.Members.{Has, HasOneOther}
use Rattle.cad_commands.specs.Commands.{IsOperationOf, SaysBeginning, SaysEnd, SaysCommand}
use Rattle.cad_commands.proofs.OneValue.{has_one, one_operation}

-- an operation other than to retire is said with what begins a version
pub beginning_said : (ms : Members) (operation : Operation) → Has IsOperationOf (codes "do") ms operation → (operation ≡ Retire → ⊥) → (command : Command) → SaysCommand ms command → (beginning : ObjectId × Day × Body) × SaysBeginning ms beginning
beginning_said ms operation has other (a.Enter object first body) says = ((object, first, body), says.1)
beginning_said ms operation has other (a.Amend object first body) says = ((object, first, body), says.1)
beginning_said ms operation has other (a.Retire object last) says =
    absurd (other (has_one IsOperationOf one_operation (codes "do") ms operation Retire has says.0))

-- to retire is said with what ends an object
pub end_said : (ms : Members) → Has IsOperationOf (codes "do") ms Retire → (command : Command) → SaysCommand ms command → (end : ObjectId × Day) × SaysEnd ms end
end_said ms has (a.Enter object first body) says =
    let same : Enter ≡ Retire = has_one IsOperationOf one_operation (codes "do") ms Enter Retire says.0 has in
    cc
end_said ms has (a.Amend object first body) says =
    let same : Amend ≡ Retire = has_one IsOperationOf one_operation (codes "do") ms Amend Retire says.0 has in
    cc
end_said ms has (a.Retire object last) says = ((object, last), says.1)

-- the one other member is one
pub one_value : (names : List (List ℕ)) (ms : Members) (name other : List ℕ) (d e : Data) → HasOneOther names ms name d → HasOneOther names ms other e → d ≡ e
one_value names ms name other d e s t = cc
