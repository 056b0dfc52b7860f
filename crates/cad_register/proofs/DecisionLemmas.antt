-- What stands of the object decides, and where it refuses nothing, the body.
use Rattle.std.proofs.Common.{◌≡◌, List, Option, Some, None, sym, ap, ap₂, ◌∙◌}
use Rattle.cad_versions.specs.declared.object_id.ObjectId.{ObjectId}
use Rattle.cad_versions.specs.declared.body.Body.{Body}
use Rattle.cad_versions.specs.declared.command.Command.{Command}
use Rattle.cad_versions.specs.declared.fault.RegisterFault.{RegisterFault}
use Rattle.cad_versions.specs.Command.{object_named, body_added}
use Rattle.cad_versions.specs.VersionedObject.{VersionedObject}
use Rattle.cad_versions.specs.Refusals.{class_at, open_since, refuses_object, refuses_body, or_else, refusal}
use Rattle.cad_register.specs.declared.standing.ObjectState.{ObjectState}
use Rattle.cad_register.specs.Outlines.{IsStanding}

-- what is read of the object answers as the object does
standing_answers : (vs : List VersionedObject) (command : Command) (object : ObjectId) (s : ObjectState) (o : Option RegisterFault) → object ≡ object_named command → IsStanding vs object s → refuses_object s.class s.open_since command ≡ o
    → refuses_object (class_at vs (object_named command)) (open_since vs (object_named command)) command ≡ o
standing_answers vs command object s o is stands answers =
    ap (λ o. refuses_object (class_at vs o) (open_since vs o) command) (sym is) ∙ ap₂ (λ a b. refuses_object a b command) (sym stands.class) (sym stands.open_since) ∙ answers

pub object_refuses : (vs : List VersionedObject) (command : Command) (object : ObjectId) (s : ObjectState) (cause : RegisterFault) → object ≡ object_named command → IsStanding vs object s → refuses_object s.class s.open_since command ≡ Some cause
    → refusal vs command ≡ Some cause
object_refuses vs command object s cause is stands refuses = ap (λ o. or_else o (refuses_body vs (body_added command))) (standing_answers vs command object s (Some cause) is stands refuses)

pub body_decides : (vs : List VersionedObject) (command : Command) (object : ObjectId) (s : ObjectState) (body : Body) → object ≡ object_named command → IsStanding vs object s → refuses_object s.class s.open_since command ≡ None → Some body ≡ body_added command
    → refuses_body vs (Some body) ≡ refusal vs command
body_decides vs command object s body is stands none adds =
    ap (refuses_body vs) adds ∙ ap (λ o. or_else o (refuses_body vs (body_added command))) (sym (standing_answers vs command object s None is stands none))
