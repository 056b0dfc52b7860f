-- An object says one command alone.
use Rattle.std.proofs.Common.{◌≡◌, ℕ, List, codes, sym, ap, ◌∙◌}
use Rattle.serde_json.specs.Data.{Members, member, no_members}
use Rattle.serde_json.specs.Data as json
use Rattle.cad_day.specs.declared.day.Day.{Day}
use Rattle.cad_versions.specs.declared.object_id.ObjectId.{ObjectId}
use Rattle.cad_versions.specs.declared.body.Body.{Body}
use Rattle.cad_versions.specs.declared.body.Class.{Class}
use Rattle.cad_versions.specs.declared.command.Command.{Command}
use Rattle.cad_versions.specs.declared.command.Command.TheVariants as command
use Rattle.cad_commands.specs.declared.operation.Operation.{Operation}
use Rattle.cad_commands.specs.declared.operation.Operation.TheVariants.{Enter, Amend, Retire}
use Rattle.cad_commands.specs.Members.{Has, member_in}
use Rattle.cad_commands.specs.Values.{IsWholeOf, IsObjectOf, IsDayOf, IsWordsOf, IsFlagOf, IsShareOf, IsPointOf}
use Rattle.cad_versions.specs.declared.body_parts.BodyParts.{BodyParts}
use Rattle.cad_versions.specs.BodyParts.{parts_of}
use Rattle.cad_versions.specs.Class.{class_name}
use Rattle.cad_versions.specs.lemmas.BodyLemmas.{same_body}
use Rattle.cad_commands.specs.Bodies.{SaysParts, SaysBody}
use Rattle.cad_commands.specs.Commands.{IsOperationOf, SaysOneBody, SaysBeginning, SaysEnd, SaysCommand, Says}
use Rattle.cad_commands.proofs.NameLemmas.{one_class}
use Rattle.cad_commands.proofs.ShapeLemmas.{one_shape}
use Rattle.cad_commands.proofs.ValueLemmas.{point_said}
use Rattle.cad_commands.proofs.OneValue.{may_have_one, has_one, one_whole, one_flag, one_object, one_words, one_day, one_share, one_operation}

pub one_parts : (ms : Members) (p q : BodyParts) → SaysParts ms p → SaysParts ms q → p ≡ q
one_parts ms p q s t =
    let name = may_have_one IsWordsOf one_words (codes "name") ms p.name q.name s.name t.name in
    let code = may_have_one IsWordsOf one_words (codes "code") ms p.code q.code s.code t.code in
    let label = may_have_one IsWordsOf one_words (codes "label") ms p.label q.label s.label t.label in
    let area = may_have_one IsWholeOf one_whole (codes "area") ms p.area q.area s.area t.area in
    let unit = may_have_one IsObjectOf one_object (codes "unit") ms p.unit q.unit s.unit t.unit in
    let party = may_have_one IsObjectOf one_object (codes "party") ms p.party q.party s.party t.party in
    let share = may_have_one IsShareOf one_share (codes "share") ms p.share q.share s.share t.share in
    let required = may_have_one IsFlagOf one_flag (codes "required") ms p.required q.required s.required t.required in
    let spot = may_have_one IsPointOf point_said (codes "spot") ms p.spot q.spot s.spot t.spot in
    let shape = one_shape (member_in (codes "shape") ms) (member_in (codes "holes") ms) p.shape q.shape s.shape t.shape in
    λ i. record { name = name i; code = code i; label = label i; area = area i; unit = unit i; party = party i; share = share i; required = required i; spot = spot i; shape = shape i }

one_body : (ms : Members) (class : Class) (a b : Body) → SaysBody ms class a → SaysBody ms class b → a ≡ b
unfolding SaysBody
one_body ms class a b s t = same_body a b (s.0 ∙ sym t.0) (one_parts ms (parts_of a) (parts_of b) s.1 t.1)

one_body_said : (ms : Members) (a b : Body) → SaysOneBody ms a → SaysOneBody ms b → a ≡ b
one_body_said ms a b s t =
    let others : member (class_name s.0) (json.object s.1) no_members ≡ member (class_name t.0) (json.object t.1) no_members = cc in
    let classes : s.0 ≡ t.0 = one_class s.0 t.0 (cc) in
    let inners : s.1 ≡ t.1 = cc in
    one_body t.1 t.0 a b (rw classes at (rw inners at s.3)) t.3

one_beginning : (ms : Members) (a b : ObjectId × Day × Body) → SaysBeginning ms a → SaysBeginning ms b → a ≡ b
one_beginning ms (o, f, x) (p, g, y) s t =
    let objects : o ≡ p = has_one IsObjectOf one_object (codes "object") ms o p s.0 t.0 in
    let days : f ≡ g = has_one IsDayOf one_day (codes "first") ms f g s.1 t.1 in
    let bodies : x ≡ y = one_body_said ms x y s.2 t.2 in
    cc

one_end : (ms : Members) (a b : ObjectId × Day) → SaysEnd ms a → SaysEnd ms b → a ≡ b
one_end ms (o, f) (p, g) s t =
    let objects : o ≡ p = has_one IsObjectOf one_object (codes "object") ms o p s.0 t.0 in
    let days : f ≡ g = has_one IsDayOf one_day (codes "last") ms f g s.1 t.1 in
    cc

abbrev operation_of : Command → Operation
operation_of (command.Enter object first body) = Enter
operation_of (command.Amend object first body) = Amend
operation_of (command.Retire object last) = Retire

says_operation : (ms : Members) (command : Command) → SaysCommand ms command → Has IsOperationOf (codes "do") ms (operation_of command)
says_operation ms (command.Enter object first body) says = says.0
says_operation ms (command.Amend object first body) says = says.0
says_operation ms (command.Retire object last) says = says.0

one_command : (ms : Members) (a b : Command) → SaysCommand ms a → SaysCommand ms b → a ≡ b
one_command ms (command.Enter o f x) (command.Enter p g y) s t = ap (λ whole. command.Enter whole.0 whole.1 whole.2) (one_beginning ms (o, f, x) (p, g, y) s.1 t.1)
one_command ms (command.Amend o f x) (command.Amend p g y) s t = ap (λ whole. command.Amend whole.0 whole.1 whole.2) (one_beginning ms (o, f, x) (p, g, y) s.1 t.1)
one_command ms (command.Retire o f) (command.Retire p g) s t = ap (λ whole. command.Retire whole.0 whole.1) (one_end ms (o, f) (p, g) s.1 t.1)
one_command ms a b s t =
    let same : operation_of a ≡ operation_of b = has_one IsOperationOf one_operation (codes "do") ms (operation_of a) (operation_of b) (says_operation ms a s) (says_operation ms b t) in
    cc

pub one_command_said : (text : List ℕ) (a b : Command) → Says text a → Says text b → a ≡ b
one_command_said text a b s t =
    let objects : s.1.0 ≡ t.1.0 = cc in
    one_command t.1.0 a b (rw objects at s.1.2) t.1.2
