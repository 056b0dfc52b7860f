-- A value of JSON says one value of each kind alone.
use Rattle.std.proofs.Common.{◌≡◌, ℕ, List, Bool, codes, Option, Some, None, bytes_eq, refl, sym, ap, ◌∙◌, if◌then◌else◌}
use Rattle.serde_json.specs.Data.{Data, Members, no_items, item}
use Rattle.cad_day.specs.declared.day.Day.{Day}
use Rattle.cad_shape.specs.declared.ring.Ring.{Ring}
use Rattle.cad_shape.specs.Rings.{corners_of, same_ring}
use Rattle.cad_versions.specs.declared.object_id.ObjectId.{ObjectId}
use Rattle.cad_versions.specs.declared.share.Share.{Share}
use Rattle.cad_versions.specs.declared.words.Words.{Words}
use Rattle.cad_day.specs.lemmas.SameLemmas.{same_day}
use Rattle.cad_versions.specs.lemmas.SameLemmas.{same_object, same_share, same_words}
use Rattle.cad_commands.specs.declared.operation.Operation.{Operation}
use Rattle.cad_commands.specs.declared.operation.Operation.TheVariants.{Enter, Amend, Retire}
use Rattle.cad_commands.specs.Members.{SaysAny, MayHave, Has, member_in}
use Rattle.cad_commands.specs.Values.{IsWholeOf, IsObjectOf, IsDayOf, IsWordsOf, IsFlagOf, IsShareOf, IsRingOf}
use Rattle.cad_commands.specs.Commands.{operation_name, IsOperationOf}
use Rattle.cad_commands.proofs.ValueLemmas.{points_said}

-- what says at most one value
abbrev pub SaysOne : {X : Type 0} → (Data → X → Type 0) → Type 0
SaysOne {X} Says = (d : Data) (x y : X) → Says d x → Says d y → x ≡ y

any_said : {X : Type 0} (Says : Data → X → Type 0) → SaysOne Says → (d : Option Data) (x y : Option X) → SaysAny Says d x → SaysAny Says d y → x ≡ y
any_said Says one None None None s t = refl
any_said Says one None None (Some y) s t = absurd t
any_said Says one None (Some x) y s t = absurd s
any_said Says one (Some d) None y s t = absurd s
any_said Says one (Some d) (Some x) None s t = absurd t
any_said Says one (Some d) (Some x) (Some y) s t = ap Some (one d x y s t)

some_said : {X : Type 0} (Says : Data → X → Type 0) → SaysOne Says → (d : Option Data) (x y : X) → SaysAny Says d (Some x) → SaysAny Says d (Some y) → x ≡ y
some_said Says one None x y s t = absurd s
some_said Says one (Some d) x y s t = one d x y s t

-- and so does the member of a name
pub may_have_one : {X : Type 0} (Says : Data → X → Type 0) → SaysOne Says → (name : List ℕ) (ms : Members) (x y : Option X) → MayHave Says name ms x → MayHave Says name ms y → x ≡ y
may_have_one Says one name ms x y s t = any_said Says one (member_in name ms) x y s t

pub has_one : {X : Type 0} (Says : Data → X → Type 0) → SaysOne Says → (name : List ℕ) (ms : Members) (x y : X) → Has Says name ms x → Has Says name ms y → x ≡ y
has_one Says one name ms x y s t = some_said Says one (member_in name ms) x y s t

pub one_whole : (d : Data) (x y : ℕ) → IsWholeOf d x → IsWholeOf d y → x ≡ y
one_whole d x y s t = cc

pub one_flag : (d : Data) (x y : Bool) → IsFlagOf d x → IsFlagOf d y → x ≡ y
one_flag d x y s t = cc

pub one_object : (d : Data) (x y : ObjectId) → IsObjectOf d x → IsObjectOf d y → x ≡ y
one_object d x y s t = same_object x y (cc)

pub one_words : (d : Data) (x y : Words) → IsWordsOf d x → IsWordsOf d y → x ≡ y
one_words d x y s t = same_words x y (cc)

pub one_day : (d : Data) (x y : Day) → IsDayOf d x → IsDayOf d y → x ≡ y
one_day d x y s t = same_day x y (cc)

pub one_share : (d : Data) (x y : Share) → IsShareOf d x → IsShareOf d y → x ≡ y
one_share d x y s t =
    let pairs : item s.0 (item s.1 no_items) ≡ item t.0 (item t.1 no_items) = cc in
    let nums : s.0 ≡ t.0 = cc in
    let dens : s.1 ≡ t.1 = cc in
    same_share x y (cc) (cc)

pub one_ring : (d : Data) (x y : Ring) → IsRingOf d x → IsRingOf d y → x ≡ y
one_ring d x y s t =
    let lists : s.0 ≡ t.0 = cc in
    same_ring x y (points_said t.0 (corners_of x) (corners_of y) (rw lists at s.2) t.2)

-- the operation of a name
abbrev operation_named : List ℕ → Operation
operation_named name = if bytes_eq name (codes "enter") then Enter else (if bytes_eq name (codes "amend") then Amend else Retire)

operation_of_name : (operation : Operation) → operation_named (operation_name operation) ≡ operation
operation_of_name Enter = refl
operation_of_name Amend = refl
operation_of_name Retire = refl

pub one_operation : (d : Data) (x y : Operation) → IsOperationOf d x → IsOperationOf d y → x ≡ y
one_operation d x y s t =
    let names : operation_name x ≡ operation_name y = cc in
    sym (operation_of_name x) ∙ ap operation_named names ∙ operation_of_name y
