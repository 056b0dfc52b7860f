-- All versions of an object have its class, whatever commands were accepted.
use Rattle.std.proofs.Common.{◌≡◌, Bool, true, false, true≢false, cond, ◌==◌, not, List, [], ◌∷◌, ◌++◌, map, find, fold, Option, Some, None, option_map, refl, ap, ◌∙◌}
use Rattle.std.specs.List.{AllByRecursion}
use Rattle.std.proofs.lemmas.Bool.{eqb-true}
use Rattle.sqlite_keyed.proofs.ListLemmas.{all-append}
use Rattle.cad_day.specs.declared.day.Day.{Day}
use Rattle.cad_versions.specs.declared.object_id.ObjectId.{ObjectId}
use Rattle.cad_versions.specs.declared.body.Body.{Body}
use Rattle.cad_versions.specs.declared.body.Class.{Class}
use Rattle.cad_versions.specs.declared.command.Command.{Command}
use Rattle.cad_versions.specs.declared.command.Command.TheVariants.{Enter, Amend, Retire}
use Rattle.cad_versions.specs.declared.fault.RegisterFault.TheVariants as fault
use Rattle.cad_versions.specs.lemmas.BodyLemmas.{same_class}
use Rattle.cad_versions.specs.Class.{class_of, class_number}
use Rattle.cad_day.specs.DayBefore.{day_before}
use Rattle.cad_versions.specs.VersionedObject.{VersionedObject}
use Rattle.cad_versions.specs.Versions.{is_of, is_open_of, closed_on, closed_if_open, begun, next_number, versions_after, versions}
use Rattle.cad_versions.specs.Refusals.{class_at, open_since, refuses_object, refusal, AreAccepted}
use Rattle.cad_versions.specs.lemmas.HistoryLemmas.{neither, unrefused, is_of_own}
use Rattle.cad_versions.specs.lemmas.ListLemmas.{all_weaker, all_mapped}

abbrev class_in : VersionedObject → Class
class_in v = class_of v.body

-- the class that its object was entered with
abbrev pub HasClass : List VersionedObject → VersionedObject → Type 0
HasClass vs v = class_at vs v.object ≡ Some (class_of v.body)

abbrev pub HaveClasses : List VersionedObject → Type 0
HaveClasses vs = AllByRecursion (HasClass vs) vs

-- ---- closing a version

class_closed : (closing : ObjectId) (day : Day) (object : ObjectId) (vs : List VersionedObject) → class_at (map (closed_if_open closing day) vs) object ≡ class_at vs object
class_closed closing day object [] = refl
class_closed closing day object (v ∷ vs) = go (is_open_of closing v) (is_of object v) refl (class_closed closing day object vs)
  where
    go : (t b : Bool) → is_of object v ≡ b → class_at (map (closed_if_open closing day) vs) object ≡ class_at vs object
        → option_map class_in (cond (is_of object (cond t (closed_on day v) v)) (Some (cond t (closed_on day v) v)) (find (is_of object) (map (closed_if_open closing day) vs))) ≡ option_map class_in (cond (is_of object v) (Some v) (find (is_of object) vs))
    go true true is more = rw is refl
    go true false is more = rw is more
    go false true is more = rw is refl
    go false false is more = rw is more

all_closed : (closing : ObjectId) (day : Day) (vs : List VersionedObject) → HaveClasses vs → HaveClasses (map (closed_if_open closing day) vs)
all_closed closing day vs all =
    let close = closed_if_open closing day in
    all_mapped (HasClass (map close vs)) close vs (all_weaker (HasClass vs) (λ v. HasClass (map close vs) (close v)) (λ v h. one v (class_closed closing day v.object vs ∙ h)) vs all)
  where
    one : (v : VersionedObject) → HasClass (map (closed_if_open closing day) vs) v → HasClass (map (closed_if_open closing day) vs) (closed_if_open closing day v)
    one v h = elim (is_open_of closing v) as (λ t. HasClass (map (closed_if_open closing day) vs) (cond t (closed_on day v) v)) [ true ↦ h | false ↦ h ]

-- ---- adding a version

class_known : (vs : List VersionedObject) (w : VersionedObject) (object : ObjectId) (class : Class) → class_at vs object ≡ Some class → class_at (vs ++ w ∷ []) object ≡ Some class
class_known [] w object class h = absurd cc
class_known (v ∷ vs) w object class h = go (is_of object v) h (class_known vs w object class)
  where
    go : (t : Bool) → option_map class_in (cond t (Some v) (find (is_of object) vs)) ≡ Some class → (class_at vs object ≡ Some class → class_at (vs ++ w ∷ []) object ≡ Some class)
        → option_map class_in (cond t (Some v) (find (is_of object) (vs ++ w ∷ []))) ≡ Some class
    go true h more = h
    go false h more = more h

class_new : (vs : List VersionedObject) (w : VersionedObject) (object : ObjectId) → is_of object w ≡ true → class_at vs object ≡ None → class_at (vs ++ w ∷ []) object ≡ Some (class_of w.body)
class_new [] w object is h = rw is refl
class_new (v ∷ vs) w object is h = go (is_of object v) h (class_new vs w object is)
  where
    go : (t : Bool) → option_map class_in (cond t (Some v) (find (is_of object) vs)) ≡ None → (class_at vs object ≡ None → class_at (vs ++ w ∷ []) object ≡ Some (class_of w.body))
        → option_map class_in (cond t (Some v) (find (is_of object) (vs ++ w ∷ []))) ≡ Some (class_of w.body)
    go true h more = absurd cc
    go false h more = more h

added : (vs : List VersionedObject) (w : VersionedObject) → HaveClasses vs → HasClass (vs ++ w ∷ []) w → HaveClasses (vs ++ w ∷ [])
added vs w all new = all-append (HasClass (vs ++ w ∷ [])) vs (w ∷ []) (all_weaker (HasClass vs) (HasClass (vs ++ w ∷ [])) (λ v h. class_known vs w v.object (class_of v.body) h) vs all) (new, tt)

-- ---- a command that is accepted

entered_anew : (object : ObjectId) (first : Day) (body : Body) (vs : List VersionedObject) → refusal vs (Enter object first body) ≡ None → class_at vs object ≡ None
entered_anew object first body vs e = go (class_at vs object) (neither _ _ e).0
  where
    go : (o : Option Class) → refuses_object o (open_since vs object) (Enter object first body) ≡ None → o ≡ None
    go None h = refl
    go (Some class) h = absurd cc

holds : (t : Bool) → not t ≡ false → t ≡ true
holds true h = refl
holds false h = absurd (true≢false h)

amended_alike : (object : ObjectId) (first : Day) (body : Body) (vs : List VersionedObject) → refusal vs (Amend object first body) ≡ None → class_at vs object ≡ Some (class_of body)
amended_alike object first body vs e = go (class_at vs object) (neither _ _ e).0
  where
    go : (o : Option Class) → refuses_object o (open_since vs object) (Amend object first body) ≡ None → o ≡ Some (class_of body)
    go None h = absurd cc
    go (Some class) h = ap Some (same_class class (class_of body) (eqb-true (class_number class) (class_number (class_of body)) (holds (class_number class == class_number (class_of body)) (unrefused _ fault.OtherClass (neither _ _ h).0))))

classes_then : (vs : List VersionedObject) (c : Command) → refusal vs c ≡ None → HaveClasses vs → HaveClasses (versions_after vs c)
classes_then vs (Enter object first body) e all =
    let new = begun object 1 first body in
    added vs new all (class_new vs new object (is_of_own object new refl) (entered_anew object first body vs e))
classes_then vs (Amend object first body) e all =
    let new = begun object (next_number object vs) first body in
    let day = day_before first in
    let closed = map (closed_if_open object day) vs in
    added closed new (all_closed object day vs all) (class_known closed new object (class_of body) (class_closed object day object vs ∙ amended_alike object first body vs e))
classes_then vs (Retire object last) e all = all_closed object last vs all

classes_from : (vs : List VersionedObject) (cs : List Command) → AreAccepted vs cs → HaveClasses vs → HaveClasses (fold versions_after vs cs)
classes_from vs [] all h = h
classes_from vs (c ∷ cs) all h = classes_from (versions_after vs c) cs all.1 (classes_then vs c all.0 h)

pub classes : (cs : List Command) → AreAccepted [] cs → HaveClasses (versions cs)
classes cs all = classes_from [] cs all tt
