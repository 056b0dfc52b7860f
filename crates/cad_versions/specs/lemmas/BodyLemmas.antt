-- What is proved for each class separately: a body is determined by its class and its parts, and each class is listed.
use Rattle.std.proofs.Common.{◌≡◌, Bool, true, false, true≢false, not, Some, refl, sym, ap, ◌∙◌, arith}
use Rattle.std.specs.List.{list_any}
use Rattle.std.proofs.lemmas.List.Folds.{list_any_at}
use Rattle.cad_versions.specs.declared.body.Body.{Body}
use Rattle.cad_versions.specs.declared.body.Body.TheVariants as body
use Rattle.cad_versions.specs.declared.body.Class.{Class}
use Rattle.cad_versions.specs.declared.body.Class.TheVariants as class
use Rattle.cad_versions.specs.declared.body_parts.BodyParts.{BodyParts}
use Rattle.cad_versions.specs.Class.{class_of, class_number, classes, EachClassIsListed}
use Rattle.cad_versions.specs.BodyParts.{parts_of}

pub same_class : (a b : Class) → class_number a ≡ class_number b → a ≡ b
same_class class.Party class.Party e = refl
same_class class.Unit class.Unit e = refl
same_class class.Parcel class.Parcel e = refl
same_class class.Right class.Right e = refl
same_class class.Restriction class.Restriction e = refl
same_class class.Responsibility class.Responsibility e = refl
same_class a b e = absurd (omega arith)

pub same_body : (a b : Body) → class_of a ≡ class_of b → parts_of a ≡ parts_of b → a ≡ b
same_body (body.Party n c) (body.Party m d) e f = let name : n ≡ m = ap (λ (r : BodyParts). r.name) f in let code : Some c ≡ Some d = ap (λ (r : BodyParts). r.code) f in cc
same_body (body.Unit n) (body.Unit m) e f = let name : n ≡ m = ap (λ (r : BodyParts). r.name) f in cc
same_body (body.Parcel u l a s p) (body.Parcel v m b t q) e f = let unit : Some u ≡ Some v = ap (λ (r : BodyParts). r.unit) f in let label : Some l ≡ Some m = ap (λ (r : BodyParts). r.label) f in let area : a ≡ b = ap (λ (r : BodyParts). r.area) f in let shape : s ≡ t = ap (λ (r : BodyParts). r.shape) f in let spot : p ≡ q = ap (λ (r : BodyParts). r.spot) f in cc
same_body (body.Right u p c s) (body.Right v q d t) e f = let unit : Some u ≡ Some v = ap (λ (r : BodyParts). r.unit) f in let party : p ≡ q = ap (λ (r : BodyParts). r.party) f in let code : Some c ≡ Some d = ap (λ (r : BodyParts). r.code) f in let share : s ≡ t = ap (λ (r : BodyParts). r.share) f in cc
same_body (body.Restriction u p c s w) (body.Restriction v q d t x) e f = let unit : Some u ≡ Some v = ap (λ (r : BodyParts). r.unit) f in let party : p ≡ q = ap (λ (r : BodyParts). r.party) f in let code : Some c ≡ Some d = ap (λ (r : BodyParts). r.code) f in let share : s ≡ t = ap (λ (r : BodyParts). r.share) f in let required : w ≡ x = ap (λ (r : BodyParts). r.required) f in cc
same_body (body.Responsibility u p c s) (body.Responsibility v q d t) e f = let unit : Some u ≡ Some v = ap (λ (r : BodyParts). r.unit) f in let party : p ≡ q = ap (λ (r : BodyParts). r.party) f in let code : Some c ≡ Some d = ap (λ (r : BodyParts). r.code) f in let share : s ≡ t = ap (λ (r : BodyParts). r.share) f in cc
same_body a b e f = absurd cc

pub each_class_is_listed : EachClassIsListed
each_class_is_listed class.Parcel = (0, omega arith, refl)
each_class_is_listed class.Right = (1, omega arith, refl)
each_class_is_listed class.Restriction = (2, omega arith, refl)
each_class_is_listed class.Unit = (3, omega arith, refl)
each_class_is_listed class.Party = (4, omega arith, refl)
each_class_is_listed class.Responsibility = (5, omega arith, refl)

-- so each class passes a test that all classes of the list pass
pub each_class_passes : (test : Class → Bool) → list_any (λ c. not (test c)) classes ≡ false → (c : Class) → test c ≡ true
each_class_passes test all c = go (test c) refl
  where
    go : (b : Bool) → test c ≡ b → test c ≡ true
    go true e = e
    go false e =
        let at = each_class_is_listed c in
        absurd (true≢false (sym (list_any_at (λ c. not (test c)) classes at.0 c at.1 (ap (λ d. not (test d)) at.2 ∙ ap not e)) ∙ all))
