-- Properties by their names.
use Rattle.std.proofs.Common.{◌≡◌, refl, ap, ℕ, zero, suc, ◌+◌, Bool, true, false, ◌&&◌, not, List, [], ◌∷◌, Option, Some, arith, if◌then◌else◌}
use Rattle.std.specs.Str.{bytes_eq}
use Rattle.std.specs.List.{slice_get}
use Rattle.std.proofs.lemmas.Slice.Eq.{bytes_eq-Decides}
use Rattle.cad_schema.specs.declared.property.PropertyKind.{PropertyKind}
use Rattle.cad_schema.specs.Attributes.{Named}
use Rattle.cad_schema.specs.Schema.{find_from}

abbrev pub Stands : List Named → ℕ → ℕ → List ℕ → PropertyKind → Type 0
Stands ps i place name kind = (j : ℕ) × (place ≡ i + j) × (slice_get ps j ≡ Some (name, kind))

some_pair : (p : Named) (name : List ℕ) (kind : PropertyKind) → p.0 ≡ name → p.1 ≡ kind → ◌≡◌ {A = Option Named} (Some p) (Some (name, kind))
some_pair p name kind e f = rw (← e, ← f) refl

same_parts : {A B : Type 0} (p q : A × B) → ◌≡◌ {A = Option (A × B)} (Some p) (Some q) → (p.0 ≡ q.0) × (p.1 ≡ q.1)
same_parts {A} {B} p q e =
    let of_first : A × B → A = λ r. r.0 in
    let of_second : A × B → B = λ r. r.1 in
    let same : p ≡ q = cc in
    (ap of_first same, ap of_second same)

reads_equal : (a b : List ℕ) → bytes_eq a b ≡ true → a ≡ b
reads_equal a b e = let d = bytes_eq-Decides a b in grind (arith, d)

equal_reads : (a b : List ℕ) → a ≡ b → bytes_eq a b ≡ true
equal_reads a b e = let d = bytes_eq-Decides a b in grind (arith, d)

first_stands : (i : ℕ) (p : Named) (ps : List Named) (name : List ℕ) (place : ℕ) (kind : PropertyKind) →
    p.0 ≡ name → ◌≡◌ {A = Option (ℕ × PropertyKind)} (Some (i, p.1)) (Some (place, kind)) → Stands (p ∷ ps) i place name kind
first_stands i p ps name place kind same e =
    let parts = same_parts (i, p.1) (place, kind) e in
    let at : i ≡ place = parts.0 in
    (0, omega arith, some_pair p name kind same parts.1)

found_by : (i : ℕ) (p : Named) (ps : List Named) (name : List ℕ) (place : ℕ) (kind : PropertyKind) (same : Bool) → bytes_eq p.0 name ≡ same →
    (if same then Some (i, p.1) else find_from (i + 1) ps name) ≡ Some (place, kind) →
    (find_from (i + 1) ps name ≡ Some (place, kind) → Stands ps (i + 1) place name kind) → Stands (p ∷ ps) i place name kind
found_by i p ps name place kind true same e later = first_stands i p ps name place kind (reads_equal p.0 name same) e
found_by i p ps name place kind false same e later =
    let rest = later e in (suc rest.0, omega (arith, rest.1), rest.2)

pub found_from : (i : ℕ) (ps : List Named) (name : List ℕ) (place : ℕ) (kind : PropertyKind) → find_from i ps name ≡ Some (place, kind) → Stands ps i place name kind
found_from i [] name place kind e = absurd cc
found_from i (p ∷ ps) name place kind e = found_by i p ps name place kind (bytes_eq p.0 name) refl e (found_from (i + 1) ps name place kind)

-- ---- names that differ

-- no property of the list has the name
abbrev pub is_new : List ℕ → List Named → Bool
is_new name [] = true
is_new name (p ∷ ps) = not (bytes_eq name p.0) && is_new name ps

abbrev pub are_distinct : List Named → Bool
are_distinct [] = true
are_distinct (p ∷ ps) = is_new p.0 ps && are_distinct ps

both : (a b : Bool) → (a && b) ≡ true → (a ≡ true) × (b ≡ true)
both true b e = (refl, e)
both false b e = absurd cc

turned : (a : Bool) → not a ≡ true → a ≡ false
turned true e = absurd cc
turned false e = refl

new_at : (other : List ℕ) (ps : List Named) (j : ℕ) (name : List ℕ) (kind : PropertyKind) → is_new other ps ≡ true → slice_get ps j ≡ Some (name, kind) → bytes_eq other name ≡ false
new_at other [] j name kind new e = absurd cc
new_at other (p ∷ ps) zero name kind new e =
    let same = (same_parts p (name, kind) e).0 in
    rw (← same) (turned (bytes_eq other p.0) (both (not (bytes_eq other p.0)) (is_new other ps) new).0)
new_at other (p ∷ ps) (suc j) name kind new e = new_at other ps j name kind (both (not (bytes_eq other p.0)) (is_new other ps) new).1 e

pub stands_from : (i : ℕ) (ps : List Named) (j : ℕ) (name : List ℕ) (kind : PropertyKind) → are_distinct ps ≡ true → slice_get ps j ≡ Some (name, kind) → find_from i ps name ≡ Some (i + j, kind)
stands_from i [] j name kind distinct e = absurd cc
stands_from i (p ∷ ps) zero name kind distinct e =
    let here : i + 0 ≡ i = omega arith in
    rw (equal_reads p.0 name ((same_parts p (name, kind) e).0), here, (same_parts p (name, kind) e).1) refl
stands_from i (p ∷ ps) (suc j) name kind distinct e =
    let parts = both (is_new p.0 ps) (are_distinct ps) distinct in
    let rest = stands_from (i + 1) ps j name kind parts.1 e in
    let same : i + 1 + j ≡ i + suc j = omega arith in
    rw (new_at p.0 ps j name kind parts.0 e, ← same) rest
