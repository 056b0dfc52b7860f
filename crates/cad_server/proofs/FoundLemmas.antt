-- A feature that is found by its numbers.
use Rattle.std.proofs.Common.{◌≡◌, ℕ, ℤ, pos, zero, ◌==◌, ◌&&◌, Bool, true, false, cond, List, [], ◌∷◌, Contains, Option, Some, None, refl, sym, ap, ap₂, ◌∙◌, arith, true≢false}
use Rattle.std.specs.List.Sorted.{IsStrictlySortedBy}
use Rattle.std.proofs.lemmas.Bool.{and_parts, eq-eqb, eqb-true}
use Rattle.std.proofs.lemmas.List.Elements.{All-nil, All-cons, Contains-append_right}
use Rattle.cad_versions.specs.Objects.{object_number}
use Rattle.cad_feature.specs.Features.{Item, identifier_of, by_identifier}
use Rattle.cad_parameters.specs.Identifiers.{Numbers}
use Rattle.cad_layer.specs.Identifiers.{IsTheOne}
use Rattle.cad_layer.specs.Laws.{IdentifiersAreUnique}
use Rattle.cad_server.specs.Contents.{has_numbers, feature_with}

abbrev wanted : Numbers → ℤ × ℤ
wanted n = (pos n.0, pos n.1)

named : (n : Numbers) (x : Item) → has_numbers n x ≡ true → identifier_of x ≡ wanted n
named n x e =
    let both = and_parts (object_number x.object == n.0) (x.number == n.1) e in
    ap₂ (λ (a b : ℕ). (pos a, pos b)) (eqb-true _ _ both.0) (eqb-true _ _ both.1)

pos_same : (a b : ℕ) → pos a ≡ pos b → a ≡ b
pos_same a b e = cc

names : (n : Numbers) (x : Item) → identifier_of x ≡ wanted n → has_numbers n x ≡ true
names n x e =
    let o : object_number x.object ≡ n.0 = pos_same _ _ (ap (λ i. i.0) e) in
    let v : x.number ≡ n.1 = pos_same _ _ (ap (λ i. i.1) e) in
    ap₂ (λ (a b : ℕ). (a == n.0) && (b == n.1)) o v ∙ ap₂ ◌&&◌ (eq-eqb n.0 n.0 refl) (eq-eqb n.1 n.1 refl)

later : (n : Numbers) (x : Item) (xs : List Item) (one : Option Item) → has_numbers n x ≡ false → IsTheOne (wanted n) xs one → IsTheOne (wanted n) (x ∷ xs) one
later n x xs None other none = All-cons (λ y. ¬ (identifier_of y ≡ wanted n)) x xs (λ e. true≢false (sym (names n x e) ∙ other)) none
later n x xs (Some y) other there = (Contains-append_right (x ∷ []) xs y there.0, there.1)

first : (x : Item) (xs : List Item) → Contains (x ∷ xs) x
first x xs = (zero, omega arith, refl)

first_or_later : (n : Numbers) (x : Item) (xs : List Item) (b : Bool) → has_numbers n x ≡ b → IsTheOne (wanted n) xs (feature_with n xs) → IsTheOne (wanted n) (x ∷ xs) (cond b (Some x) (feature_with n xs))
first_or_later n x xs true e rest = (first x xs, named n x e)
first_or_later n x xs false e rest = later n x xs (feature_with n xs) e rest

pub found : (n : Numbers) (xs : List Item) → IsTheOne (wanted n) xs (feature_with n xs)
found n [] = All-nil (λ x. ¬ (identifier_of x ≡ wanted n))
found n (x ∷ xs) = first_or_later n x xs (has_numbers n x) refl (found n xs)

-- in a list that ascends what a search finds is what the definition finds
pub found_so : IdentifiersAreUnique → (n : Numbers) (xs : List Item) (one : Option Item) → IsStrictlySortedBy by_identifier xs → IsTheOne (wanted n) xs one → one ≡ feature_with n xs
found_so unique n xs one up is = unique (wanted n) xs one (feature_with n xs) up is (found n xs)
