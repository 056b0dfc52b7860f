-- Values of two kinds have unlike order.
use Rattle.std.proofs.Common.{◌≡◌, ℕ, zero, suc, List, [], ◌∷◌, get_or, map, refl, None, Global, String, chars}
use Rattle.std.specs.Prelude.{string_bytes, ℤ}
use Rattle.cad_day.specs.declared.day.Day.{Day}
use Rattle.cad_feature.specs.Values.{Datum, null, a_text, a_whole, a_day}
use Rattle.cad_range.specs.Ranges.{compared}
use Rattle.cad_feature.specs.Limits.{scalar_datum}
use Rattle.cad_feature.specs.declared.range.Scalar.{Scalar}
use Rattle.cad_feature.specs.declared.range.Scalar.TheVariants as scalar

pub at_map : {X : Type 0} (f : X → Datum) (P : Datum → Type 0) → ((x : X) → P (f x)) → P null → (xs : List X) (i : ℕ) → P (get_or (map f xs) i null)
at_map f P h n [] i = n
at_map f P h n (x ∷ xs) zero = h x
at_map f P h n (x ∷ xs) (suc i) = at_map f P h n xs i

pub texts : {X : Type 0} (bytes : X → List ℕ) (xs : List X) (i : ℕ) (s : Scalar) → ((x : String Global) → s ≡ scalar.Text x → ⊥) → compared (get_or (map (λ t. a_text (chars (bytes t))) xs) i null) (scalar_datum s) ≡ None
texts bytes xs i (scalar.Text x) unlike = absurd (unlike x refl)
texts bytes xs i (scalar.Whole n) unlike = at_map (λ t. a_text (chars (bytes t))) (λ d. compared d (a_whole n) ≡ None) (λ x. refl) refl xs i
texts bytes xs i (scalar.Day n) unlike = at_map (λ t. a_text (chars (bytes t))) (λ d. compared d (a_day n) ≡ None) (λ x. refl) refl xs i

pub wholes : (xs : List ℤ) (i : ℕ) (s : Scalar) → ((x : ℤ) → s ≡ scalar.Whole x → ⊥) → compared (get_or (map a_whole xs) i null) (scalar_datum s) ≡ None
wholes xs i (scalar.Whole x) unlike = absurd (unlike x refl)
wholes xs i (scalar.Text t) unlike = at_map a_whole (λ d. compared d (a_text (chars (string_bytes t))) ≡ None) (λ x. refl) refl xs i
wholes xs i (scalar.Day n) unlike = at_map a_whole (λ d. compared d (a_day n) ≡ None) (λ x. refl) refl xs i

pub days : (xs : List Day) (i : ℕ) (s : Scalar) → ((x : Day) → s ≡ scalar.Day x → ⊥) → compared (get_or (map a_day xs) i null) (scalar_datum s) ≡ None
days xs i (scalar.Day x) unlike = absurd (unlike x refl)
days xs i (scalar.Text t) unlike = at_map a_day (λ d. compared d (a_text (chars (string_bytes t))) ≡ None) (λ x. refl) refl xs i
days xs i (scalar.Whole n) unlike = at_map a_day (λ d. compared d (a_whole n) ≡ None) (λ x. refl) refl xs i
