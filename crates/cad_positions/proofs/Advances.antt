-- Fronts that are known.
use Rattle.std.proofs.Common.{◌≡◌, ◌∙◌, ℕ, ◌<◌, Bool, true, false, ◌&&◌, ◌||◌, ◌==◌, Option, Some, None, sym, refl, arith}
use Rattle.std.specs.Prelude.{nat_le, nat_lt}
use Rattle.std.proofs.lemmas.Bool.Decides.{nat_tests}
use Rattle.cad_positions.specs.declared.front.Front.{Front}
use Rattle.cad_positions.specs.declared.front.Front.TheVariants.{Unknown, At, Spent}
use Rattle.cad_positions.specs.Left.{IsFront, Settles}
use Rattle.cad_positions.specs.Fronts.{front_of, found_of, is_before, behind}

-- ---- a front that stands far enough

all_behind : (row from k : ℕ) (b : Bool) → nat_lt row from ≡ false → ((k == row) || (nat_lt row k && b)) ≡ (((k == row) || (nat_lt row k && b)) && nat_le from k)
all_behind row from k b h = grind (arith, nat_tests)

at_itself : (row : ℕ) (b : Bool) → ((row == row) || (nat_lt row row && b)) ≡ true
at_itself row b = grind (arith, nat_tests)

none_before : (row k : ℕ) (b : Bool) → k < row → ((k == row) || (nat_lt row k && b)) ≡ false
none_before row k b h = grind (arith, nat_tests)

pub stays : (front : Front) (left : ℕ → Bool) (from : ℕ) → is_before front from ≡ false → Settles (behind front left) (behind front left) from (found_of front)
stays Unknown left from h = record { kept = λ k. absurd (let e : true ≡ false = h in cc); front = absurd (let e : true ≡ false = h in cc) }
stays (At row) left from h = record {
  kept = λ k. all_behind row from k (left k) h;
  front = (at_itself row (left row), λ k low. none_before row k (left k) low);
}
stays Spent left from h = record { kept = λ k. refl; front = λ k. refl }

-- ---- a source that is settled

from_there : (front : Front) (left : ℕ → Bool) (from k : ℕ) → is_before front from ≡ true → (left k && nat_le from k) ≡ (behind front left k && nat_le from k)
from_there Unknown left from k h = refl
from_there (At row) left from k h = grind (arith, nat_tests)
from_there Spent left from k h = absurd (let e : false ≡ true = h in cc)

same_behind : (found : Option ℕ) (left : ℕ → Bool) (k : ℕ) → IsFront left found → behind (front_of found) left k ≡ left k
same_behind None left k front = sym (front k)
same_behind (Some m) left k front = at_or_behind m k (left k) (λ e. rw e front.0) (front.1 k)
  where
    at_or_behind : (m k : ℕ) (b : Bool) → (k ≡ m → b ≡ true) → (k < m → b ≡ false) → ((k == m) || (nat_lt m k && b)) ≡ b
    at_or_behind m k b here low = grind (arith, nat_tests)

told : (found : Option ℕ) → found_of (front_of found) ≡ found
told None = refl
told (Some m) = refl

front_behind : (found : Option ℕ) (left : ℕ → Bool) → IsFront left found → IsFront (behind (front_of found) left) found
front_behind None left front = λ k. refl
front_behind (Some m) left front = (at_itself m (left m), λ k low. none_before m k (left k) low)

pub moves : (front : Front) (old new : ℕ → Bool) (from : ℕ) (found : Option ℕ) → is_before front from ≡ true → Settles old new from found → Settles (behind front old) (behind (front_of found) new) from (found_of (front_of found))
moves front old new from found h s = rw (told found) record {
  kept = λ k. same_behind found new k s.front ∙ s.kept k ∙ from_there front old from k h;
  front = front_behind found new s.front;
}

-- ---- what two sources have

or_and : (a b t : Bool) → ((a && t) || (b && t)) ≡ ((a || b) && t)
or_and a b t = grind arith

pub joins : (p q p' q' : ℕ → Bool) (from : ℕ) (x y r : Option ℕ) → Settles p p' from x → Settles q q' from y → ((u v : ℕ → Bool) → IsFront u x → IsFront v y → IsFront (λ k. u k || v k) r) → Settles (λ k. p k || q k) (λ k. p' k || q' k) from r
joins p q p' q' from x y r a b least = record {
  kept = λ k. rw (a.kept k, b.kept k) (or_and (p k) (q k) (nat_le from k));
  front = least p' q' a.front b.front;
}
