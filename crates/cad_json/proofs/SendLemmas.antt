-- What is sent for lists, and their lengths; and that bytes which are UTF-8 are read as a text.
use Rattle.std.proofs.Common.{◌≡◌, suc, List, [], ◌∷◌, length, map, None, Result, Ok, Err, MatchResult, IsOk, refl, ap, slice_get}
use Rattle.serde_json.specs.Data.{Data}
use Rattle.serde_json.specs.View.{items_of}
use Rattle.serde_json.specs.Events.{items_len}

pub items_count : {A : Type 0} (f : A → Data) (xs : List A) → items_len (items_of (map f xs)) ≡ length xs
items_count f [] = refl
items_count f (x ∷ xs) = ap suc (items_count f xs)

-- a list without a first element is empty
pub none_first : {A : Type 0} (xs : List A) → None ≡ slice_get xs 0 → xs ≡ []
none_first [] e = refl
none_first (x ∷ xs) e = absurd cc

-- where an error is given of what is not so alone, what is so is accepted
pub ok_of_text : {T E : Type 0} (r : Result T E) (U : Type 0) (P : T → Type 0) (Q : E → Type 0) → MatchResult r P (λ e. ¬ U × Q e) → U → IsOk r
ok_of_text (Ok x) U P Q h u = refl
ok_of_text (Err e) U P Q h u = absurd (h.0 u)
