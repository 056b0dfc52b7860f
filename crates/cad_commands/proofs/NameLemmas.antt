-- What holds of the names of the classes, since it holds of each name on the list of classes.
use Rattle.std.proofs.Common.{◌≡◌, ℕ, ◌≤◌, ◌==◌, List, codes, length, Bool, true, false, not, true≢false, nat_lt, nat_cmp, Ordering, Less, Equal, Greater, IsUtf8, bytes_eq, if◌then◌else◌, refl, sym, ap, ◌∙◌, arith}
use Rattle.std.proofs.lemmas.Bool.Decides.{nat_tests}
use Rattle.std.proofs.lemmas.Slice.Eq.{bytes_eq-Decides}
use Rattle.std.specs.Cmp.Lexicographic.{slice_cmp}
use Rattle.std.specs.List.{list_any}
use Rattle.std.specs.Ordering.{match_ordering}
use Rattle.json.proofs.Printed.Utf8.{are_ascii, IsUtf8-are_ascii}
use Rattle.serde_json.specs.Data.{Data, Members, member, no_members, put}
use Rattle.cad_versions.specs.declared.body.Class.{Class}
use Rattle.cad_versions.specs.Class.{class_name, class_number, classes}
use Rattle.cad_versions.specs.lemmas.BodyLemmas.{each_class_passes, same_class}
use Rattle.cad_commands.proofs.TextLemmas.{puts}

pub class_name_utf8 : (class : Class) → IsUtf8 (class_name class)
class_name_utf8 class = IsUtf8-are_ascii _ (each_class_passes (λ c. are_ascii (class_name c)) refl class)

pub class_length : (class : Class) → length (class_name class) ≤ 14
class_length class =
    let short : nat_lt (length (class_name class)) 15 ≡ true = each_class_passes (λ c. nat_lt (length (class_name c)) 15) refl class in
    grind (arith, nat_tests, short)

-- ---- no two classes have one name

-- the classes are one, unless their names differ
abbrev one_or_other : Class → Class → Bool
one_or_other a b = if bytes_eq (class_name a) (class_name b) then class_number a == class_number b else true

all_others : (a : Class) → list_any (λ b. not (one_or_other a b)) classes ≡ false
all_others a = go _ (each_class_passes (λ a. not (list_any (λ b. not (one_or_other a b)) classes)) refl a)
  where
    go : (b : Bool) → not b ≡ true → b ≡ false
    go true e = absurd (true≢false (sym e))
    go false e = refl

pub one_class : (a b : Class) → class_name a ≡ class_name b → a ≡ b
one_class a b e = same_class a b (grind (arith, nat_tests, numbers))
  where
    same_name : bytes_eq (class_name a) (class_name b) ≡ true
    same_name = (bytes_eq-Decides (class_name a) (class_name b)).1 e

    numbers : (class_number a == class_number b) ≡ true
    numbers = sym (ap (λ t. if t then class_number a == class_number b else true) same_name) ∙ each_class_passes (one_or_other a) (all_others a) b

-- ---- the name of a class goes last

abbrev is_above : List ℕ → List ℕ → Bool
is_above name other = match_ordering (slice_cmp nat_cmp name other) false false true

put_above : (k l : List ℕ) (d e : Data) (ms : Members) → is_above k l ≡ true → put k d (member l e ms) ≡ member l e (put k d ms)
put_above k l d e ms above = go (slice_cmp nat_cmp k l) above
  where
    go : (o : Ordering) → match_ordering o false false true ≡ true → match_ordering o (member k d (member l e ms)) (member l d ms) (member l e (put k d ms)) ≡ member l e (put k d ms)
    go Less h = absurd (true≢false (sym h))
    go Equal h = absurd (true≢false (sym h))
    go Greater h = refl

pub beginning_ascends : (class : Class) (operation first whose inner : Data)
    → puts (member (codes "do") operation (member (codes "first") first (member (codes "object") whose (member (class_name class) inner no_members)))) no_members
    ≡ member (codes "do") operation (member (codes "first") first (member (codes "object") whose (member (class_name class) inner no_members)))
beginning_ascends class operation first whose inner =
    let name = class_name class in
    put_above name (codes "do") inner operation _ (each_class_passes (λ c. is_above (class_name c) (codes "do")) refl class)
    ∙ ap (member (codes "do") operation) (put_above name (codes "first") inner first _ (each_class_passes (λ c. is_above (class_name c) (codes "first")) refl class)
    ∙ ap (member (codes "first") first) (put_above name (codes "object") inner whose _ (each_class_passes (λ c. is_above (class_name c) (codes "object")) refl class)))
