-- The compact text of a tree in order, whose numbers are whole ones, is read as that tree.
use Rattle.std.proofs.Common.{◌≡◌, ◌≤◌, ℕ, negsuc, pos, List, [], append-nil, Option, Some, option_map, Less, Greater, refl, sym, ap, ◌∙◌, arith}
use Rattle.std.specs.Prelude.{⊤, option_and_then}
use Rattle.std.specs.Ordering.{nat_cmp, ordering_reverse}
use Rattle.std.specs.Cmp.Lexicographic.{slice_cmp, nat_list_cmp_total}
use Rattle.json.specs.Json as json
use Rattle.json.specs.Lex.{tokens}
use Rattle.json.specs.Token.{Token}
use Rattle.json.specs.Tree as tree
use Rattle.json.specs.Tree.{json_tokens, HasNumbers, ItemsHaveNumbers, MembersHaveNumbers}
use Rattle.json.specs.Print.{IsNumber}
use Rattle.json.proofs.Printed.Decimals.{IsNumber-decimal, IsNumber-signed_decimal}
use Rattle.json.proofs.Printed.Tokens.{tokens-print}
use Rattle.json.proofs.Printed.Trees.{ArePrintable-json_tokens, value-json_tokens}
use Rattle.serde_json.specs.Data.{Num, unsigned, negative, float, Data, null, boolean, number, string, array, object, Items, no_items, item, Members, no_members, member, put, depth, items_depth, members_depth}
use Rattle.serde_json.specs.Read.{number_of, of_json, of_items, of_members, max_depth, read}
use Rattle.serde_json.specs.Written.{outline, items_outline, members_outline, compact_text, number_text}
use Rattle.serde_json.proofs.Numbers.{number_of-decimal, number_of-negative}
use Rattle.serde_json.proofs.Texts.{print-outline}
use Rattle.cad_json.specs.Order.{IsBeforeFirst, IsInOrder, AreItemsInOrder, AreMembersInOrder}
use Rattle.cad_json.specs.Sent.{IsWhole, IsOfWholes, AreItemsOfWholes, AreMembersOfWholes}

-- ---- each name comes behind those before it

abbrev IsAbove : List ℕ → Members → Type 0
IsAbove name no_members = ⊤
IsAbove name (member before d ms) = (slice_cmp nat_cmp before name ≡ Less) × IsAbove name ms

abbrev with_last : Members → List ℕ → Data → Members
with_last no_members k d = member k d no_members
with_last (member l e ms) k d = member l e (with_last ms k d)

put_last : (k : List ℕ) (d : Data) (ms : Members) → IsAbove k ms → put k d ms ≡ with_last ms k d
put_last k d no_members h = refl
put_last k d (member l e ms) h =
    let behind : slice_cmp nat_cmp k l ≡ Greater = nat_list_cmp_total.antisymm k l ∙ ap ordering_reverse h.0 in
    rw behind (ap (member l e) (put_last k d ms h.1))

above_more : (k n : List ℕ) (ms : Members) → slice_cmp nat_cmp k n ≡ Less → IsAbove k ms → IsAbove n ms
above_more k n no_members next h = tt
above_more k n (member l e ms) next h = (nat_list_cmp_total.trans l k n h.0 next, above_more k n ms next h.1)

above_last : (k n : List ℕ) (d : Data) (ms : Members) → slice_cmp nat_cmp k n ≡ Less → IsAbove n ms → IsAbove n (with_last ms k d)
above_last k n d no_members next h = (next, tt)
above_last k n d (member l e ms) next h = (h.0, above_last k n d ms next h.1)

-- the first name is above those before
abbrev GoesOn : Members → Members → Type 0
GoesOn before no_members = ⊤
GoesOn before (member k d ms) = IsAbove k before

goes_on : (before : Members) (k : List ℕ) (d : Data) (ms : Members) → IsAbove k before → IsBeforeFirst k ms → GoesOn (with_last before k d) ms
goes_on before k d no_members above next = tt
goes_on before k d (member n e ms) above next = above_last k n d before next (above_more k n before next above)

abbrev joined : Members → Members → Members
joined no_members ms = ms
joined (member k d before) ms = member k d (joined before ms)

joined_none : (ms : Members) → joined ms no_members ≡ ms
joined_none no_members = refl
joined_none (member k d ms) = ap (member k d) (joined_none ms)

joined_next : (before : Members) (k : List ℕ) (d : Data) (ms : Members) → joined (with_last before k d) ms ≡ joined before (member k d ms)
joined_next no_members k d ms = refl
joined_next (member l e before) k d ms = ap (member l e) (joined_next before k d ms)

-- ---- what the grammar gives is the tree

whole_again : (n : Num) → IsWhole n → option_map number (number_of (number_text n)) ≡ Some (number n)
whole_again (unsigned n) h = ap (option_map number) (number_of-decimal n h)
whole_again (negative (pos n)) h = absurd h
whole_again (negative (negsuc n)) h = ap (option_map number) (number_of-negative n h)
whole_again (float x) h = absurd h

mutual
  again : (d : Data) → IsInOrder d → IsOfWholes d → of_json (outline d) ≡ Some d
  again null all whole = refl
  again (boolean b) all whole = refl
  again (number n) all whole = whole_again n whole
  again (string s) all whole = refl
  again (array ds) all whole = ap (option_map array) (items_again ds all whole)
  again (object ms) all whole = ap (option_map object) (members_again no_members ms (first ms) all whole)

  first : (ms : Members) → GoesOn no_members ms
  first no_members = tt
  first (member k d ms) = tt

  items_again : (ds : Items) → AreItemsInOrder ds → AreItemsOfWholes ds → of_items (items_outline ds) ≡ Some ds
  items_again no_items all whole = refl
  items_again (item d ds) all whole = rw (again d all.0 whole.0, items_again ds all.1 whole.1) refl

  members_again : (before ms : Members) → GoesOn before ms → AreMembersInOrder ms → AreMembersOfWholes ms → of_members (members_outline ms) before ≡ Some (joined before ms)
  members_again before no_members above all whole = ap Some (sym (joined_none before))
  members_again before (member k d ms) above all whole =
      rw (again d all.1 whole.0)
      (rw (put_last k d before above)
      (members_again (with_last before k d) ms (goes_on before k d ms above all.0) all.2 whole.1 ∙ ap Some (joined_next before k d ms)))

-- ---- the tokens are those of the tree

whole_number : (n : Num) → IsWhole n → IsNumber (number_text n)
whole_number (unsigned n) h = IsNumber-decimal n h
whole_number (negative (pos n)) h = absurd h
whole_number (negative (negsuc n)) h = IsNumber-signed_decimal (negsuc n) h
whole_number (float x) h = absurd h

mutual
  numbers : (d : Data) → IsOfWholes d → HasNumbers (outline d)
  numbers null whole = tt
  numbers (boolean b) whole = tt
  numbers (number n) whole = whole_number n whole
  numbers (string s) whole = tt
  numbers (array ds) whole = items_numbers ds whole
  numbers (object ms) whole = members_numbers ms whole

  items_numbers : (ds : Items) → AreItemsOfWholes ds → ItemsHaveNumbers (items_outline ds)
  items_numbers no_items whole = tt
  items_numbers (item d ds) whole = (numbers d whole.0, items_numbers ds whole.1)

  members_numbers : (ms : Members) → AreMembersOfWholes ms → MembersHaveNumbers (members_outline ms)
  members_numbers no_members whole = tt
  members_numbers (member k d ms) whole = (numbers d whole.0, members_numbers ms whole.1)

mutual
  as_deep : (d : Data) → tree.depth (outline d) ≤ depth d
  as_deep null = omega arith
  as_deep (boolean b) = omega arith
  as_deep (number n) = omega arith
  as_deep (string s) = omega arith
  as_deep (array ds) = omega (arith, items_as_deep ds)
  as_deep (object ms) = omega (arith, members_as_deep ms)

  items_as_deep : (ds : Items) → tree.items_depth (items_outline ds) ≤ items_depth ds
  items_as_deep no_items = omega arith
  items_as_deep (item d ds) = omega (arith, as_deep d, items_as_deep ds)

  members_as_deep : (ms : Members) → tree.members_depth (members_outline ms) ≤ members_depth ms
  members_as_deep no_members = omega arith
  members_as_deep (member k d ms) = omega (arith, as_deep d, members_as_deep ms)

-- ---- together

printed : (d : Data) → IsOfWholes d → tokens (compact_text d) ≡ json_tokens (outline d)
printed d whole = ap tokens (sym (print-outline d)) ∙ tokens-print (json_tokens (outline d)) (ArePrintable-json_tokens (outline d) (numbers d whole))

abbrev kept : Option (json.Json × List Token) → Option Data
kept o = option_and_then of_json (option_and_then (λ p. json.if_last p.0 p.1) o)

pub read_again : (d : Data) → IsInOrder d → IsOfWholes d → depth d ≤ max_depth → read (compact_text d) ≡ Some d
read_again d all whole low =
    ap kept (ap (json.value max_depth) (printed d whole ∙ sym (append-nil _)) ∙ value-json_tokens (outline d) max_depth [] (omega (arith, low, as_deep d)))
    ∙ again d all whole
