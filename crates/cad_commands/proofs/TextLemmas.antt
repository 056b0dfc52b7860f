-- The compact text of a value that has no float is read back as that value.
use Rattle.std.proofs.Common.{◌≡◌, suc, ◌+◌, ◌*◌, max, ◌≤◌, List, [], ◌∷◌, ◌++◌, length, Bool, true, false, cond, Option, Some, IsUtf8, refl, sym, ap, ap₂, ◌∙◌, arith, append-nil}
use Rattle.std.specs.Option.{option_and_then}
use Rattle.std.specs.Prelude.{option_map}
use Rattle.std.proofs.lemmas.Str.{IsUtf8-append}
use Rattle.json.specs.Token.{Token}
use Rattle.json.specs.Lex.{tokens}
use Rattle.json.specs.Json as json
use Rattle.json.specs.Print.{IsNumber, quoted}
use Rattle.json.specs.Tree as tree
use Rattle.json.specs.Tree.{HasNumbers, ItemsHaveNumbers, MembersHaveNumbers, json_tokens}
use Rattle.json.proofs.Printed.Tokens.{tokens-print}
use Rattle.json.proofs.Printed.Trees.{value-json_tokens, ArePrintable-json_tokens}
use Rattle.json.proofs.Printed.Utf8.{IsUtf8-are_ascii, IsUtf8-boolean, IsUtf8-quoted}
use Rattle.serde_json.specs.Data.{Num, Data, null, boolean, number, string, array, object, Items, no_items, item, Members, no_members, member, put, depth, items_depth, members_depth}
use Rattle.serde_json.specs.Find.{is_float}
use Rattle.serde_json.specs.Read.{read, max_depth, number_of, of_json, of_items, of_members}
use Rattle.serde_json.specs.Written.{number_text, outline, items_outline, members_outline, blank, blank_items, blank_members, comma_if, compact_text, items_text, members_text}
use Rattle.serde_json.proofs.Texts.{print-outline, unless_float-number_of}
use Rattle.cad_commands.specs.Writing.{is_one_line}
use Rattle.cad_commands.proofs.LinedLemmas.{lined_append, quoted_lined}
use Rattle.cad_commands.proofs.LengthLemmas.{weight, items_weight, members_weight, quoted_length, comma_length, joined_length}

-- the number's text is one, and is read as the number, which is no float
pub record IsWritten (n : Num) : Type 0 where
  pub whole : is_float n ≡ false
  pub reads : number_of (number_text n) ≡ Some n
  pub shape : IsNumber (number_text n)
  pub utf8 : IsUtf8 (number_text n)
  pub lined : is_one_line (number_text n) ≡ true
  pub short : length (number_text n) ≤ 20

-- the members, put one after the other among those that were found
abbrev pub puts : Members → Members → Members
puts no_members found = found
puts (member k d ms) found = puts ms (put k d found)

-- numbers are written, texts and names are UTF-8, and each object's members stand in their order
abbrev mutual
  pub IsPlain : Data → Type 0
  IsPlain null = Unit {0}
  IsPlain (boolean b) = Unit {0}
  IsPlain (number n) = IsWritten n
  IsPlain (string s) = IsUtf8 s
  IsPlain (array ds) = ArePlain ds
  IsPlain (object ms) = HasPlain ms × (puts ms no_members ≡ ms)

  pub ArePlain : Items → Type 0
  ArePlain no_items = Unit {0}
  ArePlain (item d ds) = IsPlain d × ArePlain ds

  pub HasPlain : Members → Type 0
  HasPlain no_members = Unit {0}
  HasPlain (member k d ms) = IsUtf8 k × IsPlain d × HasPlain ms

mutual
  is_read : (d : Data) → IsPlain d → of_json (outline d) ≡ Some d
  is_read null h = refl
  is_read (boolean b) h = refl
  is_read (number n) h = ap (option_map number) h.reads
  is_read (string s) h = refl
  is_read (array ds) h = ap (option_map array) (are_read ds h)
  is_read (object ms) h = ap (option_map object) (members_read ms no_members h.0 ∙ ap Some h.1)

  are_read : (ds : Items) → ArePlain ds → of_items (items_outline ds) ≡ Some ds
  are_read no_items h = refl
  are_read (item d ds) h =
      ap (option_and_then (λ e. option_map (item e) (of_items (items_outline ds)))) (is_read d h.0) ∙ ap (option_map (item d)) (are_read ds h.1)

  members_read : (ms found : Members) → HasPlain ms → of_members (members_outline ms) found ≡ Some (puts ms found)
  members_read no_members found h = refl
  members_read (member k d ms) found h =
      ap (option_and_then (λ e. of_members (members_outline ms) (put k e found))) (is_read d h.1) ∙ members_read ms (put k d found) h.2

mutual
  has_numbers : (d : Data) → IsPlain d → HasNumbers (outline d)
  has_numbers null h = tt
  has_numbers (boolean b) h = tt
  has_numbers (number n) h = h.shape
  has_numbers (string s) h = tt
  has_numbers (array ds) h = have_numbers ds h
  has_numbers (object ms) h = members_have_numbers ms h.0

  have_numbers : (ds : Items) → ArePlain ds → ItemsHaveNumbers (items_outline ds)
  have_numbers no_items h = tt
  have_numbers (item d ds) h = (has_numbers d h.0, have_numbers ds h.1)

  members_have_numbers : (ms : Members) → HasPlain ms → MembersHaveNumbers (members_outline ms)
  members_have_numbers no_members h = tt
  members_have_numbers (member k d ms) h = (has_numbers d h.1, members_have_numbers ms h.2)

mutual
  same_depth : (d : Data) → tree.depth (outline d) ≡ depth d
  same_depth null = refl
  same_depth (boolean b) = refl
  same_depth (number n) = refl
  same_depth (string s) = refl
  same_depth (array ds) = ap suc (same_items_depth ds)
  same_depth (object ms) = ap suc (same_members_depth ms)

  same_items_depth : (ds : Items) → tree.items_depth (items_outline ds) ≡ items_depth ds
  same_items_depth no_items = refl
  same_items_depth (item d ds) = ap₂ max (same_depth d) (same_items_depth ds)

  same_members_depth : (ms : Members) → tree.members_depth (members_outline ms) ≡ members_depth ms
  same_members_depth no_members = refl
  same_members_depth (member k d ms) = ap₂ max (same_depth d) (same_members_depth ms)

mutual
  none_blank : (d : Data) → IsPlain d → blank (outline d) ≡ outline d
  none_blank null h = refl
  none_blank (boolean b) h = refl
  none_blank (number n) h = ap json.number (unless_float-number_of (number_text n) n h.reads ∙ ap (λ b. cond b [] (number_text n)) h.whole)
  none_blank (string s) h = refl
  none_blank (array ds) h = ap json.array (no_item_blank ds h)
  none_blank (object ms) h = ap json.object (no_member_blank ms h.0)

  no_item_blank : (ds : Items) → ArePlain ds → blank_items (items_outline ds) ≡ items_outline ds
  no_item_blank no_items h = refl
  no_item_blank (item d ds) h = ap₂ json.item (none_blank d h.0) (no_item_blank ds h.1)

  no_member_blank : (ms : Members) → HasPlain ms → blank_members (members_outline ms) ≡ members_outline ms
  no_member_blank no_members h = refl
  no_member_blank (member k d ms) h = ap₂ (json.member k) (none_blank d h.1) (no_member_blank ms h.2)

comma_utf8 : (later : Bool) → IsUtf8 (comma_if later)
comma_utf8 true = IsUtf8-are_ascii _ refl
comma_utf8 false = IsUtf8-are_ascii _ refl

mutual
  pub text_utf8 : (d : Data) → IsPlain d → IsUtf8 (compact_text d)
  text_utf8 null h = IsUtf8-are_ascii _ refl
  text_utf8 (boolean b) h = IsUtf8-boolean b
  text_utf8 (number n) h = h.utf8
  text_utf8 (string s) h = IsUtf8-quoted s h
  text_utf8 (array ds) h = IsUtf8-append (91 ∷ []) _ (IsUtf8-are_ascii _ refl) (items_utf8 false ds h)
  text_utf8 (object ms) h = IsUtf8-append (123 ∷ []) _ (IsUtf8-are_ascii _ refl) (members_utf8 false ms h.0)

  items_utf8 : (later : Bool) (ds : Items) → ArePlain ds → IsUtf8 (items_text later ds)
  items_utf8 later no_items h = IsUtf8-are_ascii _ refl
  items_utf8 later (item d ds) h = IsUtf8-append _ _ (comma_utf8 later) (IsUtf8-append _ _ (text_utf8 d h.0) (items_utf8 true ds h.1))

  members_utf8 : (later : Bool) (ms : Members) → HasPlain ms → IsUtf8 (members_text later ms)
  members_utf8 later no_members h = IsUtf8-are_ascii _ refl
  members_utf8 later (member k d ms) h =
      IsUtf8-append _ _ (comma_utf8 later) (IsUtf8-append _ _ (IsUtf8-quoted k h.0) (IsUtf8-append (58 ∷ []) _ (IsUtf8-are_ascii _ refl) (IsUtf8-append _ _ (text_utf8 d h.1) (members_utf8 true ms h.2))))

comma_lined : (later : Bool) → is_one_line (comma_if later) ≡ true
comma_lined true = refl
comma_lined false = refl

boolean_lined : (b : Bool) → is_one_line (compact_text (boolean b)) ≡ true
boolean_lined true = refl
boolean_lined false = refl

mutual
  pub text_lined : (d : Data) → IsPlain d → is_one_line (compact_text d) ≡ true
  text_lined null h = refl
  text_lined (boolean b) h = boolean_lined b
  text_lined (number n) h = h.lined
  text_lined (string s) h = quoted_lined s
  text_lined (array ds) h = items_lined false ds h
  text_lined (object ms) h = members_lined false ms h.0

  items_lined : (later : Bool) (ds : Items) → ArePlain ds → is_one_line (items_text later ds) ≡ true
  items_lined later no_items h = refl
  items_lined later (item d ds) h = lined_append (comma_if later) _ (comma_lined later) (lined_append (compact_text d) _ (text_lined d h.0) (items_lined true ds h.1))

  members_lined : (later : Bool) (ms : Members) → HasPlain ms → is_one_line (members_text later ms) ≡ true
  members_lined later no_members h = refl
  members_lined later (member k d ms) h =
      lined_append (comma_if later) _ (comma_lined later) (lined_append (quoted k) _ (quoted_lined k) (lined_append (compact_text d) _ (text_lined d h.1) (members_lined true ms h.2)))

-- ---- how long the text is

boolean_length : (b : Bool) → length (compact_text (boolean b)) ≤ 5
boolean_length true = omega arith
boolean_length false = omega arith

mutual
  pub text_length : (d : Data) → IsPlain d → length (compact_text d) ≤ weight d
  text_length null h = omega arith
  text_length (boolean b) h = boolean_length b
  text_length (number n) h = h.short
  text_length (string s) h = quoted_length s
  text_length (array ds) h = omega (arith, items_length false ds h)
  text_length (object ms) h = omega (arith, members_length false ms h.0)

  items_length : (later : Bool) (ds : Items) → ArePlain ds → length (items_text later ds) ≤ items_weight ds
  items_length later no_items h = omega arith
  items_length later (item d ds) h =
      joined_length (comma_if later) _ 1 (weight d + items_weight ds) (comma_length later) (joined_length (compact_text d) (items_text true ds) (weight d) (items_weight ds) (text_length d h.0) (items_length true ds h.1))

  members_length : (later : Bool) (ms : Members) → HasPlain ms → length (members_text later ms) ≤ members_weight ms
  members_length later no_members h = omega arith
  members_length later (member k d ms) h =
      joined_length (comma_if later) _ 1 (2 + 6 * length k + (1 + (weight d + members_weight ms))) (comma_length later)
      (joined_length (quoted k) (58 ∷ (compact_text d ++ members_text true ms)) (2 + 6 * length k) (1 + (weight d + members_weight ms)) (quoted_length k)
      (omega (arith, joined_length (compact_text d) (members_text true ms) (weight d) (members_weight ms) (text_length d h.1) (members_length true ms h.2))))

-- what a list of tokens is, where it is one value alone
abbrev whole : Option (json.Json × List Token) → Option Data
whole o = option_and_then of_json (option_and_then (λ p. json.if_last p.0 p.1) o)

pub text_is_read : (d : Data) → IsPlain d → depth d ≤ max_depth → read (compact_text d) ≡ Some d
text_is_read d h shallow =
    let j = outline d in
    let deep : tree.depth j ≤ max_depth = omega (arith, same_depth d) in
    let back : tokens (compact_text d) ≡ json_tokens j ++ [] =
    ap tokens (sym (print-outline d)) ∙ tokens-print (json_tokens j) (ArePrintable-json_tokens j (has_numbers d h)) ∙ sym (append-nil (json_tokens j)) in
    ap whole (ap (json.value max_depth) back ∙ value-json_tokens j max_depth [] deep) ∙ is_read d h
