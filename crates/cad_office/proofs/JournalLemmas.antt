-- The lines of a journal: one more at the end, pieces, and how the office reads them.
use Rattle.std.proofs.Common.{◌≡◌, ◌⊎◌, inl, inr, ℕ, zero, suc, ◌+◌, ◌-◌, ◌==◌, ◌≤◌, true, false, true≢false, cond, not, List, [], ◌∷◌, ◌++◌, length, map, filter, take, drop, refl, sym, ap, subst, ◌∙◌, arith, append_assoc, append-nil, take-append-drop, drop-drop, length-drop}
use Rattle.std.proofs.Math.Seq.{take-length}
use Rattle.std.proofs.lemmas.Bool.Decides.{nat_tests}
use Rattle.std.specs.List.{AllByRecursion}
use Rattle.std.proofs.lemmas.Bool.{and_parts}
use Rattle.std.proofs.lemmas.List.Elements.{All-from_recursion}
use Rattle.std.proofs.lemmas.List.Splits.{slice_split_at}
use Rattle.std.proofs.lemmas.List.{drop_all}
use Rattle.cad_versions.specs.declared.command.Command.{Command}
use Rattle.cad_commands.specs.Writing.{command_text, is_one_line, IsOneLine}
use Rattle.cad_office.specs.JournalLines.{line_of, lines_of, end_if, end_behind}
use Rattle.cad_office.specs.Lines.{is_lf, is_filled, lines_in, lines_ended}
use Rattle.cad_office.proofs.LineLemmas.{lines_in-begun, line_begun-lf}

pub lines_push : (cs : List Command) (c : Command) → lines_of (cs ++ c ∷ []) ≡ lines_of cs ++ line_of c
lines_push [] c = append-nil (line_of c)
lines_push (d ∷ cs) c = ap (λ l. line_of d ++ l) (lines_push cs c) ∙ sym (append_assoc (line_of d) (lines_of cs) (line_of c))

same_end : (n : ℕ) → (suc n == zero) ≡ false
same_end n = grind (arith, nat_tests)

some_left : (n : ℕ) → (zero == suc n) ≡ false
some_left n = grind (arith, nat_tests)

one_less : (m n : ℕ) → (suc m == suc n) ≡ (m == n)
one_less m n = grind (arith, nat_tests)

-- all are told where as many as are left are
pub end_same : (count : ℕ) (left : List Command) (newest : ℕ) → count ≤ length left → end_if (count == length left) newest ≡ end_behind (drop count left) newest
end_same zero [] newest low = refl
end_same zero (c ∷ cs) newest low = ap (λ t. end_if t newest) (some_left (length cs))
end_same (suc count) [] newest low = absurd (omega (arith, low))
end_same (suc count) (c ∷ cs) newest low = ap (λ t. end_if t newest) (one_less count (length cs)) ∙ end_same count cs newest (omega (arith, low))

-- what is left behind the first of them
pub left_behind : (items : List Command) (at count : ℕ) → drop at items ≡ take count (drop at items) ++ drop (at + count) items
left_behind items at count = sym (take-append-drop count (drop at items)) ∙ ap (λ l. take count (drop at items) ++ l) (drop-drop count at items)

pub end_here : (items : List Command) (at count newest : ℕ) → count ≤ length (drop at items) → end_if (count == length (drop at items)) newest ≡ end_behind (drop (at + count) items) newest
end_here items at count newest low = end_same count (drop at items) newest low ∙ ap (λ l. end_behind l newest) (drop-drop count at items)

-- as many as may be, or all that are left
pub full_piece : (items : List Command) (at count : ℕ) → length (take count (drop at items)) ≡ count → (count ≡ 16) ⊎ (length items ≤ at + count)
    → (length (take count (drop at items)) ≡ 16) ⊎ (drop (at + count) items ≡ [])
full_piece items at count taken (inl most) = inl (taken ∙ most)
full_piece items at count taken (inr all) = inr (drop_all (at + count) items all)

pub all_left : (xs items : List Command) (at : ℕ) → xs ≡ items → take (length xs - at) (drop at xs) ≡ drop at items
all_left xs items at is = subst (λ n. take n (drop at xs) ≡ drop at xs) (length-drop at xs) (take-length (drop at xs)) ∙ ap (drop at) is

-- ---- how the office reads them

no_lf : (b : _) → not b ≡ true → b ≡ false
no_lf true h = absurd (true≢false (sym h))
no_lf false h = refl

unbroken_bytes : (bytes : List ℕ) → is_one_line bytes ≡ true → AllByRecursion (λ x. is_lf x ≡ false) bytes
unbroken_bytes [] h = tt
unbroken_bytes (x ∷ bytes) h = let p = and_parts (not (x == 10)) (is_one_line bytes) h in (no_lf (x == 10) p.0, unbroken_bytes bytes p.1)

-- a text begins with a brace
filled : (x : ℕ) (xs : List ℕ) → is_filled (x ∷ xs) ≡ true
filled x xs = ap not (same_end (length xs))

filled_text : (c : Command) → is_filled (command_text c) ≡ true
filled_text c = filled 123 _

-- the first line is that of the first command
line_first : (c : Command) (rest : List ℕ) → IsOneLine c → lines_in (command_text c ++ 10 ∷ rest) ≡ command_text c ∷ lines_in rest
unfolding lines_in
line_first c rest is =
    ap (filter is_filled) (slice_split_at is_lf (command_text c) 10 rest (All-from_recursion (λ x. is_lf x ≡ false) (command_text c) (unbroken_bytes (command_text c) is.unbroken)) refl)
    ∙ ap (λ t. cond t (command_text c ∷ lines_in rest) (lines_in rest)) (filled_text c)

read_lines : (cs : List Command) → AllByRecursion IsOneLine cs → lines_in (lines_of cs) ≡ map command_text cs
unfolding lines_in
read_lines [] all = refl
read_lines (c ∷ cs) all =
    ap lines_in (append_assoc (command_text c) (10 ∷ []) (lines_of cs)) ∙ line_first c (lines_of cs) all.0 ∙ ap (λ l. command_text c ∷ l) (read_lines cs all.1)

-- an LF stands last of all
ends_in_lf : (c : Command) (cs : List Command) → (bytes : List ℕ) × (lines_of (c ∷ cs) ≡ bytes ++ 10 ∷ [])
ends_in_lf c [] = (command_text c, append-nil (line_of c))
ends_in_lf c (d ∷ cs) = let more = ends_in_lf d cs in (line_of c ++ more.0, ap (λ l. line_of c ++ l) more.1 ∙ sym (append_assoc (line_of c) more.0 (10 ∷ [])))

-- so each line has ended
all_ended : (bytes : List ℕ) → lines_ended (bytes ++ 10 ∷ []) ≡ lines_in (bytes ++ 10 ∷ [])
all_ended bytes =
    let all = bytes ++ 10 ∷ [] in
    sym (lines_in-begun all ∙ ap (λ l. lines_ended all ++ filter is_filled (l ∷ [])) (line_begun-lf bytes) ∙ append-nil (lines_ended all))

pub lines_are_commands : (cs : List Command) → AllByRecursion IsOneLine cs → lines_ended (lines_of cs) ≡ map command_text cs
unfolding lines_ended lines_in
lines_are_commands [] all = refl
lines_are_commands (c ∷ cs) all =
    let last = ends_in_lf c cs in
    ap lines_ended last.1 ∙ all_ended last.0 ∙ ap lines_in (sym last.1) ∙ read_lines (c ∷ cs) all
