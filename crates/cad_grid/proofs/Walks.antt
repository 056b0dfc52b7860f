-- A walk that passes only entries that do not count.
use Rattle.std.proofs.Common.{◌≡◌, ◌∙◌, ℕ, zero, suc, ◌+◌, ◌-◌, ◌<◌, ◌≤◌, Bool, true, false, cond, List, [], ◌∷◌, ◌++◌, append_assoc, append-nil, length, map, get_or, drop, drop-cons, add-one, ap, sym, refl, arith, Option, None, length-append}
use Rattle.std.specs.Prelude.{filter, ◌&&◌}
use Rattle.std.proofs.lemmas.List.Elements.{filter-append}
use Rattle.cad_grid.specs.declared.cells.Cells.{Cells}
use Rattle.cad_grid.specs.declared.entry.Entry.{Entry}
use Rattle.cad_grid.specs.Entries.{entry_at, inside, counts, found_in, is_first_at}

module _ (p : Entry → Bool) where
  one_here : (es : List Entry) (at : ℕ) → at < length es → filter p (drop at es) ≡ cond (p (entry_at es at)) (entry_at es at ∷ filter p (drop (at + 1) es)) (filter p (drop (at + 1) es))
  one_here es at h = rw (drop-cons es at (record { row = 0; column = 0; position = 0 }), add-one) refl

  passed_by : (es : List Entry) (n from : ℕ) → from + n ≤ length es → ((k : ℕ) → from ≤ k → k < from + n → p (entry_at es k) ≡ false) → filter p (drop from es) ≡ filter p (drop (from + n) es)
  passed_by es zero from h off = let e : from + 0 ≡ from = omega arith in rw e refl
  passed_by es (suc n) from h off =
      let e : from + suc n ≡ (from + 1) + n = omega arith in
      one_here es from (omega arith) ∙ rw (off from (omega arith) (omega arith), e) (passed_by es n (from + 1) (omega arith) (λ k l m. off k (omega arith) (omega arith)))

pub record Passed (asked : Cells) (es : List Entry) (from to : ℕ) : Type 0 where
  pub after : from ≤ to
  pub within : to ≤ length es
  pub outside : (k : ℕ) → from ≤ k → k < to → inside asked (entry_at es k) ≡ false

-- it stands in the first cell that its shape's cells and the asked ones share
abbrev pub first_of : Cells → List (Option Cells) → Entry → Bool
first_of asked cells e = is_first_at asked (get_or cells e.position None) e.row e.column

-- what is left of the walk from a place on
pub left_over : Cells → List (Option Cells) → List Entry → ℕ → List ℕ
left_over asked cells es at = map (λ (e : Entry). e.position) (filter (counts asked cells) (drop at es))

none_counts : (asked : Cells) (cells : List (Option Cells)) (e : Entry) → inside asked e ≡ false → counts asked cells e ≡ false
none_counts asked cells e h = rw h refl

pub left_passed : (asked : Cells) (cells : List (Option Cells)) (es : List Entry) (from to : ℕ) → Passed asked es from to → left_over asked cells es from ≡ left_over asked cells es to
unfolding left_over
left_passed asked cells es from to h =
    let l = h.after in
    let m = h.within in
    let e : from + (to - from) ≡ to = omega arith in
    ap (map (λ (e : Entry). e.position)) (rw e at (passed_by (counts asked cells) es (to - from) from (omega arith) (λ k i j. none_counts asked cells (entry_at es k) (h.outside k i (omega arith)))))

map_cond : (b : Bool) (x : Entry) (xs : List Entry) → map (λ (e : Entry). e.position) (cond b (x ∷ xs) xs) ≡ cond b (x.position ∷ map (λ (e : Entry). e.position) xs) (map (λ (e : Entry). e.position) xs)
map_cond true x xs = refl
map_cond false x xs = refl

pub left_here : (asked : Cells) (cells : List (Option Cells)) (es : List Entry) (at : ℕ) → at < length es → left_over asked cells es at ≡ cond (counts asked cells (entry_at es at)) ((entry_at es at).position ∷ left_over asked cells es (at + 1)) (left_over asked cells es (at + 1))
unfolding left_over
left_here asked cells es at h = ap (map (λ (e : Entry). e.position)) (one_here (counts asked cells) es at h) ∙ map_cond (counts asked cells (entry_at es at)) (entry_at es at) (filter (counts asked cells) (drop (at + 1) es))

pub left_first : (asked : Cells) (cells : List (Option Cells)) (wide : List ℕ) (es : List Entry) → wide ++ left_over asked cells es 0 ≡ found_in asked cells wide es
unfolding left_over
left_first asked cells wide es = refl

pub left_last : (asked : Cells) (cells : List (Option Cells)) (es : List Entry) (at : ℕ) → length es ≤ at → left_over asked cells es at ≡ []
unfolding left_over
left_last asked cells [] zero h = refl
left_last asked cells (e ∷ es) zero h = absurd (omega arith)
left_last asked cells [] (suc at) h = refl
left_last asked cells (e ∷ es) (suc at) h = left_last asked cells es at (omega arith)

both : (a b : Bool) → a ≡ true → (a && b) ≡ b
both a b h = rw h refl

-- an entry inside counts where it is the first of its shape
pub left_inside : (asked : Cells) (cells : List (Option Cells)) (es : List Entry) (at next : ℕ) → at < length es → inside asked (entry_at es at) ≡ true → Passed asked es (at + 1) next → left_over asked cells es at ≡ cond (first_of asked cells (entry_at es at)) ((entry_at es at).position ∷ left_over asked cells es next) (left_over asked cells es next)
left_inside asked cells es at next h i passed = left_here asked cells es at h ∙ rw (both (inside asked (entry_at es at)) (first_of asked cells (entry_at es at)) i, left_passed asked cells es (at + 1) next passed) refl

pub taken_next : (asked : Cells) (cells : List (Option Cells)) (es : List Entry) (at next : ℕ) → at < length es → inside asked (entry_at es at) ≡ true → Passed asked es (at + 1) next → first_of asked cells (entry_at es at) ≡ true → left_over asked cells es at ≡ (entry_at es at).position ∷ left_over asked cells es next
taken_next asked cells es at next h i passed f = left_inside asked cells es at next h i passed ∙ rw f refl

pub alone_next : (asked : Cells) (cells : List (Option Cells)) (es : List Entry) (at next : ℕ) → at < length es → inside asked (entry_at es at) ≡ true → Passed asked es (at + 1) next → first_of asked cells (entry_at es at) ≡ false → left_over asked cells es at ≡ left_over asked cells es next
alone_next asked cells es at next h i passed f = left_inside asked cells es at next h i passed ∙ rw f refl

-- ---- counted

pub count_start : (keeps : ℕ → Bool) (asked : Cells) (cells : List (Option Cells)) (wide : List ℕ) (es : List Entry) (next : ℕ) → Passed asked es 0 next → length (filter keeps wide) + length (filter keeps (left_over asked cells es next)) ≡ length (filter keeps (found_in asked cells wide es))
count_start keeps asked cells wide es next passed =
    ap (λ l. length (filter keeps wide) + length (filter keeps l)) (sym (left_passed asked cells es 0 next passed))
    ∙ sym (length-append (filter keeps wide) (filter keeps (left_over asked cells es 0)))
    ∙ ap length (sym (filter-append keeps wide (left_over asked cells es 0)))
    ∙ ap (λ l. length (filter keeps l)) (left_first asked cells wide es)

-- ---- listed

pub list_start : (asked : Cells) (cells : List (Option Cells)) (wide : List ℕ) (es : List Entry) (next : ℕ) → Passed asked es 0 next → wide ++ left_over asked cells es next ≡ found_in asked cells wide es
list_start asked cells wide es next passed = ap (λ xs. wide ++ xs) (sym (left_passed asked cells es 0 next passed)) ∙ left_first asked cells wide es

pub list_taken : (found all : List ℕ) (x : ℕ) (xs ys : List ℕ) → xs ≡ x ∷ ys → found ++ xs ≡ all → (found ++ x ∷ []) ++ ys ≡ all
list_taken found all x xs ys e i = append_assoc found (x ∷ []) ys ∙ ap (λ zs. found ++ zs) (sym e) ∙ i

pub list_end : (asked : Cells) (cells : List (Option Cells)) (es : List Entry) (at : ℕ) (found all : List ℕ) → length es ≤ at → found ++ left_over asked cells es at ≡ all → found ≡ all
list_end asked cells es at found all h i = sym (append-nil found) ∙ ap (λ xs. found ++ xs) (sym (left_last asked cells es at h)) ∙ i
