-- On heads that fit, and the bytes that hold them.
use Rattle.std.proofs.Common.{◌≡◌, ℕ, suc, ◌+◌, ◌-◌, ◌<◌, ◌≤◌, ◌==◌, nat_le, true, false, List, [], ◌∷◌, ◌++◌, length, take, drop, get_or, inl, inr, refl, sym, ap, subst, ◌∙◌, append_assoc, arith, length-append}
use Rattle.std.specs.List.{flat_map, list_any}
use Rattle.std.proofs.Math.Seq.{take-append-add, take-append_seam, drop-append_seam, get_or-append_seam, get_or-append_right}
use Rattle.std.proofs.lemmas.Bool.{cases_lt, or_parts}
use Rattle.std.proofs.lemmas.Bool.Decides.{nat_tests}
use Rattle.std.proofs.lemmas.List.{length-map, take_all, take-append-drop, take-append-le, length-take}
use Rattle.std.proofs.lemmas.List.Folds.{list_any_at}
use Rattle.httparse.specs.Grammar.{RequestHead, LineEnd, crlf, lf, print_end, print_field, print_section, print_request, ReadsRequest, HasNoRequest, MayBecomeRequest}
use Rattle.httparse.specs.Spans.{RequestOverflows, IsRequestAt}
use Rattle.httparse.specs.declared.spans.HeaderSpan.{HeaderSpan}
use Rattle.httparse.specs.declared.spans.RequestSpans.{RequestSpans}
use Rattle.cad_head.specs.Front.{IsHeadAt}
use Rattle.httparse.proofs.GrammarLemmas.{request_unique, ReadsRequest-append}
use Rattle.cad_head.specs.Heads.{front_len, field_room, Fits, HasNone, IsHopeless, MayWait, IsIncomplete}
use Rattle.cad_head.specs.Pieces.{may_settle}

-- the front of a piece that fits in it, and what follows
take_through : (n : ℕ) (p r : List ℕ) → length p ≤ n → take n (p ++ r) ≡ p ++ take (n - length p) r
take_through n p r h =
    let e : length p + (n - length p) ≡ n = omega arith in
    subst (λ (m : ℕ). take m (p ++ r) ≡ p ++ take (n - length p) r) e (take-append-add p r (n - length p))

-- a head that fits is read from the front alone
pub reads_front : (bytes : List ℕ) (head : RequestHead) (rest : List ℕ) → Fits bytes head rest
    → ReadsRequest (take front_len bytes) head (take (front_len - length (print_request head)) rest)
reads_front bytes head rest f =
    (f.reads.0, ap (take front_len) f.reads.1 ∙ take_through front_len (print_request head) rest f.in_front)

-- a head of the front that has few enough fields fits
pub fits_from_front : (bytes : List ℕ) (head : RequestHead) (rest : List ℕ) → ReadsRequest (take front_len bytes) head rest
    → length head.fields ≤ field_room → Fits bytes head (drop (length (print_request head)) bytes)
fits_from_front bytes head rest r few =
    let more = drop front_len bytes in
    let whole = subst (λ (b : List ℕ). ReadsRequest b head (rest ++ more)) (take-append-drop front_len bytes) (ReadsRequest-append (take front_len bytes) head rest more r) in
    let left : drop (length (print_request head)) bytes ≡ rest ++ more =
    ap (drop (length (print_request head))) whole.1 ∙ drop-append_seam (print_request head) (rest ++ more) in
    record {
      reads = subst (λ (b : List ℕ). ReadsRequest bytes head b) (sym left) whole;
      in_front = omega (arith, ap length r.1, length-append (print_request head) rest, length-take front_len bytes);
      in_room = few;
    }

-- where all heads that can come have too many fields
pub hopeless_by_fields : (bytes : List ℕ) → RequestOverflows field_room (take front_len bytes) → IsHopeless bytes
hopeless_by_fields bytes over more head rest f =
    let cut : bytes ++ more ≡ take front_len bytes ++ (drop front_len bytes ++ more) =
    ap (λ b. b ++ more) (sym (take-append-drop front_len bytes)) ∙ append_assoc (take front_len bytes) (drop front_len bytes) more in
    let many = over (drop front_len bytes ++ more) head rest (subst (λ (b : List ℕ). ReadsRequest b head rest) cut f.reads) in
    let few = f.in_room in
    absurd (omega arith)

-- where the front is full and holds no head
pub hopeless_by_length : (bytes : List ℕ) → front_len ≤ length bytes → HasNoRequest (take front_len bytes) → IsHopeless bytes
hopeless_by_length bytes full none more head rest f =
    none head _ (subst (λ (b : List ℕ). ReadsRequest b head (take (front_len - length (print_request head)) rest)) (take-append-le front_len bytes more full) (reads_front (bytes ++ more) head rest f))

-- bytes begin with one fitting head
pub fits_unique : (bytes : List ℕ) (h k : RequestHead) (r q : List ℕ) → Fits bytes h r → Fits bytes k q → (h ≡ k) × (r ≡ q)
fits_unique bytes h k r q x y = request_unique bytes h k r q x.reads y.reads

-- what the parser finds in the front is a head that fits
pub head_at : (bytes : List ℕ) (headers : List HeaderSpan) (spans : RequestSpans) (head : RequestHead) → length headers ≡ field_room
    → IsRequestAt (take front_len bytes) headers spans head → IsHeadAt bytes headers spans head
head_at bytes headers spans head room at =
    let counted = simp (length-map, length-take) at (ap length at.fields) in
    let few : length head.fields ≤ field_room = omega arith in
    record {
      at = at;
      fits = subst (λ (n : ℕ). Fits bytes head (drop n bytes)) (sym at.len) (fits_from_front bytes head (drop spans.len (take front_len bytes)) at.reads few);
    }

-- a short front that holds no head may wait
pub waits : (bytes : List ℕ) → length bytes < front_len → HasNoRequest (take front_len bytes) → HasNone bytes × MayWait bytes
waits bytes short none =
    let all : take front_len bytes ≡ bytes = take_all front_len bytes (omega arith) in
    let no_head = subst HasNoRequest all none in
    (λ head rest f. no_head head rest f.reads, (short, no_head))

-- a short front that may become a head is all of the bytes
pub unfinished : (bytes : List ℕ) → length bytes < front_len → MayBecomeRequest (take front_len bytes) → MayBecomeRequest bytes
unfinished bytes short may = let all : take front_len bytes ≡ bytes = take_all front_len bytes (omega arith) in subst MayBecomeRequest all may

-- the bytes end with the end of a line
abbrev EndsLine : List ℕ → Type 0
EndsLine bytes = (front : List ℕ) × (bytes ≡ front ++ 10 ∷ [])

ends_behind : (a b : List ℕ) → EndsLine b → EndsLine (a ++ b)
ends_behind a b e = (a ++ e.0, ap (λ (l : List ℕ). a ++ l) e.1 ∙ sym (append_assoc a e.0 (10 ∷ [])))

ends_line_end : (e : LineEnd) → EndsLine (print_end e)
ends_line_end crlf = (13 ∷ [], refl)
ends_line_end lf = ([], refl)

-- a head ends with the end of its empty line
ends_head : (h : RequestHead) → EndsLine (print_request h)
unfolding print_request
ends_head h = ends_behind _ (print_section h.fields h.last) (ends_behind (flat_map print_field h.fields) _ (ends_line_end h.last))

-- a line's end that stands behind the first part stands in the second
end_in_piece : (held piece : List ℕ) (i : ℕ) → length held ≤ i → i < length held + length piece → get_or (held ++ piece) i 0 ≡ 10
    → list_any (λ b. b == 10) piece ≡ true
end_in_piece held piece i past within is =
    let here : get_or piece (i - length held) 0 ≡ 10 = sym (get_or-append_right held piece i 0 past) ∙ is in
    list_any_at (λ b. b == 10) piece (i - length held) 0 (omega arith) (ap (λ b. b == 10) here)

-- a head that ends within the first part is read from it alone
reads_first : (held piece : List ℕ) (head : RequestHead) (rest : List ℕ) → ReadsRequest (held ++ piece) head rest
    → length (print_request head) ≤ length held → ReadsRequest held head (drop (length (print_request head)) held)
reads_first held piece head rest r within =
    let n = length (print_request head) in
    let front : take n held ≡ print_request head =
    sym (take-append-le n held piece within) ∙ ap (take n) r.1 ∙ take-append_seam (print_request head) rest in
    (r.0, sym (take-append-drop n held) ∙ ap (λ (l : List ℕ). l ++ drop n held) front)

-- what waits and gets no end of a line begins with no head
no_head_after : (held piece : List ℕ) → list_any (λ b. b == 10) piece ≡ false → ((head : RequestHead) (rest : List ℕ) → ¬ (ReadsRequest held head rest))
    → (head : RequestHead) (rest : List ℕ) → ¬ (ReadsRequest (held ++ piece) head rest)
no_head_after held piece no_end none head rest r =
    let e = ends_head head in
    let whole : held ++ piece ≡ e.0 ++ 10 ∷ rest =
    r.1 ∙ ap (λ (l : List ℕ). l ++ rest) e.1 ∙ append_assoc e.0 (10 ∷ []) rest in
    let long : length (print_request head) ≡ length e.0 + 1 = ap length e.1 ∙ length-append e.0 (10 ∷ []) in
    let all : length held + length piece ≡ length e.0 + suc (length rest) =
    sym (length-append held piece) ∙ ap length whole ∙ length-append e.0 (10 ∷ rest) in
    elim (cases_lt (length e.0) (length held)) [
      | inl l ↦ none head (drop (length (print_request head)) held) (reads_first held piece head rest r (omega arith))
      | inr l ↦ absurd (let found = end_in_piece held piece (length e.0) l (omega arith) (ap (λ (b : List ℕ). get_or b (length e.0) 0) whole ∙ get_or-append_seam e.0 10 rest 0) in
          let clash : true ≡ false = sym found ∙ no_end in cc)
    ]

-- a piece that ends no line and leaves room in the front changes nothing
pub stays_incomplete : (held piece : List ℕ) → may_settle held piece ≡ false → IsIncomplete held → IsIncomplete (held ++ piece)
stays_incomplete held piece unsettled waits =
    let parts = or_parts (list_any (λ b. b == 10) piece) (nat_le front_len (length held + length piece)) unsettled in
    let none = no_head_after held piece parts.0 waits.1.1 in
    (λ head rest f. none head rest f.reads, (short held piece parts.1, none))
  where
    short : (held piece : List ℕ) → nat_le front_len (length held + length piece) ≡ false → length (held ++ piece) < front_len
    short held piece h = let l = length-append held piece in grind (arith, nat_tests)
