-- Where a reply ends.
use Rattle.std.proofs.Common.{◌≡◌, ◌≢◌, ℕ, ◌+◌, ◌%◌, ◌<◌, ◌≤◌, ◌^◌, ◌==◌, if◌then◌else◌, List, [], ◌∷◌, ◌++◌, Bool, true, false, All, length, take, drop, get_or, refl, sym, ap, subst, ◌∙◌, arith}
use Rattle.std.specs.Fmt.{decimal}
use Rattle.std.proofs.Math.Seq.{drop-append_seam, take-append_seam}
use Rattle.std.proofs.lemmas.Fmt.{decimal_by_steps, decimal_injective}
use Rattle.std.proofs.lemmas.List.{append_assoc}
use Rattle.std.proofs.lemmas.List.Elements.{All-nil, All-cons, All-head, All-tail, All-append}
use Rattle.cad_head.specs.declared.status.Status.{Status}
use Rattle.cad_head.specs.declared.status.Status.TheVariants as status
use Rattle.cad_head.specs.Replies.{line, allow_line, close_line, reply_text}
use Rattle.cad_head.specs.ReplyLaws.{RepliesAreUnambiguous}

-- the status that the digits of the code tell
abbrev status_seen : List ℕ → Status
status_seen bytes =
    if get_or bytes 9 0 == 50 then status.Ok
    else (if get_or bytes 11 0 == 48 then status.BadRequest
    else (if get_or bytes 11 0 == 52 then status.NotFound else status.MethodNotAllowed))

status_is_seen : (s : Status) (ends : Bool) (body after : List ℕ) → status_seen (reply_text s ends body ++ after) ≡ s
status_is_seen status.Ok ends body after = refl
status_is_seen status.BadRequest ends body after = refl
status_is_seen status.NotFound ends body after = refl
status_is_seen status.MethodNotAllowed ends body after = refl

-- what stands behind `Content-Length: `
abbrev behind_length : Status → Bool → List ℕ → List ℕ → List ℕ
behind_length s ends body after =
    decimal (length body) ++ (13 ∷ 10 ∷ []) ++ allow_line s ++ close_line ends ++ line [] ++ body ++ after

-- how many bytes stand before the length
abbrev length_place : Status → ℕ
length_place status.Ok = 65
length_place status.BadRequest = 74
length_place status.NotFound = 72
length_place status.MethodNotAllowed = 81

length_stands : (s : Status) (ends : Bool) (body after : List ℕ) → drop (length_place s) (reply_text s ends body ++ after) ≡ behind_length s ends body after
length_stands status.Ok ends body after = refl
length_stands status.BadRequest ends body after = refl
length_stands status.NotFound ends body after = refl
length_stands status.MethodNotAllowed ends body after = refl

-- what stands behind the digits of the length
abbrev behind_digits : Status → Bool → List ℕ → List ℕ → List ℕ
behind_digits s ends body after = 10 ∷ (allow_line s ++ (close_line ends ++ (13 ∷ 10 ∷ (body ++ after))))

digits_stand : (s : Status) (ends : Bool) (body after : List ℕ) → behind_length s ends body after ≡ decimal (length body) ++ 13 ∷ behind_digits s ends body after
digits_stand s ends body after =
    let digits = decimal (length body) in
    let end : List ℕ = 13 ∷ 10 ∷ [] in
    append_assoc (digits ++ end ++ allow_line s ++ close_line ends ++ line []) body after
    ∙ append_assoc (digits ++ end ++ allow_line s ++ close_line ends) (line []) (body ++ after)
    ∙ append_assoc (digits ++ end ++ allow_line s) (close_line ends) (line [] ++ (body ++ after))
    ∙ append_assoc (digits ++ end) (allow_line s) (close_line ends ++ (line [] ++ (body ++ after)))
    ∙ append_assoc digits end (allow_line s ++ (close_line ends ++ (line [] ++ (body ++ after))))

-- no carriage return
abbrev IsInLine : List ℕ → Type 0
IsInLine bytes = All (λ b. b ≢ 13) bytes

digit_in_line : (d : ℕ) → 48 + d ≢ 13
digit_in_line d same = omega arith

one_in_line : (n : ℕ) → n < 10 → IsInLine ((48 + n) ∷ [])
one_in_line n small = All-cons (λ (b : ℕ). b ≢ 13) (48 + n) [] (digit_in_line n) (All-nil (λ (b : ℕ). b ≢ 13))

more_in_line : (n : ℕ) (digits : List ℕ) → 10 ≤ n → IsInLine digits → IsInLine (digits ++ ((48 + n % 10) ∷ []))
more_in_line n digits large before =
    All-append (λ (b : ℕ). b ≢ 13) digits ((48 + n % 10) ∷ []) before (All-cons (λ (b : ℕ). b ≢ 13) (48 + n % 10) [] (digit_in_line (n % 10)) (All-nil (λ (b : ℕ). b ≢ 13)))

digits_in_line : (n : ℕ) → n < 2 ^ 64 → IsInLine (decimal n)
digits_in_line = decimal_by_steps (λ n digits. IsInLine digits) one_in_line more_in_line

-- the first carriage return ends the line
first_line : (a b x y : List ℕ) → IsInLine a → IsInLine b → a ++ 13 ∷ x ≡ b ++ 13 ∷ y → (a ≡ b) × (x ≡ y)
first_line [] [] x y p q same = (refl, ap (drop 1) same)
first_line [] (d ∷ b) x y p q same = absurd (All-head (λ (b : ℕ). b ≢ 13) d b q (sym (ap (λ (l : List ℕ). get_or l 0 0) same)))
first_line (c ∷ a) [] x y p q same = absurd (All-head (λ (b : ℕ). b ≢ 13) c a p (ap (λ (l : List ℕ). get_or l 0 0) same))
first_line (c ∷ a) (d ∷ b) x y p q same =
    let rest = first_line a b x y (All-tail (λ (b : ℕ). b ≢ 13) c a p) (All-tail (λ (b : ℕ). b ≢ 13) d b q) (ap (drop 1) same) in
    let first : c ≡ d = ap (λ (l : List ℕ). get_or l 0 0) same in
    (rw (first, rest.0) refl, rest.1)

-- the line of the methods is passed
behind_allow : (s : Status) (x y : List ℕ) → 10 ∷ (allow_line s ++ x) ≡ 10 ∷ (allow_line s ++ y) → x ≡ y
behind_allow status.Ok x y same = ap (drop 1) same
behind_allow status.BadRequest x y same = ap (drop 1) same
behind_allow status.NotFound x y same = ap (drop 1) same
behind_allow status.MethodNotAllowed x y same = ap (drop 13) same

-- the line that ends the connection is there or is not
behind_close : (ends closes : Bool) (x y : List ℕ) → close_line ends ++ 13 ∷ 10 ∷ x ≡ close_line closes ++ 13 ∷ 10 ∷ y → (ends ≡ closes) × (x ≡ y)
behind_close true true x y same = (refl, ap (drop 21) same)
behind_close false false x y same = (refl, ap (drop 2) same)
behind_close true false x y same = absurd (let told : 67 ≡ 13 = ap (λ (l : List ℕ). get_or l 0 0) same in cc)
behind_close false true x y same = absurd (let told : 13 ≡ 67 = ap (λ (l : List ℕ). get_or l 0 0) same in cc)

-- parts of the same length are the same
same_parts : (a b x y : List ℕ) → length a ≡ length b → a ++ x ≡ b ++ y → (a ≡ b) × (x ≡ y)
same_parts a b x y long same = (
  sym (take-append_seam a x) ∙ ap (take (length a)) same ∙ ap (λ n. take n (b ++ y)) long ∙ take-append_seam b y,
  sym (drop-append_seam a x) ∙ ap (drop (length a)) same ∙ ap (λ n. drop n (b ++ y)) long ∙ drop-append_seam b y,
)

-- replies of one status
one_status : (s : Status) (ends closes : Bool) (body text after more : List ℕ) → length body < 2 ^ 64 → length text < 2 ^ 64
    → reply_text s ends body ++ after ≡ reply_text s closes text ++ more → (ends ≡ closes) × (body ≡ text) × (after ≡ more)
one_status s ends closes body text after more small fits same =
    let from_length = sym (length_stands s ends body after ∙ digits_stand s ends body after) ∙ ap (drop (length_place s)) same ∙ length_stands s closes text more ∙ digits_stand s closes text more in
    let parted = first_line (decimal (length body)) (decimal (length text)) (behind_digits s ends body after) (behind_digits s closes text more) (digits_in_line (length body) small) (digits_in_line (length text) fits) from_length in
    let long = decimal_injective (length body) (length text) small fits parted.0 in
    let closing = behind_close ends closes (body ++ after) (text ++ more) (behind_allow s (close_line ends ++ (13 ∷ 10 ∷ (body ++ after))) (close_line closes ++ (13 ∷ 10 ∷ (text ++ more))) parted.1) in
    let bodies = same_parts body text after more long closing.1 in
    (closing.0, bodies.0, bodies.1)

pub replies_are_unambiguous : RepliesAreUnambiguous
replies_are_unambiguous bytes s other ends closes body text after more first second =
    let same_status : s ≡ other =
    sym (status_is_seen s ends body after) ∙ ap status_seen (sym first.is_all ∙ second.is_all) ∙ status_is_seen other closes text more in
    let as_one = subst (λ (t : Status). reply_text s ends body ++ after ≡ reply_text t closes text ++ more) (sym same_status) (sym first.is_all ∙ second.is_all) in
    let rest = one_status s ends closes body text after more first.in_memory second.in_memory as_one in
    (same_status, rest.0, rest.1, rest.2)
