-- What is written of a journal, and over a file.
use Rattle.std.proofs.Common.{◌≡◌, ℕ, ◌+◌, List, [], ◌∷◌, ◌++◌, length, take, drop, Option, Result, Ok, Err, refl, sym, ap, subst, ◌∙◌, append_assoc, append-nil, take-append-drop}
use Rattle.std.proofs.KnownBytes.{Appends-nil, Appends-trans}
use Rattle.std.proofs.Math.Seq.{take-append_seam}
use Rattle.std.specs.Io.KnownBytes.{Appends}
use Rattle.cad_io.specs.Writing.{IsFront}
use Rattle.cad_versions.specs.declared.command.Command.{Command}
use Rattle.cad_office.specs.JournalLines.{line_of, lines_of}
use Rattle.cadastred_run.specs.FileJournal.{IsPrinted}

-- ---- fronts

front_join : (front rest : List ℕ) → IsFront front (front ++ rest)
front_join front rest = (length front, sym (take-append_seam front rest))

abbrev pub PrintsFront : Option (List ℕ) → Option (List ℕ) → List ℕ → Type 0
PrintsFront before after bytes = (front : List ℕ) × Appends before after front × IsFront front bytes

-- nothing was written
pub front_none : (a : Option (List ℕ)) (bytes : List ℕ) → PrintsFront a a bytes
front_none a bytes = ([], Appends-nil a, (0, refl))

-- bytes were written, then a front of the next ones, and others would have been next
pub front_after : (a b c : Option (List ℕ)) (xs ys zs : List ℕ) → Appends a b xs → PrintsFront b c ys → PrintsFront a c (xs ++ (ys ++ zs))
front_after a b c xs ys zs first then =
    let front = then.0 in
    let n = then.2.0 in
    let rest = drop n ys in
    let whole : xs ++ (ys ++ zs) ≡ (xs ++ front) ++ (rest ++ zs) =
    ap (λ l. xs ++ (l ++ zs)) (sym (take-append-drop n ys)) ∙ ap (λ l. xs ++ ((l ++ rest) ++ zs)) (sym then.2.1)
    ∙ ap (λ l. xs ++ l) (append_assoc front rest zs) ∙ sym (append_assoc xs front (rest ++ zs)) in
    (xs ++ front, Appends-trans a b c xs front first then.1, subst (IsFront (xs ++ front)) (sym whole) (front_join (xs ++ front) (rest ++ zs)))

pub front_of_all : (a b : Option (List ℕ)) (xs zs : List ℕ) → PrintsFront a b xs → PrintsFront a b (xs ++ zs)
front_of_all a b xs zs then = front_after a a b [] xs zs (Appends-nil a) then

-- bytes were written, and of the next ones all or a front
pub printed_then : {E : Type 0} (a b c : Option (List ℕ)) (xs ys : List ℕ) (result : Result (Unit {0}) E) → Appends a b xs → IsPrinted b c ys result → IsPrinted a c (xs ++ ys) result
printed_then a b c xs ys (Ok done) first then = Appends-trans a b c xs ys first then
printed_then a b c xs ys (Err error) first then = subst (λ l. PrintsFront a c (xs ++ l)) (append-nil ys) (front_after a b c xs ys [] first then)

-- ---- lines

pub lines_append : (cs ds : List Command) → lines_of (cs ++ ds) ≡ lines_of cs ++ lines_of ds
lines_append [] ds = refl
lines_append (c ∷ cs) ds = ap (λ l. line_of c ++ l) (lines_append cs ds) ∙ sym (append_assoc (line_of c) (lines_of cs) (lines_of ds))

pub lines_push : (cs : List Command) (c : Command) → lines_of (cs ++ c ∷ []) ≡ lines_of cs ++ line_of c
lines_push cs c = lines_append cs (c ∷ []) ∙ ap (λ l. lines_of cs ++ l) (append-nil (line_of c))

pub lines_next : (commands : List Command) (at : ℕ) (item : Command) → take (at + 1) commands ≡ take at commands ++ item ∷ [] → lines_of (take (at + 1) commands) ≡ lines_of (take at commands) ++ line_of item
lines_next commands at item more = ap lines_of more ∙ lines_push (take at commands) item

lines_whole : (commands : List Command) (at : ℕ) (item : Command) → take (at + 1) commands ≡ take at commands ++ item ∷ [] → lines_of (take at commands) ++ (line_of item ++ lines_of (drop (at + 1) commands)) ≡ lines_of commands
lines_whole commands at item more =
    sym (append_assoc (lines_of (take at commands)) (line_of item) (lines_of (drop (at + 1) commands)))
    ∙ ap (λ l. l ++ lines_of (drop (at + 1) commands)) (sym (lines_next commands at item more))
    ∙ sym (lines_append (take (at + 1) commands) (drop (at + 1) commands)) ∙ ap lines_of (take-append-drop (at + 1) commands)

-- a front of one line, after those of the commands before it
pub front_of_lines : (a b c : Option (List ℕ)) (commands : List Command) (at : ℕ) (item : Command) → take (at + 1) commands ≡ take at commands ++ item ∷ [] → Appends a b (lines_of (take at commands)) → PrintsFront b c (line_of item) → PrintsFront a c (lines_of commands)
front_of_lines a b c commands at item more first then =
    subst (PrintsFront a c) (lines_whole commands at item more) (front_after a b c (lines_of (take at commands)) (line_of item) (lines_of (drop (at + 1) commands)) first then)
