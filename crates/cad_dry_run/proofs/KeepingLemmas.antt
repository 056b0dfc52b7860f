-- What is read and written from the first read on.
use Rattle.std.proofs.Common.{◌≡◌, ℕ, Bool, true, ◌&&◌, List, [], ◌∷◌, ◌++◌, Option, Some, None, Result, Ok, Err, ◌+◌, ◌≤◌, ◌<◌, length, arith, rules, length-append, refl, sym, ap, ◌∙◌, append-nil, inl, inr}
use Rattle.std.proofs.KnownBytes.{Appends-trans, Consumes-trans, Consumes-nil}
use Rattle.std.specs.Io.KnownBytes.{Consumes, Keeps}
use Rattle.cad_versions.specs.declared.fault.RegisterFault.{RegisterFault}
use Rattle.cad_versions.specs.declared.command.Command.{Command}
use Rattle.cad_office.specs.declared.fault.OfficeFault.{OfficeFault}
use Rattle.cad_office.specs.declared.fault.OfficeFault.TheVariants.{Read, Write, TurnsSpent, Register}
use Rattle.cad_office.specs.declared.line.Line.{Line}
use Rattle.cad_dry_run.specs.declared.report.Report.{Report}
use Rattle.cad_office.specs.Lines.{lines_in, lines_ended, line_begun, BuffersLine}
use Rattle.cad_office.specs.Keeping.{AreWhole, IsOfReads, IsPaced, most_reads, EndIn}
use Rattle.cad_dry_run.specs.Checking.{ReportsLines, AreReported, LinesAreReported, IsPiece}
use Rattle.cad_io.specs.Known.{Writes, ReadsAndWrites}
use Rattle.cad_io.specs.Pieces.{piece_len}
use Rattle.cad_dry_run.proofs.LineLemmas.{lines_ended-lf}
use Rattle.cad_dry_run.proofs.PieceLemmas.{piece_nothing, pieces_more, pieces_failed}

none_ended : lines_ended [] ≡ []
unfolding lines_ended lines_in
none_ended = refl

none_begun : line_begun [] ≡ []
unfolding line_begun
none_begun = refl

-- ---- how much is read

none_read : IsOfReads 0 []
none_read = record { each_gave = search rules; each_short = search rules }

reads_more : (n : ℕ) (read piece : List ℕ) → 0 < length piece → length piece ≤ piece_len → IsOfReads n read → IsOfReads (n + 1) (read ++ piece)
reads_more n read piece some few h =
    record { each_gave = omega (arith, h.each_gave, length-append read piece); each_short = omega (arith, h.each_short, length-append read piece) }

paced : (result : Result Bool OfficeFault) (n : ℕ) (read : List ℕ) → n ≤ most_reads → (result ≡ Err TurnsSpent → ⊥) → IsOfReads n read → IsPaced result read
paced result n read within other h = record { bounded = omega (arith, h.each_short); spent = λ e. absurd (other e) }

spends_none : (Q : List (List ℕ) → List Report → Type 0) (last : Line) (f : OfficeFault) (earlier piece written : List ℕ) → IsPiece Q earlier (Err f) last piece written → ◌≡◌ {A = Result Bool OfficeFault} (Err f) (Err TurnsSpent) → ⊥
spends_none Q last Read earlier piece written t e = t
spends_none Q last TurnsSpent earlier piece written t e = t
spends_none Q last Register earlier piece written t e = cc
spends_none Q last Write earlier piece written t e = cc

-- a line or a piece behind what was read never spends the reads
pub never_spends : (P Q : List (List ℕ) → List Report → Type 0) (n : ℕ) (i j u v w : Option (List ℕ)) (mid last : Line) (x : Bool) (f : OfficeFault) (piece : List ℕ) → ReadsAndWrites i j u v (λ read written. IsPiece P [] (Ok x) mid read written × IsOfReads n read)
    → ((earlier : List ℕ) → BuffersLine (line_begun earlier) mid → Writes v w (IsPiece Q earlier (Err f) last piece)) → ◌≡◌ {A = Result Bool OfficeFault} (Err f) (Err TurnsSpent) → ⊥
never_spends P Q n i j u v w mid last x f piece s next =
    let t = next s.0 s.4.0.3 in spends_none Q last f s.0 piece t.0 t.2

-- ---- what is kept

pub kept_nothing : (Q : List (List ℕ) → List Report → Type 0) (a u : Option (List ℕ)) (line : Line) → BuffersLine [] line → Q [] [] → ReadsAndWrites a a u u (λ read written. IsPiece Q [] (Ok true) line read written × IsOfReads 0 read)
kept_nothing Q a u line stands q =
    let t = piece_nothing Q u [] line (rw none_begun stands) q in
    ([], t.0, Consumes-nil a, t.1, (t.2, none_read))

-- the lines that end from the first byte on
all_ended : (read : List ℕ) (lines : List (List ℕ)) → EndIn [] read lines → lines ≡ lines_ended read
all_ended read lines e = sym (e ∙ ap (λ (s : List (List ℕ)). s ++ lines) none_ended)

last_ended : (read : List ℕ) (lines : List (List ℕ)) → EndIn [] (read ++ 10 ∷ []) lines → lines ≡ lines_in read
last_ended read lines e = all_ended (read ++ 10 ∷ []) lines e ∙ lines_ended-lf read

consumes_none : (i j k : Option (List ℕ)) (read piece : List ℕ) → piece ≡ [] → Consumes i j read → Consumes j k piece → Consumes i k read
consumes_none i j k read piece none s r =
    let same : read ++ piece ≡ read = ap (λ (m : List ℕ). read ++ m) none ∙ append-nil read in
    rw same at (Consumes-trans i j k read piece s r)

stopped : (Q : List (List ℕ) → List Report → Type 0) (AtEnd : Type 0) (last : Line) (f : OfficeFault) (piece read written : List ℕ) → IsPiece Q [] (Err f) last piece written → ((lines : List (List ℕ)) → EndIn [] piece lines → AreWhole AtEnd read lines) → LinesAreReported Q AtEnd (Err f) read written
stopped Q AtEnd last Read piece read written t whole = absurd t
stopped Q AtEnd last TurnsSpent piece read written t whole = absurd t
stopped Q AtEnd last Register piece read written t whole = (t.0, whole t.0 t.1, t.2)
stopped Q AtEnd last Write piece read written t whole = (t.0, whole t.0 t.1, t.2)

kept_keeps : (b c : Option (List ℕ)) → Keeps b c → Consumes b c []
kept_keeps None c k = tt
kept_keeps (Some x) None k = k
kept_keeps (Some x) (Some y) k = sym k

all_reported : (Q : List (List ℕ) → List Report → Type 0) (line : Line) (x : Bool) (read written : List ℕ) → IsPiece Q [] (Ok x) line read written → (reports : List Report) × AreReported Q (lines_ended read) reports written
all_reported Q line x read written s =
    (s.2.0, (s.2.1.0, s.2.1.1, rw (all_ended read s.0 s.1) at s.2.1.2))

pub kept_read_failed : (Q : List (List ℕ) → List Report → Type 0) (AtEnd : Type 0) (n : ℕ) (i j k u v : Option (List ℕ)) (line : Line) (x : Bool) → n ≤ most_reads → ReadsAndWrites i j u v (λ read written. IsPiece Q [] (Ok x) line read written × IsOfReads n read) → Keeps j k
    → ReadsAndWrites i k u v (λ read written. LinesAreReported Q AtEnd (Err Read) read written × IsPaced (Err Read) read)
kept_read_failed Q AtEnd n i j k u v line x within s h =
    (s.0, s.1, consumes_none i j k s.0 [] refl s.2 (kept_keeps j k h), s.3, (all_reported Q line x s.0 s.1 s.4.0, paced (Err Read) n s.0 within (λ e. cc) s.4.1))

pub kept_turns_spent : (Q : List (List ℕ) → List Report → Type 0) (AtEnd : Type 0) (n : ℕ) (i j u v : Option (List ℕ)) (line : Line) (x : Bool) → n ≡ most_reads → ReadsAndWrites i j u v (λ read written. IsPiece Q [] (Ok x) line read written × IsOfReads n read)
    → ReadsAndWrites i j u v (λ read written. LinesAreReported Q AtEnd (Err TurnsSpent) read written × IsPaced (Err TurnsSpent) read)
kept_turns_spent Q AtEnd n i j u v line x all s =
    (s.0, s.1, s.2, s.3, (all_reported Q line x s.0 s.1 s.4.0, record { bounded = omega (arith, all, s.4.1.each_short); spent = λ e. omega (arith, all, s.4.1.each_gave) }))

module _ {B : Type 0} (applies : B → Command → Result ℕ RegisterFault → B → Type 0) where
  pub kept_more : (a b c : B) (n : ℕ) (i j k u v w : Option (List ℕ)) (mid last : Line) (x y : Bool) (piece : List ℕ) → 0 < length piece → length piece ≤ piece_len → ReadsAndWrites i j u v (λ read written. IsPiece (ReportsLines applies a b) [] (Ok x) mid read written × IsOfReads n read) → Consumes j k piece
      → ((earlier : List ℕ) → BuffersLine (line_begun earlier) mid → Writes v w (IsPiece (ReportsLines applies b c) earlier (Ok y) last piece)) → ReadsAndWrites i k u w (λ read written. IsPiece (ReportsLines applies a c) [] (Ok (x && y)) last read written × IsOfReads (n + 1) read)
  kept_more a b c n i j k u v w mid last x y piece some few s r next =
      let t = next s.0 s.4.0.3 in
      (s.0 ++ piece, s.1 ++ t.0, Consumes-trans i j k s.0 piece s.2 r, Appends-trans u v w s.1 t.0 s.3 t.1, (pieces_more applies a b c [] mid last s.0 piece s.1 t.0 x y s.4.0 t.2, reads_more n s.0 piece some few s.4.1))

  -- the end of the input
  pub kept_all : (a b c : B) (AtEnd : Type 0) (n : ℕ) (i j k u v w : Option (List ℕ)) (mid last : Line) (x y : Bool) (piece : List ℕ) → n ≤ most_reads → piece ≡ [] → ReadsAndWrites i j u v (λ read written. IsPiece (ReportsLines applies a b) [] (Ok x) mid read written × IsOfReads n read) → Consumes j k piece
      → ((earlier : List ℕ) → BuffersLine (line_begun earlier) mid → Writes v w (IsPiece (ReportsLines applies b c) earlier (Ok y) last (10 ∷ []))) → ReadsAndWrites i k u w (λ read written. LinesAreReported (ReportsLines applies a c) AtEnd (Ok (x && y)) read written × IsPaced (Ok (x && y)) read)
  kept_all a b c AtEnd n i j k u v w mid last x y piece within none s r next =
      let t = next s.0 s.4.0.3 in
      let done = pieces_more applies a b c [] mid last s.0 (10 ∷ []) s.1 t.0 x y s.4.0 t.2 in
      let lines = last_ended s.0 done.0 done.1 in
      (s.0, s.1 ++ t.0, consumes_none i j k s.0 piece none s.2 r, Appends-trans u v w s.1 t.0 s.3 t.1, ((done.2.0, (done.2.1.0, done.2.1.1, rw lines at done.2.1.2), done.2.2), paced (Ok (x && y)) n s.0 within (λ e. cc) s.4.1))

  pub kept_last_failed : (a b c : B) (AtEnd : Type 0) (n : ℕ) (i j k u v w : Option (List ℕ)) (mid last : Line) (x : Bool) (piece : List ℕ) (f : OfficeFault) → n ≤ most_reads → piece ≡ [] → AtEnd → ReadsAndWrites i j u v (λ read written. IsPiece (ReportsLines applies a b) [] (Ok x) mid read written × IsOfReads n read) → Consumes j k piece
      → ((earlier : List ℕ) → BuffersLine (line_begun earlier) mid → Writes v w (IsPiece (ReportsLines applies b c) earlier (Err f) last (10 ∷ []))) → ReadsAndWrites i k u w (λ read written. LinesAreReported (ReportsLines applies a c) AtEnd (Err f) read written × IsPaced (Err f) read)
  kept_last_failed a b c AtEnd n i j k u v w mid last x piece f within none end s r next =
      let t = next s.0 s.4.0.3 in
      let done = pieces_failed applies a b c [] mid last s.0 (10 ∷ []) s.1 t.0 x f s.4.0 t.2 in (
        s.0,
        s.1 ++ t.0,
        consumes_none i j k s.0 piece none s.2 r,
        Appends-trans u v w s.1 t.0 s.3 t.1,
        (stopped (ReportsLines applies a c) AtEnd last f (s.0 ++ 10 ∷ []) s.0 (s.1 ++ t.0) done (λ lines e. inr (end, last_ended s.0 lines e)), paced (Err f) n s.0 within (spends_none (ReportsLines applies a c) last f [] _ _ done) s.4.1),
      )

  pub kept_failed : (a b c : B) (AtEnd : Type 0) (n : ℕ) (i j k u v w : Option (List ℕ)) (mid last : Line) (x : Bool) (piece : List ℕ) (f : OfficeFault) → n + 1 ≤ most_reads → 0 < length piece → length piece ≤ piece_len → ReadsAndWrites i j u v (λ read written. IsPiece (ReportsLines applies a b) [] (Ok x) mid read written × IsOfReads n read) → Consumes j k piece
      → ((earlier : List ℕ) → BuffersLine (line_begun earlier) mid → Writes v w (IsPiece (ReportsLines applies b c) earlier (Err f) last piece)) → ReadsAndWrites i k u w (λ read written. LinesAreReported (ReportsLines applies a c) AtEnd (Err f) read written × IsPaced (Err f) read)
  kept_failed a b c AtEnd n i j k u v w mid last x piece f within some few s r next =
      let t = next s.0 s.4.0.3 in
      let done = pieces_failed applies a b c [] mid last s.0 piece s.1 t.0 x f s.4.0 t.2 in (
        s.0 ++ piece,
        s.1 ++ t.0,
        Consumes-trans i j k s.0 piece s.2 r,
        Appends-trans u v w s.1 t.0 s.3 t.1,
        (stopped (ReportsLines applies a c) AtEnd last f (s.0 ++ piece) (s.0 ++ piece) (s.1 ++ t.0) done (λ lines e. inl (all_ended (s.0 ++ piece) lines e)), paced (Err f) (n + 1) (s.0 ++ piece) within (spends_none (ReportsLines applies a c) last f [] _ _ done) (reads_more n s.0 piece some few s.4.1)),
      )
