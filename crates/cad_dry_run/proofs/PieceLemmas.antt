-- What is read and written of one line, and of one piece after another.
use Rattle.std.proofs.Common.{◌≡◌, ℕ, Bool, true, false, not, cond, ◌&&◌, IsTrue, List, [], ◌∷◌, ◌++◌, Option, Result, Ok, Err, length, filter, refl, sym, ap, ◌∙◌, append_assoc, append-nil, eqb-true}
use Rattle.std.specs.Prelude.{◌==◌}
use Rattle.std.proofs.Math.Bool.{and-true}
use Rattle.std.proofs.KnownBytes.{Appends-trans, Appends-nil}
use Rattle.std.specs.Io.KnownBytes.{Appends}
use Rattle.cad_versions.specs.declared.fault.RegisterFault.TheVariants.{Store}
use Rattle.cad_versions.specs.declared.fault.RegisterFault.{RegisterFault}
use Rattle.cad_versions.specs.declared.command.Command.{Command}
use Rattle.cad_office.specs.declared.fault.OfficeFault.{OfficeFault}
use Rattle.cad_office.specs.declared.fault.OfficeFault.TheVariants.{Read, Write, TurnsSpent, Register}
use Rattle.cad_office.specs.declared.line.Line.{Line}
use Rattle.cad_dry_run.specs.declared.report.Report.{Report}
use Rattle.cad_dry_run.specs.declared.report.Report.TheVariants.{Refused}
use Rattle.cad_dry_run.specs.Reports.{report_text}
use Rattle.cad_io.specs.Writing.{WritesCut}
use Rattle.cad_office.specs.Lines.{is_filled, lines_ended, line_begun, BuffersLine}
use Rattle.cad_office.specs.Keeping.{EndIn}
use Rattle.cad_dry_run.specs.inner.Endings.{EndsLine}
use Rattle.cad_dry_run.specs.Checking.{all_texts, is_good, would_go_on, ReportsLines, IsPiece}
use Rattle.cad_io.specs.Known.{Writes}
use Rattle.cad_dry_run.proofs.LineLemmas.{lines_in-begun, lines_ended-lf, line_begun-lf, lines_ended-byte, line_begun-byte, lines_ended-append}
use Rattle.cad_dry_run.proofs.ReportLemmas.{all_good-append, first-more, reported-append, refused-append, cut-append}
use Rattle.std.proofs.lemmas.List.{nil_from_length}

-- ---- one line

one_printed : (report : Report) → report_text report ≡ all_texts (report ∷ [])
one_printed report = sym (append-nil (report_text report))

lf_ends : (read : List ℕ) → EndIn read (10 ∷ []) (filter is_filled (line_begun read ∷ []))
lf_ends read = lines_ended-lf read ∙ lines_in-begun read

pub refused_goes_on : (fault : RegisterFault) → ¬ (fault ≡ Store) → IsTrue (would_go_on (Refused fault))
refused_goes_on Store other = absurd (other refl)
refused_goes_on _ other = refl

-- an empty line
pub line_empty : (Q : List (List ℕ) → List Report → Type 0) (a : Option (List ℕ)) (read : List ℕ) (line : Line) → BuffersLine (line_begun read) line → (length (line_begun read) == 0) ≡ true → Q [] [] → Writes a a (IsPiece Q read (Ok true) line (10 ∷ []))
line_empty Q a read line stands empty q =
    let none = nil_from_length (line_begun read) (eqb-true (length (line_begun read)) 0 empty) in
    let ends = lf_ends read ∙ ap (λ (text : List ℕ). lines_ended read ++ filter is_filled (text ∷ [])) none in
    ([], Appends-nil a, ([], ends, ([], (refl, refl, q), refl), rw (line_begun-lf read) (rw none at stands)))

filled_ends : (read : List ℕ) → (length (line_begun read) == 0) ≡ false → EndIn read (10 ∷ []) (line_begun read ∷ [])
filled_ends read filled =
    lf_ends read ∙ ap (λ (b : Bool). lines_ended read ++ cond (not b) (line_begun read ∷ []) []) filled

pub line_reported : (Q : List (List ℕ) → List Report → Type 0) (a b : Option (List ℕ)) (read : List ℕ) (next : Line) (report : Report) (accepted : Bool) → (length (line_begun read) == 0) ≡ false → BuffersLine [] next → IsTrue (would_go_on report) → accepted ≡ is_good report → Appends a b (report_text report) → Q (line_begun read ∷ []) (report ∷ []) → Writes a b (IsPiece Q read (Ok accepted) next (10 ∷ []))
line_reported Q a b read next report accepted filled stands goes e x q =
    (report_text report, x, (line_begun read ∷ [], filled_ends read filled, (report ∷ [], (one_printed report, and-true (would_go_on report) ∙ goes, q), e ∙ sym (and-true (is_good report))), rw (line_begun-lf read) stands))

pub line_refused : (Q : List (List ℕ) → List Report → Type 0) (a b : Option (List ℕ)) (read : List ℕ) (next : Line) → (length (line_begun read) == 0) ≡ false → Appends a b (report_text (Refused Store)) → Q (line_begun read ∷ []) (Refused Store ∷ []) → Writes a b (IsPiece Q read (Err Register) next (10 ∷ []))
line_refused Q a b read next filled x q =
    (report_text (Refused Store), x, (line_begun read ∷ [], filled_ends read filled, ([], refl, refl, q)))

pub line_cut : (Q : List (List ℕ) → List Report → Type 0) (a b : Option (List ℕ)) (read : List ℕ) (next : Line) (report : Report) → (length (line_begun read) == 0) ≡ false → WritesCut a b (report_text report) → Q (line_begun read ∷ []) (report ∷ []) → Writes a b (IsPiece Q read (Err Write) next (10 ∷ []))
line_cut Q a b read next report filled cut q =
    (cut.0, cut.1, (line_begun read ∷ [], filled_ends read filled, ([], report, cut.0, refl, cut.2, refl, q)))

-- a line whose report was printed
pub line_ended : (Q : List (List ℕ) → List Report → Type 0) (a b : Option (List ℕ)) (read : List ℕ) (next : Line) (report : Report) (result : Result Bool OfficeFault) → (length (line_begun read) == 0) ≡ false → BuffersLine [] next → EndsLine report result → Appends a b (report_text report) → Q (line_begun read ∷ []) (report ∷ []) → Writes a b (IsPiece Q read result next (10 ∷ []))
line_ended Q a b read next report (Ok good) filled stands ends x q = line_reported Q a b read next report good filled stands ends.0 ends.1 x q
line_ended Q a b read next report (Err Register) filled stands ends x q = line_refused Q a b read next filled (rw ends.1 at x) (rw ends.1 at q)
line_ended Q a b read next report (Err Read) filled stands ends x q = let clash : Read ≡ Register = ends.0 in cc
line_ended Q a b read next report (Err TurnsSpent) filled stands ends x q = let clash : TurnsSpent ≡ Register = ends.0 in cc
line_ended Q a b read next report (Err Write) filled stands ends x q = let clash : Write ≡ Register = ends.0 in cc

-- a byte of a line
pub piece_byte : (Q : List (List ℕ) → List Report → Type 0) (a : Option (List ℕ)) (read : List ℕ) (next : Line) (byte : ℕ) → (byte == 10) ≡ false → BuffersLine (line_begun read ++ byte ∷ []) next → Q [] [] → Writes a a (IsPiece Q read (Ok true) next (byte ∷ []))
piece_byte Q a read next byte other stands q =
    ([], Appends-nil a, ([], lines_ended-byte read byte other ∙ sym (append-nil _), ([], (refl, refl, q), refl), rw (line_begun-byte read byte other) stands))

-- ---- one piece after another

ends-append : (read p q : List ℕ) (ls ms : List (List ℕ)) → EndIn read p ls → EndIn (read ++ p) q ms → EndIn read (p ++ q) (ls ++ ms)
ends-append read p q ls ms e f =
    ap lines_ended (sym (append_assoc read p q)) ∙ f ∙ ap (λ (s : List (List ℕ)). s ++ ms) e ∙ append_assoc (lines_ended read) ls ms

-- nothing was read and nothing written
pub piece_nothing : (Q : List (List ℕ) → List Report → Type 0) (a : Option (List ℕ)) (read : List ℕ) (line : Line) → BuffersLine (line_begun read) line → Q [] [] → Writes a a (IsPiece Q read (Ok true) line [])
piece_nothing Q a read line stands q =
    ([], Appends-nil a, ([], ap lines_ended (append-nil read) ∙ sym (append-nil _), ([], (refl, refl, q), refl), rw (append-nil read) stands))

module _ {B : Type 0} (applies : B → Command → Result ℕ RegisterFault → B → Type 0) where
  -- a piece that went well, and one more
  pub pieces_more : (a b c : B) (read : List ℕ) (mid last : Line) (p q w v : List ℕ) (x y : Bool) → IsPiece (ReportsLines applies a b) read (Ok x) mid p w → IsPiece (ReportsLines applies b c) (read ++ p) (Ok y) last q v → IsPiece (ReportsLines applies a c) read (Ok (x && y)) last (p ++ q) (w ++ v)
  pieces_more a b c read mid last p q w v x y s t = (
    s.0 ++ t.0,
    ends-append read p q s.0 t.0 s.1 t.1,
    (s.2.0 ++ t.2.0, reported-append applies a b c s.0 t.0 s.2.0 t.2.0 w v s.2.1 t.2.1, rw (s.2.2, t.2.2) (sym (all_good-append s.2.0 t.2.0))),
    rw (append_assoc read p q) at t.3,
  )

  -- a piece that went well, and one that failed
  pub pieces_failed : (a b c : B) (read : List ℕ) (mid last : Line) (p q w v : List ℕ) (x : Bool) (f : OfficeFault) → IsPiece (ReportsLines applies a b) read (Ok x) mid p w → IsPiece (ReportsLines applies b c) (read ++ p) (Err f) last q v → IsPiece (ReportsLines applies a c) read (Err f) last (p ++ q) (w ++ v)
  pieces_failed a b c read mid last p q w v x Read s t = absurd t
  pieces_failed a b c read mid last p q w v x TurnsSpent s t = absurd t
  pieces_failed a b c read mid last p q w v x Register s t =
      (s.0 ++ t.0, ends-append read p q s.0 t.0 s.1 t.1, refused-append applies a b c s.0 t.0 s.2.0 w v s.2.1 t.2)
  pieces_failed a b c read mid last p q w v x Write s t =
      (s.0 ++ t.0, ends-append read p q s.0 t.0 s.1 t.1, cut-append applies a b c s.0 t.0 s.2.0 w v s.2.1 t.2)

  -- what follows a failure is not read
  failed_more : (a b : B) (read : List ℕ) (last : Line) (p rest w : List ℕ) (f : OfficeFault) → IsPiece (ReportsLines applies a b) read (Err f) last p w → IsPiece (ReportsLines applies a b) read (Err f) last (p ++ rest) w
  failed_more a b read last p rest w Read s = absurd s
  failed_more a b read last p rest w TurnsSpent s = absurd s
  failed_more a b read last p rest w Register s =
      let more = lines_ended-append (read ++ p) rest in
      (s.0 ++ more.0, ends-append read p rest s.0 more.0 s.1 more.1, (s.2.0, s.2.1, s.2.2, first-more applies a b s.0 more.0 s.2.0 _ s.2.3))
  failed_more a b read last p rest w Write s =
      let more = lines_ended-append (read ++ p) rest in
      (s.0 ++ more.0, ends-append read p rest s.0 more.0 s.1 more.1, (s.2.0, s.2.1, s.2.2, s.2.3, s.2.4, s.2.5, first-more applies a b s.0 more.0 s.2.0 s.2.1 s.2.6))

  pub piece_more : (a b c : B) (u v w : Option (List ℕ)) (read : List ℕ) (mid last : Line) (p q : List ℕ) (x y : Bool) → Writes u v (IsPiece (ReportsLines applies a b) read (Ok x) mid p) → ((earlier : List ℕ) → BuffersLine (line_begun earlier) mid → Writes v w (IsPiece (ReportsLines applies b c) earlier (Ok y) last q)) → Writes u w (IsPiece (ReportsLines applies a c) read (Ok (x && y)) last (p ++ q))
  piece_more a b c u v w read mid last p q x y s next =
      let t = next (read ++ p) s.2.3 in
      (s.0 ++ t.0, Appends-trans u v w s.0 t.0 s.1 t.1, pieces_more a b c read mid last p q s.0 t.0 x y s.2 t.2)

  pub piece_failed : (a b c : B) (u v w : Option (List ℕ)) (read : List ℕ) (mid last : Line) (p q rest : List ℕ) (x : Bool) (f : OfficeFault) → Writes u v (IsPiece (ReportsLines applies a b) read (Ok x) mid p) → ((earlier : List ℕ) → BuffersLine (line_begun earlier) mid → Writes v w (IsPiece (ReportsLines applies b c) earlier (Err f) last q)) → Writes u w (IsPiece (ReportsLines applies a c) read (Err f) last ((p ++ q) ++ rest))
  piece_failed a b c u v w read mid last p q rest x f s next =
      let t = next (read ++ p) s.2.3 in
      (s.0 ++ t.0, Appends-trans u v w s.0 t.0 s.1 t.1, failed_more a c read last (p ++ q) rest (s.0 ++ t.0) f (pieces_failed a b c read mid last p q s.0 t.0 x f s.2 t.2))
