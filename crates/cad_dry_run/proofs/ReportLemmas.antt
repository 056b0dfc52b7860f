-- Reports of lines, one after the other.
use Rattle.std.proofs.Common.{◌≡◌, ℕ, ◌+◌, ◌≤◌, ◌&&◌, List, [], ◌∷◌, ◌++◌, Result, length, map, take, refl, sym, ap, ◌∙◌, append_assoc, arith, length-append, length-take}
use Rattle.std.proofs.lemmas.List.{map-append, take-append-le}
use Rattle.std.proofs.lemmas.List.Folds.{list_all-append}
use Rattle.std.proofs.Math.Seq.{take-append-add}
use Rattle.cad_versions.specs.declared.fault.RegisterFault.{RegisterFault}
use Rattle.cad_versions.specs.declared.command.Command.{Command}
use Rattle.cad_dry_run.specs.declared.report.Report.{Report}
use Rattle.cad_office.specs.Answers.{joined}
use Rattle.cad_dry_run.specs.Reports.{report_text}
use Rattle.cad_dry_run.specs.Checking.{all_texts, is_good, all_good, would_go_on, AllWouldGoOn, ReportsLine, ReportsLines, AreReported, EndsRefused, EndsCut}

joined-append : (xs ys : List (List ℕ)) → joined (xs ++ ys) ≡ joined xs ++ joined ys
joined-append [] ys = refl
joined-append (x ∷ xs) ys = ap (λ (s : List ℕ). x ++ s) (joined-append xs ys) ∙ sym (append_assoc x (joined xs) (joined ys))

all_texts-append : (xs ys : List Report) → all_texts (xs ++ ys) ≡ all_texts xs ++ all_texts ys
all_texts-append xs ys = ap joined (map-append report_text xs ys) ∙ joined-append (map report_text xs) (map report_text ys)

pub all_good-append : (xs ys : List Report) → all_good (xs ++ ys) ≡ (all_good xs && all_good ys)
all_good-append xs ys = list_all-append is_good xs ys

all_go_on-append : (xs ys : List Report) → AllWouldGoOn xs → AllWouldGoOn ys → AllWouldGoOn (xs ++ ys)
all_go_on-append xs ys h k = rw (list_all-append would_go_on xs ys, h, k) refl

written-append : (xs before : List Report) (w v end : List ℕ) → w ≡ all_texts xs → v ≡ all_texts before ++ end → w ++ v ≡ all_texts (xs ++ before) ++ end
written-append xs before w v end e f =
    rw (e, f) (sym (append_assoc (all_texts xs) (all_texts before) end) ∙ ap (λ (m : List ℕ). m ++ end) (sym (all_texts-append xs before)))

module _ {B : Type 0} (applies : B → Command → Result ℕ RegisterFault → B → Type 0) where
  works-append : (a b c : B) (ls ms : List (List ℕ)) (xs ys : List Report) → ReportsLines applies a b ls xs → ReportsLines applies b c ms ys → ReportsLines applies a c (ls ++ ms) (xs ++ ys)
  works-append a b c [] ms [] ys e t = rw e at t
  works-append a b c [] ms (x ∷ xs) ys s t = absurd s
  works-append a b c (l ∷ ls) ms [] ys s t = absurd s
  works-append a b c (l ∷ ls) ms (x ∷ xs) ys s t = (s.0, s.1, works-append s.0 b c ls ms xs ys s.2 t)

  works-length : (a b : B) (ls : List (List ℕ)) (xs : List Report) → ReportsLines applies a b ls xs → length ls ≡ length xs
  works-length a b [] [] s = refl
  works-length a b [] (x ∷ xs) s = absurd s
  works-length a b (l ∷ ls) [] s = absurd s
  works-length a b (l ∷ ls) (x ∷ xs) s = omega (arith, works-length s.0 b ls xs s.2)

  -- what came of lines, and then of the first of more lines
  first-append : (a b c : B) (ls ms : List (List ℕ)) (xs before : List Report) (last : Report) → ReportsLines applies a b ls xs → ReportsLines applies b c (take (length before + 1) ms) (before ++ last ∷ []) → ReportsLines applies a c (take (length (xs ++ before) + 1) (ls ++ ms)) ((xs ++ before) ++ last ∷ [])
  first-append a b c ls ms xs before last s t =
      let count : length (xs ++ before) + 1 ≡ length ls + (length before + 1) = omega (arith, works-length a b ls xs s, length-append xs before) in
      let lines = ap (λ (n : ℕ). take n (ls ++ ms)) count ∙ take-append-add ls ms (length before + 1) in
      rw (lines, append_assoc xs before (last ∷ [])) (works-append a b c ls (take (length before + 1) ms) xs (before ++ last ∷ []) s t)

  -- the first of the lines are the first of these and more
  pub first-more : (a b : B) (ls more : List (List ℕ)) (before : List Report) (last : Report) → ReportsLines applies a b (take (length before + 1) ls) (before ++ last ∷ []) → ReportsLines applies a b (take (length before + 1) (ls ++ more)) (before ++ last ∷ [])
  first-more a b ls more before last s =
      let enough : length before + 1 ≤ length ls = omega (arith, works-length a b (take (length before + 1) ls) (before ++ last ∷ []) s, length-take (length before + 1) ls, length-append before (last ∷ [])) in
      rw (take-append-le (length before + 1) ls more enough) s

  pub reported-append : (a b c : B) (ls ms : List (List ℕ)) (xs ys : List Report) (w v : List ℕ) → AreReported (ReportsLines applies a b) ls xs w → AreReported (ReportsLines applies b c) ms ys v → AreReported (ReportsLines applies a c) (ls ++ ms) (xs ++ ys) (w ++ v)
  reported-append a b c ls ms xs ys w v s t =
      (rw (s.0, t.0) (sym (all_texts-append xs ys)), all_go_on-append xs ys s.1 t.1, works-append a b c ls ms xs ys s.2 t.2)

  pub refused-append : (a b c : B) (ls ms : List (List ℕ)) (xs : List Report) (w v : List ℕ) → AreReported (ReportsLines applies a b) ls xs w → EndsRefused (ReportsLines applies b c) ms v → EndsRefused (ReportsLines applies a c) (ls ++ ms) (w ++ v)
  refused-append a b c ls ms xs w v s t =
      (xs ++ t.0, written-append xs t.0 w v _ s.0 t.1, all_go_on-append xs t.0 s.1 t.2, first-append a b c ls ms xs t.0 _ s.2 t.3)

  pub cut-append : (a b c : B) (ls ms : List (List ℕ)) (xs : List Report) (w v : List ℕ) → AreReported (ReportsLines applies a b) ls xs w → EndsCut (ReportsLines applies b c) ms v → EndsCut (ReportsLines applies a c) (ls ++ ms) (w ++ v)
  cut-append a b c ls ms xs w v s t =
      (xs ++ t.0, t.1, t.2, written-append xs t.0 w v _ s.0 t.3, t.4, all_go_on-append xs t.0 s.1 t.5, first-append a b c ls ms xs t.0 t.1 s.2 t.6)

  -- what came of one line
  pub one_came : (a b : B) (line : List ℕ) (report : Report) → ReportsLine applies line a report b → ReportsLines applies a b (line ∷ []) (report ∷ [])
  one_came a b line report h = (b, h, refl)
