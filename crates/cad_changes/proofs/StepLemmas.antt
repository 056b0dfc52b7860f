-- Rows after a command that gave them the features that it touches.
use Rattle.std.proofs.Common.{◌≡◌, ℕ, ◌+◌, ◌<◌, ◌≤◌, Bool, true, false, nat_le, List, [], ◌∷◌, ◌++◌, length, map, refl, sym, ap, ap₂, ◌∙◌, arith}
use Rattle.std.proofs.lemmas.Bool.Decides.{nat_tests}
use Rattle.std.proofs.lemmas.List.{length-append}
use Rattle.cad_versions.specs.declared.command.Command.{Command}
use Rattle.cad_versions.specs.AsOf.{as_of}
use Rattle.cad_versions.specs.Laws.{RevisionsStay}
use Rattle.cad_versions.specs.Refusals.{AreAccepted}
use Rattle.cad_feature.specs.Features.{Item}
use Rattle.cad_feature.specs.Flatten.{features_in}
use Rattle.cad_layer.specs.Walks.{all_in}
use Rattle.cad_history.specs.Registers.{AreRowsOf}
use Rattle.cad_history.specs.Rows.{Rows, AreNext, bare, shown_at}
use Rattle.cad_history.specs.Accepted.{AcceptedAreFew}
use Rattle.cad_changes.specs.Changes.{touched}
use Rattle.cad_changes.proofs.RevisionLemmas.{features_of_next}

is_later : (m n : ℕ) → nat_le m n ≡ true → m ≤ n
is_later m n e = grind (arith, nat_tests)

is_before : (m n : ℕ) → nat_le m n ≡ false → n < m
is_before m n e = grind (arith, nat_tests)

-- from the last revision on, the rows show these features
abbrev pub Shows : Rows → List Item → Type 0
Shows rows features = (r : ℕ) → rows.last ≤ r → r < 4294967295 → shown_at r rows ≡ map bare features

module _ (few : AcceptedAreFew) (commands : List Command) (c : Command) (accepted : AreAccepted [] (commands ++ c ∷ [])) where
  -- there are fewer accepted commands than numbers of revisions
  below_most : length commands + 1 < 4294967295
  below_most = omega (arith, few (commands ++ c ∷ []) accepted, length-append commands (c ∷ []))

  -- the newest rows are the features before the command
  pub newest_are : (rows : Rows) (newest : List Item) → Shows rows newest → AreRowsOf commands rows → map bare newest ≡ features_in (as_of (length commands) commands) rows.collection
  newest_are rows newest shows are = sym (shows (length commands) are.last (omega (arith, below_most))) ∙ are.each (length commands) (omega arith)

  module _ (stay : RevisionsStay) (old new : Rows) (newest features : List Item) (shows : Shows old newest) (same : newest ≡ old.newest) (are : AreRowsOf commands old) (revision : ℕ) (number : revision ≡ length commands + 1)
      (are_touched : map bare features ≡ touched (as_of (length commands) commands) c old.collection) (step : AreNext revision features old new) where
    abbrev all : List Command
    all = commands ++ c ∷ []

    many : length all ≡ revision
    many = length-append commands (c ∷ []) ∙ sym number

    at_old : (r : ℕ) → r ≤ length commands → shown_at r old ≡ features_in (as_of r all) old.collection
    at_old r within = are.each r within ∙ ap (λ vs. features_in vs old.collection) (sym (stay commands (c ∷ []) r within))

    at_new : (r : ℕ) → r ≡ revision → shown_at r new ≡ features_in (as_of r all) old.collection
    at_new r is =
        step.after r (omega (arith, is)) (omega (arith, below_most, number, is))
        ∙ ap₂ all_in (ap (map bare) (sym same) ∙ newest_are old newest shows are) are_touched
        ∙ sym (features_of_next commands c accepted old.collection)
        ∙ ap (λ n. features_in (as_of n all) old.collection) (sym number ∙ sym is)

    at_each : (r : ℕ) → r ≤ length all → shown_at r new ≡ features_in (as_of r all) old.collection
    at_each r within = go (nat_le revision r) refl
      where
        go : (b : Bool) → nat_le revision r ≡ b → shown_at r new ≡ features_in (as_of r all) old.collection
        go true e = at_new r (omega (arith, is_later revision r e, within, many))
        go false e = let sooner = is_before revision r e in step.before r sooner ∙ at_old r (omega (arith, sooner, number))

    -- with them they are the rows of the commands and this one
    pub rows_after : AreRowsOf all new
    rows_after = record {
      last = omega (arith, step.last, many);
      each = λ r within. at_each r within ∙ ap (features_in (as_of r all)) (sym step.collection);
    }
