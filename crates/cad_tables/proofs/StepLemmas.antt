-- Steps after one another.
use Rattle.std.proofs.Common.{ℕ, Result, Ok, Err, OnOk, refl, ◌∙◌}
use Rattle.sqlite.specs.State.{State}
use Rattle.cad_tables.specs.VersionRow.{VersionRow}
use Rattle.cad_tables.specs.declared.changes.Closing.{Closing}
use Rattle.cad_tables.specs.declared.changes.Change.{Change}
use Rattle.cad_tables.specs.declared.changes.Change.TheVariants.{Enter, Amend, Retire}
use Rattle.cad_tables.specs.Steps.{IsInside, Adds, Closes, Counts, Changes, Commands}

pub on_ok_then : {A E : Type 0} {P Q : Type 0} (r : Result A E) → OnOk r P → (P → Q) → OnOk r Q
on_ok_then (Ok x) h f = f h
on_ok_then (Err e) h f = tt

pub inside_then : (a b c : State) → IsInside a b → IsInside b c → IsInside a c
inside_then a b c p q = record { was_open = p.was_open; is_open = q.is_open; now_is = refl; committed_is = q.committed_is ∙ p.committed_is; mode = q.mode }

module _ {L : Type 0} (line_of : L → VersionRow) (r : ℕ) (a : State) where
  pub entered : (line : L) (b : State) → Adds (line_of line) a b → Changes line_of (Enter line) r a b
  entered line b h = record { holds = λ n lines fits has. h.holds n lines has; inside = h.inside }

  pub amended : (c : Closing) (line : L) (b d : State) → Closes c r a b → Adds (line_of line) b d → Changes line_of (Amend c line) r a d
  amended c line b d p q = record { holds = λ n lines fits has. q.holds n _ (p.holds n lines fits has); inside = inside_then a b d p.inside q.inside }

  pub retired : (c : Closing) (b : State) → Closes c r a b → Changes line_of (Retire c) r a b
  retired c b h = record { holds = λ n lines fits has. h.holds n lines fits has; inside = h.inside }

  pub commanded : (change : Change L) (b d : State) → Changes line_of change r a b → Counts r b d → Commands line_of change r a d
  commanded change b d p q = record { written = λ n lines fits has. q.holds n _ (p.holds n lines fits has); inside = inside_then a b d p.inside q.inside }
