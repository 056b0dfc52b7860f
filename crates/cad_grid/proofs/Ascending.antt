-- Entries that are sorted ascend by row, and in a row by column.
use Rattle.std.proofs.Common.{◌≡◌, ℕ, zero, suc, ◌+◌, ◌-◌, ◌<◌, ◌≤◌, false, List, length, get_or, sym, refl, arith}
use Rattle.std.specs.Ordering.{is_lt, nat_cmp, ordering_then}
use Rattle.std.proofs.lemmas.Bool.{false≢true}
use Rattle.std.proofs.lemmas.Cmp.{by_ranked, ranked}
use Rattle.cad_grid.specs.declared.entry.Entry.{Entry}
use Rattle.cad_grid.specs.Entries.{UpTo, Ascends, entry_at}

-- the second entry is not less than the first
abbrev NotLess : Entry → Entry → Type 0
NotLess e f = is_lt (ordering_then (nat_cmp f.row e.row) (ordering_then (nat_cmp f.column e.column) (nat_cmp f.position e.position))) ≡ false

one_up : (e f : Entry) → NotLess e f → UpTo e f
one_up e f h = by_ranked (f.row < e.row) (f.row ≡ e.row) (e.row < f.row) (nat_cmp f.row e.row) (ranked f.row e.row (nat_cmp f.row e.row) refl)
    (λ k l. absurd (false≢true (sym (rw k at h))))
    (λ k l. by_ranked (f.column < e.column) (f.column ≡ e.column) (e.column < f.column) (nat_cmp f.column e.column) (ranked f.column e.column (nat_cmp f.column e.column) refl)
    (λ m n. absurd (false≢true (sym (rw (k, m) at h))))
    (λ m n. record { rows = omega arith; columns = λ _. omega arith })
    (λ m n. record { rows = omega arith; columns = λ _. omega arith }))
    (λ k l. record { rows = omega arith; columns = λ same. absurd (omega arith) })

further : (e f g : Entry) → UpTo e f → UpTo f g → UpTo e g
further e f g u w =
    let a = u.rows in
    let b = w.rows in
    record { rows = omega arith; columns = λ same. let c = u.columns (omega arith) in let d = w.columns (omega arith) in omega arith }

far : (es : List Entry) → ((k : ℕ) → k + 1 < length es → UpTo (entry_at es k) (entry_at es (k + 1))) → (n i : ℕ) → i + n < length es → UpTo (entry_at es i) (entry_at es (i + n))
far es step zero i h = let e : i + 0 ≡ i = omega arith in rw e (record { rows = omega arith; columns = λ _. omega arith })
far es step (suc n) i h =
    let e : i + suc n ≡ (i + n) + 1 = omega arith in
    rw e (further (entry_at es i) (entry_at es (i + n)) (entry_at es ((i + n) + 1)) (far es step n i (omega arith)) (step (i + n) (omega arith)))

pub ascends_sorted : (es : List Entry) → ((k : ℕ) → (d : Entry) → 0 ≤ k → k + 1 < length es → NotLess (get_or es k d) (get_or es (k + 1) d)) → Ascends es
ascends_sorted es h = record {
  ascends = λ i j l m. let e : i + (j - i) ≡ j = omega arith in rw e at (far es (λ k n. one_up _ _ (h k (record { row = 0; column = 0; position = 0 }) (omega arith) n)) (j - i) i (omega arith));
}
