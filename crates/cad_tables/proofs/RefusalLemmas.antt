-- A refusal within a longer call.
use Rattle.std.proofs.Common.{◌≡◌, ◌≤◌, inl, inr, List, [], ◌∷◌, ◌++◌, Result, Ok, Err, IfErr, IsErrAnd, sym, subst, arith}
use Rattle.sqlite_trees.specs.declared.store.Store.{Ghosts}
use Rattle.sqlite.specs.declared.error.Error.{Error}
use Rattle.sqlite.specs.State.{ExecutesInside}
use Rattle.sqlite.specs.Held.{Held, state}
use Rattle.cad_tables.specs.Refusals.{Statement, RanAll, IsRefused, OneIsRefused}

pub if_err_then : {A E : Type 0} {P Q : E → Type 0} (r : Result A E) → IfErr r P → ((e : E) → P e → Q e) → IfErr r Q
if_err_then (Ok x) h f = tt
if_err_then (Err e) h f = f e h

-- what `?` hands on
pub told : {A E : Type 0} (Q : E → Type 0) (r : Result A E) (e : E) → IsErrAnd r (λ x. x ≡ e) → Q e → IfErr r Q
told Q (Ok x) e is q = tt
told Q (Err x) e is q = subst Q (sym is) q

module _ {S : Type 0} (g : Ghosts S) where
  pub refused_here : (s : Statement) (old new : Held S) (e : Error) → ExecutesInside 0 s.text s.params (state g old) (state g new) (Err e) → IsRefused g s e old new
  refused_here s old new e h = record { after = new; refuses = h; ended = omega arith }

  pub later : (ss : List Statement) (a b d : Held S) (e : Error) → (state g b).faults ≤ (state g d).faults → OneIsRefused g ss e a b → OneIsRefused g ss e a d
  later [] a b d e up h = h
  later (s ∷ ss) a b d e up (inl h) = inl (record { after = h.after; refuses = h.refuses; ended = omega (arith, h.ended) })
  later (s ∷ ss) a b d e up (inr (mid, ran, h)) = inr (mid, ran, later ss mid b d e up h)

  pub among_first : (ss more : List Statement) (a b : Held S) (e : Error) → OneIsRefused g ss e a b → OneIsRefused g (ss ++ more) e a b
  among_first [] more a b e h = absurd h
  among_first (s ∷ ss) more a b e (inl h) = inl h
  among_first (s ∷ ss) more a b e (inr (mid, ran, h)) = inr (mid, ran, among_first ss more mid b e h)

  pub among_last : (ss more : List Statement) (a m b : Held S) (e : Error) → RanAll g ss a m → OneIsRefused g more e m b → OneIsRefused g (ss ++ more) e a b
  among_last [] more a m b e ran h = subst (λ x. OneIsRefused g more e x b) (sym ran) h
  among_last (s ∷ ss) more a m b e (mid, ran, rest) h = inr (mid, ran, among_last ss more mid m b e rest h)

  pub ran_then : (ss more : List Statement) (a m b : Held S) → RanAll g ss a m → RanAll g more m b → RanAll g (ss ++ more) a b
  ran_then [] more a m b ran h = subst (λ x. RanAll g more x b) (sym ran) h
  ran_then (s ∷ ss) more a m b (mid, ran, rest) h = (mid, ran, ran_then ss more mid m b rest h)
