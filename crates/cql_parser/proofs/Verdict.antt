-- What the run over all tokens says of them.
use Rattle.std.proofs.Common.{◌≡◌, ℕ, ◌⊎◌, inl, inr, List, [], ◌∷◌, ◌++◌, refl, sym, ap, subst, ◌∙◌, append_assoc, append-nil}
use Rattle.std.specs.Prelude.{Option, Some, None, Result, Ok, Err, IsOk}
use Rattle.cql_lexer.specs.Mark.{Sort, Mark, at}
use Rattle.cql_tree.specs.Syntax.{Syntax}
use Rattle.cql_parser.specs.Grammar.{Reads, IsViable, IsOr}
use Rattle.cql_parser.specs.Faults.{deep_at, IsUnexpected, IsUnfinished, HasFault}
use Rattle.cql_parser.specs.Answer.{IsReading, IsParsed, Answers, OrMemory, fault_of}
use Rattle.cql_parser.specs.Laws.{HasTreeOrFault, HasFaultOrTree, HasOneFault}
use Rattle.cql_tree.specs.Views.{syntax_of}
use Rattle.cql_tree.specs.declared.tree.Tree.{Tree}
use Rattle.cql_parser.specs.declared.fault.ParseFault.{ParseFault}
use Rattle.cql_parser.specs.declared.fault.ParseFault.TheVariants.{At, Memory}
use Rattle.cql_parser.specs.declared.fault.GrammarFault.{GrammarFault}
use Rattle.cql_parser.specs.declared.fault.GrammarFault.TheVariants.{TooDeep, NotExpected, EndOfFilter}
use Rattle.cql_parser.specs.Machine.{whole, want_or, run, Outcome, spells, stops}
use Rattle.cql_parser.proofs.Residual.{Completes, want_or_to, want_or_from}
use Rattle.cql_parser.proofs.Runs.{Says, Spells, Stops, run_says}

reads_to : (xs : List Mark) (tree : Syntax) → Reads xs tree → Completes (want_or whole) xs tree
reads_to xs tree r = want_or_to whole tree r (refl, refl)

reads_from : (xs : List Mark) (tree : Syntax) → Completes (want_or whole) xs tree → Reads xs tree
reads_from xs tree h =
    let w = want_or_from whole xs tree h in
    let e : w.1 ≡ [] = w.3.0 in
    let f : tree ≡ w.0 = w.3.1 in
    subst (λ (t : Syntax). IsOr xs t []) (sym f) (subst (λ (ys : List Mark). IsOr xs w.0 ys) e w.2)

says : (xs : List Mark) (o : Outcome) → run (want_or whole) xs ≡ o → Says (want_or whole) xs o
says xs o e = subst (Says (want_or whole) xs) e (run_says (want_or whole) xs)

pub is_reading : (xs : List Mark) (t : Syntax) → run (want_or whole) xs ≡ spells t → IsReading xs t
is_reading xs t e =
    let h : Spells (want_or whole) xs t = says xs (spells t) e in
    record { reads = reads_from xs t h.reads; only = λ other r. h.only other (reads_to xs other r) }

viable_from : (xs : List Mark) → (more : List Mark) × (tree : Syntax) × Completes (want_or whole) (xs ++ more) tree →
    IsViable xs
viable_from xs v = (v.0, v.1, reads_from (xs ++ v.0) v.1 v.2)

is_unfinished : (xs : List Mark) → run (want_or whole) xs ≡ stops [] → IsUnfinished xs
is_unfinished xs e =
    let h : Stops (want_or whole) xs [] = says xs (stops []) e in
    let a : xs ≡ h.before = h.is_all ∙ append-nil h.before in
    record {
      viable = subst IsViable (sym a) (viable_from h.before h.viable);
      unread = λ tree r.
          h.dead tree (subst (λ (ys : List Mark). Completes (want_or whole) ys tree) a (reads_to xs tree r));
    }

is_unexpected : (xs : List Mark) (p : ℕ) (s : Sort) (rest : List Mark) →
    run (want_or whole) xs ≡ stops (at p s ∷ rest) → IsUnexpected xs p
is_unexpected xs p s rest e =
    let h : Stops (want_or whole) xs (at p s ∷ rest) = says xs (stops (at p s ∷ rest)) e in
    record {
      before = h.before;
      sort = s;
      after = rest;
      is_all = h.is_all;
      viable = viable_from h.before h.viable;
      dead = λ v.
          h.dead v.0 v.1
          (subst (λ (ys : List Mark). Completes (want_or whole) ys v.1) (append_assoc h.before (at p s ∷ []) v.0)
          (reads_to ((h.before ++ at p s ∷ []) ++ v.0) v.1 v.2));
    }

-- the fault that a stop is
stop_fault : (xs rest : List Mark) (end : ℕ) → deep_at 0 xs ≡ None → run (want_or whole) xs ≡ stops rest →
    HasFault xs end (fault_of rest end)
stop_fault xs [] end d e = (d, refl, is_unfinished xs e)
stop_fault xs (at p s ∷ rest) end d e = (d, is_unexpected xs p s rest e)

pub answers_at : (xs ys rest : List Mark) (end : ℕ) (f : GrammarFault) → ys ≡ xs → f ≡ fault_of rest end →
    deep_at 0 ys ≡ None → run (want_or whole) ys ≡ stops rest → HasFault xs end f
answers_at xs ys rest end f same is d e =
    subst (λ (g : GrammarFault). HasFault xs end g) (sym is)
    (subst (λ (zs : List Mark). HasFault zs end (fault_of rest end)) same (stop_fault ys rest end d e))

unexpected_unread : (xs : List Mark) (p : ℕ) (tree : Syntax) → IsUnexpected xs p → Reads xs tree → ⊥
unexpected_unread xs p tree u h =
    u.dead (
      u.after,
      tree,
      subst (λ (ys : List Mark). Reads ys tree) (u.is_all ∙ sym (append_assoc u.before (at p u.sort ∷ []) u.after)) h,
    )

-- ---- faults

-- tokens with a fault are no filter
pub fault_or_tree : HasFaultOrTree
fault_or_tree xs end (TooDeep p) tree f h = let e = h.shallow in cc
fault_or_tree xs end (NotExpected p) tree f h = unexpected_unread xs p tree f.1 h.reads
fault_or_tree xs end (EndOfFilter p) tree f h = f.2.unread tree h.reads

-- what can be added to some tokens can be added to those before them
viable_front : (xs ys : List Mark) → IsViable (xs ++ ys) → IsViable xs
viable_front xs ys v = (ys ++ v.0, v.1, subst (λ (zs : List Mark). Reads zs v.1) (append_assoc xs ys v.0) v.2)

-- of two fronts of the same tokens one begins the other
pub data Meets (xs ys : List Mark) : Type 0 where
  same : xs ≡ ys → Meets xs ys
  sooner : (y : Mark) (more : List Mark) → ys ≡ xs ++ y ∷ more → Meets xs ys
  later : (x : Mark) (more : List Mark) → xs ≡ ys ++ x ∷ more → Meets xs ys

meets_more : {xs ys : List Mark} (z : Mark) → Meets xs ys → Meets (z ∷ xs) (z ∷ ys)
meets_more z (same e) = same (ap (λ zs. z ∷ zs) e)
meets_more z (sooner y more e) = sooner y more (ap (λ zs. z ∷ zs) e)
meets_more z (later x more e) = later x more (ap (λ zs. z ∷ zs) e)

heads_same : {x y : Mark} {xs ys : List Mark} → x ∷ xs ≡ y ∷ ys → x ≡ y
heads_same e = cc

tails_same : {x y : Mark} {xs ys : List Mark} → x ∷ xs ≡ y ∷ ys → xs ≡ ys
tails_same e = cc

meets_on : {x y : Mark} {xs ys : List Mark} → x ≡ y → Meets xs ys → Meets (x ∷ xs) (y ∷ ys)
meets_on {x} {xs = xs} {ys = ys} e m = subst (λ (z : Mark). Meets (x ∷ xs) (z ∷ ys)) e (meets_more x m)

fronts_meet : (xs ys those others : List Mark) → xs ++ those ≡ ys ++ others → Meets xs ys
fronts_meet [] [] those others e = same refl
fronts_meet [] (y ∷ ys) those others e = sooner y ys refl
fronts_meet (x ∷ xs) [] those others e = later x xs refl
fronts_meet (x ∷ xs) (y ∷ ys) those others e = meets_on (heads_same e) (fronts_meet xs ys those others (tails_same e))

-- the token behind a front, where the whole goes on
next_same : (xs : List Mark) (x y : Mark) (those others : List Mark) → xs ++ x ∷ those ≡ xs ++ y ∷ others → x ≡ y
next_same [] x y those others e = heads_same e
next_same (z ∷ xs) x y those others e = next_same xs x y those others (tails_same e)

-- a front that is viable with its next token is no front before a fault
viable_next : (before : List Mark) (x y : Mark) (after more rest : List Mark) →
    before ++ x ∷ after ≡ (before ++ y ∷ more) ++ rest → IsViable (before ++ y ∷ more) → IsViable (before ++ x ∷ [])
viable_next before x y after more rest e v =
    let n : x ≡ y = next_same before x y after (more ++ rest) (e ∙ append_assoc before (y ∷ more) rest) in
    subst (λ (z : Mark). IsViable (before ++ z ∷ [])) (sym n)
    (viable_front (before ++ y ∷ []) more (subst IsViable (sym (append_assoc before (y ∷ []) more)) v))

-- the place of the token that two lists agree on
place_same : {p q : ℕ} {s t : Sort} → at p s ≡ at q t → p ≡ q
place_same e = cc

unexpected_meet : {xs : List Mark} {p q : ℕ} (u : IsUnexpected xs p) (v : IsUnexpected xs q) → Meets u.before v.before → p ≡ q
unexpected_meet {xs} {p} {q} u v (same e) =
    place_same (next_same u.before (at p u.sort) (at q v.sort) u.after v.after
    (sym u.is_all ∙ (v.is_all ∙ ap (λ zs. zs ++ at q v.sort ∷ v.after) (sym e))))
unexpected_meet {xs} {p} {q} u v (sooner y more e) =
    absurd (u.dead (viable_next u.before (at p u.sort) y u.after more (at q v.sort ∷ v.after)
    (sym u.is_all ∙ (v.is_all ∙ ap (λ zs. zs ++ at q v.sort ∷ v.after) e)) (subst IsViable e v.viable)))
unexpected_meet {xs} {p} {q} u v (later x more e) =
    absurd (v.dead (viable_next v.before (at q v.sort) x v.after more (at p u.sort ∷ u.after)
    (sym v.is_all ∙ (u.is_all ∙ ap (λ zs. zs ++ at p u.sort ∷ u.after) e)) (subst IsViable e u.viable)))

one_unexpected : {xs : List Mark} {p q : ℕ} → IsUnexpected xs p → IsUnexpected xs q → p ≡ q
one_unexpected {xs} {p} {q} u v =
    unexpected_meet u v
    (fronts_meet u.before v.before (at p u.sort ∷ u.after) (at q v.sort ∷ v.after) (sym u.is_all ∙ v.is_all))

unexpected_finished : {xs : List Mark} {p : ℕ} → IsUnexpected xs p → IsViable xs → ⊥
unexpected_finished {xs} {p} u v =
    u.dead (viable_front (u.before ++ at p u.sort ∷ []) u.after
    (subst IsViable (u.is_all ∙ sym (append_assoc u.before (at p u.sort ∷ []) u.after)) v))

-- tokens have at most one fault
pub one_fault : HasOneFault
one_fault xs end (TooDeep p) (TooDeep q) this that = cc
one_fault xs end (TooDeep p) (NotExpected q) this that = let e = that.0 in absurd cc
one_fault xs end (TooDeep p) (EndOfFilter q) this that = let e = that.0 in absurd cc
one_fault xs end (NotExpected p) (TooDeep q) this that = let e = this.0 in absurd cc
one_fault xs end (NotExpected p) (NotExpected q) this that = ap NotExpected (one_unexpected this.1 that.1)
one_fault xs end (NotExpected p) (EndOfFilter q) this that = absurd (unexpected_finished this.1 that.2.viable)
one_fault xs end (EndOfFilter p) (TooDeep q) this that = let e = this.0 in absurd cc
one_fault xs end (EndOfFilter p) (NotExpected q) this that = absurd (unexpected_finished that.1 this.2.viable)
one_fault xs end (EndOfFilter p) (EndOfFilter q) this that = ap EndOfFilter (this.1 ∙ sym that.1)

-- tokens are a filter or have a fault
abbrev pub IsSettled : List Mark → ℕ → Type 0
IsSettled tokens end = ((tree : Syntax) × IsParsed tokens tree) ⊎ ((fault : GrammarFault) × HasFault tokens end fault)

settled_run : (xs : List Mark) (end : ℕ) (o : Outcome) → deep_at 0 xs ≡ None → run (want_or whole) xs ≡ o → IsSettled xs end
settled_run xs end (spells t) d e = inl (t, record { shallow = d; reads = (is_reading xs t e).reads })
settled_run xs end (stops rest) d e = inr (fault_of rest end, stop_fault xs rest end d e)

settled_depth : (xs : List Mark) (end : ℕ) (o : Option ℕ) → deep_at 0 xs ≡ o → IsSettled xs end
settled_depth xs end (Some p) d = inr (TooDeep p, d)
settled_depth xs end None d = settled_run xs end (run (want_or whole) xs) d refl

pub tree_or_fault : HasTreeOrFault
tree_or_fault xs end = settled_depth xs end (deep_at 0 xs) refl

-- ---- what the answers say

pub accepted : (xs : List Mark) (end : ℕ) (r : Result Tree ParseFault) → Answers xs end r →
    (tree : Syntax) → IsParsed xs tree → OrMemory r (IsOk r)
accepted xs end (Ok t) a tree h = inr refl
accepted xs end (Err Memory) a tree h = inl refl
accepted xs end (Err (At f)) a tree h = absurd (fault_or_tree xs end f tree a h)

pub refused : (xs : List Mark) (end : ℕ) (r : Result Tree ParseFault) → Answers xs end r →
    (fault : GrammarFault) → HasFault xs end fault → OrMemory r (r ≡ Err (At fault))
refused xs end (Ok t) a f h = absurd (fault_or_tree xs end f (syntax_of t.root) h (record { shallow = a.0; reads = a.1.reads }))
refused xs end (Err Memory) a f h = inl refl
refused xs end (Err (At g)) a f h = inr (ap (λ k. Err (At k)) (one_fault xs end g f a h))

one_completes : (xs : List Mark) (o : Outcome) (a b : Syntax) → Says (want_or whole) xs o →
    Completes (want_or whole) xs a → Completes (want_or whole) xs b → a ≡ b
one_completes xs (spells t) a b h ca cb = h.only a ca ∙ sym (h.only b cb)
one_completes xs (stops []) a b h ca cb =
    let e : xs ≡ h.before = h.is_all ∙ append-nil h.before in
    absurd (h.dead a (subst (λ (ys : List Mark). Completes (want_or whole) ys a) e ca))
one_completes xs (stops (x ∷ rest)) a b h ca cb =
    absurd (h.dead rest a (subst (λ (ys : List Mark). Completes (want_or whole) ys a) h.is_all ca))

-- tokens have one tree
pub one_tree : (xs : List Mark) (a b : Syntax) → Reads xs a → Reads xs b → a ≡ b
one_tree xs a b ra rb =
    one_completes xs (run (want_or whole) xs) a b (run_says (want_or whole) xs)
    (reads_to xs a ra) (reads_to xs b rb)
