-- What entries tell does not depend on their order.
use Rattle.std.proofs.Common.{◌≡◌, ℕ, zero, suc, ◌+◌, ◌-◌, ◌≤◌, pos, int_le, nat_le, Bool, true, false, cond, List, [], ◌∷◌, ◌++◌, length, map, drop, Option, Some, None, ◌⊎◌, inl, inr, refl, sym, ap, ap₂, ◌∙◌, subst, arith, is_gt, Ordering}
use Rattle.std.specs.List.{AllByRecursion}
use Rattle.std.proofs.lemmas.Bool.Decides.{nat_tests}
use Rattle.std.proofs.lemmas.Int.{ints}
use Rattle.cad_day.specs.declared.day.Day.{Day}
use Rattle.cad_day.specs.DayBefore.{day_before}
use Rattle.cad_versions.specs.declared.object_id.ObjectId.{ObjectId}
use Rattle.cad_versions.specs.declared.command.Command.{Command}
use Rattle.cad_versions.specs.declared.command.Command.TheVariants.{Enter, Amend, Retire}
use Rattle.cad_versions.specs.VersionedObject.{VersionedObject}
use Rattle.cad_versions.specs.Versions.{is_open_of, closed_on, begun, next_number}
use Rattle.cad_versions.specs.Refusals.{AreAccepted}
use Rattle.cad_versions.specs.Sorting.{insert_sorted, sort_by}
use Rattle.cad_versions.specs.lemmas.SortLemmas.{all_sorted}
use Rattle.cad_versions.specs.lemmas.ListLemmas.{all_weaker, all_mapped, all_push}
use Rattle.cad_versions.specs.AsOf.{entry_order, entries_listed}
use Rattle.cad_versions.specs.Entries.{Entry, version_in, entered_at, close_entry, entries_after, entries_from, entries_of, entries_at}
use Rattle.cad_register.specs.Journal.{beginning, ending, begun_at, ended_at, or_next, first_given, command_at, commands_behind}
use Rattle.cad_register.proofs.JournalLemmas.{IsMade, all_made, made_after, made_later, begun_same, ended_same, new_gives_none, same_as, not_ended, early_revision, same_revision, entries_give}

-- ---- where no two tell different things

-- nothing, or this
abbrev pub MayGive : Option Command → Option Command → Type 0
MayGive c o = (o ≡ None) ⊎ (o ≡ c)

give_same : (c : Option Command) (x y : Command) → MayGive c (Some x) → MayGive c (Some y) → Some y ≡ Some x
give_same c x y (inl p) q = absurd cc
give_same c x y (inr p) (inl q) = absurd cc
give_same c x y (inr p) (inr q) = q ∙ sym p

or_swap : (c : Option Command) (a b f : Option Command) → MayGive c a → MayGive c b → or_next b (or_next a f) ≡ or_next a (or_next b f)
or_swap c None b f p q = refl
or_swap c (Some x) None f p q = refl
or_swap c (Some x) (Some y) f p q = give_same c x y p q

module _ (cmp : Entry → Entry → Ordering) (tell : Entry → Option Command) (c : Option Command) where
  abbrev Agree : List Entry → Type 0
  Agree es = AllByRecursion (λ e. MayGive c (tell e)) es

  first_inserted : (x : Entry) (ys : List Entry) → MayGive c (tell x) → Agree ys → first_given tell (insert_sorted cmp x ys) ≡ or_next (tell x) (first_given tell ys)
  first_inserted x [] here all = refl
  first_inserted x (y ∷ ys) here all =
      elim (is_gt (cmp x y)) as (λ t. first_given tell (cond t (y ∷ insert_sorted cmp x ys) (x ∷ y ∷ ys)) ≡ or_next (tell x) (or_next (tell y) (first_given tell ys)))
      [ true ↦ ap (or_next (tell y)) (first_inserted x ys here all.1) ∙ or_swap c (tell x) (tell y) (first_given tell ys) here all.0 | false ↦ refl ]

  first_sorted : (es : List Entry) → Agree es → first_given tell (sort_by cmp es) ≡ first_given tell es
  first_sorted [] all = refl
  first_sorted (e ∷ es) all = first_inserted e (sort_by cmp es) all.0 (all_sorted cmp (λ x. MayGive c (tell x)) es all.1) ∙ ap (or_next (tell e)) (first_sorted es all.1)

-- ---- the entries that commands make

-- all that tell anything of what began at the revision tell the same, and so of what ended
pub record AgreeAt (r : ℕ) (es : List Entry) : Type 0 where
  pub begins : Option Command
  pub begun : AllByRecursion (λ e. MayGive begins (begun_at r e)) es
  pub ends : Option Command
  pub ended : AllByRecursion (λ e. MayGive ends (ended_at r e)) es

pub order_is_no_matter : (cmp : Entry → Entry → Ordering) (r : ℕ) (es : List Entry) → AgreeAt r es → command_at r (sort_by cmp es) ≡ command_at r es
order_is_no_matter cmp r es agree = ap₂ or_next (first_sorted cmp (begun_at r) agree.begins es agree.begun) (first_sorted cmp (ended_at r) agree.ends es agree.ended)

may_give_same : (c : Option Command) (a b : Option Command) → a ≡ b → MayGive c b → MayGive c a
may_give_same c a b same = subst (MayGive c) (sym same)

closed_agree : (r n : ℕ) (object : ObjectId) (day : Day) → r ≤ n → (es : List Entry) → AgreeAt r es → AgreeAt r (map (close_entry object day (n + 1)) es)
closed_agree r n object day h es agree = record {
  begins = agree.begins;
  begun = all_mapped (λ e. MayGive agree.begins (begun_at r e)) (close_entry object day (n + 1)) es
      (all_weaker (λ e. MayGive agree.begins (begun_at r e)) (λ e. MayGive agree.begins (begun_at r (close_entry object day (n + 1) e))) (λ e is. may_give_same agree.begins _ _ (begun_same r object day (n + 1) e) is) es agree.begun);
  ends = agree.ends;
  ended = all_mapped (λ e. MayGive agree.ends (ended_at r e)) (close_entry object day (n + 1)) es
      (all_weaker (λ e. MayGive agree.ends (ended_at r e)) (λ e. MayGive agree.ends (ended_at r (close_entry object day (n + 1) e))) (λ e is. may_give_same agree.ends _ _ (ended_same r object day n h e) is) es agree.ended);
}

pushed_agree : (r n : ℕ) (v : VersionedObject) → r ≤ n → (es : List Entry) → AgreeAt r es → AgreeAt r (es ++ entered_at (n + 1) v ∷ [])
pushed_agree r n v h es agree = record {
  begins = agree.begins;
  begun = all_push (λ e. MayGive agree.begins (begun_at r e)) es (entered_at (n + 1) v) agree.begun (inl (new_gives_none r n v h));
  ends = agree.ends;
  ended = all_push (λ e. MayGive agree.ends (ended_at r e)) es (entered_at (n + 1) v) agree.ended (inl refl);
}

agree_stays : (r n : ℕ) → r ≤ n → (es : List Entry) (c : Command) → AgreeAt r es → AgreeAt r (entries_after (n + 1) es c)
agree_stays r n h es (Enter object first body) agree = pushed_agree r n _ h es agree
agree_stays r n h es (Amend object first body) agree = pushed_agree r n _ h _ (closed_agree r n object (day_before first) h es agree)
agree_stays r n h es (Retire object last) agree = closed_agree r n object last h es agree

agree_always : (r n : ℕ) → r ≤ n → (es : List Entry) (cs : List Command) → AgreeAt r es → AgreeAt r (entries_from n es cs)
agree_always r n h es [] agree = agree
agree_always r n h es (c ∷ cs) agree = agree_always r (n + 1) (omega arith) (entries_after (n + 1) es c) cs (agree_stays r n h es c agree)

-- ---- at a revision that is to come, and at the newest

abbrev MayBegin : ℕ → Option Command → Entry → Type 0
MayBegin n c e = MayGive c (begun_at (n + 1) e)

abbrev MayEnd : ℕ → Option Command → Entry → Type 0
MayEnd n c e = MayGive c (ended_at (n + 1) e)

none_begins : (n : ℕ) (c : Option Command) (e : Entry) → IsMade n e → MayBegin n c e
none_begins n c e is = inl (ap (λ t. cond t (Some (beginning e.version)) None) (early_revision e.entered n is.entered))

none_ends : (n : ℕ) (c : Option Command) (e : Entry) → IsMade n e → MayEnd n c e
none_ends n c e is = inl (ap (λ t. cond t (ending e.version) None) (not_ended n e.closed is.closed))

closed_ends : (n : ℕ) (object : ObjectId) (day : Day) (e : Entry) → IsMade n e → MayEnd n (Some (Retire object day)) (close_entry object day (n + 1) e)
closed_ends n object day e is = go (is_open_of object e.version) refl
  where
    go : (t : Bool) → is_open_of object e.version ≡ t → MayEnd n (Some (Retire object day)) (cond t (record { version = closed_on day e.version; entered = e.entered; closed = Some (n + 1) }) e)
    go true opened = inr (ap (λ t. cond t (Some (Retire e.version.object day)) None) (same_revision (n + 1)) ∙ ap (λ o. Some (Retire o day)) (same_as object e.version opened))
    go false shut = none_ends n (Some (Retire object day)) e is

closed_begins : (n : ℕ) (c : Option Command) (object : ObjectId) (day : Day) (e : Entry) → IsMade n e → MayBegin n c (close_entry object day (n + 1) e)
closed_begins n c object day e is = may_give_same c _ _ (begun_same (n + 1) object day (n + 1) e) (none_begins n c e is)

new_begins : (n : ℕ) (v : VersionedObject) → MayBegin n (Some (beginning v)) (entered_at (n + 1) v)
new_begins n v = inr (ap (λ t. cond t (Some (beginning v)) None) (same_revision (n + 1)))

agree_now : (n : ℕ) (es : List Entry) (c : Command) → AllByRecursion (IsMade n) es → AgreeAt (n + 1) (entries_after (n + 1) es c)
agree_now n es (Enter object first body) all =
    let v = begun object 1 first body in
    let c = Some (beginning v) in
    record {
      begins = c;
      begun = all_push (MayBegin n c) es (entered_at (n + 1) v) (all_weaker (IsMade n) (MayBegin n c) (none_begins n c) es all) (new_begins n v);
      ends = c;
      ended = all_push (MayEnd n c) es (entered_at (n + 1) v) (all_weaker (IsMade n) (MayEnd n c) (none_ends n c) es all) (inl refl);
    }
agree_now n es (Amend object first body) all =
    let v = begun object (next_number object (map version_in es)) first body in
    let c = Some (beginning v) in
    let day = day_before first in
    let d = Some (Retire object day) in
    let close = close_entry object day (n + 1) in
    record {
      begins = c;
      begun = all_push (MayBegin n c) (map close es) (entered_at (n + 1) v)
          (all_mapped (MayBegin n c) close es (all_weaker (IsMade n) (λ e. MayBegin n c (close e)) (closed_begins n c object day) es all)) (new_begins n v);
      ends = d;
      ended = all_push (MayEnd n d) (map close es) (entered_at (n + 1) v)
          (all_mapped (MayEnd n d) close es (all_weaker (IsMade n) (λ e. MayEnd n d (close e)) (closed_ends n object day) es all)) (inl refl);
    }
agree_now n es (Retire object last) all =
    let d = Some (Retire object last) in
    let close = close_entry object last (n + 1) in
    record {
      begins = d;
      begun = all_mapped (MayBegin n d) close es (all_weaker (IsMade n) (λ e. MayBegin n d (close e)) (closed_begins n d object last) es all);
      ends = d;
      ended = all_mapped (MayEnd n d) close es (all_weaker (IsMade n) (λ e. MayEnd n d (close e)) (closed_ends n object last) es all);
    }

agree_from : (k n : ℕ) → n ≤ k → (es : List Entry) (cs : List Command) → AllByRecursion (IsMade n) es → AgreeAt (k + 1) (entries_from n es cs)
agree_from k n h es [] all =
    let early = all_weaker (IsMade n) (IsMade k) (made_later n k h) es all in
    record {
      begins = None;
      begun = all_weaker (IsMade k) (MayBegin k None) (none_begins k None) es early;
      ends = None;
      ended = all_weaker (IsMade k) (MayEnd k None) (none_ends k None) es early;
    }
agree_from k n h es (c ∷ cs) all = go (nat_le (n + 1) k) refl (λ low. agree_from k (n + 1) low (entries_after (n + 1) es c) cs (made_after n es c all))
  where
    go : (t : Bool) → nat_le (n + 1) k ≡ t → (n + 1 ≤ k → AgreeAt (k + 1) (entries_from (n + 1) (entries_after (n + 1) es c) cs)) → AgreeAt (k + 1) (entries_from (n + 1) (entries_after (n + 1) es c) cs)
    go true e more = more (grind (arith, nat_tests))
    go false e more =
        let same : n ≡ k = grind (arith, nat_tests) in
        subst (λ m. AgreeAt (m + 1) (entries_from (n + 1) (entries_after (n + 1) es c) cs)) same (agree_always (n + 1) (n + 1) (omega arith) (entries_after (n + 1) es c) cs (agree_now n es c all))

pub entries_agree : (cs : List Command) (r : ℕ) → AgreeAt (r + 1) (entries_of cs)
entries_agree cs r = agree_from r 0 (omega arith) [] cs tt

-- ---- the journal in any order

pub given_in_any_order : (cmp : Entry → Entry → Ordering) (r count : ℕ) (es : List Entry) → ((k : ℕ) → AgreeAt (k + 1) es) → commands_behind r count (sort_by cmp es) ≡ commands_behind r count es
given_in_any_order cmp r zero es agree = refl
given_in_any_order cmp r (suc count) es agree = ap₂ ◌∷◌ (order_is_no_matter cmp (r + 1) es (agree r)) (given_in_any_order cmp (r + 1) count es agree)

-- all were entered by the newest revision
all_listed : (n : ℕ) (es : List Entry) → AllByRecursion (IsMade n) es → entries_at n es ≡ es
all_listed n [] all = refl
all_listed n (e ∷ es) all =
    let early : e.entered ≤ n = all.0.entered in
    let low : int_le (pos e.entered) (pos n) ≡ true = grind (arith, ints) in
    rw low (ap (λ l. e ∷ l) (all_listed n es all.1))

pub listings_give : (cs : List Command) → AreAccepted [] cs → (r : ℕ) → r ≤ length cs → commands_behind r (length cs - r) (entries_listed (length cs) (entries_of cs)) ≡ map Some (drop r cs)
listings_give cs accepted r h =
    let n = length cs in
    ap (λ es. commands_behind r (n - r) (sort_by entry_order es)) (all_listed n (entries_of cs) (all_made cs))
    ∙ given_in_any_order entry_order r (n - r) (entries_of cs) (entries_agree cs) ∙ entries_give cs accepted r h
