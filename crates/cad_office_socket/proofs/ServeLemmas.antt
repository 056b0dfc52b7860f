-- Turns of the office, and one more.
use Rattle.std.proofs.Common.{◌≡◌, inl, inr, ℕ, ◌+◌, ◌<◌, Bool, true, false, ◌&&◌, List, [], ◌∷◌, ◌++◌, length, Option, None, Some, is_none, refl, sym, ap, ◌∙◌, subst, arith}
use Rattle.cad_network.specs.Deeds.{Deed, AddsSome}
use Rattle.cad_network.specs.lemmas.DeedLemmas.{Adds-nil, Adds-trans}
use Rattle.cad_stream.specs.declared.responder.Responder.{Ghosts}
use Rattle.cad_stream.specs.declared.journal_responder.JournalResponder.{Ghosts as JournalGhosts}
use Rattle.cad_desk.specs.declared.desk.Desk.{Desk}
use Rattle.cad_office_socket.specs.declared.entry.Entry.{Entry}
use Rattle.cad_office_socket.specs.declared.turned.EntryServed.{EntryServed}
use Rattle.cad_office_socket.specs.declared.turned.EntryServed.TheVariants as entry_served
use Rattle.cad_office_socket.specs.declared.turned.EntryTurned.{EntryTurned}
use Rattle.cad_office_socket.specs.declared.turned.EntryTurned.TheVariants.{Wrote, RowsRead}
use Rattle.cad_office_socket.specs.Serving.{end_at, all_go_on, most_turns, IsEnough, HasTurns, IsEntryServed}
use Rattle.cad_office_socket.specs.declared.figures.Figures.{Figures}
use Rattle.cad_office_socket.specs.Counting.{figures_after, figures_in, ShowsFigures, AllShowFigures}
use Rattle.cad_office_socket.specs.Turns.{unwritten, IsEntryTurn}

-- nothing is left where it is not that something is
pub none_left : (bytes : List ℕ) → (0 < length bytes → ⊥) → bytes ≡ []
none_left [] none = refl
none_left (byte ∷ bytes) none = absurd (none (omega arith))

both_go : (end : Option EntryServed) (rest : Bool) → (is_none end && rest) ≡ true → (end ≡ None) × (rest ≡ true)
both_go None rest both = (refl, both)
both_go (Some it) rest both = absurd (let clash : false ≡ true = both in cc)

-- as many turns as may be, none of which ends serving
pub spent : {J : Type 0} (turns : List EntryTurned) (next : Entry J) → all_go_on turns ≡ true → length turns ≡ most_turns → IsEnough turns entry_served.Goes next
spent [] next go count = absurd (omega (arith, count))
spent (turned ∷ before) next go count = let both = both_go (end_at turned) (all_go_on before) go in (both.1, inr (both.0, refl, inl count), omega (arith, count))

module _ {R J : Type 0} (g : Ghosts R) (j : JournalGhosts R J) (s : ℕ) (first : Figures) (old : Desk R) (entry : Entry J) where
  -- so many turns were made, none of which ends serving
  abbrev pub HadTurns : ℕ → Option (List Deed) → Option (List Deed) → Figures → Desk R → Entry J → Type 0
  HadTurns made from to now new next =
      AddsSome from to (λ deeds. (turns : List EntryTurned) × HasTurns g j s old entry turns new next deeds × (all_go_on turns ≡ true) × (length turns ≡ made)
      × AllShowFigures first turns × (now ≡ figures_in first turns))

  pub begins : (from : Option (List Deed)) → HadTurns 0 from from first old entry
  begins from = ([], Adds-nil from, ([], (refl, refl, refl), refl, refl, tt, refl))

  -- none is made after the last
  pub all_spent : (from to : Option (List Deed)) (now : Figures) (new : Desk R) (next : Entry J) → HadTurns most_turns from to now new next
      → AddsSome from to (IsEntryServed g j s first now old entry entry_served.Goes new next)
  all_spent from to now new next had = (had.0, had.1, (had.2.0, had.2.1, spent had.2.0 next had.2.2 had.2.3, had.2.4, had.2.5))

  module _ (made : ℕ) (from to left : Option (List Deed)) (now later : Figures) (mid new : Desk R) (between next : Entry J) (had : HadTurns made from to now mid between) (turned : EntryTurned)
      (turn : AddsSome to left (IsEntryTurn g j s mid between turned new next)) (shows : ShowsFigures now turned) (counts : later ≡ figures_after now turned) where
    shown : AllShowFigures first (turned ∷ had.2.0)
    shown = (subst (λ (figures : Figures). ShowsFigures figures turned) had.2.5 shows, had.2.4)

    counted : later ≡ figures_in first (turned ∷ had.2.0)
    counted = counts ∙ ap (λ (figures : Figures). figures_after figures turned) had.2.5

    joined : AddsSome from left (HasTurns g j s old entry (turned ∷ had.2.0) new next)
    joined = (had.0 ++ turn.0, Adds-trans from to left had.0 turn.0 had.1 turn.1, (mid, between, had.0, turn.0, had.2.1, turn.2, refl))

    -- and the last of them ends it
    pub ended : (it : EntryServed) → made < most_turns → end_at turned ≡ Some it → AddsSome from left (IsEntryServed g j s first later old entry it new next)
    ended it most ends =
        let count = had.2.3 in
        (joined.0, joined.1, (turned ∷ had.2.0, joined.2, (had.2.2, inl ends, omega (arith, count, most)), shown, counted))

    -- and at the last of them an answer went out
    pub went_out : made < most_turns → end_at turned ≡ None → turned ≡ Wrote → unwritten next ≡ [] → AddsSome from left (IsEntryServed g j s first later old entry entry_served.Goes new next)
    went_out most goes wrote all =
        let count = had.2.3 in
        (joined.0, joined.1, (turned ∷ had.2.0, joined.2, (had.2.2, inr (goes, refl, inr (inl (wrote, all))), omega (arith, count, most)), shown, counted))

    -- and at the last of them rows of a journal were read
    pub has_read : made < most_turns → end_at turned ≡ None → turned ≡ RowsRead → AddsSome from left (IsEntryServed g j s first later old entry entry_served.Goes new next)
    has_read most goes read =
        let count = had.2.3 in
        (joined.0, joined.1, (turned ∷ had.2.0, joined.2, (had.2.2, inr (goes, refl, inr (inr read)), omega (arith, count, most)), shown, counted))

    -- and it goes on
    pub went_on : end_at turned ≡ None → HadTurns (made + 1) from left later new next
    went_on goes =
        let count = had.2.3 in
        (joined.0, joined.1, (turned ∷ had.2.0, joined.2, rw (goes, had.2.2) refl, omega (arith, count), shown, counted))
