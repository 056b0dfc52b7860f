-- A line of each connection of the land office has begun.
use Rattle.std.proofs.Common.{◌≡◌, ℕ, nat_eq, Bool, true, false, List, [], ◌∷◌, None, Some, refl, sym, ap, subst, ◌∙◌, if◌then◌else◌}
use Rattle.cad_stream.specs.declared.responder.Responder.{Ghosts}
use Rattle.cad_stream.specs.declared.journal_responder.JournalResponder.{Ghosts as JournalGhosts}
use Rattle.cad_desk.specs.declared.desk.Desk.{Desk}
use Rattle.cad_office_socket.specs.declared.entry.Entry.{Entry}
use Rattle.cad_office_socket.specs.declared.turned.EntryTurned.{EntryTurned}
use Rattle.cad_office_socket.specs.declared.turned.EntryTurned.TheVariants.{Wrote, Took, Added, Answered, Lost, Checked, CheckLost, StatusAnswered, StatusLost, JournalBegun, RowsRead, RowsRefused, RowsLost, Piece, PieceLost, Stops, Waits, Over}
use Rattle.cad_office_socket.specs.Turns.{IsBegun}
use Rattle.cad_office_socket.specs.lemmas.BegunLemmas.{Later, begun_later}
use Rattle.cad_event_loop.specs.Works.{AtOffice, AtOffices, Place, Puts, Same, Work, wakes, opens, acts, waits, ends, office_comes, enters, office_leaves, aside, is_last, Goes}
use Rattle.cad_event_loop.proofs.LifeLemmas.{none_some, one_some}

pub same_entry : {J : Type 0} (office : AtOffice J) (p o : ℕ) (other entry : Entry J) → office ≡ Some (p, other) → office ≡ Some (o, entry) → other ≡ entry
same_entry {J} office p o other entry x y = ap (λ (it : ℕ × Entry J). it.1) (one_some {X = ℕ × Entry J} (p, other) (o, entry) (sym x ∙ y))

module _ {R J W : Type 0} (g : Ghosts R) (jg : JournalGhosts R J) (owes : W → List ℕ) where
  abbrev AllBegun : AtOffices J → Type 0
  AllBegun offices = (k o : ℕ) (entry : Entry J) → offices k ≡ Some (o, entry) → IsBegun entry

  begun_same : (old new : AtOffices J) → Same old new → AllBegun old → AllBegun new
  begun_same old new same begun k o entry at = begun k o entry (sym (same k) ∙ at)

  begun_gone : (j : ℕ) (old new : AtOffices J) → Puts old new j None → AllBegun old → AllBegun new
  begun_gone j old new puts begun k o entry at = go (nat_eq j k) refl
    where
      go : (own : Bool) → nat_eq j k ≡ own → IsBegun entry
      go true e = absurd (none_some {X = ℕ × Entry J} (o, entry) (sym (puts k ∙ rw e refl) ∙ at))
      go false e = begun k o entry (sym (puts k ∙ rw e refl) ∙ at)

  begun_put : (j p : ℕ) (one : Entry J) (old new : AtOffices J) → Puts old new j (Some (p, one)) → IsBegun one → AllBegun old → AllBegun new
  begun_put j p one old new puts first begun k o entry at = go (nat_eq j k) refl
    where
      go : (own : Bool) → nat_eq j k ≡ own → IsBegun entry
      go true e = subst IsBegun (same_entry (new k) p o one entry (puts k ∙ rw e refl) at) first
      go false e = begun k o entry (sym (puts k ∙ rw e refl) ∙ at)

  begun_turn : (j p : ℕ) (turned : EntryTurned) (one : Entry J) (old new : AtOffices J) → Puts old new j (if◌then◌else◌ {A = AtOffice J} (is_last turned) None (Some (p, one))) → (is_last turned ≡ false → IsBegun one) → AllBegun old → AllBegun new
  begun_turn j p turned one old new puts still begun = by_last (is_last turned) refl puts
    where
      by_last : (last : Bool) → is_last turned ≡ last → Puts old new j (if◌then◌else◌ {A = AtOffice J} last None (Some (p, one))) → AllBegun new
      by_last true e there = begun_gone j old new there begun
      by_last false e there = begun_put j p one old new there (still e) begun

  begun_still : (turned : EntryTurned) (next : Entry J) → Later turned next → is_last turned ≡ false → IsBegun next
  begun_still Over next later goes = absurd (let clash : true ≡ false = goes in cc)
  begun_still Wrote next later goes = later
  begun_still Took next later goes = later
  begun_still Added next later goes = later
  begun_still (Answered answer) next later goes = later
  begun_still (Lost answer) next later goes = later
  begun_still (Checked report) next later goes = later
  begun_still (CheckLost report) next later goes = later
  begun_still (StatusAnswered status) next later goes = later
  begun_still StatusLost next later goes = later
  begun_still (JournalBegun behind) next later goes = later
  begun_still RowsRead next later goes = later
  begun_still (RowsRefused fault) next later goes = later
  begun_still (RowsLost fault) next later goes = later
  begun_still Piece next later goes = later
  begun_still PieceLost next later goes = later
  begun_still Stops next later goes = later
  begun_still Waits next later goes = later

  pub begun_in : (works : List Work) (old new : Desk R) (here next : Place J W) → Goes g jg owes old here works new next → AllBegun here.offices → AllBegun next.offices
  begun_in [] old new here next goes begun = subst (λ (it : Place J W). AllBegun it.offices) (sym goes.1) begun
  begun_in (wakes places ∷ later) old new here next goes begun = begun_in later goes.0 new goes.1 next goes.3 (begun_same here.offices goes.1.offices goes.2.2 begun)
  begun_in (opens s c ∷ later) old new here next goes begun = begun_in later goes.0 new goes.1 next goes.3 (begun_same here.offices goes.1.offices goes.2.5 begun)
  begun_in (acts s c act owing ∷ later) old new here next goes begun = begun_in later goes.0 new goes.1 next goes.3 (begun_same here.offices goes.1.offices goes.2.5 begun)
  begun_in (waits s c ∷ later) old new here next goes begun = begun_in later goes.0 new goes.1 next goes.3 (begun_same here.offices goes.1.offices goes.2.5 begun)
  begun_in (ends s c cause deeds said ∷ later) old new here next goes begun = begun_in later goes.0 new goes.1 next goes.3 (begun_same here.offices goes.1.offices goes.2.6 begun)
  begun_in (office_comes o j ∷ later) old new here next goes begun =
      begun_in later goes.0 new goes.1 next goes.3 (begun_put j o goes.2.0 here.offices goes.1.offices goes.2.3 ([], goes.2.2.none_begun) begun)
  begun_in (enters o j text turned deeds said ∷ later) old new here next goes begun =
      let w = goes.2 in
      let still = begun_later g jg o turned old goes.0 w.0 w.1 w.2 (begun j o w.0 w.3) w.4 in
      begun_in later goes.0 new goes.1 next goes.3 (begun_turn j o turned w.1 here.offices goes.1.offices w.8 (begun_still turned w.1 still) begun)
  begun_in (office_leaves o j overdue ∷ later) old new here next goes begun = begun_in later goes.0 new goes.1 next goes.3 (begun_gone j here.offices goes.1.offices goes.2.2 begun)
  begun_in (aside deeds said ∷ later) old new here next goes begun = begun_in later goes.0 new goes.1 next goes.3 (begun_same here.offices goes.1.offices goes.2.4 begun)
