-- Bytes pass at a socket in the acts of its own connection alone.
use Rattle.std.proofs.Common.{◌≡◌, ℕ, nat_eq, Bool, true, false, List, [], ◌∷◌, ◌++◌, Option, None, Some, refl, sym, ap, subst, ◌∙◌, append-nil, inl, inr, if◌then◌else◌, map}
use Rattle.std.proofs.lemmas.Bool.{eqb-true}
use Rattle.cad_stream.specs.declared.responder.Responder.{Ghosts}
use Rattle.cad_stream.specs.declared.journal_responder.JournalResponder.{Ghosts as JournalGhosts}
use Rattle.cad_desk.specs.declared.desk.Desk.{Desk}
use Rattle.cad_desk.specs.declared.fault.DeskFault.TheVariants.{Memory}
use Rattle.cad_network.specs.Deeds.{Deed, woke, gave, left, given_by, taken_by, comes, IsQuiet}
use Rattle.cad_network.specs.lemmas.DeedLemmas.{given_by-append, taken_by-append, quiet-append, comes-append, or_none, gave_apart, took_apart}
use Rattle.cad_clients.specs.declared.channel.Channel.{Channel}
use Rattle.cad_clients.specs.declared.turned.Ending.{Ending}
use Rattle.cad_clients.specs.declared.turned.Ending.TheVariants.{PeerEnded, WeEnded, Refused, Unmade, ReadFailed, WriteFailed}
use Rattle.cad_clients.specs.Channels.{Act, wrote, took, fed, worked, EndsSo}
use Rattle.cad_event_loop.specs.Works.{Held, AtOffice, AtOffices, Place, Puts, Same, Said, Work, wakes, opens, acts, waits, ends, office_comes, enters, office_leaves, aside, is_last, deeds_in, all_deeds, Leaves, Works, Goes}
use Rattle.cad_event_loop.specs.Lives.{own_deeds}
use Rattle.cad_office_socket.specs.declared.entry.Entry.{Entry}
use Rattle.cad_office_socket.specs.declared.turned.EntryTurned.{EntryTurned}
use Rattle.cad_office_socket.specs.declared.turned.EntryTurned.TheVariants.{Wrote, Took, Added, Answered, Lost, Checked, CheckLost, StatusAnswered, StatusLost, JournalBegun, RowsRead, RowsRefused, RowsLost, Piece, PieceLost, Stops, Waits, Over}
use Rattle.cad_office_socket.specs.Turns.{IsTaken, IsEntryTurn}
use Rattle.cad_event_loop.proofs.GoesLemmas.{told_quiet, aside_passes, woken_quiet}
use Rattle.cad_event_loop.proofs.LifeLemmas.{apart, none_some, one_some}

pub act_quiet : (s t : ℕ) (act : Act) → nat_eq t s ≡ false → IsQuiet s (deeds_in t act)
act_quiet s t (wrote bytes) e = took_apart s t bytes e
act_quiet s t (took bytes) e = gave_apart s t bytes e
act_quiet s t (fed piece out over) e = (refl, refl)
act_quiet s t worked e = (refl, refl)

-- no connection has this socket, or connection c alone has it; and none of the land office
abbrev pub NotIn : {W : Type 0} → ℕ → Held W → Type 0
NotIn {W} s slots = (d : ℕ) (channel : Channel W) → slots d ≡ Some (s, channel) → ⊥

abbrev pub OnceIn : {W : Type 0} → ℕ → ℕ → Held W → Type 0
OnceIn {W} s c slots = (d : ℕ) (channel : Channel W) → slots d ≡ Some (s, channel) → d ≡ c

abbrev pub NotOffice : {J : Type 0} → ℕ → AtOffices J → Type 0
NotOffice {J} s offices = (k : ℕ) (entry : Entry J) → offices k ≡ Some (s, entry) → ⊥

abbrev pub NotHeld : {J W : Type 0} → ℕ → Place J W → Type 0
NotHeld s place = NotIn s place.slots × NotOffice s place.offices

abbrev pub HeldOnce : {J W : Type 0} → ℕ → ℕ → Place J W → Type 0
HeldOnce s c place = OnceIn s c place.slots × NotOffice s place.offices

same_name : {W : Type 0} (t s : ℕ) (channel other : Channel W) → ◌≡◌ {A = Option (ℕ × Channel W)} (Some (t, channel)) (Some (s, other)) → t ≡ s
same_name {W} t s channel other e = ap (λ (p : ℕ × Channel W). p.0) (one_some {X = ℕ × Channel W} (t, channel) (s, other) e)

-- a name that differs
pub differs : (t s : ℕ) → (t ≡ s → ⊥) → nat_eq t s ≡ false
differs t s unlike = go (nat_eq t s) refl
  where
    go : (same : Bool) → nat_eq t s ≡ same → nat_eq t s ≡ false
    go true e = absurd (unlike (eqb-true t s e))
    go false e = e

-- where slot d has another name, or none, that name is not held since
pub puts_other : {W : Type 0} (s d t : ℕ) (channel : Channel W) (slots next : Held W) → nat_eq t s ≡ false → Puts slots next d (Some (t, channel)) → NotIn s slots → NotIn s next
puts_other s d t channel slots next e puts not f other at = go (nat_eq d f) refl
  where
    go : (same : Bool) → nat_eq d f ≡ same → ⊥
    go true h = apart t s e (same_name t s channel other (sym (puts f ∙ rw h refl) ∙ at))
    go false h = not f other (sym (puts f ∙ rw h refl) ∙ at)

pub puts_none : {W : Type 0} (s d : ℕ) (slots next : Held W) → Puts slots next d None → NotIn s slots → NotIn s next
puts_none {W} s d slots next puts not f other at = go (nat_eq d f) refl
  where
    go : (same : Bool) → nat_eq d f ≡ same → ⊥
    go true h = none_some {X = ℕ × Channel W} (s, other) (sym (puts f ∙ rw h refl) ∙ at)
    go false h = not f other (sym (puts f ∙ rw h refl) ∙ at)

module _ {R J W : Type 0} (g : Ghosts R) (jg : JournalGhosts R J) (owes : W → List ℕ) where
  -- the end of a connection whose socket is t
  end_quiet : (s c t : ℕ) (old new : Desk R) (channel : Channel W) (ending : Ending) (deeds : List Deed) → nat_eq t s ≡ false → EndsSo g c t old channel ending new deeds → IsQuiet s deeds
  end_quiet s c t old new channel PeerEnded deeds e x = rw x.0 (gave_apart s t [] e)
  end_quiet s c t old new channel WeEnded deeds e x = rw x.0 (refl, refl)
  end_quiet s c t old new channel (Refused fault) deeds e x =
      let told = told_quiet s t fault x.1.0 x.1.1 e in
      elim x.1.2 [
        | inl refused ↦ rw refused.0 told
        | inr none ↦
            elim none.1.0 [
              | inl unfed ↦ rw unfed.0 told
              | inr unkept ↦ rw unkept.1 (quiet-append s (gave t unkept.0 ∷ []) x.1.0 (gave_apart s t unkept.0 e) told)
            ]
      ]
  end_quiet s c t old new channel Unmade deeds e x = told_quiet s t Memory deeds x.1 e
  end_quiet s c t old new channel ReadFailed deeds e x = rw x.0 (refl, refl)
  end_quiet s c t old new channel WriteFailed deeds e x = elim x.0 [
    | inl same ↦ rw same (refl, refl)
    | inr none ↦ rw none (took_apart s t [] e)
  ]

  pub leaves_quiet : (s c t : ℕ) (old new : Desk R) (channel : Channel W) (cause : Option Ending) (deeds : List Deed) → nat_eq t s ≡ false → Leaves g c t old channel cause deeds new → IsQuiet s deeds
  leaves_quiet s c t old new channel (Some ending) deeds e x = rw x.1 (quiet-append s x.0 (left t ∷ []) (end_quiet s c t old new channel ending x.0 e x.2) (refl, refl))
  leaves_quiet s c t old new channel None deeds e x = rw x.0 (refl, refl)

  -- a turn of the land office, whose socket is o
  taken_quiet : (s o : ℕ) (old new : Desk R) (entry next : Entry J) (turned : EntryTurned) (deeds : List Deed) → nat_eq o s ≡ false → IsTaken g jg o old entry turned new next deeds → IsQuiet s deeds
  taken_quiet s o old new entry next turned deeds e x = elim x.1 [
    | inl some ↦ rw some.0 (refl, refl)
    | inr last ↦ rw last.0 (gave_apart s o [] e)
  ]

  entry_quiet : (s o : ℕ) (old new : Desk R) (entry next : Entry J) (turned : EntryTurned) (deeds : List Deed) → nat_eq o s ≡ false → IsEntryTurn g jg o old entry turned new next deeds → IsQuiet s deeds
  entry_quiet s o old new entry next Wrote deeds e x = rw x.1 (took_apart s o x.0 e)
  entry_quiet s o old new entry next Took deeds e x = rw x.1 (gave_apart s o x.0 e)
  entry_quiet s o old new entry next Added deeds e x = taken_quiet s o old new entry next Added deeds e x
  entry_quiet s o old new entry next (Answered answer) deeds e x = taken_quiet s o old new entry next (Answered answer) deeds e x
  entry_quiet s o old new entry next (Lost answer) deeds e x = taken_quiet s o old new entry next (Lost answer) deeds e x
  entry_quiet s o old new entry next (Checked report) deeds e x = taken_quiet s o old new entry next (Checked report) deeds e x
  entry_quiet s o old new entry next (CheckLost report) deeds e x = taken_quiet s o old new entry next (CheckLost report) deeds e x
  entry_quiet s o old new entry next (StatusAnswered status) deeds e x = taken_quiet s o old new entry next (StatusAnswered status) deeds e x
  entry_quiet s o old new entry next StatusLost deeds e x = taken_quiet s o old new entry next StatusLost deeds e x
  entry_quiet s o old new entry next (JournalBegun behind) deeds e x = taken_quiet s o old new entry next (JournalBegun behind) deeds e x
  entry_quiet s o old new entry next RowsRead deeds e x = rw x.0 (refl, refl)
  entry_quiet s o old new entry next (RowsRefused fault) deeds e x = rw x.0 (refl, refl)
  entry_quiet s o old new entry next (RowsLost fault) deeds e x = rw x.0 (refl, refl)
  entry_quiet s o old new entry next Piece deeds e x = rw x.0 (refl, refl)
  entry_quiet s o old new entry next PieceLost deeds e x = rw x.0 (refl, refl)
  entry_quiet s o old new entry next Stops deeds e x = taken_quiet s o old new entry next Stops deeds e x
  entry_quiet s o old new entry next Waits deeds e x = rw x.0 (refl, refl)
  entry_quiet s o old new entry next Over deeds e x = elim x.0 [
    | inl ended ↦ rw ended.0 (refl, refl)
    | inr more ↦
        elim more [
          | inl unwritten ↦
              elim unwritten.0 [
                | inl undone ↦ rw undone (refl, refl)
                | inr none ↦ rw none (took_apart s o [] e)
              ]
          | inr rest ↦
              elim rest [
                | inl undone ↦ rw undone.0 (refl, refl)
                | inr unkept ↦ rw unkept.1 (gave_apart s o unkept.0 e)
              ]
        ]
  ]

  -- with the end of its connection, if it is over
  pub enters_apart : (s o : ℕ) (old new : Desk R) (entry next : Entry J) (turned : EntryTurned) (deeds own : List Deed) → nat_eq o s ≡ false → deeds ≡ own ++ (if is_last turned then left o ∷ [] else []) → IsEntryTurn g jg o old entry turned new next own → IsQuiet s deeds
  enters_apart s o old new entry next turned deeds own e are turn =
      rw are (quiet-append s own (if is_last turned then left o ∷ [] else []) (entry_quiet s o old new entry next turned own e turn) (last_quiet (is_last turned)))
    where
      last_quiet : (last : Bool) → IsQuiet s (if last then left o ∷ [] else [])
      last_quiet true = (refl, refl)
      last_quiet false = (refl, refl)

  -- all of it
  enters_quiet : (s o k : ℕ) (old new : Desk R) (here next : Place J W) (text : List ℕ) (turned : EntryTurned) (deeds : List Deed) (said : Said) → NotOffice s here.offices → Works g jg owes old here (enters o k text turned deeds said) new next → IsQuiet s deeds
  enters_quiet s o k old new here next text turned deeds said not w =
      enters_apart s o old new w.0 w.1 turned deeds w.2 (differs o s (λ same. not k w.0 (w.3 ∙ ap (λ (n : ℕ). Some (n, w.0)) same))) w.5 w.4

  office_stays : (s o k : ℕ) (old new : Desk R) (here next : Place J W) (text : List ℕ) (turned : EntryTurned) (deeds : List Deed) (said : Said) → NotOffice s here.offices → Works g jg owes old here (enters o k text turned deeds said) new next → NotOffice s next.offices
  office_stays s o k old new here next text turned deeds said not w j entry at = own (nat_eq k j) refl
    where
      go : (last : Bool) → ◌≡◌ {A = AtOffice J} (if◌then◌else◌ {A = AtOffice J} last None (Some (o, w.1))) (Some (s, entry)) → ⊥
      go true h = none_some {X = ℕ × Entry J} (s, entry) h
      go false h =
          let name = ap (λ (p : ℕ × Entry J). p.0) (one_some {X = ℕ × Entry J} (o, w.1) (s, entry) h) in
          not k w.0 (w.3 ∙ ap (λ (n : ℕ). Some (n, w.0)) name)

      own : (same : Bool) → nat_eq k j ≡ same → ⊥
      own true e = go (is_last turned) (sym (w.8 j ∙ rw e refl) ∙ at)
      own false e = not j entry (sym (w.8 j ∙ rw e refl) ∙ at)

  -- one comes at another socket
  other_office : (s o k : ℕ) (entry : Entry J) (offices next : AtOffices J) → nat_eq o s ≡ false → Puts offices next k (Some (o, entry)) → NotOffice s offices → NotOffice s next
  other_office s o k entry offices next e puts not j there at = own (nat_eq k j) refl
    where
      own : (same : Bool) → nat_eq k j ≡ same → ⊥
      own true h = apart o s e (ap (λ (p : ℕ × Entry J). p.0) (one_some {X = ℕ × Entry J} (o, entry) (s, there) (sym (puts j ∙ rw h refl) ∙ at)))
      own false h = not j there (sym (puts j ∙ rw h refl) ∙ at)

  pub left_office : (s k : ℕ) (offices next : AtOffices J) → Puts offices next k None → NotOffice s offices → NotOffice s next
  left_office s k offices next puts not j there at = own (nat_eq k j) refl
    where
      own : (same : Bool) → nat_eq k j ≡ same → ⊥
      own true h = none_some {X = ℕ × Entry J} (s, there) (sym (puts j ∙ rw h refl) ∙ at)
      own false h = not j there (sym (puts j ∙ rw h refl) ∙ at)

  pub kept_office : (s : ℕ) (old new : AtOffices J) → Same old new → NotOffice s old → NotOffice s new
  kept_office s old new same not k entry at = not k entry (sym (same k) ∙ at)

  pub kept_slots : (s : ℕ) (old new : Held W) → Same old new → NotIn s old → NotIn s new
  kept_slots s old new same not d channel at = not d channel (sym (same d) ∙ at)

  -- bytes pass at no socket that nobody has and that does not come
  pub unheld : (s : ℕ) (works : List Work) (old new : Desk R) (here next : Place J W) → Goes g jg owes old here works new next → NotHeld s here → comes s (all_deeds works) ≡ false
      → IsQuiet s (all_deeds works) × NotHeld s next
  unheld s [] old new here next goes not none = ((refl, refl), subst (λ (h : Place J W). NotHeld s h) (sym goes.1) not)
  unheld s (wakes places ∷ later) old new here next goes not none =
      let later_none = or_none (comes s (map woke places)) (comes s (all_deeds later)) (sym (comes-append s (map woke places) (all_deeds later)) ∙ none) in
      let rest = unheld s later goes.0 new goes.1 next goes.3 (kept_slots s here.slots goes.1.slots goes.2.1 not.0, kept_office s here.offices goes.1.offices goes.2.2 not.1) later_none.1 in
      (quiet-append s (map woke places) (all_deeds later) (woken_quiet s places) rest.0, rest.1)
  unheld s (opens t d ∷ later) old new here next goes not none =
      let apart_from = or_none (nat_eq t s) (comes s (all_deeds later)) none in
      let rest = unheld s later goes.0 new goes.1 next goes.3 (puts_other s d t goes.2.0 here.slots goes.1.slots apart_from.0 goes.2.4 not.0, kept_office s here.offices goes.1.offices goes.2.5 not.1) apart_from.1 in
      (rest.0, rest.1)
  unheld s (acts t d act owing ∷ later) old new here next goes not none =
      let e = differs t s (λ same. not.0 d goes.2.0 (goes.2.2 ∙ ap (λ (n : ℕ). Some (n, goes.2.0)) same)) in
      let later_none = or_none (comes s (deeds_in t act)) (comes s (all_deeds later)) (sym (comes-append s (deeds_in t act) (all_deeds later)) ∙ none) in
      let rest = unheld s later goes.0 new goes.1 next goes.3 (puts_other s d t goes.2.1 here.slots goes.1.slots e goes.2.4 not.0, kept_office s here.offices goes.1.offices goes.2.5 not.1) later_none.1 in
      (quiet-append s (deeds_in t act) (all_deeds later) (act_quiet s t act e) rest.0, rest.1)
  unheld s (waits t d ∷ later) old new here next goes not none =
      unheld s later goes.0 new goes.1 next goes.3 (kept_slots s here.slots goes.1.slots goes.2.4 not.0, kept_office s here.offices goes.1.offices goes.2.5 not.1) none
  unheld s (ends t d cause deeds said ∷ later) old new here next goes not none =
      let e = differs t s (λ same. not.0 d goes.2.0 (goes.2.1 ∙ ap (λ (n : ℕ). Some (n, goes.2.0)) same)) in
      let later_none = or_none (comes s deeds) (comes s (all_deeds later)) (sym (comes-append s deeds (all_deeds later)) ∙ none) in
      let rest = unheld s later goes.0 new goes.1 next goes.3 (puts_none s d here.slots goes.1.slots goes.2.5 not.0, kept_office s here.offices goes.1.offices goes.2.6 not.1) later_none.1 in
      (quiet-append s deeds (all_deeds later) (leaves_quiet s d t old goes.0 goes.2.0 cause deeds e goes.2.2) rest.0, rest.1)
  unheld s (office_comes o k ∷ later) old new here next goes not none =
      let apart_from = or_none (nat_eq o s) (comes s (all_deeds later)) none in
      let rest = unheld s later goes.0 new goes.1 next goes.3 (kept_slots s here.slots goes.1.slots goes.2.4 not.0, other_office s o k goes.2.0 here.offices goes.1.offices apart_from.0 goes.2.3 not.1) apart_from.1 in
      (rest.0, rest.1)
  unheld s (enters o k text turned deeds said ∷ later) old new here next goes not none =
      let later_none = or_none (comes s deeds) (comes s (all_deeds later)) (sym (comes-append s deeds (all_deeds later)) ∙ none) in
      let rest = unheld s later goes.0 new goes.1 next goes.3 (kept_slots s here.slots goes.1.slots goes.2.9 not.0, office_stays s o k old goes.0 here goes.1 text turned deeds said not.1 goes.2) later_none.1 in
      (quiet-append s deeds (all_deeds later) (enters_quiet s o k old goes.0 here goes.1 text turned deeds said not.1 goes.2) rest.0, rest.1)
  unheld s (office_leaves o k overdue ∷ later) old new here next goes not none =
      unheld s later goes.0 new goes.1 next goes.3 (kept_slots s here.slots goes.1.slots goes.2.3 not.0, left_office s k here.offices goes.1.offices goes.2.2 not.1) none
  unheld s (aside deeds said ∷ later) old new here next goes not none =
      let later_none = or_none (comes s deeds) (comes s (all_deeds later)) (sym (comes-append s deeds (all_deeds later)) ∙ none) in
      let rest = unheld s later goes.0 new goes.1 next goes.3 (kept_slots s here.slots goes.1.slots goes.2.2 not.0, kept_office s here.offices goes.1.offices goes.2.4 not.1) later_none.1 in
      (quiet-append s deeds (all_deeds later) (aside_passes deeds goes.2.3 s later_none.0) rest.0, rest.1)

  abbrev pub IsOwn : ℕ → ℕ → List Work → Type 0
  IsOwn s c works = (given_by s (all_deeds works) ≡ given_by s (own_deeds c works)) × (taken_by s (all_deeds works) ≡ taken_by s (own_deeds c works))

  -- deeds that are not its own, and then some
  pub not_own : (s : ℕ) (deeds rest own : List Deed) → IsQuiet s deeds → (given_by s rest ≡ given_by s own) × (taken_by s rest ≡ taken_by s own)
      → (given_by s (deeds ++ rest) ≡ given_by s own) × (taken_by s (deeds ++ rest) ≡ taken_by s own)
  not_own s deeds rest own quiet same =
      (given_by-append s deeds rest ∙ rw quiet.0 same.0, taken_by-append s deeds rest ∙ rw quiet.1 same.1)

  -- deeds that are its own, and then some
  its_own : (s : ℕ) (deeds rest own : List Deed) → (given_by s rest ≡ given_by s own) × (taken_by s rest ≡ taken_by s own)
      → (given_by s (deeds ++ rest) ≡ given_by s (deeds ++ own)) × (taken_by s (deeds ++ rest) ≡ taken_by s (deeds ++ own))
  its_own s deeds rest own same = (
    given_by-append s deeds rest ∙ (ap (λ (b : List ℕ). given_by s deeds ++ b) same.0 ∙ sym (given_by-append s deeds own)),
    taken_by-append s deeds rest ∙ (ap (λ (b : List ℕ). taken_by s deeds ++ b) same.1 ∙ sym (taken_by-append s deeds own)),
  )

  -- and then none
  its_last : (s : ℕ) (deeds rest : List Deed) → IsQuiet s rest → (given_by s (deeds ++ rest) ≡ given_by s deeds) × (taken_by s (deeds ++ rest) ≡ taken_by s deeds)
  its_last s deeds rest quiet = (
    given_by-append s deeds rest ∙ rw quiet.0 (append-nil (given_by s deeds)),
    taken_by-append s deeds rest ∙ rw quiet.1 (append-nil (taken_by s deeds)),
  )

  -- of a socket that connection c alone has, and that does not come again, bytes pass in the deeds of connection c alone
  pub held : (s c : ℕ) (works : List Work) (old new : Desk R) (place next : Place J W) (channel : Channel W) → Goes g jg owes old place works new next → place.slots c ≡ Some (s, channel) → HeldOnce s c place
      → comes s (all_deeds works) ≡ false → IsOwn s c works
  held s c [] old new place next channel goes here once none = (refl, refl)
  held s c (wakes places ∷ later) old new place next channel goes here once none =
      let split = or_none (comes s (map woke places)) (comes s (all_deeds later)) (sym (comes-append s (map woke places) (all_deeds later)) ∙ none) in
      let there : goes.1.slots c ≡ Some (s, channel) = goes.2.1 c ∙ here in
      let rest = held s c later goes.0 new goes.1 next channel goes.3 there ((λ d it at. once.0 d it (sym (goes.2.1 d) ∙ at)), kept_office s place.offices goes.1.offices goes.2.2 once.1) split.1 in
      not_own s (map woke places) (all_deeds later) (own_deeds c later) (woken_quiet s places) rest
  held s c (waits t d ∷ later) old new place next channel goes here once none =
      let there : goes.1.slots c ≡ Some (s, channel) = goes.2.4 c ∙ here in
      held s c later goes.0 new goes.1 next channel goes.3 there ((λ d it at. once.0 d it (sym (goes.2.4 d) ∙ at)), kept_office s place.offices goes.1.offices goes.2.5 once.1) none
  held s c (opens t d ∷ later) old new place next channel goes here once none =
      let split = or_none (nat_eq t s) (comes s (all_deeds later)) none in
      let differ : (d ≡ c → ⊥) = λ same. none_some {X = ℕ × Channel W} (s, channel) (sym goes.2.1 ∙ (ap place.slots same ∙ here)) in
      let there : goes.1.slots c ≡ Some (s, channel) = goes.2.4 c ∙ rw (differs d c differ) here in
      held s c later goes.0 new goes.1 next channel goes.3 there (once_more d t goes.2.0 place.slots goes.1.slots goes.2.4 split.0 once.0, kept_office s place.offices goes.1.offices goes.2.5 once.1) split.1
    where
      once_more : (d t : ℕ) (it : Channel W) (a b : Held W) → Puts a b d (Some (t, it)) → nat_eq t s ≡ false → OnceIn s c a → OnceIn s c b
      once_more d t it a b puts e one f other at = go (nat_eq d f) refl
        where
          go : (same : Bool) → nat_eq d f ≡ same → f ≡ c
          go true h = absurd (apart t s e (same_name t s it other (sym (puts f ∙ rw h refl) ∙ at)))
          go false h = one f other (sym (puts f ∙ rw h refl) ∙ at)
  held s c (acts t d act owing ∷ later) old new place next channel goes here once none =
      let split = or_none (comes s (deeds_in t act)) (comes s (all_deeds later)) (sym (comes-append s (deeds_in t act) (all_deeds later)) ∙ none) in
      go (λ it there once_there. held s c later goes.0 new goes.1 next it goes.3 there once_there split.1) (nat_eq d c) refl
    where
      once_same : (a b : Held W) → Puts a b d (Some (t, goes.2.1)) → a d ≡ Some (t, goes.2.0) → OnceIn s c a → OnceIn s c b
      once_same a b puts at_d one f other at = same (nat_eq d f) refl
        where
          same : (is : Bool) → nat_eq d f ≡ is → f ≡ c
          same true h =
              let name = same_name t s goes.2.1 other (sym (puts f ∙ rw h refl) ∙ at) in
              sym (eqb-true d f h) ∙ one d goes.2.0 (at_d ∙ ap (λ (n : ℕ). Some (n, goes.2.0)) name)
          same false h = one f other (sym (puts f ∙ rw h refl) ∙ at)

      go : ((it : Channel W) → goes.1.slots c ≡ Some (s, it) → HeldOnce s c goes.1 → IsOwn s c later) → (same : Bool) → nat_eq d c ≡ same → IsOwn s c (acts t d act owing ∷ later)
      go again true e =
          let name = same_name t s goes.2.0 channel (sym goes.2.2 ∙ (ap place.slots (eqb-true d c e) ∙ here)) in
          let there : goes.1.slots c ≡ Some (s, goes.2.1) = goes.2.4 c ∙ rw e (ap (λ (n : ℕ). Some (n, goes.2.1)) name) in
          let rest = again goes.2.1 there (once_same place.slots goes.1.slots goes.2.4 goes.2.2 once.0, kept_office s place.offices goes.1.offices goes.2.5 once.1) in
          rw e (its_own s (deeds_in t act) (all_deeds later) (own_deeds c later) rest)
      go again false e =
          let there : goes.1.slots c ≡ Some (s, channel) = goes.2.4 c ∙ rw e here in
          let other_name = differs t s (λ same. apart d c e (once.0 d goes.2.0 (goes.2.2 ∙ ap (λ (n : ℕ). Some (n, goes.2.0)) same))) in
          let rest = again channel there (once_same place.slots goes.1.slots goes.2.4 goes.2.2 once.0, kept_office s place.offices goes.1.offices goes.2.5 once.1) in
          rw e (not_own s (deeds_in t act) (all_deeds later) (own_deeds c later) (act_quiet s t act other_name) rest)
  held s c (ends t d cause deeds said ∷ later) old new place next channel goes here once none =
      let split = or_none (comes s deeds) (comes s (all_deeds later)) (sym (comes-append s deeds (all_deeds later)) ∙ none) in
      go split.1 (λ there once_there. held s c later goes.0 new goes.1 next channel goes.3 there once_there split.1) (nat_eq d c) refl
    where
      gone_once : (a b : Held W) → Puts a b d None → OnceIn s c a → OnceIn s c b
      gone_once a b puts one f other at = same (nat_eq d f) refl
        where
          same : (is : Bool) → nat_eq d f ≡ is → f ≡ c
          same true h = absurd (none_some {X = ℕ × Channel W} (s, other) (sym (puts f ∙ rw h refl) ∙ at))
          same false h = one f other (sym (puts f ∙ rw h refl) ∙ at)

      gone_all : (a b : Held W) → Puts a b d None → OnceIn s c a → d ≡ c → NotIn s b
      gone_all a b puts one is_c f other at = same (nat_eq d f) refl
        where
          same : (is : Bool) → nat_eq d f ≡ is → ⊥
          same true h = none_some {X = ℕ × Channel W} (s, other) (sym (puts f ∙ rw h refl) ∙ at)
          same false h = apart d f h (is_c ∙ sym (one f other (sym (puts f ∙ rw h refl) ∙ at)))

      go : comes s (all_deeds later) ≡ false → (goes.1.slots c ≡ Some (s, channel) → HeldOnce s c goes.1 → IsOwn s c later) → (same : Bool) → nat_eq d c ≡ same → IsOwn s c (ends t d cause deeds said ∷ later)
      go none_later again true e =
          let rest = unheld s later goes.0 new goes.1 next goes.3 (gone_all place.slots goes.1.slots goes.2.5 once.0 (eqb-true d c e), kept_office s place.offices goes.1.offices goes.2.6 once.1) none_later in
          rw e (its_last s deeds (all_deeds later) rest.0)
      go none_later again false e =
          let there : goes.1.slots c ≡ Some (s, channel) = goes.2.5 c ∙ rw e here in
          let other_name = differs t s (λ same. apart d c e (once.0 d goes.2.0 (goes.2.1 ∙ ap (λ (n : ℕ). Some (n, goes.2.0)) same))) in
          let rest = again there (gone_once place.slots goes.1.slots goes.2.5 once.0, kept_office s place.offices goes.1.offices goes.2.6 once.1) in
          rw e (not_own s deeds (all_deeds later) (own_deeds c later) (leaves_quiet s d t old goes.0 goes.2.0 cause deeds other_name goes.2.2) rest)
  held s c (office_comes o k ∷ later) old new place next channel goes here once none =
      let split = or_none (nat_eq o s) (comes s (all_deeds later)) none in
      let there : goes.1.slots c ≡ Some (s, channel) = goes.2.4 c ∙ here in
      held s c later goes.0 new goes.1 next channel goes.3 there ((λ d it at. once.0 d it (sym (goes.2.4 d) ∙ at)), other_office s o k goes.2.0 place.offices goes.1.offices split.0 goes.2.3 once.1) split.1
  held s c (enters o k text turned deeds said ∷ later) old new place next channel goes here once none =
      let split = or_none (comes s deeds) (comes s (all_deeds later)) (sym (comes-append s deeds (all_deeds later)) ∙ none) in
      let there : goes.1.slots c ≡ Some (s, channel) = goes.2.9 c ∙ here in
      let rest = held s c later goes.0 new goes.1 next channel goes.3 there ((λ d it at. once.0 d it (sym (goes.2.9 d) ∙ at)), office_stays s o k old goes.0 place goes.1 text turned deeds said once.1 goes.2) split.1 in
      not_own s deeds (all_deeds later) (own_deeds c later) (enters_quiet s o k old goes.0 place goes.1 text turned deeds said once.1 goes.2) rest
  held s c (office_leaves o k overdue ∷ later) old new place next channel goes here once none =
      let there : goes.1.slots c ≡ Some (s, channel) = goes.2.3 c ∙ here in
      held s c later goes.0 new goes.1 next channel goes.3 there ((λ d it at. once.0 d it (sym (goes.2.3 d) ∙ at)), left_office s k place.offices goes.1.offices goes.2.2 once.1) none
  held s c (aside deeds said ∷ later) old new place next channel goes here once none =
      let split = or_none (comes s deeds) (comes s (all_deeds later)) (sym (comes-append s deeds (all_deeds later)) ∙ none) in
      let there : goes.1.slots c ≡ Some (s, channel) = goes.2.2 c ∙ here in
      let rest = held s c later goes.0 new goes.1 next channel goes.3 there ((λ d it at. once.0 d it (sym (goes.2.2 d) ∙ at)), kept_office s place.offices goes.1.offices goes.2.4 once.1) split.1 in
      not_own s deeds (all_deeds later) (own_deeds c later) (aside_passes deeds goes.2.3 s split.0) rest
