-- What is done, one thing after the other, and then more.
use Rattle.std.proofs.Common.{◌≡◌, ◌⊎◌, ℕ, ◌+◌, ◌<◌, ◌≤◌, nat_eq, Bool, true, false, ◌||◌, List, [], ◌∷◌, ◌++◌, map, length, length-append, Option, None, Some, IsSomeAnd, Result, Ok, Err, refl, sym, ap, subst, ◌∙◌, append_assoc, append-nil, inl, inr, if◌then◌else◌, option_map, arith}
use Rattle.std.proofs.lemmas.Bool.{cases_lt, eqb-true, eq-eqb}
use Rattle.std.proofs.lemmas.Option.{slice_get_past}
use Rattle.std.specs.Option.{option_or}
use Rattle.cad_stream.specs.declared.responder.Responder.{Ghosts}
use Rattle.cad_stream.specs.declared.journal_responder.JournalResponder.{Ghosts as JournalGhosts}
use Rattle.cad_desk.specs.declared.desk.Desk.{Desk}
use Rattle.cad_desk.specs.declared.event.Event.TheVariants.{Open, Bytes, Close}
use Rattle.cad_desk.specs.declared.fault.DeskFault.{DeskFault}
use Rattle.cad_desk.specs.declared.fault.DeskFault.TheVariants.{Memory}
use Rattle.cad_network.specs.Deeds.{Deed, came, woke, left, Adds, AddsSome, comes, IsQuiet}
use Rattle.cad_network.specs.lemmas.DeedLemmas.{Adds-nil, Adds-trans, quiet-append, took_apart, or_none}
use Rattle.cad_clients.specs.declared.channel.Channel.{Channel}
use Rattle.cad_clients.specs.declared.turned.Ending.{Ending}
use Rattle.cad_clients.specs.declared.turned.Ending.TheVariants.{PeerEnded, WeEnded, Refused, Unmade, ReadFailed, WriteFailed}
use Rattle.cad_clients.specs.declared.turned.Turned.{Turned}
use Rattle.cad_clients.specs.declared.turned.Turned.TheVariants.{Wrote, Took, Fed, Worked, Waits, Over}
use Rattle.std.specs.Global.{Vec}
use Rattle.cad_clients.specs.Channels.{Act, wrote, took, fed, worked, written_in, at_hand, unsent, is_working, Does, EndsSo, IsSent, IsSending, IsWorking, SendsFault}
use Rattle.cad_clients.specs.lemmas.ChannelLemmas.{all_sent, working_not_sending, working_not_sent, working_not_waiting}
use Rattle.cad_clients.specs.declared.budget.Budget.{Budget}
use Rattle.cad_clients.specs.declared.budget.Budget.TheVariants.{First, Later}
use Rattle.cad_clients.specs.Budgets.{worked_by}
use Rattle.cad_clients.specs.declared.client.Client.{Client}
use Rattle.cad_clients.specs.declared.clients.Clients.{Clients}
use Rattle.cad_clients.specs.declared.served.Served.{Served}
use Rattle.cad_clients.specs.declared.served.Served.TheVariants.{Stays, Over as Served-Over, Unknown}
use Rattle.cad_clients.specs.Notes as notes
use Rattle.cad_clients.specs.Slots.{client_in, client_at, Changes, Keeps}
use Rattle.cad_clients.specs.Steps as steps
use Rattle.cad_office_socket.specs.declared.turned.EntryTurned.{EntryTurned}
use Rattle.cad_office_socket.specs.declared.turned.EntryTurned.TheVariants as entry
use Rattle.cad_event_loop.specs.declared.line.Line.{Line}
use Rattle.cad_event_loop.specs.declared.peers.Peers.{Peers}
use Rattle.cad_event_loop.specs.declared.stopped.Stopped.{Stopped}
use Rattle.cad_event_loop.specs.Hosting.{end_of_client, Each, IsServing, IsClosing, IsLastAct, IsLastEnding, IsLastTurn, IsTurnedAway, Hosts, Serves}
use Rattle.cad_event_loop.specs.inner.Line.{standing_of, standing_at, is_worked_on, IsLineOf}
use Rattle.cad_event_loop.specs.inner.Standing.{flag_at, told_flag, standing_office, standings_of, standings, IsWoken, IsAsked, IsPaced, IsAtDoors, GivesTurnAlone, GivesPiece}
use Rattle.cad_event_loop.specs.Turns.{Standing, absent, waiting, ready, working, Standings, woken, is_among, office_place, without, settled, stands_after, stands_in, office_after, office_in, line_after, line_in, is_turn_of, is_wait_of, is_end_of, is_piece_of, any_of, has_turn, turns_of, pieces_of, written_by, written_to, Replies, WorksOn, HasEnough}
use Rattle.cad_event_loop.proofs.LineLemmas.{none_without, joined, joined_none, line_step, settled_joined, line_settled, room_for}
use Rattle.cad_event_loop.proofs.StandingLemmas.{stands_in-append, office_in-append, line_in-append, any_right, any_none, one_of, none_of, turns_of-append, pieces_of-append, written_to-append, beyond}
use Rattle.cad_event_loop.specs.Works.{Held, held_of, held_at, Place, place_of, AtOffice, AtOffices, Puts, Same, event, Said, Work, wakes, opens, acts, waits, ends, office_comes, enters, office_leaves, aside, deeds_in, deeds_of, all_deeds, end_with, end_of_cause, end_of_turned, end_by, end_in, EndsBy, IsOf, IsAside, Tells, Works, Goes}

pub all_deeds-append : (xs ys : List Work) → all_deeds (xs ++ ys) ≡ all_deeds xs ++ all_deeds ys
all_deeds-append [] ys = refl
all_deeds-append (work ∷ xs) ys = ap (λ (l : List Deed). deeds_of work ++ l) (all_deeds-append xs ys) ∙ sym (append_assoc (deeds_of work) (all_deeds xs) (all_deeds ys))

all_deeds-one : (work : Work) → all_deeds (work ∷ []) ≡ deeds_of work
all_deeds-one work = append-nil (deeds_of work)

held_if : {S W : Type 0} (name : S → ℕ) (same : Bool) (x y : Option (Client S W)) → held_of name (if same then x else y) ≡ (if same then held_of name x else held_of name y)
held_if name true x y = refl
held_if name false x y = refl

-- a head that is told to socket t
pub told_quiet : (s t : ℕ) (fault : DeskFault) (told : List Deed) → SendsFault t fault told → nat_eq t s ≡ false → IsQuiet s told
told_quiet s t fault told is e = elim is [
  | inl later ↦ rw later (refl, refl)
  | inr more ↦
      elim more [
        | inl undone ↦ rw undone (refl, refl)
        | inr front ↦ rw front.2 (took_apart s t front.0 e)
      ]
]

-- bytes pass at no socket but one that comes among these
pub aside_passes : (deeds : List Deed) → IsAside deeds → (s : ℕ) → comes s deeds ≡ false → IsQuiet s deeds
aside_passes deeds is s e = elim is [
  | inl none ↦ rw none (refl, refl)
  | inr some ↦
      elim some [
        | inl away ↦
            let none = rw away.4 at e in
            let apart = or_none (nat_eq away.0 s) (comes s (away.2 ++ left away.0 ∷ [])) none in
            rw away.4 (quiet-append s away.2 (left away.0 ∷ []) (told_quiet s away.0 away.1 away.2 away.3 apart.0) (refl, refl))
        | inr office ↦ rw office.1 (refl, refl)
      ]
]

pub woken_quiet : (s : ℕ) (places : List ℕ) → IsQuiet s (map woke places)
woken_quiet s [] = (refl, refl)
woken_quiet s (place ∷ places) = woken_quiet s places

-- a change of the clients is one of what is held
pub held_puts : {S W : Type 0} (name : S → ℕ) (old new : Clients S W) (c : ℕ) (x : Option (Client S W)) → Changes old new c x → Puts (held_at name old) (held_at name new) c (held_of name x)
held_puts name old new c x changes d = ap (held_of name) (changes d) ∙ held_if name (nat_eq c d) x (client_at old d)

pub held_same : {S W : Type 0} (name : S → ℕ) (old new : Clients S W) → Keeps old new → Same (held_at name old) (held_at name new)
held_same name old new keeps d = ap (held_of name) (keeps d)

-- what was held is put back as it was
pub put_same : {X : Type 0} (old new : ℕ → Option X) (c : ℕ) (one : Option X) → old c ≡ one → Puts old new c one → Same old new
put_same old new c one here puts d = puts d ∙ go (nat_eq c d) refl
  where
    go : (same : Bool) → nat_eq c d ≡ same → (if nat_eq c d then one else old d) ≡ old d
    go true e = rw e (sym here ∙ ap old (eqb-true c d e))
    go false e = rw e refl

or_more : (a b d : Option Stopped) → option_or (option_or a b) d ≡ option_or a (option_or b d)
or_more None b d = refl
or_more (Some it) b d = refl

pub or_nothing : (a : Option Stopped) → option_or a None ≡ a
or_nothing None = refl
or_nothing (Some it) = refl

pub end_in-append : (xs ys : List Work) → end_in (xs ++ ys) ≡ option_or (end_in xs) (end_in ys)
end_in-append [] ys = refl
end_in-append (work ∷ xs) ys = ap (λ (o : Option Stopped). option_or (end_by work) o) (end_in-append xs ys) ∙ sym (or_more (end_by work) (end_in xs) (end_in ys))

-- nothing ends hosting first
pub ends-then : (end : Option Stopped) (xs ys : List Work) → end_in xs ≡ None → EndsBy end ys → EndsBy end (xs ++ ys)
ends-then None xs ys x y = end_in-append xs ys ∙ rw (x, y) refl
ends-then (Some stopped) xs ys x y = (
  xs ++ y.0,
  y.1,
  ap (λ (l : List Work). xs ++ l) y.2 ∙ sym (append_assoc xs y.0 (y.1 ∷ [])),
  end_in-append xs y.0 ∙ rw (x, y.3) refl,
  y.4,
)

pub ends-one : (end : Option Stopped) (work : Work) → end_by work ≡ end → EndsBy end (work ∷ [])
ends-one None work is = or_nothing (end_by work) ∙ is
ends-one (Some stopped) work is = ([], work, refl, refl, is)

pub each-append : (May : Work → Type 0) (xs ys : List Work) → Each May xs → Each May ys → Each May (xs ++ ys)
each-append May [] ys x y = y
each-append May (work ∷ xs) ys x y = (x.0, each-append May xs ys x.1 y)

-- why hosting ends by a turn, and by turns, the last of them first
abbrev pub end_of_turn : Turned → Option Stopped
end_of_turn (Over ending) = end_with ending
end_of_turn other = None

abbrev pub EndAs : List Turned → List Work → Type 0
EndAs [] works = end_in works ≡ None
EndAs (turned ∷ before) works = steps.any_over before ≡ false → EndsBy (end_of_turn turned) works

none_ends : (turns : List Turned) (works : List Work) → steps.any_over turns ≡ false → EndAs turns works → end_in works ≡ None
none_ends [] works e end = end
none_ends (Over ending ∷ before) works e end = absurd (let clash : true ≡ false = e in cc)
none_ends (Wrote ∷ before) works e end = end e
none_ends (Took ∷ before) works e end = end e
none_ends (Fed ∷ before) works e end = end e
none_ends (Worked ∷ before) works e end = end e
none_ends (Waits ∷ before) works e end = end e

-- where something is to be written, not all was
sent_clash : {W : Type 0} (channel : Channel W) → IsSending channel → IsSent channel → ⊥
sent_clash channel sending sent = let none = ap length sent.none_at_hand in omega (arith, sending, none)

-- where all was written, no reply is worked on
not_worked : {W : Type 0} (channel : Channel W) → (IsWorking channel → ⊥) → is_working channel ≡ false
not_worked channel not = go (is_working channel) refl
  where
    go : (works : Bool) → is_working channel ≡ works → is_working channel ≡ false
    go true e = absurd (not e)
    go false e = e

-- nothing ends hosting once more
cause_goes : (cause : Option Ending) → IsLastEnding cause → end_of_cause cause ≡ None
cause_goes None may = refl
cause_goes (Some WriteFailed) may = refl
cause_goes (Some PeerEnded) may = absurd may
cause_goes (Some WeEnded) may = absurd may
cause_goes (Some ReadFailed) may = absurd may
cause_goes (Some (Refused fault)) may = absurd may
cause_goes (Some Unmade) may = absurd may

turn_goes : (turned : EntryTurned) → IsLastTurn turned → end_of_turned turned ≡ None
turn_goes entry.Wrote may = refl
turn_goes entry.Waits may = refl
turn_goes entry.Over may = refl
turn_goes entry.Took may = absurd may
turn_goes entry.Added may = absurd may
turn_goes (entry.Answered answer) may = absurd may
turn_goes (entry.Lost answer) may = absurd may
turn_goes (entry.Checked report) may = absurd may
turn_goes (entry.CheckLost report) may = absurd may
turn_goes (entry.StatusAnswered status) may = absurd may
turn_goes entry.StatusLost may = absurd may
turn_goes (entry.JournalBegun behind) may = absurd may
turn_goes entry.RowsRead may = absurd may
turn_goes (entry.RowsRefused fault) may = absurd may
turn_goes (entry.RowsLost fault) may = absurd may
turn_goes entry.Piece may = absurd may
turn_goes entry.PieceLost may = absurd may
turn_goes entry.Stops may = absurd may

pub closing_goes : (work : Work) → IsClosing work → end_by work ≡ None
closing_goes (wakes places) may = refl
closing_goes (opens s c) may = refl
closing_goes (acts s c act owing) may = refl
closing_goes (waits s c) may = refl
closing_goes (ends s c cause deeds said) may = cause_goes cause may
closing_goes (office_comes o k) may = refl
closing_goes (enters o k text turned deeds said) may = turn_goes turned may
closing_goes (office_leaves o k overdue) may = refl
closing_goes (aside deeds said) may = refl

-- the network told of the land office's socket, or not
woken_office : {J : Type 0} (k : ℕ) (at : AtOffice J) (places : List ℕ) (old new : Option Bool) → new ≡ told_flag (is_among (office_place k) places) old → standing_office at new ≡ office_after k (standing_office at old) (wakes places)
woken_office k None places old new is = go (is_among (office_place k) places)
  where
    go : (told : Bool) → absent ≡ (if told then absent else absent)
    go true = refl
    go false = refl
woken_office k (Some office) places None new is = rw is (go (is_among (office_place k) places))
  where
    go : (told : Bool) → absent ≡ (if told then absent else absent)
    go true = refl
    go false = refl
woken_office k (Some office) places (Some old) new is = rw is (go (is_among (office_place k) places) old)
  where
    go : (told was : Bool) → (if told || was then ready else waiting) ≡ (if told then woken (if was then ready else waiting) else (if was then ready else waiting))
    go true true = refl
    go true false = refl
    go false was = refl

module _ {R J W : Type 0} (g : Ghosts R) (jg : JournalGhosts R J) (owes : W → List ℕ) where
  pub goes-append : (xs ys : List Work) (a b d : Desk R) (p q r : Place J W) → Goes g jg owes a p xs b q → Goes g jg owes b q ys d r → Goes g jg owes a p (xs ++ ys) d r
  goes-append [] ys a b d p q r x y = subst (λ (h : Place J W). Goes g jg owes a h ys d r) x.1 (subst (λ (it : Desk R). Goes g jg owes it q ys d r) x.0 y)
  goes-append (work ∷ xs) ys a b d p q r x y = (x.0, x.1, x.2, goes-append xs ys x.0 b d x.1 q r x.3 y)

  pub hosts-nil : (May : Work → Type 0) (h : Option (List Deed)) (a : Desk R) (p : Place J W) → Hosts g jg owes May None h a p h a p
  hosts-nil May h a p = ([], Adds-nil h, refl, (refl, refl), tt)

  pub hosts-trans : (May : Work → Type 0) (first later : Option Stopped) (from mid to : Option (List Deed)) (a b d : Desk R) (p q r : Place J W)
      → Hosts g jg owes May first from a p mid b q → Hosts g jg owes May later mid b q to d r → Hosts g jg owes May (option_or first later) from a p to d r
  hosts-trans May first later from mid to a b d p q r x y = (
    x.0 ++ y.0,
    subst (λ (l : List Deed). Adds from to l) (sym (all_deeds-append x.0 y.0)) (Adds-trans from mid to (all_deeds x.0) (all_deeds y.0) x.1 y.1),
    end_in-append x.0 y.0 ∙ rw (x.2, y.2) refl,
    goes-append x.0 y.0 a b d p q r x.3 y.3,
    each-append May x.0 y.0 x.4 y.4,
  )

  -- where nothing ended hosting first
  pub hosts-then : (May : Work → Type 0) (later : Option Stopped) (from mid to : Option (List Deed)) (a b d : Desk R) (p q r : Place J W)
      → Hosts g jg owes May None from a p mid b q → Hosts g jg owes May later mid b q to d r → Hosts g jg owes May later from a p to d r
  hosts-then May later from mid to a b d p q r x y = hosts-trans May None later from mid to a b d p q r x y

  pub hosts-one : (May : Work → Type 0) (end : Option Stopped) (from to : Option (List Deed)) (a b : Desk R) (p q : Place J W) (work : Work)
      → Adds from to (deeds_of work) → end_by work ≡ end → Works g jg owes a p work b q → May work → Hosts g jg owes May end from a p to b q
  hosts-one May end from to a b p q work adds is works may =
      (work ∷ [], subst (λ (l : List Deed). Adds from to l) (sym (all_deeds-one work)) adds, or_nothing (end_by work) ∙ is, (b, q, works, (refl, refl)), (may, tt))

  -- the network told of some sockets
  pub hosts_woken : {S : Type 0} (peers next : Peers S W) (from to : Option (List Deed)) (a : Desk R) (p q : Place J W) → AddsSome from to (IsWoken peers next) → Same p.slots q.slots → Same p.offices q.offices
      → Hosts g jg owes IsClosing None from a p to a q
  hosts_woken peers next from to a p q told same office =
      hosts-one IsClosing None from to a a p q (wakes told.2.0) (subst (λ (l : List Deed). Adds from to l) told.2.1 told.1) refl (refl, same, office) tt

  pub serves_woken : {S : Type 0} (peers next : Peers S W) (at : AtOffices J) (from to : Option (List Deed)) (a : Desk R) (p q : Place J W) → AddsSome from to (IsWoken peers next) → Same p.slots q.slots → Same p.offices q.offices
      → Serves g jg owes (IsAsked (standings peers at) (standings next at)) None from a p to a q
  serves_woken peers next at from to a p q told same office = (
    wakes told.2.0 ∷ [],
    subst (λ (l : List Deed). Adds from to l) (told.2.1 ∙ sym (append-nil (map woke told.2.0))) told.1,
    refl,
    (a, q, (refl, same, office), (refl, refl)),
    (tt, tt),
    (
      told.2.0,
      refl,
      record { few = omega arith; stand = told.2.2.0; offices = λ k. woken_office k (at k) told.2.0 (flag_at peers.ready k) (flag_at next.ready k) (told.2.2.1 k); line = ap (λ (it : Line). it.numbers.items) told.2.2.2 },
    ),
  )

  -- nothing is done, but for what is not held
  pub hosts-same : (May : Work → Type 0) (from to : Option (List Deed)) (a : Desk R) (p q : Place J W) → May (aside [] None) → Adds from to [] → Same p.slots q.slots → Same p.offices q.offices → Hosts g jg owes May None from a p to a q
  hosts-same May from to a p q may adds same office = hosts-one May None from to a a p q (aside [] None) adds refl (tt, refl, same, inl refl, office) may

  -- the same where something holds of what is done
  pub serves-so : (P Q : List Work → Type 0) (end : Option Stopped) (from to : Option (List Deed)) (a b : Desk R) (p q : Place J W) → ((works : List Work) → P works → Q works) → Serves g jg owes P end from a p to b q → Serves g jg owes Q end from a p to b q
  serves-so P Q end from to a b p q so x = (x.0, x.1, x.2, x.3, x.4, so x.0 x.5)

  pub serves-nil : (P : List Work → Type 0) (h : Option (List Deed)) (a : Desk R) (p : Place J W) → P [] → Serves g jg owes P None h a p h a p
  serves-nil P h a p so = ([], Adds-nil h, refl, (refl, refl), tt, so)

  pub serves-then : (P Q T : List Work → Type 0) (later : Option Stopped) (from mid to : Option (List Deed)) (a b d : Desk R) (p q r : Place J W) → ((xs ys : List Work) → P xs → Q ys → T (xs ++ ys))
      → Serves g jg owes P None from a p mid b q → Serves g jg owes Q later mid b q to d r → Serves g jg owes T later from a p to d r
  serves-then P Q T later from mid to a b d p q r so x y = (
    x.0 ++ y.0,
    subst (λ (l : List Deed). Adds from to l) (sym (all_deeds-append x.0 y.0)) (Adds-trans from mid to (all_deeds x.0) (all_deeds y.0) x.1 y.1),
    ends-then later x.0 y.0 x.2 y.2,
    goes-append x.0 y.0 a b d p q r x.3 y.3,
    each-append IsServing x.0 y.0 x.4 y.4,
    so x.0 y.0 x.5 y.5,
  )

  pub serves-one : (P : List Work → Type 0) (end : Option Stopped) (from to : Option (List Deed)) (a b : Desk R) (p q : Place J W) (work : Work)
      → Adds from to (deeds_of work) → end_by work ≡ end → Works g jg owes a p work b q → IsServing work → P (work ∷ []) → Serves g jg owes P end from a p to b q
  serves-one P end from to a b p q work adds is works may so =
      (work ∷ [], subst (λ (l : List Deed). Adds from to l) (sym (all_deeds-one work)) adds, ends-one end work is, (b, q, works, (refl, refl)), (may, tt), so)

  pub serves-same : (P : List Work → Type 0) (from to : Option (List Deed)) (a : Desk R) (p q : Place J W) → Adds from to [] → Same p.slots q.slots → Same p.offices q.offices → P (aside [] None ∷ []) → Serves g jg owes P None from a p to a q
  serves-same P from to a p q adds same office so = serves-one P None from to a a p q (aside [] None) adds refl (tt, refl, same, inl refl, office) tt so

  -- what the desk is told at the end of connection c
  said_at_end : (c s : ℕ) (old new : Desk R) (channel : Channel W) (ending : Ending) (deeds : List Deed) → EndsSo g c s old channel ending new deeds
      → (said : Said) × IsOf c said × Tells g jg old said new × (IsSending channel → IsLastEnding (Some ending))
  said_at_end c s old new channel PeerEnded deeds e = (Some (event (Close c) e.2.0), refl, e.2.1, λ sending. sent_clash channel sending e.1.ready.sent)
  said_at_end c s old new channel WeEnded deeds e = (None, tt, e.3, λ sending. sent_clash channel sending e.1)
  said_at_end c s old new channel (Refused fault) deeds e =
      elim e.1.2 [
        | inl refused ↦ (Some (event (Bytes c refused.1.0) (Err fault)), refl, refused.1.4, λ sending. sent_clash channel sending e.0.sent)
        | inr none ↦ (Some (event (Close c) none.1.1.0), refl, none.1.1.1, λ sending. sent_clash channel sending e.0.sent)
      ]
  said_at_end c s old new channel Unmade deeds e = (Some (event (Close c) e.2.0), refl, e.2.1, λ sending. working_not_sending channel e.0 sending)
  said_at_end c s old new channel ReadFailed deeds e = (Some (event (Close c) e.2.0), refl, e.2.1, λ sending. sent_clash channel sending e.1.ready.sent)
  said_at_end c s old new channel WriteFailed deeds e = (Some (event (Close c) e.2.0), refl, e.2.1, λ sending. tt)

  module _ {S : Type 0} (name : S → ℕ) (c : ℕ) (office : AtOffices J) where
    -- what is written to it in the turn, and what is left to write
    abbrev WritesOn : Channel W → Channel W → Work → Type 0
    WritesOn channel after work = unsent owes channel ≡ written_by c work ++ unsent owes after

    -- an act that leaves this channel
    abbrev IsLeftBy : Channel W → Work → Type 0
    IsLeftBy after work = (s : ℕ) × (act : Act) × (work ≡ acts s c act (is_working after))

    abbrev IsKind : Turned → Channel W → Channel W → Work → Type 0
    IsKind Wrote channel after work = WritesOn channel after work × IsLeftBy after work
    IsKind Took channel after work = WritesOn channel after work × IsLeftBy after work
    IsKind Fed channel after work = (s : ℕ) × (piece : Vec ℕ) × (out : List ℕ) × (over : Bool) × (work ≡ acts s c (fed piece out over) (is_working after)) × (unsent owes after ≡ out)
    IsKind Worked channel after work = WritesOn channel after work × IsLeftBy after work
    IsKind Waits channel after work = (is_wait_of c work ≡ true) × WritesOn channel after work × (is_working after ≡ false)
    IsKind (Over ending) channel after work = is_end_of c work ≡ true

    -- a turn of this channel is one thing
    abbrev IsOneWork : Turned → Desk R → Clients S W → Channel W → Option Stopped → Desk R → Clients S W → Channel W → List Deed → Type 0
    IsOneWork turned old clients channel end new next after deeds =
        (work : Work) × (deeds ≡ deeds_of work) × Works g jg owes old (place_of name clients office) work new (place_of name next office) × (end_by work ≡ end) × IsServing work × (IsSending channel → IsClosing work)
        × ((d : ℕ) → is_turn_of d work ≡ nat_eq c d) × ((d : ℕ) → standing_at next d ≡ stands_after d (standing_at clients d) work) × ((k : ℕ) (it : Standing) → office_after k it work ≡ it) × IsKind turned channel after work
        × (pieces_of c (work ∷ []) ≡ worked_by turned)

    -- how the connections stand after a change of this one
    changed_stands : (clients next : Clients S W) (one : Option (Client S W)) (it : Standing) → Changes clients next c one → standing_of one ≡ it → (d : ℕ) → standing_at next d ≡ (if nat_eq c d then it else standing_at clients d)
    changed_stands clients next one it changes is d = ap (λ (o : Option (Client S W)). standing_of o) (changes d) ∙ go (nat_eq c d)
      where
        go : (same : Bool) → standing_of (if same then one else client_at clients d) ≡ (if same then it else standing_at clients d)
        go true = is
        go false = refl

    acts_stand : (client : Client S W) → client.is_ready ≡ true → standing_of (Some client) ≡ (if is_working client.channel then working else ready)
    acts_stand client is = rw is refl

    may_stand : (client : Client S W) → client.is_ready ≡ true → is_working client.channel ≡ false → standing_of (Some client) ≡ ready
    may_stand client is not = rw (not, is) refl

    waits_stand : (client : Client S W) → client.is_ready ≡ false → is_working client.channel ≡ false → standing_of (Some client) ≡ waiting
    waits_stand client is not = rw (not, is) refl

    acted : (turned : Turned) (act : Act) (old new : Desk R) (clients next : Clients S W) (client after : Client S W) (deeds : List Deed) → client_at clients c ≡ Some client → after.socket ≡ client.socket
        → deeds ≡ deeds_in (name client.socket) act → Does g owes c old client.channel act new after.channel → Changes clients next c (Some after) → (IsSending client.channel → IsLastAct act) → after.is_ready ≡ true
        → IsKind turned client.channel after.channel (acts (name client.socket) c act (is_working after.channel)) → pieces_of c (acts (name client.socket) c act (is_working after.channel) ∷ []) ≡ worked_by turned
        → IsOneWork turned old clients client.channel None new next after.channel deeds
    acted turned act old new clients next client after deeds at socket are does changes last is kind pieces = (
      acts (name client.socket) c act (is_working after.channel),
      are,
      (
        client.channel,
        after.channel,
        ap (held_of name) at,
        does,
        subst (λ (s : ℕ). Puts (held_at name clients) (held_at name next) c (Some (s, after.channel))) (ap name socket) (held_puts name clients next c (Some after) changes),
        (λ k. refl),
        refl,
      ),
      refl,
      tt,
      last,
      (λ d. refl),
      changed_stands clients next (Some after) (if is_working after.channel then working else ready) changes (acts_stand after is),
      (λ k it. refl),
      kind,
      pieces,
    )

    own_written : (act : Act) (s : ℕ) (owing : Bool) (channel after : Channel W) → unsent owes channel ≡ written_in act ++ unsent owes after → WritesOn channel after (acts s c act owing)
    own_written act s owing channel after e = rw (eq-eqb c c refl) e

    one_piece : (s : ℕ) (owing : Bool) → pieces_of c (acts s c worked owing ∷ []) ≡ 1
    one_piece s owing = rw (eq-eqb c c refl) (omega arith)

    -- how a connection that is over was worked on, or not
    end_pieces : (ending : Ending) (s : ℕ) (deeds : List Deed) (said : Said) → pieces_of c (ends s c (Some ending) deeds said ∷ []) ≡ worked_by (Over ending)
    end_pieces PeerEnded s deeds said = omega arith
    end_pieces WeEnded s deeds said = omega arith
    end_pieces (Refused fault) s deeds said = omega arith
    end_pieces Unmade s deeds said = rw (eq-eqb c c refl) (omega arith)
    end_pieces ReadFailed s deeds said = omega arith
    end_pieces WriteFailed s deeds said = omega arith

    turn_works : (now : ℕ) (budget : Budget) (turned : Turned) (old new : Desk R) (clients next : Clients S W) (deeds : List Deed) → (t : steps.HasTurn g owes name c now budget old clients (Some turned) new next deeds)
        → IsOneWork turned old clients t.0.channel (end_of_turn turned) new next t.1.channel deeds
    turn_works now budget Wrote old new clients next deeds t =
        acted Wrote (wrote t.5.0) old new clients next t.0 t.1 deeds t.3 t.4 (t.6 ∙ (append-nil t.2 ∙ t.5.1)) t.5.4 t.8 (λ sending. tt) (ap (λ (n : notes.Notes). n.is_ready) t.7)
        (own_written (wrote t.5.0) (name t.0.socket) (is_working t.1.channel) t.0.channel t.1.channel t.5.4.0, (name t.0.socket, wrote t.5.0, refl)) (omega arith)
    turn_works now budget Took old new clients next deeds t =
        acted Took (took t.5.0) old new clients next t.0 t.1 deeds t.3 t.4 (t.6 ∙ (append-nil t.2 ∙ t.5.1)) t.5.2 t.8 (λ sending. sent_clash t.0.channel sending t.5.2.0.ready.sent) (ap (λ (n : notes.Notes). n.is_ready) t.7)
        (own_written (took t.5.0) (name t.0.socket) (is_working t.1.channel) t.0.channel t.1.channel (all_sent owes t.0.channel t.5.2.0.ready.sent ∙ sym (all_sent owes t.1.channel t.5.2.3.sent)), (name t.0.socket, took t.5.0, refl)) (omega arith)
    turn_works now budget Fed old new clients next deeds t =
        let d = t.5.1 in
        acted Fed (fed d.0 d.1 d.2) old new clients next t.0 t.1 deeds t.3 t.4 (t.6 ∙ (append-nil t.2 ∙ t.5.0)) d.3 t.8 (λ sending. sent_clash t.0.channel sending d.3.0.sent) (ap (λ (n : notes.Notes). n.is_ready) t.7)
        (name t.0.socket, d.0, d.1, d.2, refl, d.3.3) (omega arith)
    turn_works now budget Worked old new clients next deeds t =
        acted Worked worked old new clients next t.0 t.1 deeds t.3 t.4 (t.6 ∙ (append-nil t.2 ∙ t.5.0)) t.5.2 t.8 (λ sending. working_not_sending t.0.channel t.5.1 sending) (ap (λ (n : notes.Notes). n.is_ready) t.7)
        (own_written worked (name t.0.socket) (is_working t.1.channel) t.0.channel t.1.channel (sym t.5.2.0), (name t.0.socket, worked, refl)) (one_piece (name t.0.socket) (is_working t.1.channel))
    turn_works now budget Waits old new clients next deeds t =
        let puts = subst (λ (s : ℕ). Puts (held_at name clients) (held_at name next) c (Some (s, t.1.channel))) (ap name t.4) (held_puts name clients next c (Some t.1) t.8) in
        let here : held_at name clients c ≡ Some (name t.0.socket, t.1.channel) = ap (held_of name) t.3 ∙ ap (λ (it : Channel W). Some (name t.0.socket, it)) (sym t.5.3) in
        let same = put_same (held_at name clients) (held_at name next) c (Some (name t.0.socket, t.1.channel)) here puts in
        let not : is_working t.1.channel ≡ false = ap (λ (it : Channel W). is_working it) t.5.3 ∙ not_worked t.0.channel (λ still. working_not_waiting t.0.channel still t.5.1) in
        (waits (name t.0.socket) c, t.6 ∙ (append-nil t.2 ∙ t.5.0), (t.0.channel, ap (held_of name) t.3, t.5.1, t.5.2, same, λ k. refl), refl, tt, (λ sending. tt), (λ d. refl), changed_stands clients next (Some t.1) waiting t.8 (waits_stand t.1 (ap (λ (n : notes.Notes). n.is_ready) t.7) not), (λ k it. refl), (eq-eqb c c refl, ap (λ (it : Channel W). unsent owes it) (sym t.5.3), not), omega arith)
    turn_works now budget (Over ending) old new clients next deeds t =
        let said = said_at_end c (name t.0.socket) old new t.0.channel ending t.2 t.5 in
        (ends (name t.0.socket) c (Some ending) deeds said.0, refl, (t.0.channel, ap (held_of name) t.3, (t.2, t.6, t.5), said.1, said.2, held_puts name clients next c None t.8, λ k. refl), refl, tt, said.3, (λ d. refl), changed_stands clients next None absent t.8 refl, (λ k it. refl), eq-eqb c c refl, end_pieces ending (name t.0.socket) deeds said.0)

    -- the desk took a piece in these works, and this of what it sent is left to write
    record HasFed (next : Clients S W) (works : List Work) : Type 0 where
      before : List Work
      later : List Work
      s : ℕ
      piece : Vec ℕ
      out : List ℕ
      over : Bool
      owing : Bool
      all : works ≡ before ++ acts s c (fed piece out over) owing ∷ later
      remains : (client : Client S W) → client_at next c ≡ Some client → out ≡ written_to c later ++ unsent owes client.channel

    -- the last of these works leaves a reply to be worked on
    abbrev IsLeftWorking : List Work → Type 0
    IsLeftWorking works = (before : List Work) × (s : ℕ) × (act : Act) × (works ≡ before ++ acts s c act true ∷ [])

    -- the works of these turns
    record AreTurns (clients next : Clients S W) (turns : List Turned) (works : List Work) : Type 0 where
      count : length works ≡ length turns
      stand : (d : ℕ) → standing_at next d ≡ stands_in d (standing_at clients d) works
      kept_office : (k : ℕ) (it : Standing) → office_in k it works ≡ it
      others : (d : ℕ) → nat_eq c d ≡ false → standing_at next d ≡ standing_at clients d
      line : (base : List ℕ) → is_among c base ≡ false → is_worked_on (standing_at clients c) ≡ false → line_in base works ≡ joined c (standing_at next c) base
      turn : (turns ≡ []) ⊎ (has_turn c works ≡ true)
      alone : (d : ℕ) → nat_eq c d ≡ false → has_turn d works ≡ false
      many : turns_of c works ≡ length turns
      pieces : pieces_of c works ≡ steps.worked_in turns
      leaves : (turned : Turned) (before : List Turned) → turns ≡ turned ∷ before → (client : Client S W) → client_at next c ≡ Some client → IsWorking client.channel → IsLeftWorking works
      waited : (before : List Turned) → turns ≡ Waits ∷ before → any_of (is_wait_of c) works ≡ true
      ended : (ending : Ending) (before : List Turned) → turns ≡ Over ending ∷ before → any_of (is_end_of c) works ≡ true
      fed_some : (steps.fed_in turns ≡ 0) ⊎ HasFed next works
      here : (turned : Turned) (before : List Turned) → turns ≡ turned ∷ before → steps.is_over turned ≡ false → (client : Client S W) × (client_at next c ≡ Some client)

    others_stand : (clients next : Clients S W) (one : Option (Client S W)) → Changes clients next c one → (d : ℕ) → nat_eq c d ≡ false → standing_at next d ≡ standing_at clients d
    others_stand clients next one changes d other = let same : client_at next d ≡ client_at clients d = changes d ∙ rw other refl in ap (λ (o : Option (Client S W)). standing_of o) same

    put_here : (clients next : Clients S W) (one : Option (Client S W)) → Changes clients next c one → client_at next c ≡ one
    put_here clients next one changes = changes c ∙ rw (eq-eqb c c refl) refl

    same_client : (one other : Client S W) (o : Option (Client S W)) → o ≡ Some one → o ≡ Some other → one ≡ other
    same_client one other o x y = let both : Some one ≡ Some other = sym x ∙ y in cc

    no_client : (one : Client S W) (o : Option (Client S W)) → o ≡ None → o ≡ Some one → ⊥
    no_client one o x y = let both : ◌≡◌ {A = Option (Client S W)} None (Some one) = sym x ∙ y in cc

    last_turn : (turned it : Turned) (before rest : List Turned) → turned ∷ before ≡ it ∷ rest → turned ≡ it
    last_turn turned it before rest e = cc

    -- one more turn at which more is written of what the desk sent
    fed_on : (clients next : Clients S W) (client after : Client S W) (works : List Work) (work : Work) → client_at clients c ≡ Some client → Changes clients next c (Some after) → WritesOn client.channel after.channel work
        → HasFed clients works → HasFed next (works ++ work ∷ [])
    fed_on clients next client after works work at changes writes h = record {
      before = h.before;
      later = h.later ++ work ∷ [];
      s = h.s;
      piece = h.piece;
      out = h.out;
      over = h.over;
      owing = h.owing;
      all = ap (λ (l : List Work). l ++ work ∷ []) h.all ∙ append_assoc h.before (acts h.s c (fed h.piece h.out h.over) h.owing ∷ h.later) (work ∷ []);
      remains = λ it here.
          let same = same_client after it (client_at next c) (put_here clients next (Some after) changes) here in
          let more : written_to c (h.later ++ work ∷ []) ≡ written_to c h.later ++ written_by c work = written_to-append c h.later (work ∷ []) ∙ ap (λ (l : List ℕ). written_to c h.later ++ l) (append-nil (written_by c work)) in
          subst (λ (one : Client S W). h.out ≡ written_to c (h.later ++ work ∷ []) ++ unsent owes one.channel) same
          (h.remains client at ∙ (ap (λ (l : List ℕ). written_to c h.later ++ l) writes ∙ (sym (append_assoc (written_to c h.later) (written_by c work) (unsent owes after.channel)) ∙ ap (λ (l : List ℕ). l ++ unsent owes after.channel) (sym more))));
    }

    fed_now : (clients next : Clients S W) (after : Client S W) (works : List Work) (s : ℕ) (piece : Vec ℕ) (out : List ℕ) (over owing : Bool) → Changes clients next c (Some after) → unsent owes after.channel ≡ out
        → HasFed next (works ++ acts s c (fed piece out over) owing ∷ [])
    fed_now clients next after works s piece out over owing changes sent = record {
      before = works;
      later = [];
      s = s;
      piece = piece;
      out = out;
      over = over;
      owing = owing;
      all = refl;
      remains = λ it here.
          let same = same_client after it (client_at next c) (put_here clients next (Some after) changes) here in
          subst (λ (one : Client S W). out ≡ unsent owes one.channel) same (sym sent);
    }

    fed_over : (clients next : Clients S W) (works : List Work) (work : Work) → Changes clients next c None → HasFed clients works → HasFed next (works ++ work ∷ [])
    fed_over clients next works work changes h = record {
      before = h.before;
      later = h.later ++ work ∷ [];
      s = h.s;
      piece = h.piece;
      out = h.out;
      over = h.over;
      owing = h.owing;
      all = ap (λ (l : List Work). l ++ work ∷ []) h.all ∙ append_assoc h.before (acts h.s c (fed h.piece h.out h.over) h.owing ∷ h.later) (work ∷ []);
      remains = λ it here. absurd (no_client it (client_at next c) (put_here clients next None changes) here);
    }

    fed_more : (turned : Turned) (before : List Turned) (clients next : Clients S W) (client after : Client S W) (works : List Work) (work : Work) → client_at clients c ≡ Some client → Changes clients next c (steps.left_after turned after)
        → IsKind turned client.channel after.channel work → (steps.fed_in before ≡ 0) ⊎ HasFed clients works → (steps.fed_in (turned ∷ before) ≡ 0) ⊎ HasFed next (works ++ work ∷ [])
    fed_more Wrote before clients next client after works work at changes kind was = elim was [
      | inl none ↦ inl (omega (arith, none))
      | inr some ↦ inr (fed_on clients next client after works work at changes kind.0 some)
    ]
    fed_more Took before clients next client after works work at changes kind was = elim was [
      | inl none ↦ inl (omega (arith, none))
      | inr some ↦ inr (fed_on clients next client after works work at changes kind.0 some)
    ]
    fed_more Fed before clients next client after works work at changes kind was =
        inr (subst (λ (it : Work). HasFed next (works ++ it ∷ [])) (sym kind.4) (fed_now clients next after works kind.0 kind.1 kind.2 kind.3 (is_working after.channel) changes kind.5))
    fed_more Worked before clients next client after works work at changes kind was = elim was [
      | inl none ↦ inl (omega (arith, none))
      | inr some ↦ inr (fed_on clients next client after works work at changes kind.0 some)
    ]
    fed_more Waits before clients next client after works work at changes kind was = elim was [
      | inl none ↦ inl (omega (arith, none))
      | inr some ↦ inr (fed_on clients next client after works work at changes kind.1 some)
    ]
    fed_more (Over ending) before clients next client after works work at changes kind was = elim was [
      | inl none ↦ inl (omega (arith, none))
      | inr some ↦ inr (fed_over clients next works work changes some)
    ]

    kind_waits : (turned : Turned) (channel after : Channel W) (work : Work) → IsKind turned channel after work → turned ≡ Waits → is_wait_of c work ≡ true
    kind_waits turned channel after work kind is = (subst (λ (it : Turned). IsKind it channel after work) is kind).0

    kind_ends : (turned : Turned) (ending : Ending) (channel after : Channel W) (work : Work) → IsKind turned channel after work → turned ≡ Over ending → is_end_of c work ≡ true
    kind_ends turned ending channel after work kind is = subst (λ (it : Turned). IsKind it channel after work) is kind

    -- the last turn leaves a reply to be worked on, where one is to be worked on then
    left_works : (turned : Turned) (channel after : Channel W) (works : List Work) (work : Work) → IsKind turned channel after work → steps.is_over turned ≡ false → IsWorking after → IsLeftWorking (works ++ work ∷ [])
    left_works turned channel after works work kind goes still = go turned kind goes
      where
        by_act : (s : ℕ) (act : Act) → work ≡ acts s c act (is_working after) → IsLeftWorking (works ++ work ∷ [])
        by_act s act is = (works, s, act, ap (λ (it : Work). works ++ it ∷ []) (is ∙ ap (λ (b : Bool). acts s c act b) still))

        go : (turned : Turned) → IsKind turned channel after work → steps.is_over turned ≡ false → IsLeftWorking (works ++ work ∷ [])
        go Wrote kind goes = by_act kind.1.0 kind.1.1 kind.1.2
        go Took kind goes = by_act kind.1.0 kind.1.1 kind.1.2
        go Fed kind goes = by_act kind.0 (fed kind.1 kind.2 kind.3) kind.4
        go Worked kind goes = by_act kind.1.0 kind.1.1 kind.1.2
        go Waits kind goes = absurd (let clash : true ≡ false = sym still ∙ kind.2 in cc)
        go (Over ending) kind goes = absurd (let clash : true ≡ false = goes in cc)

    worked_more : (turned : Turned) (before : List Turned) (works : List Work) (work : Work) → pieces_of c works ≡ steps.worked_in before → pieces_of c (work ∷ []) ≡ worked_by turned → pieces_of c (works ++ work ∷ []) ≡ worked_by turned + steps.worked_in before
    worked_more turned before works work were is = let sum = pieces_of-append c works (work ∷ []) in omega (arith, sum, were, is)

    no_over : (turned : Turned) (client after : Client S W) (next : Clients S W) → client_at next c ≡ steps.left_after turned after → client_at next c ≡ Some client → (steps.is_over turned ≡ false) × (client ≡ after)
    no_over turned client after next is at = go (steps.is_over turned) refl
      where
        go : (over : Bool) → steps.is_over turned ≡ over → (steps.is_over turned ≡ false) × (client ≡ after)
        go true e = absurd (no_client client (client_at next c) (is ∙ rw e refl) at)
        go false e = (e, same_client client after (client_at next c) at (is ∙ rw e refl))

    one_more : (n m : ℕ) (is : Bool) → is ≡ true → n ≡ m → n + ((if is then 1 else 0) + 0) ≡ m + 1
    one_more n m true is e = omega (arith, e)
    one_more n m false is e = absurd (let clash : false ≡ true = is in cc)

    turns_more : (turned : Turned) (before : List Turned) (clients mid next : Clients S W) (client after : Client S W) (works : List Work) (work : Work) → AreTurns clients mid before works → client_at mid c ≡ Some client
        → Changes mid next c (steps.left_after turned after) → ((d : ℕ) → is_turn_of d work ≡ nat_eq c d) → ((d : ℕ) → standing_at next d ≡ stands_after d (standing_at mid d) work) → ((k : ℕ) (it : Standing) → office_after k it work ≡ it)
        → IsKind turned client.channel after.channel work → pieces_of c (work ∷ []) ≡ worked_by turned → AreTurns clients next (turned ∷ before) (works ++ work ∷ [])
    turns_more turned before clients mid next client after works work are at changes whose stands rests kind pieces =
        let is = whose c ∙ eq-eqb c c refl in
        let count = are.count in
        let all = length-append works (work ∷ []) in
        let many = are.many in
        let sum = turns_of-append c works (work ∷ []) ∙ one_more (turns_of c works) (length before) (is_turn_of c work) is many in
        record {
          count = omega (arith, count, all);
          stand = λ d. stands d ∙ (ap (λ (it : Standing). stands_after d it work) (are.stand d) ∙ sym (stands_in-append d (standing_at clients d) works (work ∷ [])));
          kept_office = λ k it. office_in-append k it works (work ∷ []) ∙ (rests k (office_in k it works) ∙ are.kept_office k it);
          others = λ d other. others_stand mid next (steps.left_after turned after) changes d other ∙ are.others d other;
          alone = λ d other. any_none (is_turn_of d) works (work ∷ []) (are.alone d other) (none_of (is_turn_of d) work (whose d ∙ other));
          turn = inr (any_right (is_turn_of c) works (work ∷ []) (one_of (is_turn_of c) work is));
          line = λ base out start.
              line_in-append base works (work ∷ []) ∙ (ap (λ (l : List ℕ). line_after l work) (are.line base out start)
              ∙ (line_step c base out (standing_at mid c) work is ∙ ap (λ (it : Standing). joined c it base) (sym (stands c))));
          many = omega (arith, sum);
          pieces = worked_more turned before works work are.pieces pieces;
          leaves = λ it rest e one here still.
              let both = no_over turned one after next (put_here mid next (steps.left_after turned after) changes) here in
              left_works turned client.channel after.channel works work kind both.0 (subst (λ (one : Client S W). IsWorking one.channel) both.1 still);
          waited = λ rest e. any_right (is_wait_of c) works (work ∷ []) (one_of (is_wait_of c) work (kind_waits turned client.channel after.channel work kind (last_turn turned Waits before rest e)));
          ended = λ ending rest e. any_right (is_end_of c) works (work ∷ []) (one_of (is_end_of c) work (kind_ends turned ending client.channel after.channel work kind (last_turn turned (Over ending) before rest e)));
          fed_some = fed_more turned before mid next client after works work at changes kind are.fed_some;
          here = λ it rest e goes.
              let over : steps.is_over turned ≡ false = ap steps.is_over (last_turn turned it before rest e) ∙ goes in
              (after, put_here mid next (steps.left_after turned after) changes ∙ rw over refl);
        }

    turns_none : (clients next : Clients S W) → next ≡ clients → AreTurns clients next [] []
    turns_none clients next same = subst (λ (it : Clients S W). AreTurns clients it [] []) (sym same) (record {
      count = refl;
      stand = λ d. refl;
      kept_office = λ k it. refl;
      others = λ d other. refl;
      line = λ base out start. sym (joined_none c base out (standing_at clients c) start);
      turn = inl refl;
      alone = λ d other. refl;
      many = refl;
      pieces = refl;
      leaves = λ turned before e client at still. absurd (let clash : ◌≡◌ {A = List Turned} [] (turned ∷ before) = e in cc);
      waited = λ before e. (let clash : ◌≡◌ {A = List Turned} [] (Waits ∷ before) = e in cc);
      ended = λ ending before e. (let clash : ◌≡◌ {A = List Turned} [] (Over ending ∷ before) = e in cc);
      fed_some = inl refl;
      here = λ turned before e goes. (let clash : ◌≡◌ {A = List Turned} [] (turned ∷ before) = e in cc);
    })

    turns_go : (now : ℕ) (turns : List Turned) (old new : Desk R) (clients next : Clients S W) (deeds : List Deed) → steps.HasTurns g owes name c now old clients turns new next deeds
        → (works : List Work) × (deeds ≡ all_deeds works) × EndAs turns works × Goes g jg owes old (place_of name clients office) works new (place_of name next office) × Each IsServing works × AreTurns clients next turns works
    turns_go now [] old new clients next deeds t = ([], t.0, refl, (t.1, ap (λ (it : Clients S W). place_of name it office) t.2), tt, turns_none clients next t.2)
    turns_go now (turned ∷ before) old new clients next deeds t =
        let first = turns_go now before old t.0 clients t.1 t.2 t.4 in
        let last = turn_works now First turned t.0 new t.1 next t.3 t.5 in (
          first.0 ++ last.0 ∷ [],
          t.6 ∙ (ap (λ (l : List Deed). l ++ t.3) first.1 ∙ (ap (λ (l : List Deed). all_deeds first.0 ++ l) (last.1 ∙ sym (all_deeds-one last.0)) ∙ sym (all_deeds-append first.0 (last.0 ∷ [])))),
          (λ none. ends-then (end_of_turn turned) first.0 (last.0 ∷ []) (none_ends before first.0 none first.2) (ends-one (end_of_turn turned) last.0 last.3)),
          goes-append first.0 (last.0 ∷ []) old t.0 new (place_of name clients office) (place_of name t.1 office) (place_of name next office) first.3 (new, place_of name next office, last.2, (refl, refl)),
          each-append IsServing first.0 (last.0 ∷ []) first.4 (last.4, tt),
          turns_more turned before clients t.1 next t.5.0 t.5.1 first.0 last.0 first.5 t.5.3 t.5.8 last.6 last.7 last.8 last.9 last.10,
        )

    -- how all stand, where the land office's sockets may give or take something, or not
    abbrev all_at : (ℕ → Option Bool) → Clients S W → List ℕ → Standings
    all_at flag clients line = standings_of clients office flag line

    -- the line after turns of this connection, as the code keeps it
    abbrev line_then : Clients S W → List ℕ → List ℕ
    line_then next line = settled c (is_worked_on (standing_at next c)) line

    -- this connection may go on, and is not in the line
    record MayBegin (clients : Clients S W) (line : List ℕ) : Type 0 where
      may : standing_at clients c ≡ ready
      out : is_among c line ≡ false

    turns_paced : (flag : ℕ → Option Bool) (clients next : Clients S W) (line : List ℕ) (turns : List Turned) (works : List Work) → MayBegin clients line → length turns ≤ 4 → AreTurns clients next turns works
        → IsPaced 4 (all_at flag clients line) (all_at flag next (line_then next line)) works
    turns_paced flag clients next line turns works begins most are =
        let count = are.count in
        record {
          few = omega (arith, count, most);
          stand = are.stand;
          offices = λ k. sym (are.kept_office k (standing_office (office k) (flag k)));
          line = settled_joined c line begins.out (standing_at next c) ∙ sym (are.line line begins.out (ap is_worked_on begins.may));
        }

    -- it has its turns, and all others stand as they did
    turns_given : (flag : ℕ → Option Bool) (clients next : Clients S W) (line : List ℕ) (turns : List Turned) (works : List Work) → MayBegin clients line → length turns ≤ 4 → steps.worked_in turns ≤ 1 → AreTurns clients next turns works → HasEnough c works
        → GivesTurnAlone c 4 (all_at flag clients line) (all_at flag next (line_then next line)) works
    turns_given flag clients next line turns works begins most once are enough = record {
      gives = record {
        passes = record {
          paced = turns_paced flag clients next line turns works begins most are;
          kept = λ d is. go d is (nat_eq c d) refl;
          kept_office = λ k is. inr is;
        };
        turn = λ is. enough;
      };
      alone = are.alone;
      pieces = let count = are.pieces in omega (arith, count, once);
    }
      where
        go : (d : ℕ) → standing_at clients d ≡ ready → (same : Bool) → nat_eq c d ≡ same → HasEnough d works ⊎ (standing_at next d ≡ ready)
        go d is true e = inl (subst (λ (n : ℕ). HasEnough n works) (eqb-true c d e) enough)
        go d is false e = inr (are.others d e ∙ is)

    none_left : {A : Type 0} (xs : List A) → (0 < length xs → ⊥) → xs ≡ []
    none_left [] not = refl
    none_left (x ∷ xs) not = absurd (not (omega arith))

    -- nothing is owed
    none_sent : (client : Client S W) → (notes.IsOwing client → ⊥) → unsent owes client.channel ≡ []
    none_sent client not =
        all_sent owes client.channel (record {
          none_at_hand = none_left (at_hand client.channel) (λ some. not (inl some));
          none_owed = none_left client.channel.parts.items (λ some. not (inr some));
        })

    some_turn : (turns : List Turned) → (turns ≡ [] → ⊥) → (turned : Turned) × (before : List Turned) × (turns ≡ turned ∷ before)
    some_turn [] not = absurd (not refl)
    some_turn (turned ∷ before) not = (turned, before, refl)

    one_turn : (turns : List Turned) → steps.fed_in turns ≡ 1 → turns ≡ [] → ⊥
    one_turn turns one none = let no_piece = ap steps.fed_in none in omega (arith, one, no_piece)

    worked_turn : (turns : List Turned) → steps.worked_in turns ≡ 1 → turns ≡ [] → ⊥
    worked_turn turns one none = let no_piece = ap steps.worked_in none in omega (arith, one, no_piece)

    four_turns : (turns : List Turned) → length turns ≡ 4 → turns ≡ [] → ⊥
    four_turns turns four none = let count = ap (λ (l : List Turned). length l) none in omega (arith, count, four)

    first_goes : (turned : Turned) (before turns : List Turned) → turns ≡ turned ∷ before → steps.any_over turns ≡ false → steps.is_over turned ≡ false
    first_goes turned before turns e none = (or_none (steps.is_over turned) (steps.any_over before) (sym (ap steps.any_over e) ∙ none)).0

    had_turn : (clients next : Clients S W) (turns : List Turned) (works : List Work) → (turns ≡ [] → ⊥) → AreTurns clients next turns works → has_turn c works ≡ true
    had_turn clients next turns works some are = elim are.turn [
      | inl none ↦ absurd (some none)
      | inr has ↦ has
    ]

    -- the reply to a piece went out
    replied : (clients next : Clients S W) (turns : List Turned) (works : List Work) → steps.any_over turns ≡ false → AreTurns clients next turns works → steps.fed_in turns ≡ 1 → (IsSomeAnd (client_at next c) notes.IsOwing → ⊥) → Replies c works
    replied clients next turns works none are one not = elim are.fed_some [
      | inl zero_fed ↦ absurd (omega (arith, zero_fed, one))
      | inr h ↦
          let some = some_turn turns (one_turn turns one) in
          let here = are.here some.0 some.1 some.2 (first_goes some.0 some.1 turns some.2 none) in
          let idle = none_sent here.0 (λ owing. not (subst (λ (o : Option (Client S W)). IsSomeAnd o notes.IsOwing) (sym here.1) owing)) in
          let all = h.remains here.0 here.1 ∙ (ap (λ (l : List ℕ). written_to c h.later ++ l) idle ∙ append-nil (written_to c h.later)) in
          record {
            before = h.before;
            later = h.later;
            s = h.s;
            piece = h.piece;
            out = h.out;
            over = h.over;
            owing = h.owing;
            more = [];
            all = h.all;
            written = sym all ∙ sym (append-nil h.out);
          }
    ]

    -- a reply was worked on, and one is to be worked on still
    worked_on : (clients next : Clients S W) (turns : List Turned) (works : List Work) → steps.any_over turns ≡ false → AreTurns clients next turns works → steps.worked_in turns ≡ 1 → IsSomeAnd (client_at next c) notes.IsWorking → WorksOn c works
    worked_on clients next turns works none are one still =
        let some = some_turn turns (worked_turn turns one) in
        let here = are.here some.0 some.1 some.2 (first_goes some.0 some.1 turns some.2 none) in
        let last = are.leaves some.0 some.1 some.2 here.0 here.1 (subst (λ (o : Option (Client S W)). IsSomeAnd o notes.IsWorking) here.1 still) in
        let count = are.pieces in
        let once : 1 ≤ pieces_of c works = omega (arith, count, one) in
        record {
          before = last.0;
          later = [];
          s = last.1;
          act = last.2;
          all = last.3 ∙ sym (append-nil (last.0 ++ acts last.1 c last.2 true ∷ []));
          piece = subst (λ (l : List Work). 1 ≤ pieces_of c l) last.3 once;
        }

    -- it had its turns, and has no more for now
    gave_enough : (clients next : Clients S W) (turns : List Turned) (works : List Work) → steps.any_over turns ≡ false → steps.IsEnough c turns next → AreTurns clients next turns works → HasEnough c works
    gave_enough clients next turns works none enough are = elim enough [
      | inl rests ↦
          let some : (turns ≡ [] → ⊥) = (λ nil. (let clash : ◌≡◌ {A = List Turned} [] (Waits ∷ rests.0) = sym nil ∙ rests.1 in cc)) in
          record { turn = had_turn clients next turns works some are; enough = inr (inl (are.waited rests.0 rests.1)) }
      | inr more ↦
          elim more [
            | inl one ↦ record { turn = had_turn clients next turns works (one_turn turns one.0) are; enough = inr (inr (inl (replied clients next turns works none are one.0 one.1))) }
            | inr most ↦
                elim most [
                  | inl did ↦ record { turn = had_turn clients next turns works (worked_turn turns did.0) are; enough = inr (inr (inr (inl (worked_on clients next turns works none are did.0 did.1)))) }
                  | inr four ↦
                      let many = are.many in
                      record { turn = had_turn clients next turns works (four_turns turns four) are; enough = inr (inr (inr (inr (omega (arith, many, four))))) }
                ]
          ]
    ]

    -- a connection that may go on was served
    pub served_hosts : (flag : ℕ → Option Bool) (line : List ℕ) (now : ℕ) (served : Served) (from to : Option (List Deed)) (old new : Desk R) (clients next : Clients S W) → standing_at clients c ≡ ready → is_among c line ≡ false
        → AddsSome from to (steps.IsServed g owes name c now old clients served new next) → Serves g jg owes (GivesTurnAlone c 4 (all_at flag clients line) (all_at flag next (line_then next line))) (end_of_client served) from old (place_of name clients office) to new (place_of name next office)
    served_hosts flag line now Stays from to old new clients next may out s =
        let go = turns_go now s.2.0 old new clients next s.0 s.2.1 in (
          go.0,
          subst (λ (l : List Deed). Adds from to l) go.1 s.1,
          none_ends s.2.0 go.0 s.2.5 go.2,
          go.3,
          go.4,
          turns_given flag clients next line s.2.0 go.0 (record { may = may; out = out }) s.2.6 s.2.3 go.5 (gave_enough clients next s.2.0 go.0 s.2.5 s.2.4 go.5),
        )
    served_hosts flag line now (Served-Over ending) from to old new clients next may out s =
        let go = turns_go now (Over ending ∷ s.2.0) old new clients next s.0 s.2.1 in
        let few = s.2.5 in
        let some : (Over ending ∷ s.2.0 ≡ [] → ⊥) = (λ e. cc) in (
          go.0,
          subst (λ (l : List Deed). Adds from to l) go.1 s.1,
          go.2 s.2.4,
          go.3,
          go.4,
          turns_given flag clients next line (Over ending ∷ s.2.0) go.0 (record { may = may; out = out }) (omega (arith, few)) s.2.3 go.5
              (record { turn = had_turn clients next (Over ending ∷ s.2.0) go.0 some go.5; enough = inl (go.5.ended ending s.2.0 refl) }),
        )
    served_hosts flag line now Unknown from to old new clients next may out s =
        absurd (let clash : absent ≡ ready = sym (ap (λ (o : Option (Client S W)). standing_of o) s.2.0) ∙ may in cc)

    -- one piece of work was done for a connection
    piece_hosts : (flag : ℕ → Option Bool) (line : List ℕ) (now : ℕ) (turned : Turned) (end : Option Stopped) (from to : Option (List Deed)) (old new : Desk R) (clients next : Clients S W) (deeds : List Deed) → Adds from to deeds → standing_at clients c ≡ working
        → (t : steps.HasTurn g owes name c now Later old clients (Some turned) new next deeds) → end_of_turn turned ≡ end → worked_by turned ≡ 1 → ((work : Work) → IsKind turned t.0.channel t.1.channel work → line_then next line ≡ line_after line work)
        → Serves g jg owes (GivesPiece c (all_at flag clients line) (all_at flag next (line_then next line))) end from old (place_of name clients office) to new (place_of name next office)
    piece_hosts flag line now turned end from to old new clients next deeds adds working_at t halts once lines =
        let one = turn_works now Later turned old new clients next deeds t in
        serves-one (GivesPiece c (all_at flag clients line) (all_at flag next (line_then next line))) end from to old new (place_of name clients office) (place_of name next office) one.0
        (subst (λ (l : List Deed). Adds from to l) one.1 adds) (one.3 ∙ halts) one.2 one.4 (record {
          passes = record {
            paced = record { few = omega arith; stand = one.7; offices = λ k. sym (one.8 k (standing_office (office k) (flag k))); line = lines one.0 one.9 };
            kept = λ d is. inr (kept d is one.0 one.6 one.7 (nat_eq c d) refl);
            kept_office = λ k is. inr is;
          };
          piece = one.0;
          all = refl;
          is = counted one.0 (one.10 ∙ once);
        })
      where
        counted : (work : Work) → pieces_of c (work ∷ []) ≡ 1 → is_piece_of c work ≡ true
        counted work e = go (is_piece_of c work) refl
          where
            go : (is : Bool) → is_piece_of c work ≡ is → is_piece_of c work ≡ true
            go true f = f
            go false f = let none : ◌≡◌ {A = ℕ} (if is_piece_of c work then 1 else 0) 0 = rw f refl in absurd (omega (arith, e, none))

        kept : (d : ℕ) → standing_at clients d ≡ ready → (work : Work) → ((d : ℕ) → is_turn_of d work ≡ nat_eq c d) → ((d : ℕ) → standing_at next d ≡ stands_after d (standing_at clients d) work) → (same : Bool) → nat_eq c d ≡ same → standing_at next d ≡ ready
        kept d is work whose stands true e = absurd (let clash : working ≡ ready = sym working_at ∙ (ap (λ (n : ℕ). standing_at clients n) (eqb-true c d e) ∙ is) in cc)
        kept d is work whose stands false e = others_stand clients next (steps.left_after turned t.1) t.8 d e ∙ is

    -- the line after a turn, as the code keeps it
    act_line : (line : List ℕ) (next : Clients S W) (after : Client S W) → client_at next c ≡ Some after → is_worked_on (standing_at next c) ≡ is_working after.channel
    act_line line next after at = ap (λ (o : Option (Client S W)). is_worked_on (standing_of o)) at ∙ go (is_working after.channel) after.is_ready
      where
        go : (works is : Bool) → is_worked_on (if works then working else (if is then ready else waiting)) ≡ works
        go true is = refl
        go false true = refl
        go false false = refl

    over_line : (line : List ℕ) (work : Work) → is_end_of c work ≡ true → line_after line work ≡ without c line
    over_line line (ends s d (Some ending) deeds said) e = ap (λ (n : ℕ). without n line) (eqb-true d c e)
    over_line line (ends s d None deeds said) e = absurd (let clash : false ≡ true = e in cc)
    over_line line (acts s d act owing) e = absurd (let clash : false ≡ true = e in cc)
    over_line line (waits s d) e = absurd (let clash : false ≡ true = e in cc)
    over_line line (wakes places) e = absurd (let clash : false ≡ true = e in cc)
    over_line line (opens s d) e = absurd (let clash : false ≡ true = e in cc)
    over_line line (office_comes o k) e = absurd (let clash : false ≡ true = e in cc)
    over_line line (enters o k text turned deeds said) e = absurd (let clash : false ≡ true = e in cc)
    over_line line (office_leaves o k overdue) e = absurd (let clash : false ≡ true = e in cc)
    over_line line (aside deeds said) e = absurd (let clash : false ≡ true = e in cc)

    -- one piece of work was done for the first of the line
    pub worked_hosts : (flag : ℕ → Option Bool) (line : List ℕ) (now : ℕ) (served : Served) (from to : Option (List Deed)) (old new : Desk R) (clients next : Clients S W) → standing_at clients c ≡ working
        → AddsSome from to (steps.IsWorkedOn g owes name c now old clients served new next) → Serves g jg owes (GivesPiece c (all_at flag clients line) (all_at flag next (line_then next line))) None from old (place_of name clients office) to new (place_of name next office)
    worked_hosts flag line now Stays from to old new clients next working_at s =
        let t = s.2 in
        let same : is_worked_on (standing_at next c) ≡ is_working t.1.channel = act_line line next t.1 (put_here clients next (Some t.1) t.8) in
        piece_hosts flag line now Worked None from to old new clients next s.0 s.1 working_at t refl refl (λ work kind. ap (λ (b : Bool). settled c b line) same ∙ sym (ap (λ (it : Work). line_after line it) kind.1.2))
    worked_hosts flag line now (Served-Over ending) from to old new clients next working_at s =
        let t = s.2.1 in
        let same : is_worked_on (standing_at next c) ≡ false = ap (λ (o : Option (Client S W)). is_worked_on (standing_of o)) (put_here clients next None t.8) in
        piece_hosts flag line now (Over ending) None from to old new clients next s.0 s.1 working_at t (ap end_with s.2.0) (ap (λ (it : Ending). worked_by (Over it)) s.2.0) (λ work kind. ap (λ (b : Bool). settled c b line) same ∙ sym (over_line line work kind))
    worked_hosts flag line now Unknown from to old new clients next working_at s = absurd (s.2.0 (is_some (client_at clients c) working_at))
      where
        is_some : (o : Option (Client S W)) → standing_of o ≡ working → IsSomeAnd o notes.IsWorking
        is_some None e = absurd (let clash : absent ≡ working = e in cc)
        is_some (Some client) e = go (is_working client.channel) client.is_ready e
          where
            go : (works is : Bool) → (if works then working else (if is then ready else waiting)) ≡ working → works ≡ true
            go true is e = refl
            go false true e = absurd (let clash : ready ≡ working = e in cc)
            go false false e = absurd (let clash : waiting ≡ working = e in cc)

    -- a turn of a connection of which a reply has not gone out
    pub sent_hosts : (now : ℕ) (turned : Option Turned) (from to : Option (List Deed)) (old new : Desk R) (clients next : Clients S W) → ((client : Client S W) → client_at clients c ≡ Some client → IsSending client.channel)
        → AddsSome from to (steps.HasTurn g owes name c now First old clients turned new next) → Hosts g jg owes IsClosing None from old (place_of name clients office) to new (place_of name next office)
    sent_hosts now None from to old new clients next sending s =
        subst (λ (d : Desk R). Hosts g jg owes IsClosing None from old (place_of name clients office) to d (place_of name next office)) (sym s.2.2)
        (hosts-same IsClosing from to old (place_of name clients office) (place_of name next office) refl (subst (λ (l : List Deed). Adds from to l) s.2.1 s.1) (held_same name clients next s.2.3) (λ k. refl))
    sent_hosts now (Some turned) from to old new clients next sending s =
        let t = s.2 in
        let here = sending t.0 t.3 in
        let one = turn_works now First turned old new clients next s.0 t in
        let may = one.5 here in
        hosts-one IsClosing None from to old new (place_of name clients office) (place_of name next office) one.0 (subst (λ (l : List Deed). Adds from to l) one.1 s.1) (closing_goes one.0 may) one.2 may

    closed_at : (May : Work → Type 0) (one : Option (Client S W)) (from to : Option (List Deed)) (old new : Desk R) (clients next : Clients S W) → May (aside [] None) → ((s : ℕ) (deeds : List Deed) (said : Said) → May (ends s c None deeds said))
        → client_at clients c ≡ one → AddsSome from to (steps.ClosesAt g name c one old clients new next) → Hosts g jg owes May None from old (place_of name clients office) to new (place_of name next office)
    closed_at May None from to old new clients next none may at s =
        subst (λ (d : Desk R). Hosts g jg owes May None from old (place_of name clients office) to d (place_of name next office)) (sym s.2.1)
        (hosts-same May from to old (place_of name clients office) (place_of name next office) none (subst (λ (l : List Deed). Adds from to l) s.2.0 s.1) (held_same name clients next s.2.2) (λ k. refl))
    closed_at May (Some client) from to old new clients next none may at s =
        let closes = s.2.1 in
        let said : Said = Some (event (Close c) closes.0) in
        hosts-one May None from to old new (place_of name clients office) (place_of name next office) (ends (name client.socket) c None s.0 said) s.1 refl
        (client.channel, ap (held_of name) at, (s.2.0, closes), refl, closes.1, held_puts name clients next c None s.2.2, λ k. refl) (may (name client.socket) s.0 said)

    -- a connection was closed
    pub closed_hosts : (May : Work → Type 0) (from to : Option (List Deed)) (old new : Desk R) (clients next : Clients S W) → May (aside [] None) → ((s : ℕ) (deeds : List Deed) (said : Said) → May (ends s c None deeds said))
        → AddsSome from to (steps.Closes g name c old clients new next) → Hosts g jg owes May None from old (place_of name clients office) to new (place_of name next office)
    closed_hosts May from to old new clients next none may s = closed_at May (client_at clients c) from to old new clients next none may refl s

    dropped_at : (flag : ℕ → Option Bool) (line : List ℕ) (one : Option (Client S W)) (from to : Option (List Deed)) (old new : Desk R) (clients next : Clients S W) → (client_at clients c ≡ None → is_among c line ≡ false)
        → client_at clients c ≡ one → AddsSome from to (steps.ClosesAt g name c one old clients new next) → Serves g jg owes (IsAtDoors 1 (all_at flag clients line) (all_at flag next (without c line))) None from old (place_of name clients office) to new (place_of name next office)
    dropped_at flag line None from to old new clients next rests at s =
        subst (λ (d : Desk R). Serves g jg owes (IsAtDoors 1 (all_at flag clients line) (all_at flag next (without c line))) None from old (place_of name clients office) to d (place_of name next office)) (sym s.2.1)
        (serves-same (IsAtDoors 1 (all_at flag clients line) (all_at flag next (without c line))) from to old (place_of name clients office) (place_of name next office) (subst (λ (l : List Deed). Adds from to l) s.2.0 s.1) (held_same name clients next s.2.2) (λ k. refl)
        (record { paced = record { few = omega arith; stand = λ d. ap (λ (o : Option (Client S W)). standing_of o) (s.2.2 d); offices = λ k. refl; line = none_without c line (rests at) }; quiet = λ e. refl }))
    dropped_at flag line (Some client) from to old new clients next rests at s =
        let closes = s.2.1 in
        let said : Said = Some (event (Close c) closes.0) in
        serves-one (IsAtDoors 1 (all_at flag clients line) (all_at flag next (without c line))) None from to old new (place_of name clients office) (place_of name next office) (ends (name client.socket) c None s.0 said) s.1 refl
        (client.channel, ap (held_of name) at, (s.2.0, closes), refl, closes.1, held_puts name clients next c None s.2.2, λ k. refl) tt
        (record { paced = record { few = omega arith; stand = changed_stands clients next None absent s.2.2 refl; offices = λ k. refl; line = refl }; quiet = λ e. refl })

    -- a connection that is overdue was closed
    pub dropped_hosts : (flag : ℕ → Option Bool) (line : List ℕ) (from to : Option (List Deed)) (old new : Desk R) (clients next : Clients S W) → (client_at clients c ≡ None → is_among c line ≡ false)
        → AddsSome from to (steps.Closes g name c old clients new next) → Serves g jg owes (IsAtDoors 1 (all_at flag clients line) (all_at flag next (without c line))) None from old (place_of name clients office) to new (place_of name next office)
    dropped_hosts flag line from to old new clients next rests s = dropped_at flag line (client_at clients c) from to old new clients next rests refl s

    -- a socket came, and was taken as connection c, or turned away by the desk
    pub opened_hosts : (flag : ℕ → Option Bool) (line : List ℕ) (now : ℕ) (result : Result (Unit {0}) DeskFault) (socket : S) (from mid to : Option (List Deed)) (old new : Desk R) (clients next : Clients S W) → client_at clients c ≡ None → is_among c line ≡ false
        → Adds from mid (came (name socket) ∷ []) → AddsSome mid to (steps.Opens g name c now socket old clients result new next) → Serves g jg owes (IsAtDoors 1 (all_at flag clients line) (all_at flag next line)) None from old (place_of name clients office) to new (place_of name next office)
    opened_hosts flag line now (Ok done) socket from mid to old new clients next free out comes s =
        let o = s.2.2 in
        let same = subst (λ (l : List Deed). Adds mid to l) s.2.1 s.1 in
        serves-one (IsAtDoors 1 (all_at flag clients line) (all_at flag next line)) None from to old new (place_of name clients office) (place_of name next office) (opens (name socket) c) (Adds-trans from mid to (came (name socket) ∷ []) [] comes same) refl (
          o.0.channel,
          ap (held_of name) free,
          o.2,
          s.2.0,
          subst (λ (it : S). Puts (held_at name clients) (held_at name next) c (Some (name it, o.0.channel))) o.1 (held_puts name clients next c (Some o.0) o.5),
          λ k. refl,
        ) tt (record { paced = record { few = omega arith; stand = changed_stands clients next (Some o.0) ready o.5 (may_stand o.0 (ap (λ (n : notes.Notes). n.is_ready) o.4) (not_worked o.0.channel (λ still. working_not_sent o.0.channel still o.2.sent))); offices = λ k. refl; line = sym (none_without c line out) }; quiet = λ e. refl })
    opened_hosts flag line now (Err fault) socket from mid to old new clients next free out comes s =
        serves-one (IsAtDoors 1 (all_at flag clients line) (all_at flag next line)) None from to old new (place_of name clients office) (place_of name next office) (aside (came (name socket) ∷ s.0) (Some (event (Open c) (Err fault))))
        (Adds-trans from mid to (came (name socket) ∷ []) s.0 comes s.1) refl (
          (c, ap (held_of name) free, refl, refl),
          s.2.0,
          held_same name clients next s.2.1,
          inr (inl (name socket, fault, s.2.2.0, s.2.2.1, ap (λ (l : List Deed). came (name socket) ∷ l) s.2.2.2)),
          λ k. refl,
        ) tt (record { paced = record { few = omega arith; stand = λ d. ap (λ (o : Option (Client S W)). standing_of o) (s.2.1 d); offices = λ k. refl; line = refl }; quiet = λ e. refl })

-- what is held stays so
pub same-trans : {W : Type 0} (a b d : Held W) → Same a b → Same b d → Same a d
same-trans a b d x y c = y c ∙ x c

-- a socket came for which there is no number, and was turned away
pub away_hosts : {R J W : Type 0} (g : Ghosts R) (jg : JournalGhosts R J) (owes : W → List ℕ) (t : ℕ) (from mid to : Option (List Deed)) (old : Desk R) (here : Place J W) (stand : Standings)
    → Adds from mid (came t ∷ []) → AddsSome mid to (IsTurnedAway t) → Serves g jg owes (IsAtDoors 1 stand stand) None from old here to old here
away_hosts g jg owes t from mid to old here stand comes away =
    serves-one g jg owes (IsAtDoors 1 stand stand) None from to old old here here (aside (came t ∷ away.0) None)
    (Adds-trans from mid to (came t ∷ []) away.0 comes away.1) refl
    (tt, refl, (λ c. refl), inr (inl (t, Memory, away.2.0, away.2.1, ap (λ (l : List Deed). came t ∷ l) away.2.2)), λ k. refl) tt
    (record { paced = record { few = omega arith; stand = λ d. refl; offices = λ k. refl; line = refl }; quiet = λ e. refl })

-- the network told of more sockets
pub woken_more : (places : List ℕ) (place : ℕ) → map woke places ++ woke place ∷ [] ≡ map woke (places ++ place ∷ [])
woken_more [] place = refl
woken_more (first ∷ places) place = ap (λ (l : List Deed). woke first ∷ l) (woken_more places place)

-- how a connection stands after it was told of these places, and of one more
woken_twice : (old : Standing) → woken (woken old) ≡ woken old
woken_twice absent = refl
woken_twice waiting = refl
woken_twice ready = refl
woken_twice working = refl

told_more : (c : ℕ) (places : List ℕ) (place : ℕ) (old : Standing) → stands_after c old (wakes (places ++ place ∷ [])) ≡ (if nat_eq place c then woken (stands_after c old (wakes places)) else stands_after c old (wakes places))
told_more c [] place old = go (nat_eq place c)
  where
    go : (is : Bool) → (if is || false then woken old else old) ≡ (if is then woken old else old)
    go true = refl
    go false = refl
told_more c (first ∷ places) place old = go (nat_eq first c) (told_more c places place old)
  where
    last : (is : Bool) → woken old ≡ (if is then woken (woken old) else woken old)
    last true = sym (woken_twice old)
    last false = refl

    go : (is : Bool) → stands_after c old (wakes (places ++ place ∷ [])) ≡ (if nat_eq place c then woken (stands_after c old (wakes places)) else stands_after c old (wakes places))
        → (if is || is_among c (places ++ place ∷ []) then woken old else old) ≡ (if nat_eq place c then woken (if is || is_among c places then woken old else old) else (if is || is_among c places then woken old else old))
    go true more = last (nat_eq place c)
    go false more = more

pub told_then : {S W : Type 0} (c : ℕ) (places : List ℕ) (place : ℕ) (old mid new : Clients S W) → standing_at mid c ≡ stands_after c (standing_at old c) (wakes places)
    → standing_at new c ≡ (if nat_eq place c then woken (standing_at mid c) else standing_at mid c) → standing_at new c ≡ stands_after c (standing_at old c) (wakes (places ++ place ∷ []))
told_then c places place old mid new before told =
    told ∙ (ap (λ (it : Standing). if nat_eq place c then woken it else it) before ∙ sym (told_more c places place (standing_at old c)))

-- the same of the land office's sockets
told_twice : (first more last : Bool) (old : Option Bool) → more ≡ (last || first) → told_flag more old ≡ told_flag last (told_flag first old)
told_twice first more last None is = refl
told_twice first more last (Some was) is = rw is (go last first)
  where
    go : (a b : Bool) → Some ((a || b) || was) ≡ Some (a || (b || was))
    go true b = refl
    go false b = refl

among_more : (k : ℕ) (places : List ℕ) (place : ℕ) → is_among k (places ++ place ∷ []) ≡ (nat_eq place k || is_among k places)
among_more k [] place = refl
among_more k (first ∷ places) place = go (nat_eq first k) (nat_eq place k) (among_more k places place)
  where
    go : (is last : Bool) → is_among k (places ++ place ∷ []) ≡ (last || is_among k places) → (is || is_among k (places ++ place ∷ [])) ≡ (last || (is || is_among k places))
    go true true more = refl
    go true false more = refl
    go false last more = more

pub told_office_then : (k : ℕ) (places : List ℕ) (place : ℕ) (old mid new : Option Bool) → mid ≡ told_flag (is_among (office_place k) places) old → new ≡ told_flag (nat_eq place (office_place k)) mid → new ≡ told_flag (is_among (office_place k) (places ++ place ∷ [])) old
told_office_then k places place old mid new before told =
    told ∙ (ap (λ (it : Option Bool). told_flag (nat_eq place (office_place k)) it) before
    ∙ sym (told_twice (is_among (office_place k) places) (is_among (office_place k) (places ++ place ∷ [])) (nat_eq place (office_place k)) old (among_more (office_place k) places place)))

-- connection c is not open since it was closed, and all others are as they were
module _ {R S W : Type 0} (g : Ghosts R) (name : S → ℕ) (c : ℕ) (clients next : Clients S W) (old new : Desk R) (deeds : List Deed) where
  gone_at : (one : Option (Client S W)) → client_at clients c ≡ one → steps.ClosesAt g name c one old clients new next deeds → (d : ℕ) → held_at name next d ≡ (if nat_eq c d then None else held_at name clients d)
  gone_at None at s d = ap (held_of name) (s.2 d) ∙ go (nat_eq c d) refl
    where
      go : (same : Bool) → nat_eq c d ≡ same → held_at name clients d ≡ (if nat_eq c d then None else held_at name clients d)
      go true e = rw e (ap (held_of name) (ap (client_at clients) (sym (eqb-true c d e)) ∙ at))
      go false e = rw e refl
  gone_at (Some client) at s d = ap (held_of name) (s.2 d) ∙ held_if name (nat_eq c d) None (client_at clients d)

  pub closed_gone : steps.Closes g name c old clients new next deeds → (d : ℕ) → held_at name next d ≡ (if nat_eq c d then None else held_at name clients d)
  closed_gone s = gone_at (client_at clients c) refl s

-- one more is not open
pub gone_more : {X : Type 0} (c : ℕ) (old new : ℕ → Option X) → ((d : ℕ) → new d ≡ (if nat_eq c d then None else old d)) → ((d : ℕ) → d < c → old d ≡ None) → (d : ℕ) → d < c + 1 → new d ≡ None
gone_more {X} c old new gone before d within = gone d ∙ go (nat_eq c d) refl
  where
    below : (d : ℕ) → d < c + 1 → (c ≡ d → ⊥) → d < c
    below d within differ = omega (arith, within, differ)

    go : (same : Bool) → nat_eq c d ≡ same → (if same then None else old d) ≡ None
    go true e = refl
    go false e = before d (below d within (λ same. let yes = eq-eqb c d same in let clash : true ≡ false = sym yes ∙ e in cc))

-- no number is above the last
pub none_beyond : {S W : Type 0} (name : S → ℕ) (clients : Clients S W) (d : ℕ) → 64 ≤ d → held_at name clients d ≡ None
none_beyond {S} {W} name clients d past = let room = clients.room in ap (λ (o : Option (Option (Client S W))). held_of name (client_in o)) (slice_get_past clients.slots.items d (omega (arith, past, room)))

pub all_none : {S W : Type 0} (name : S → ℕ) (clients : Clients S W) → ((d : ℕ) → d < 64 → held_at name clients d ≡ None) → (d : ℕ) → held_at name clients d ≡ None
all_none name clients below d = elim (cases_lt d 64) [
  | inl within ↦ below d within
  | inr past ↦ none_beyond name clients d past
]

-- what is said of the one that is there
pub some_has : {S W : Type 0} (o : Option (Client S W)) → IsSomeAnd o notes.IsSending → (client : Client S W) → o ≡ Some client → IsSending client.channel
some_has {S} {W} o has client at = subst (λ (it : Option (Client S W)). IsSomeAnd it notes.IsSending) at has

-- a connection that may go on
pub ready_at : {S W : Type 0} (o : Option (Client S W)) → IsSomeAnd o notes.MayGoOn → standing_of o ≡ ready
ready_at None has = absurd has
ready_at (Some client) has = rw (has.1, has.0) refl

-- whether its next reply is to be worked on, as the code tests it
pub worked_as : {S W : Type 0} (o : Option (Client S W)) (works : Bool) → (works ≡ true → IsSomeAnd o notes.IsWorking) → (IsSomeAnd o notes.IsWorking → works ≡ true) → works ≡ is_worked_on (standing_of o)
worked_as None true so back = absurd (so refl)
worked_as None false so back = refl
worked_as (Some client) works so back = go (is_working client.channel) refl works refl
  where
    stand : (is : Bool) → is_working client.channel ≡ is → is_worked_on (standing_of (Some client)) ≡ is
    stand is e = rw e (last is client.is_ready)
      where
        last : (is ready_now : Bool) → is_worked_on (if is then working else (if ready_now then ready else waiting)) ≡ is
        last true r = refl
        last false true = refl
        last false false = refl

    go : (is : Bool) → is_working client.channel ≡ is → (told : Bool) → works ≡ told → works ≡ is_worked_on (standing_of (Some client))
    go true e told f = back e ∙ sym (stand true e)
    go false e true f = absurd (let clash : true ≡ false = sym (so f) ∙ e in cc)
    go false e false f = f ∙ sym (stand false e)

-- a connection of which something is said is open, so its number is below 64
pub within_room : {S W : Type 0} (clients : Clients S W) (c : ℕ) (P : Client S W → Type 0) → IsSomeAnd (client_at clients c) P → c < 64
within_room {S} {W} clients c P has = elim (cases_lt c 64) [
  | inl within ↦ within
  | inr past ↦ absurd (subst (λ (o : Option (Client S W)). IsSomeAnd o P) (gone past) has)
]
  where
    gone : 64 ≤ c → client_at clients c ≡ None
    gone past = let room = clients.room in ap (λ (o : Option (Option (Client S W))). client_in o) (slice_get_past clients.slots.items c (omega (arith, past, room)))

-- the network told of its socket
pub marked_stands : {S W : Type 0} (o : Option (Client S W)) → standing_of (option_map notes.marked o) ≡ woken (standing_of o)
marked_stands None = refl
marked_stands (Some client) = go (is_working client.channel) client.is_ready
  where
    go : (works is : Bool) → (if works then working else ready) ≡ woken (if works then working else (if is then ready else waiting))
    go true is = refl
    go false true = refl
    go false false = refl

-- the others stand as they did after turns of connection c
module _ {R S W : Type 0} (g : Ghosts R) (owes : W → List ℕ) (name : S → ℕ) (c now : ℕ) where
  changed_others : (clients next : Clients S W) (one : Option (Client S W)) → Changes clients next c one → (d : ℕ) → nat_eq c d ≡ false → standing_at next d ≡ standing_at clients d
  changed_others clients next one changes d other = let same : client_at next d ≡ client_at clients d = changes d ∙ rw other refl in ap (λ (o : Option (Client S W)). standing_of o) same

  kept_others : (clients next : Clients S W) → Keeps clients next → (d : ℕ) → nat_eq c d ≡ false → standing_at next d ≡ standing_at clients d
  kept_others clients next keeps d other = ap (λ (o : Option (Client S W)). standing_of o) (keeps d)

  pub turn_others : (budget : Budget) (turned : Option Turned) (old new : Desk R) (clients next : Clients S W) (deeds : List Deed) → steps.HasTurn g owes name c now budget old clients turned new next deeds
      → (d : ℕ) → nat_eq c d ≡ false → standing_at next d ≡ standing_at clients d
  turn_others budget None old new clients next deeds t = kept_others clients next t.3
  turn_others budget (Some turned) old new clients next deeds t = changed_others clients next (steps.left_after turned t.1) t.8

  turns_others : (turns : List Turned) (old new : Desk R) (clients next : Clients S W) (deeds : List Deed) → steps.HasTurns g owes name c now old clients turns new next deeds
      → (d : ℕ) → nat_eq c d ≡ false → standing_at next d ≡ standing_at clients d
  turns_others [] old new clients next deeds t d other = ap (λ (it : Clients S W). standing_at it d) t.2
  turns_others (turned ∷ before) old new clients next deeds t d other =
      turn_others First (Some turned) t.0 new t.1 next t.3 t.5 d other ∙ turns_others before old t.0 clients t.1 t.2 t.4 d other

  pub served_others : (served : Served) (old new : Desk R) (clients next : Clients S W) (deeds : List Deed) → steps.IsServed g owes name c now old clients served new next deeds
      → (d : ℕ) → nat_eq c d ≡ false → standing_at next d ≡ standing_at clients d
  served_others Stays old new clients next deeds s = turns_others s.0 old new clients next deeds s.1
  served_others (Served-Over ending) old new clients next deeds s = turns_others (Over ending ∷ s.0) old new clients next deeds s.1
  served_others Unknown old new clients next deeds s = turn_others First None old new clients next deeds s

  pub worked_others : (served : Served) (old new : Desk R) (clients next : Clients S W) (deeds : List Deed) → steps.IsWorkedOn g owes name c now old clients served new next deeds
      → (d : ℕ) → nat_eq c d ≡ false → standing_at next d ≡ standing_at clients d
  worked_others Stays old new clients next deeds s = turn_others Later (Some Worked) old new clients next deeds s
  worked_others (Served-Over ending) old new clients next deeds s = turn_others Later (Some (Over ending)) old new clients next deeds s.1
  worked_others Unknown old new clients next deeds s = kept_others clients next s.3

module _ {R S W : Type 0} (g : Ghosts R) (name : S → ℕ) (c : ℕ) (clients next : Clients S W) (old new : Desk R) (deeds : List Deed) where
  closed_stands : (one : Option (Client S W)) → client_at clients c ≡ one → steps.ClosesAt g name c one old clients new next deeds → ((d : ℕ) → nat_eq c d ≡ false → standing_at next d ≡ standing_at clients d) × (standing_at next c ≡ absent)
  closed_stands None at s = ((λ d other. ap (λ (o : Option (Client S W)). standing_of o) (s.2 d)), ap (λ (o : Option (Client S W)). standing_of o) (s.2 c ∙ at))
  closed_stands (Some client) at s = (
    (λ d other. let same : client_at next d ≡ client_at clients d = s.2 d ∙ rw other refl in ap (λ (o : Option (Client S W)). standing_of o) same),
    (let gone : client_at next c ≡ None = s.2 c ∙ rw (eq-eqb c c refl) refl in ap (λ (o : Option (Client S W)). standing_of o) gone),
  )

  -- a connection was closed, and all others stand as they did
  pub closed_others : steps.Closes g name c old clients new next deeds → ((d : ℕ) → nat_eq c d ≡ false → standing_at next d ≡ standing_at clients d) × (standing_at next c ≡ absent)
  closed_others s = closed_stands (client_at clients c) refl s

-- those whose replies are worked on are in the line, as the code keeps it
pub line_kept : {S W : Type 0} (c : ℕ) (works : Bool) (clients next : Clients S W) (line items : List ℕ) → IsLineOf (standing_at clients) line → ((d : ℕ) → nat_eq c d ≡ false → standing_at next d ≡ standing_at clients d)
    → works ≡ is_worked_on (standing_at next c) → items ≡ settled c works line → IsLineOf (standing_at next) items
line_kept c works clients next line items is others own kept = subst (λ (l : List ℕ). IsLineOf (standing_at next) l) (sym kept) (line_settled c works (standing_at clients) (standing_at next) line is others own)

-- there is room in the line for a connection that is not in it
pub line_room : {S W : Type 0} (c : ℕ) (clients next : Clients S W) (line : List ℕ) → IsLineOf (standing_at clients) line → IsSomeAnd (client_at next c) notes.IsWorking → is_among c line ≡ false → length line < 64
line_room c clients next line is still out = room_for c 64 (standing_at clients) line is (beyond clients) (within_room next c notes.IsWorking still) out

-- the line after turns of a connection, as the code keeps it
pub line_says : {S W : Type 0} (c : ℕ) (works : Bool) (next : Clients S W) (line items : List ℕ) → works ≡ is_worked_on (standing_at next c) → items ≡ settled c works line → items ≡ settled c (is_worked_on (standing_at next c)) line
line_says c works next line items own kept = kept ∙ ap (λ (b : Bool). settled c b line) own
