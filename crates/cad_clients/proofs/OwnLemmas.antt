-- What is read and written over all that happens.
use Rattle.std.proofs.Common.{◌≡◌, ◌≢◌, ℕ, Bool, false, nat_eq, List, [], ◌∷◌, ◌++◌, Result, Ok, Err, refl, sym, ap, subst, ◌∙◌, append_assoc, append-nil, arith}
use Rattle.std.proofs.lemmas.Bool.Decides.{nat_tests}
use Rattle.std.specs.Global.{Vec}
use Rattle.std.proofs.lemmas.Bool.{eq-eqb}
use Rattle.cad_versions.specs.declared.command.Command.{Command}
use Rattle.cad_stream.specs.declared.responder.Responder.{Ghosts}
use Rattle.cad_stream.specs.Conversations.{bytes_of}
use Rattle.cad_stream.specs.Replies.{AreReplies, last_reply}
use Rattle.cad_desk.specs.declared.desk.Desk.{Desk}
use Rattle.cad_desk.specs.declared.event.Event.{Event}
use Rattle.cad_desk.specs.declared.event.Event.TheVariants.{Open, Bytes, Close, Office}
use Rattle.cad_desk.specs.declared.event.Reply.{Reply}
use Rattle.cad_desk.specs.declared.event.Reply.TheVariants.{Opened, Sent}
use Rattle.cad_desk.specs.declared.fault.DeskFault.{DeskFault}
use Rattle.cad_desk.specs.declared.fault.DeskFault.TheVariants.{UnknownConnection, KnownConnection, TooManyConnections, Memory, Register}
use Rattle.cad_desk.specs.Desks.{connections_of, rules_of}
use Rattle.cad_desk.specs.Events.{commands_after}
use Rattle.cad_desk.specs.Runs.{IsOnlyChecked, Takes, Exchange, exchange, pieces_of, outs_of}
use Rattle.cad_desk.specs.Laws as desk_laws
use Rattle.cad_clients.specs.declared.channel.Channel.{Channel}
use Rattle.cad_clients.specs.Channels.{unfed, unsent, wrote, took, fed, worked}
use Rattle.cad_clients.specs.Acts.{Happening, own, other, checked, IsOther, read_of, written_of, events_of, answers_of, Lives}
use Rattle.cad_clients.specs.lemmas.ChannelLemmas.{all_sent}
use Rattle.cad_clients.specs.Laws.{exchanges_with, ChannelsAreTheirOwn}

apart : (d c : ℕ) → d ≢ c → nat_eq d c ≡ false
apart d c h = grind (arith, nat_tests)

-- an event of another connection adds nothing to this one's exchanges
adds_nothing : (c : ℕ) (commands : List Command) (event : Event) (answer : Result Reply DeskFault) (later : List Exchange) → IsOther c event → exchange c commands event answer later ≡ later
adds_nothing c commands (Open d) (Ok reply) later h = rw (apart d c h) refl
adds_nothing c commands (Open d) (Err fault) later h = refl
adds_nothing c commands (Bytes d piece) (Ok reply) later h = rw (apart d c h) refl
adds_nothing c commands (Bytes d piece) (Err UnknownConnection) later h = rw (apart d c h) refl
adds_nothing c commands (Bytes d piece) (Err KnownConnection) later h = rw (apart d c h) refl
adds_nothing c commands (Bytes d piece) (Err TooManyConnections) later h = rw (apart d c h) refl
adds_nothing c commands (Bytes d piece) (Err Memory) later h = rw (apart d c h) refl
adds_nothing c commands (Bytes d piece) (Err (Register fault)) later h = rw (apart d c h) refl
adds_nothing c commands (Close d) (Ok reply) later h = rw (apart d c h) refl
adds_nothing c commands (Close d) (Err fault) later h = refl
adds_nothing c commands (Office command) answer later h = refl

-- a piece that the desk took adds one
adds_one : (c : ℕ) (commands : List Command) (piece : Vec ℕ) (out : List ℕ) (ends : Bool) (later : List Exchange)
    → exchange c commands (Bytes c piece) (Ok (Sent out ends)) later ≡ ((commands, piece.items), out) ∷ later
adds_one c commands piece out ends later = rw (eq-eqb c c refl) refl

-- what is held at first and read later is taken by the desk or held at last; what is held at first and sent later is written or held at last
record Passes {W : Type 0} (owes : W → List ℕ) (first last : Channel W) (exchanges : List Exchange) (read written : List ℕ) : Type 0 where
  taken : unfed first ++ read ≡ bytes_of (pieces_of exchanges) ++ unfed last
  sent : unsent owes first ++ outs_of exchanges ≡ written ++ unsent owes last

module _ {R : Type 0} (g : Ghosts R) where
  none_checked : (desk : Desk R) → IsOnlyChecked g desk desk
  none_checked desk = record { connections = refl; kept = λ counts commands stands. stands; clean = λ counts. counts }

  checked_twice : (old mid new : Desk R) → IsOnlyChecked g old mid → IsOnlyChecked g mid new → IsOnlyChecked g old new
  checked_twice old mid new first then = record {
    connections = then.connections ∙ first.connections;
    kept = λ counts commands stands. then.kept counts commands (first.kept (then.clean counts) commands stands);
    clean = λ counts. first.clean (then.clean counts);
  }

  -- a desk that was asked before it took the events
  checked_before : (old mid new : Desk R) (events : List Event) (answers : List (Result Reply DeskFault)) → IsOnlyChecked g old mid → Takes g mid events answers new → Takes g old events answers new
  checked_before old mid new [] [] first t = checked_twice old mid new first t
  checked_before old mid new [] (answer ∷ answers) first t = absurd t
  checked_before old mid new (event ∷ events) [] first t = absurd t
  checked_before old mid new (event ∷ events) (answer ∷ answers) first t = (t.0, t.1, checked_twice old mid t.0 first t.2, t.3, t.4, t.5)

module _ {R W : Type 0} (g : Ghosts R) (owes : W → List ℕ) (c : ℕ) where
  passes : (commands : List Command) (happenings : List Happening) (old new : Desk R) (channel last : Channel W) → Lives g owes c old channel happenings new last
      → Passes owes channel last (exchanges_with c commands happenings) (read_of happenings) (written_of happenings)
  passes commands [] old new channel last l = record {
    taken = append-nil (unfed channel) ∙ ap unfed (sym l.1);
    sent = append-nil (unsent owes channel) ∙ ap (unsent owes) (sym l.1);
  }
  passes commands (own (wrote bytes) ∷ later) old new channel last l =
      let d = l.2 in
      let p = passes commands later l.0 new l.1 last l.3 in
      let exchanges = exchanges_with c commands later in record {
        taken = ap (λ (b : List ℕ). b ++ read_of later) (sym d.1) ∙ p.taken;
        sent = ap (λ (b : List ℕ). b ++ outs_of exchanges) d.0 ∙ append_assoc bytes (unsent owes l.1) (outs_of exchanges) ∙ ap (λ (b : List ℕ). bytes ++ b) p.sent
            ∙ sym (append_assoc bytes (written_of later) (unsent owes last));
      }
  passes commands (own (took bytes) ∷ later) old new channel last l =
      let d = l.2 in
      let p = passes commands later l.0 new l.1 last l.3 in
      let exchanges = exchanges_with c commands later in record {
        taken = ap (λ (b : List ℕ). b ++ (bytes ++ read_of later)) d.0.all_fed ∙ ap (λ (b : List ℕ). b ++ read_of later) (sym d.2) ∙ p.taken;
        sent = ap (λ (b : List ℕ). b ++ outs_of exchanges) (all_sent owes channel d.0.ready.sent ∙ sym (all_sent owes l.1 d.3.sent)) ∙ p.sent;
      }
  passes commands (own (fed piece out ends) ∷ later) old new channel last l =
      let d = l.2 in
      let p = passes commands later l.0 new l.1 last l.3 in
      let exchanges = exchanges_with c commands later in
      subst (λ (x : List Exchange). Passes owes channel last x (read_of later) (written_of later)) (sym (adds_one c commands piece out ends exchanges)) (record {
        taken = ap (λ (b : List ℕ). b ++ read_of later) d.2 ∙ append_assoc piece.items (unfed l.1) (read_of later) ∙ ap (λ (b : List ℕ). piece.items ++ b) p.taken
            ∙ sym (append_assoc piece.items (bytes_of (pieces_of exchanges)) (unfed last));
        sent = ap (λ (b : List ℕ). b ++ (out ++ outs_of exchanges)) (all_sent owes channel d.0.sent) ∙ ap (λ (b : List ℕ). b ++ outs_of exchanges) (sym d.3) ∙ p.sent;
      })
  passes commands (own worked ∷ later) old new channel last l =
      let d = l.2 in
      let p = passes commands later l.0 new l.1 last l.3 in
      let exchanges = exchanges_with c commands later in record {
        taken = ap (λ (b : List ℕ). b ++ read_of later) (sym d.1) ∙ p.taken;
        sent = ap (λ (b : List ℕ). b ++ outs_of exchanges) (sym d.0) ∙ p.sent;
      }
  passes commands (other event answer ∷ later) old new channel last l =
      let p = passes (commands_after commands event answer) later l.0 new channel last l.4 in
      subst (λ (x : List Exchange). Passes owes channel last x (read_of later) (written_of later))
      (sym (adds_nothing c commands event answer (exchanges_with c (commands_after commands event answer) later) l.1)) p
  passes commands (checked ∷ later) old new channel last l = passes commands later l.0 new channel last l.2

  -- the desk took the events
  takes : (happenings : List Happening) (old new : Desk R) (channel last : Channel W) → Lives g owes c old channel happenings new last → Takes g old (events_of c happenings) (answers_of happenings) new
  takes [] old new channel last l = subst (λ (d : Desk R). IsOnlyChecked g old d) (sym l.0) (none_checked g old)
  takes (own (wrote bytes) ∷ later) old new channel last l =
      subst (λ (d : Desk R). Takes g d (events_of c later) (answers_of later) new) l.2.3 (takes later l.0 new l.1 last l.3)
  takes (own (took bytes) ∷ later) old new channel last l =
      subst (λ (d : Desk R). Takes g d (events_of c later) (answers_of later) new) l.2.4 (takes later l.0 new l.1 last l.3)
  takes (own (fed piece out ends) ∷ later) old new channel last l = (old, l.0, none_checked g old, l.2.5, tt, takes later l.0 new l.1 last l.3)
  takes (own worked ∷ later) old new channel last l =
      subst (λ (d : Desk R). Takes g d (events_of c later) (answers_of later) new) l.2.3 (takes later l.0 new l.1 last l.3)
  takes (other event answer ∷ later) old new channel last l = (old, l.0, none_checked g old, l.2, l.3, takes later l.0 new channel last l.4)
  takes (checked ∷ later) old new channel last l = checked_before g old l.0 new (events_of c later) (answers_of later) l.1 (takes later l.0 new channel last l.2)

pub channels_are_their_own : {R W : Type 0} (g : Ghosts R) (owes : W → List ℕ) → desk_laws.StepsAreARun g → desk_laws.ConnectionsAreTheirOwn (rules_of g) → ChannelsAreTheirOwn g owes
channels_are_their_own g owes runs owns c commands old opened new channel last happenings is_new opens lives counts stands =
    let events = events_of c happenings in
    let answers = answers_of happenings in
    let exchanges = exchanges_with c commands happenings in
    let run = runs commands old new (Open c ∷ events) (Ok Opened ∷ answers) (old, opened, none_checked g old, opens, tt, takes g owes c happenings opened new channel last lives) counts stands in
    let p = passes g owes c commands happenings opened new channel last lives in
    let told = owns c exchanges (commands, connections_of old, events, answers, run, refl) in
    let sent : outs_of exchanges ≡ written_of happenings ++ unsent owes last = ap (λ (b : List ℕ). b ++ outs_of exchanges) (sym (all_sent owes channel is_new.sent)) ∙ p.sent in (
      run,
      record {
        taken = ap (λ (b : List ℕ). b ++ read_of happenings) (sym is_new.none_read) ∙ p.taken;
        sent = sent;
      },
      (told.0, told.1, told.2, subst (λ (b : List ℕ). AreReplies g.replies told.0 (last_reply g.bad_head told.1) b) sent told.3),
    )
