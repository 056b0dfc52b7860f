-- What keeps the commands, over all that is done.
use Rattle.std.proofs.Common.{◌≡◌, ℕ, Bool, List, [], ◌∷◌, None, Some, Result, Ok, Err, refl, sym, ap, subst, inl, inr}
use Rattle.cad_versions.specs.declared.command.Command.{Command}
use Rattle.cad_stream.specs.declared.responder.Responder.{Ghosts}
use Rattle.cad_stream.specs.declared.journal_responder.JournalResponder.{Ghosts as JournalGhosts}
use Rattle.cad_desk.specs.declared.desk.Desk.{Desk}
use Rattle.cad_desk.specs.declared.event.Event.{Event}
use Rattle.cad_desk.specs.declared.event.Event.TheVariants.{Open, Bytes, Close, Office}
use Rattle.cad_desk.specs.declared.event.Reply.{Reply}
use Rattle.cad_desk.specs.declared.fault.DeskFault.{DeskFault}
use Rattle.cad_versions.specs.declared.fault.RegisterFault.{RegisterFault}
use Rattle.cad_desk.specs.Desks.{responder_of, ChecksAtDesk, Steps}
use Rattle.cad_desk.specs.Runs.{IsOnlyChecked}
use Rattle.cad_desk.specs.Events.{commands_after}
use Rattle.cad_clients.specs.declared.channel.Channel.{Channel}
use Rattle.cad_clients.specs.Channels.{Act, wrote, took, fed, worked, Does}
use Rattle.cad_event_loop.specs.Works.{Held, Place, event, question, rows, Said, Work, wakes, opens, acts, waits, ends, office_comes, enters, office_leaves, aside, IsEventOf, IsOf, IsOfNone, Tells, Goes, MayAsk, MayGoOn}
use Rattle.cad_event_loop.specs.Laws.{commands_by, commands_in}
use Rattle.cad_event_loop.specs.lemmas.CleanLemmas.{goes_clean}

-- a refusal adds no command
refused_same : (commands : List Command) (event : Event) (fault : DeskFault) → commands_after commands event (Err fault) ≡ commands
refused_same commands (Open c) fault = refl
refused_same commands (Bytes c piece) fault = refl
refused_same commands (Close c) fault = refl
refused_same commands (Office command) fault = refl

-- nor does what a client says
client_same : (commands : List Command) (d : ℕ) (said : Said) → IsOf d said → commands_by commands said ≡ commands
client_same commands d None of = refl
client_same commands d (Some (question command answer)) of = absurd of
client_same commands d (Some (rows answer)) of = absurd of
client_same commands d (Some (event e answer)) of = by_event e answer of
  where
    by_event : (it : Event) (answer : Result Reply DeskFault) → IsEventOf d it → commands_after commands it answer ≡ commands
    by_event (Open c) answer of = absurd of
    by_event (Bytes c piece) answer of = refl
    by_event (Close c) answer of = refl
    by_event (Office command) answer of = absurd of

-- nor does a connection that is not opened
none_same : {W : Type 0} (commands : List Command) (slots : Held W) (said : Said) → IsOfNone slots said → commands_by commands said ≡ commands
none_same commands slots None of = refl
none_same commands slots (Some (event e answer)) of = ap (λ (it : Event). commands_after commands it answer) of.2
none_same commands slots (Some (question command answer)) of = absurd of
none_same commands slots (Some (rows answer)) of = absurd of

module _ {R J W : Type 0} (g : Ghosts R) (jg : JournalGhosts R J) (owes : W → List ℕ) where
  -- a step leads to the commands after it
  step_stands : (commands : List Command) (old mid : Desk R) (e : Event) (answer : Result Reply DeskFault) → Steps g old e answer mid → g.counts (responder_of mid) → MayAsk g jg old (Some (event e answer)) mid
      → g.stands_for (responder_of old) commands → g.stands_for (responder_of mid) (commands_after commands e answer)
  step_stands commands old mid e (Ok reply) s counts may stands = s.kept counts commands stands
  step_stands commands old mid e (Err fault) s counts may stands = elim (s.unchanged counts commands stands) [
    | inl same ↦ subst (λ (cs : List Command). g.stands_for (responder_of mid) cs) (sym (refused_same commands e fault)) same
    | inr shut ↦ absurd (may shut)
  ]

  -- a question changes nothing
  checked_stands : (commands : List Command) (old mid : Desk R) (command : Command) (answer : Result ℕ RegisterFault) → ChecksAtDesk g old command answer mid → g.counts (responder_of mid)
      → MayAsk g jg old (Some (question command answer)) mid → g.stands_for (responder_of old) commands → g.stands_for (responder_of mid) commands
  checked_stands commands old mid command (Ok revision) k counts may stands = k.checked.kept counts commands stands
  checked_stands commands old mid command (Err fault) k counts may stands = elim (k.checked.unchanged counts commands stands) [
    | inl same ↦ same
    | inr shut ↦ absurd (may shut)
  ]

  pub only_checked : (old mid : Desk R) (command : Command) (answer : Result ℕ RegisterFault) → ChecksAtDesk g old command answer mid → MayAsk g jg old (Some (question command answer)) mid → IsOnlyChecked g old mid
  only_checked old mid command answer k may = record {
    connections = k.connections;
    kept = λ counts commands stands. checked_stands commands old mid command answer k counts may stands;
    clean = k.checked.clean;
  }

  -- rows of a journal that are read change nothing
  rows_stand : (commands : List Command) (old mid : Desk R) (answer : Result Bool RegisterFault) → Tells g jg old (Some (rows answer)) mid → g.counts (responder_of mid)
      → MayAsk g jg old (Some (rows answer)) mid → g.stands_for (responder_of old) commands → g.stands_for (responder_of mid) commands
  rows_stand commands old mid (Ok whole) k counts may stands = k.2.read.kept counts commands stands
  rows_stand commands old mid (Err fault) k counts may stands = elim (k.2.read.unchanged counts commands stands) [
    | inl same ↦ same
    | inr shut ↦ absurd (may shut)
  ]

  pub only_read : (old mid : Desk R) (answer : Result Bool RegisterFault) → Tells g jg old (Some (rows answer)) mid → MayAsk g jg old (Some (rows answer)) mid → IsOnlyChecked g old mid
  only_read old mid answer k may = record {
    connections = k.2.connections;
    kept = λ counts commands stands. rows_stand commands old mid answer k counts may stands;
    clean = k.2.read.clean;
  }

  same_stands : (commands : List Command) (old mid : Desk R) → mid ≡ old → g.stands_for (responder_of old) commands → g.stands_for (responder_of mid) commands
  same_stands commands old mid e stands = subst (λ (d : Desk R). g.stands_for (responder_of d) commands) (sym e) stands

  tells_stand : (commands : List Command) (old mid : Desk R) (said : Said) → Tells g jg old said mid → g.counts (responder_of mid) → MayAsk g jg old said mid
      → g.stands_for (responder_of old) commands → g.stands_for (responder_of mid) (commands_by commands said)
  tells_stand commands old mid None tells counts may stands = same_stands commands old mid tells stands
  tells_stand commands old mid (Some (event e answer)) tells counts may stands = step_stands commands old mid e answer tells counts may stands
  tells_stand commands old mid (Some (question command answer)) tells counts may stands = checked_stands commands old mid command answer tells counts may stands
  tells_stand commands old mid (Some (rows answer)) tells counts may stands = rows_stand commands old mid answer tells counts may stands

  act_stands : (commands : List Command) (d : ℕ) (old mid : Desk R) (channel after : Channel W) (act : Act) → Does g owes d old channel act mid after → g.counts (responder_of mid)
      → g.stands_for (responder_of old) commands → g.stands_for (responder_of mid) commands
  act_stands commands d old mid channel after (wrote bytes) does counts stands = same_stands commands old mid does.3 stands
  act_stands commands d old mid channel after (took bytes) does counts stands = same_stands commands old mid does.4 stands
  act_stands commands d old mid channel after (fed piece out over) does counts stands = does.5.kept counts commands stands
  act_stands commands d old mid channel after worked does counts stands = same_stands commands old mid does.3 stands

  -- all that is done leads to the commands after it
  pub goes_stands : (commands : List Command) (works : List Work) (old new : Desk R) (here next : Place J W) → (goes : Goes g jg owes old here works new next) → MayGoOn g jg owes works old new here next goes
      → g.counts (responder_of new) → g.stands_for (responder_of old) commands → g.stands_for (responder_of new) (commands_in commands works)
  goes_stands commands [] old new slots next goes may counts stands = same_stands commands old new goes.0 stands
  goes_stands commands (wakes places ∷ later) old new slots next goes may counts stands =
      goes_stands commands later goes.0 new goes.1 next goes.3 may.1 counts (same_stands commands old goes.0 goes.2.0 stands)
  goes_stands commands (opens s c ∷ later) old new slots next goes may counts stands =
      let after = goes_clean g jg owes later goes.0 new goes.1 next goes.3 counts in
      goes_stands commands later goes.0 new goes.1 next goes.3 may.1 counts (goes.2.3.kept after commands stands)
  goes_stands commands (acts s c act owing ∷ later) old new slots next goes may counts stands =
      let after = goes_clean g jg owes later goes.0 new goes.1 next goes.3 counts in
      goes_stands commands later goes.0 new goes.1 next goes.3 may.1 counts (act_stands commands c old goes.0 goes.2.0 goes.2.1 act goes.2.3 after stands)
  goes_stands commands (waits s c ∷ later) old new slots next goes may counts stands =
      goes_stands commands later goes.0 new goes.1 next goes.3 may.1 counts (same_stands commands old goes.0 goes.2.3 stands)
  goes_stands commands (ends s c cause deeds said ∷ later) old new slots next goes may counts stands =
      let after = goes_clean g jg owes later goes.0 new goes.1 next goes.3 counts in
      let told = tells_stand commands old goes.0 said goes.2.4 after may.0 stands in
      goes_stands commands later goes.0 new goes.1 next goes.3 may.1 counts (subst (λ (cs : List Command). g.stands_for (responder_of goes.0) cs) (client_same commands c said goes.2.3) told)
  goes_stands commands (office_comes o k ∷ later) old new slots next goes may counts stands =
      goes_stands commands later goes.0 new goes.1 next goes.3 may.1 counts (same_stands commands old goes.0 goes.2.5 stands)
  goes_stands commands (office_leaves o k overdue ∷ later) old new slots next goes may counts stands =
      goes_stands commands later goes.0 new goes.1 next goes.3 may.1 counts (same_stands commands old goes.0 goes.2.4 stands)
  goes_stands commands (enters o k text turned deeds said ∷ later) old new slots next goes may counts stands =
      let after = goes_clean g jg owes later goes.0 new goes.1 next goes.3 counts in
      goes_stands (commands_by commands said) later goes.0 new goes.1 next goes.3 may.1 counts (tells_stand commands old goes.0 said goes.2.7 after may.0 stands)
  goes_stands commands (aside deeds said ∷ later) old new slots next goes may counts stands =
      let after = goes_clean g jg owes later goes.0 new goes.1 next goes.3 counts in
      let told = tells_stand commands old goes.0 said goes.2.1 after may.0 stands in
      goes_stands commands later goes.0 new goes.1 next goes.3 may.1 counts (subst (λ (cs : List Command). g.stands_for (responder_of goes.0) cs) (none_same commands slots.slots said goes.2.0) told)
