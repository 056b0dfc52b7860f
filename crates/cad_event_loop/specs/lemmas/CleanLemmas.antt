-- A disk that is clean after all that is done was clean before.
use Rattle.std.proofs.Common.{◌≡◌, ℕ, List, [], ◌∷◌, None, Some, subst}
use Rattle.cad_stream.specs.declared.responder.Responder.{Ghosts}
use Rattle.cad_stream.specs.declared.journal_responder.JournalResponder.{Ghosts as JournalGhosts}
use Rattle.cad_desk.specs.declared.desk.Desk.{Desk}
use Rattle.cad_desk.specs.Desks.{responder_of}
use Rattle.cad_clients.specs.declared.channel.Channel.{Channel}
use Rattle.cad_clients.specs.Channels.{Act, wrote, took, fed, worked, Does}
use Rattle.cad_event_loop.specs.Works.{Place, event, question, rows, Said, Work, wakes, opens, acts, waits, ends, office_comes, enters, office_leaves, aside, Tells, Works, Goes}

module _ {R J W : Type 0} (g : Ghosts R) (jg : JournalGhosts R J) (owes : W → List ℕ) where
  pub same_counts : (old mid : Desk R) → mid ≡ old → g.counts (responder_of mid) → g.counts (responder_of old)
  same_counts old mid e counts = subst (λ (d : Desk R). g.counts (responder_of d)) e counts

  act_clean : (d : ℕ) (old mid : Desk R) (channel after : Channel W) (act : Act) → Does g owes d old channel act mid after → g.counts (responder_of mid) → g.counts (responder_of old)
  act_clean d old mid channel after (wrote bytes) does counts = same_counts old mid does.3 counts
  act_clean d old mid channel after (took bytes) does counts = same_counts old mid does.4 counts
  act_clean d old mid channel after (fed piece out over) does counts = does.5.clean counts
  act_clean d old mid channel after worked does counts = same_counts old mid does.3 counts

  tells_clean : (old mid : Desk R) (said : Said) → Tells g jg old said mid → g.counts (responder_of mid) → g.counts (responder_of old)
  tells_clean old mid None tells counts = same_counts old mid tells counts
  tells_clean old mid (Some (event e answer)) tells counts = tells.clean counts
  tells_clean old mid (Some (question command answer)) tells counts = tells.checked.clean counts
  tells_clean old mid (Some (rows answer)) tells counts = tells.2.read.clean counts

  work_clean : (old mid : Desk R) (slots between : Place J W) (work : Work) → Works g jg owes old slots work mid between → g.counts (responder_of mid) → g.counts (responder_of old)
  work_clean old mid slots between (wakes places) w counts = same_counts old mid w.0 counts
  work_clean old mid slots between (opens s c) w counts = w.3.clean counts
  work_clean old mid slots between (acts s c act owing) w counts = act_clean c old mid w.0 w.1 act w.3 counts
  work_clean old mid slots between (waits s c) w counts = same_counts old mid w.3 counts
  work_clean old mid slots between (ends s c cause deeds said) w counts = tells_clean old mid said w.4 counts
  work_clean old mid slots between (office_comes o k) w counts = same_counts old mid w.5 counts
  work_clean old mid slots between (enters o k text turned deeds said) w counts = tells_clean old mid said w.7 counts
  work_clean old mid slots between (office_leaves o k overdue) w counts = same_counts old mid w.4 counts
  work_clean old mid slots between (aside deeds said) w counts = tells_clean old mid said w.1 counts

  pub goes_clean : (works : List Work) (old new : Desk R) (slots next : Place J W) → Goes g jg owes old slots works new next → g.counts (responder_of new) → g.counts (responder_of old)
  goes_clean [] old new slots next goes counts = same_counts old new goes.0 counts
  goes_clean (work ∷ later) old new slots next goes counts = work_clean old goes.0 slots goes.1 work goes.2 (goes_clean later goes.0 new goes.1 next goes.3 counts)
