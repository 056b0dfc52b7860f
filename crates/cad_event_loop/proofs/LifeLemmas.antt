-- Each connection has its life.
use Rattle.std.specs.Prelude.{⊤}
use Rattle.std.proofs.Common.{◌≡◌, ◌≢◌, ℕ, nat_eq, Bool, true, false, List, [], ◌∷◌, ◌++◌, Option, None, Some, Result, Ok, Err, refl, sym, ap, subst, ◌∙◌, append_assoc, inl, inr}
use Rattle.std.proofs.lemmas.Bool.{eqb-true, eq-eqb}
use Rattle.cad_stream.specs.declared.responder.Responder.{Ghosts}
use Rattle.cad_stream.specs.declared.journal_responder.JournalResponder.{Ghosts as JournalGhosts}
use Rattle.cad_desk.specs.declared.desk.Desk.{Desk}
use Rattle.cad_desk.specs.declared.event.Event.{Event}
use Rattle.cad_desk.specs.declared.event.Event.TheVariants.{Open, Bytes, Close, Office}
use Rattle.cad_desk.specs.declared.event.Reply.{Reply}
use Rattle.cad_desk.specs.declared.fault.DeskFault.{DeskFault}
use Rattle.cad_desk.specs.Desks.{responder_of}
use Rattle.cad_network.specs.Deeds.{Deed, given_by, taken_by}
use Rattle.cad_event_loop.specs.lemmas.CleanLemmas.{goes_clean}
use Rattle.cad_event_loop.proofs.StandLemmas.{only_checked, only_read}
use Rattle.cad_network.specs.lemmas.DeedLemmas.{given_by-append, taken_by-append, given_by-one, taken_by-one}
use Rattle.cad_clients.specs.declared.channel.Channel.{Channel}
use Rattle.cad_clients.specs.declared.turned.Ending.{Ending}
use Rattle.cad_clients.specs.Channels.{Act, wrote, took, fed, worked, read_in, written_in, Does}
use Rattle.cad_clients.specs.Acts.{Happening, own, IsOther, read_of, written_of}
use Rattle.cad_versions.specs.declared.command.Command.{Command}
use Rattle.cad_versions.specs.declared.fault.RegisterFault.{RegisterFault}
use Rattle.cad_desk.specs.declared.event.Reply.TheVariants as reply
use Rattle.cad_desk.specs.Faults.{fault_of}
use Rattle.cad_office.specs.declared.print.Answer.{Answer}
use Rattle.cad_office.specs.declared.print.Answer.TheVariants.{Entered, Refused, NotACommand}
use Rattle.cad_dry_run.specs.declared.report.Report.{Report}
use Rattle.cad_dry_run.specs.declared.report.Report.TheVariants as report
use Rattle.cad_office_socket.specs.declared.turned.EntryTurned.{EntryTurned}
use Rattle.cad_office_socket.specs.declared.turned.EntryTurned.TheVariants.{Wrote, Took, Added, Answered, Lost, Checked, CheckLost, StatusAnswered, StatusLost, JournalBegun, RowsRead, RowsRefused, RowsLost, Piece, PieceLost, Stops, Waits, Over}
use Rattle.cad_event_loop.specs.Works.{Held, Place, event, question, rows, Said, Work, wakes, opens, acts, waits, ends, office_comes, enters, office_leaves, aside, deeds_in, SaysSo, ChecksSo, IsLineSaid, IsEventOf, IsOf, IsOfNone, Tells, Leaves, Works, Goes, MayAsk, MayGoOn}
use Rattle.cad_event_loop.specs.Lives.{by_another, by_desk, life_of, own_deeds, end_of, last_deeds, IsLifeBy, IsLife, EachHasItsLife}

-- connections of two numbers
pub apart : (d c : ℕ) → nat_eq d c ≡ false → d ≢ c
apart d c e same = let yes = eq-eqb d c same in let clash : true ≡ false = sym yes ∙ e in cc

other_number : (d c : ℕ) → d ≢ c → nat_eq d c ≡ false
other_number d c differ = go (nat_eq d c) refl
  where
    go : (same : Bool) → nat_eq d c ≡ same → nat_eq d c ≡ false
    go true e = absurd (differ (eqb-true d c e))
    go false e = e

pub none_some : {X : Type 0} (x : X) → ◌≡◌ {A = Option X} None (Some x) → ⊥
none_some x e = cc

pub one_some : {X : Type 0} (x y : X) → Some x ≡ Some y → x ≡ y
one_some x y e = cc

act_given : (s : ℕ) (act : Act) → given_by s (deeds_in s act) ≡ read_in act
act_given s (wrote bytes) = refl
act_given s (took bytes) = given_by-one s bytes
act_given s (fed piece out over) = refl
act_given s worked = refl

act_taken : (s : ℕ) (act : Act) → taken_by s (deeds_in s act) ≡ written_in act
act_taken s (wrote bytes) = taken_by-one s bytes
act_taken s (took bytes) = refl
act_taken s (fed piece out over) = refl
act_taken s worked = refl

-- an event of another is no event of this one
of_another : (c d : ℕ) (event : Event) → IsEventOf d event → d ≢ c → IsOther c event
of_another c d (Open e) of differ = absurd of
of_another c d (Bytes e piece) of differ = λ same. differ (sym of ∙ same)
of_another c d (Close e) of differ = λ same. differ (sym of ∙ same)
of_another c d (Office command) of differ = absurd of

module _ {R J W : Type 0} (g : Ghosts R) (jg : JournalGhosts R J) (owes : W → List ℕ) (c s : ℕ) where
  after_own : (old mid : Desk R) (channel next : Channel W) (act : Act) (happenings : List Happening) (deeds : List Deed) (ended : Option (Option Ending × List Deed)) (new : Desk R) (slots : Held W)
      → Does g owes c old channel act mid next → IsLifeBy g jg owes c s mid next happenings deeds ended new slots → IsLifeBy g jg owes c s old channel (own act ∷ happenings) (deeds_in s act ++ deeds) ended new slots
  after_own old mid channel next act happenings deeds ended new slots does l = (
    l.0,
    l.1,
    (mid, next, does, l.2),
    l.3,
    given_by-append s (deeds_in s act) deeds ∙ ap (λ (b : List ℕ). b ++ given_by s deeds) (act_given s act) ∙ ap (λ (b : List ℕ). read_in act ++ b) l.4
        ∙ sym (append_assoc (read_in act) (read_of happenings) (given_by s (last_deeds ended))),
    taken_by-append s (deeds_in s act) deeds ∙ ap (λ (b : List ℕ). b ++ taken_by s deeds) (act_taken s act) ∙ ap (λ (b : List ℕ). written_in act ++ b) l.5
        ∙ sym (append_assoc (written_in act) (written_of happenings) (taken_by s (last_deeds ended))),
    l.6,
  )

  after_nothing : (old mid : Desk R) (channel : Channel W) (happenings : List Happening) (deeds : List Deed) (ended : Option (Option Ending × List Deed)) (new : Desk R) (slots : Held W)
      → mid ≡ old → IsLifeBy g jg owes c s mid channel happenings deeds ended new slots → IsLifeBy g jg owes c s old channel happenings deeds ended new slots
  after_nothing old mid channel happenings deeds ended new slots e l = subst (λ (d : Desk R). IsLifeBy g jg owes c s d channel happenings deeds ended new slots) e l

  after_another : (d : ℕ) (old mid : Desk R) (there after channel : Channel W) (act : Act) (happenings : List Happening) (deeds : List Deed) (ended : Option (Option Ending × List Deed)) (new : Desk R) (slots : Held W)
      → d ≢ c → Does g owes d old there act mid after → IsLifeBy g jg owes c s mid channel happenings deeds ended new slots → IsLifeBy g jg owes c s old channel (by_another d act happenings) deeds ended new slots
  after_another d old mid there after channel (wrote bytes) happenings deeds ended new slots differ does l = after_nothing old mid channel happenings deeds ended new slots does.3 l
  after_another d old mid there after channel (took bytes) happenings deeds ended new slots differ does l = after_nothing old mid channel happenings deeds ended new slots does.4 l
  after_another d old mid there after channel (fed piece out over) happenings deeds ended new slots differ does l =
      (l.0, l.1, (mid, differ, does.5, tt, l.2), l.3, l.4, l.5, l.6)
  after_another d old mid there after channel worked happenings deeds ended new slots differ does l = after_nothing old mid channel happenings deeds ended new slots does.3 l

  -- what the desk gets is of no event of this connection
  abbrev IsApart : Said → Type 0
  IsApart None = ⊤
  IsApart (Some (event e answer)) = IsOther c e
  IsApart (Some (question command answer)) = ⊤
  IsApart (Some (rows answer)) = ⊤

  after_told : (old mid : Desk R) (channel : Channel W) (said : Said) (happenings : List Happening) (deeds : List Deed) (ended : Option (Option Ending × List Deed)) (new : Desk R) (slots : Held W)
      → IsApart said → Tells g jg old said mid → MayAsk g jg old said mid
      → IsLifeBy g jg owes c s mid channel happenings deeds ended new slots → IsLifeBy g jg owes c s old channel (by_desk said happenings) deeds ended new slots
  after_told old mid channel None happenings deeds ended new slots differ tells may l = after_nothing old mid channel happenings deeds ended new slots tells l
  after_told old mid channel (Some (event e answer)) happenings deeds ended new slots differ tells may l =
      (l.0, l.1, (mid, differ, tells, may, l.2), l.3, l.4, l.5, l.6)
  after_told old mid channel (Some (question command answer)) happenings deeds ended new slots differ tells may l =
      (l.0, l.1, (mid, only_checked g jg owes old mid command answer tells may, l.2), l.3, l.4, l.5, l.6)
  after_told old mid channel (Some (rows answer)) happenings deeds ended new slots differ tells may l =
      (l.0, l.1, (mid, only_read g jg owes old mid answer tells may, l.2), l.3, l.4, l.5, l.6)

  ends_apart : (d : ℕ) (said : Said) → d ≢ c → IsOf d said → IsApart said
  ends_apart d None differ of = tt
  ends_apart d (Some (event e answer)) differ of = of_another c d e of differ
  ends_apart d (Some (question command answer)) differ of = tt
  ends_apart d (Some (rows answer)) differ of = tt

  aside_apart : (slots : Held W) (channel : Channel W) (said : Said) → slots c ≡ Some (s, channel) → IsOfNone slots said → IsApart said
  aside_apart slots channel None here of = tt
  aside_apart slots channel (Some (event e answer)) here of =
      let another : IsOther c (Open of.0) = λ same. none_some {X = ℕ × Channel W} (s, channel) (sym of.1 ∙ (ap slots same ∙ here)) in
      subst (λ (it : Event). IsOther c it) (sym of.2) another
  aside_apart slots channel (Some (question command answer)) here of = tt
  aside_apart slots channel (Some (rows answer)) here of = tt

  -- what the land office tells the desk is of no connection
  told_apart : (command : Command) (answer : Result Reply DeskFault) (said : Said) → said ≡ Some (event (Office command) answer) → IsApart said
  told_apart command answer said is = subst (λ (it : Said). IsApart it) (sym is) tt

  question_apart : (command : Command) (answer : Result ℕ RegisterFault) (said : Said) → said ≡ Some (question command answer) → IsApart said
  question_apart command answer said is = subst (λ (it : Said). IsApart it) (sym is) tt

  rows_apart : (answer : Result Bool RegisterFault) (said : Said) → said ≡ Some (rows answer) → IsApart said
  rows_apart answer said is = subst (λ (it : Said). IsApart it) (sym is) tt

  untold_apart : (said : Said) → said ≡ None → IsApart said
  untold_apart said is = subst (λ (it : Said). IsApart it) (sym is) tt

  answer_apart : (text : List ℕ) (answer : Answer) (said : Said) → SaysSo text answer said → IsApart said
  answer_apart text (Entered revision) said says = told_apart says.0 (Ok (reply.Entered revision)) said says.2
  answer_apart text (Refused fault) said says = elim says [
    | inl refused ↦ told_apart refused.0 (Err (fault_of fault)) said refused.2
    | inr none ↦ untold_apart said none.2
  ]
  answer_apart text NotACommand said says = untold_apart said says.1

  check_apart : (line : List ℕ) (it : Report) (said : Said) → ChecksSo line it said → IsApart said
  check_apart line (report.WouldBe revision) said says = question_apart says.0 (Ok revision) said says.2
  check_apart line (report.Refused fault) said says = elim says [
    | inl refused ↦ question_apart refused.0 (Err fault) said refused.2
    | inr none ↦ untold_apart said none.2
  ]
  check_apart line (report.NoCommand reason) said says = untold_apart said says.1
  check_apart line report.LongLine said says = untold_apart said says.1

  office_apart : (text : List ℕ) (turned : EntryTurned) (said : Said) → IsLineSaid text turned said → IsApart said
  office_apart text (Answered answer) said line = answer_apart text answer said line.1
  office_apart text (Lost answer) said line = answer_apart text answer said line.1
  office_apart text (Checked it) said line = check_apart line.0 it said line.2
  office_apart text (CheckLost it) said line = check_apart line.0 it said line.2
  office_apart text (StatusAnswered status) said line = untold_apart said line.1
  office_apart text StatusLost said line = untold_apart said line.1
  office_apart text (JournalBegun behind) said line = untold_apart said line.1
  office_apart text RowsRead said line = rows_apart (Ok line.0) said line.1
  office_apart text (RowsRefused fault) said line = rows_apart (Err fault) said line
  office_apart text (RowsLost fault) said line = rows_apart (Err fault) said line
  office_apart text Piece said line = untold_apart said line
  office_apart text PieceLost said line = untold_apart said line
  office_apart text Stops said line = untold_apart said line.1
  office_apart text Wrote said line = untold_apart said line
  office_apart text Took said line = untold_apart said line
  office_apart text Added said line = untold_apart said line
  office_apart text Waits said line = untold_apart said line
  office_apart text Over said line = untold_apart said line

  -- connection c, held by two names of one slot
  held_once : (slots : Held W) (d t : ℕ) (there channel : Channel W) → d ≡ c → slots d ≡ Some (t, there) → slots c ≡ Some (s, channel) → ◌≡◌ {A = ℕ × Channel W} (t, there) (s, channel)
  held_once slots d t there channel same at here =
      one_some {X = ℕ × Channel W} (t, there) (s, channel) (sym at ∙ (ap slots same ∙ here))

  life : (works : List Work) (old new : Desk R) (here_at next : Place J W) (channel : Channel W) → (goes : Goes g jg owes old here_at works new next) → MayGoOn g jg owes works old new here_at next goes
      → here_at.slots c ≡ Some (s, channel) → IsLife g jg owes c s old channel works new next
  life [] old new here_at next channel goes may here = (old, channel, (refl, refl), ap (λ (h : Place J W). h.slots c) goes.1 ∙ here, refl, refl, λ counts. subst (λ (d : Desk R). g.counts (responder_of d)) goes.0 counts)
  life (wakes places ∷ later) old new here_at next channel goes may here =
      let work = goes.2 in
      let there : goes.1.slots c ≡ Some (s, channel) = work.1 c ∙ here in
      let l = life later goes.0 new goes.1 next channel goes.3 may.1 there in
      after_nothing old goes.0 channel (life_of c later) (own_deeds c later) (end_of c later) new next.slots work.0 l
  life (opens t d ∷ later) old new here_at next channel goes may here =
      let work = goes.2 in
      let differ : d ≢ c = λ same. none_some {X = ℕ × Channel W} (s, channel) (sym work.1 ∙ (ap here_at.slots same ∙ here)) in
      let there : goes.1.slots c ≡ Some (s, channel) = work.4 c ∙ rw (other_number d c differ) here in
      let l = life later goes.0 new goes.1 next channel goes.3 may.1 there in
      (l.0, l.1, (goes.0, differ, work.3, tt, l.2), l.3, l.4, l.5, l.6)
  life (acts t d act owing ∷ later) old new here_at next channel goes may here =
      go (λ it there. life later goes.0 new goes.1 next it goes.3 may.1 there) (nat_eq d c) refl
    where
      work : Works g jg owes old here_at (acts t d act owing) goes.0 goes.1
      work = goes.2

      go : ((it : Channel W) → goes.1.slots c ≡ Some (s, it) → IsLife g jg owes c s goes.0 it later new next) → (same : Bool) → nat_eq d c ≡ same → IsLife g jg owes c s old channel (acts t d act owing ∷ later) new next
      go again true e =
          let same = eqb-true d c e in
          let pair = held_once here_at.slots d t work.0 channel same work.2 here in
          let name : t ≡ s = ap (λ (p : ℕ × Channel W). p.0) pair in
          let at : work.0 ≡ channel = ap (λ (p : ℕ × Channel W). p.1) pair in
          let does = subst (λ (k : ℕ). Does g owes k old channel act goes.0 work.1) same (subst (λ (it : Channel W). Does g owes d old it act goes.0 work.1) at work.3) in
          let there : goes.1.slots c ≡ Some (s, work.1) = work.4 c ∙ rw e (ap (λ (n : ℕ). Some (n, work.1)) name) in
          let l = again work.1 there in
          rw e (subst (λ (n : ℕ). IsLifeBy g jg owes c s old channel (own act ∷ life_of c later) (deeds_in n act ++ own_deeds c later) (end_of c later) new next.slots) (sym name)
          (after_own old goes.0 channel work.1 act (life_of c later) (own_deeds c later) (end_of c later) new next.slots does l))
      go again false e =
          let there : goes.1.slots c ≡ Some (s, channel) = work.4 c ∙ rw e here in
          let l = again channel there in
          rw e (after_another d old goes.0 work.0 work.1 channel act (life_of c later) (own_deeds c later) (end_of c later) new next.slots (apart d c e) work.3 l)
  life (waits t d ∷ later) old new here_at next channel goes may here =
      let work = goes.2 in
      let there : goes.1.slots c ≡ Some (s, channel) = work.4 c ∙ here in
      let l = life later goes.0 new goes.1 next channel goes.3 may.1 there in
      after_nothing old goes.0 channel (life_of c later) (own_deeds c later) (end_of c later) new next.slots work.3 l
  life (ends t d cause deeds said ∷ later) old new here_at next channel goes may here =
      go (λ it there. life later goes.0 new goes.1 next it goes.3 may.1 there) (nat_eq d c) refl
    where
      work : Works g jg owes old here_at (ends t d cause deeds said) goes.0 goes.1
      work = goes.2

      go : ((it : Channel W) → goes.1.slots c ≡ Some (s, it) → IsLife g jg owes c s goes.0 it later new next) → (same : Bool) → nat_eq d c ≡ same → IsLife g jg owes c s old channel (ends t d cause deeds said ∷ later) new next
      go again true e =
          let same = eqb-true d c e in
          let pair = held_once here_at.slots d t work.0 channel same work.1 here in
          let name : t ≡ s = ap (λ (p : ℕ × Channel W). p.0) pair in
          let at : work.0 ≡ channel = ap (λ (p : ℕ × Channel W). p.1) pair in
          let leaves = subst (λ (k : ℕ). Leaves g k s old channel cause deeds goes.0) same (subst (λ (k : ℕ). Leaves g d k old channel cause deeds goes.0) name
          (subst (λ (it : Channel W). Leaves g d t old it cause deeds goes.0) at work.2)) in
          rw e (old, channel, (refl, refl), (goes.0, leaves), refl, refl, goes_clean g jg owes (ends t d cause deeds said ∷ later) old new here_at next goes)
      go again false e =
          let there : goes.1.slots c ≡ Some (s, channel) = work.5 c ∙ rw e here in
          let l = again channel there in
          rw e (after_told old goes.0 channel said (life_of c later) (own_deeds c later) (end_of c later) new next.slots (ends_apart d said (apart d c e) work.3) work.4 may.0 l)
  life (office_comes o k ∷ later) old new here_at next channel goes may here =
      let work = goes.2 in
      let there : goes.1.slots c ≡ Some (s, channel) = work.4 c ∙ here in
      let l = life later goes.0 new goes.1 next channel goes.3 may.1 there in
      after_nothing old goes.0 channel (life_of c later) (own_deeds c later) (end_of c later) new next.slots work.5 l
  life (enters o k text turned deeds said ∷ later) old new here_at next channel goes may here =
      let work = goes.2 in
      let there : goes.1.slots c ≡ Some (s, channel) = work.9 c ∙ here in
      let l = life later goes.0 new goes.1 next channel goes.3 may.1 there in
      after_told old goes.0 channel said (life_of c later) (own_deeds c later) (end_of c later) new next.slots (office_apart text turned said work.6) work.7 may.0 l
  life (office_leaves o k overdue ∷ later) old new here_at next channel goes may here =
      let work = goes.2 in
      let there : goes.1.slots c ≡ Some (s, channel) = work.3 c ∙ here in
      let l = life later goes.0 new goes.1 next channel goes.3 may.1 there in
      after_nothing old goes.0 channel (life_of c later) (own_deeds c later) (end_of c later) new next.slots work.4 l
  life (aside deeds said ∷ later) old new here_at next channel goes may here =
      let work = goes.2 in
      let there : goes.1.slots c ≡ Some (s, channel) = work.2 c ∙ here in
      let l = life later goes.0 new goes.1 next channel goes.3 may.1 there in
      after_told old goes.0 channel said (life_of c later) (own_deeds c later) (end_of c later) new next.slots (aside_apart here_at.slots channel said here work.0) work.1 may.0 l

pub each_has_its_life : {R J W : Type 0} (g : Ghosts R) (jg : JournalGhosts R J) (owes : W → List ℕ) → EachHasItsLife g jg owes
each_has_its_life g jg owes c s works old new here next channel goes may at = life g jg owes c s works old new here next channel goes may at
