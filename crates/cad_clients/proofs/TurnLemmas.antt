-- Turns of a connection in a visit, and one more.
use Rattle.std.proofs.Common.{◌≡◌, ◌⊎◌, inl, inr, ℕ, zero, suc, ◌+◌, ◌*◌, ◌<◌, ◌≤◌, Bool, true, false, if◌then◌else◌, List, [], ◌∷◌, ◌++◌, length, Option, None, Some, IsSome, IsSomeAnd, refl, ap, subst, ◌∙◌, arith}
use Rattle.cad_network.specs.Deeds.{Deed, AddsSome, left}
use Rattle.cad_network.specs.lemmas.DeedLemmas.{Adds-trans}
use Rattle.std.proofs.lemmas.Bool.{eq-eqb}
use Rattle.cad_stream.specs.declared.responder.Responder.{Ghosts}
use Rattle.cad_desk.specs.declared.desk.Desk.{Desk}
use Rattle.cad_clients.specs.declared.budget.Budget.{Budget}
use Rattle.cad_clients.specs.declared.budget.Budget.TheVariants.{First}
use Rattle.cad_clients.specs.declared.turned.Ending.{Ending}
use Rattle.cad_clients.specs.declared.turned.Ending.TheVariants.{PeerEnded, WeEnded, Refused, Unmade, ReadFailed, WriteFailed}
use Rattle.cad_clients.specs.declared.turned.Turned.{Turned}
use Rattle.cad_clients.specs.declared.turned.Turned.TheVariants.{Wrote, Took, Fed, Worked, Waits, Over}
use Rattle.cad_clients.specs.declared.client.Client.{Client}
use Rattle.cad_clients.specs.declared.clients.Clients.{Clients}
use Rattle.cad_clients.specs.declared.served.Served.TheVariants.{Stays, Over as Served-Over, Unknown}
use Rattle.cad_clients.specs.Budgets.{first_piece, worked_by, GetsLess}
use Rattle.cad_clients.specs.Notes.{IsOwing, IsWorking}
use Rattle.cad_clients.specs.lemmas.ChannelLemmas.{working_not_sending, working_not_sent, working_not_waiting}
use Rattle.cad_clients.specs.Slots.{client_at, Changes}
use Rattle.cad_clients.specs.Steps.{is_over, any_over, last_deed, fed_by, fed_in, worked_in, HasEnough, IsEnough, left_to_do, most_turns, HasTurn, HasTurns, IsServed}

-- one, if it was done
abbrev pub times : Bool → ℕ
times done = if done then 1 else 0

times_few : (done : Bool) → times done ≤ 1
times_few true = omega arith
times_few false = omega arith

-- what was not done in a turn was done as often as before; what is done for the first time, once
pub same_times : (count : ℕ) (before after : Bool) → count ≡ 0 → after ≡ before → count + times before ≡ times after
same_times count before after none same = let e = ap times same in omega (arith, none, e)

pub once : (count : ℕ) (before after : Bool) → count ≡ 1 → before ≡ false → after ≡ true → count + times before ≡ times after
once count before after one not done =
    let b = ap times not in
    let a = ap times done in
    omega (arith, one, b, a)

pub none_before : (count : ℕ) (before : Bool) → count ≡ 1 → count + times before ≤ 1 → before ≡ false
none_before count true one few = absurd (omega (arith, one, few))
none_before count false one few = refl

-- the work of one turn more
pub spent_more : (new mid old worked before after : ℕ) → new ≤ mid + first_piece * worked → mid ≤ old + first_piece * before → worked + before ≡ after → new ≤ old + first_piece * after
spent_more new mid old worked before after now earlier sum = omega (arith, now, earlier, sum)

pub worked_few : (turned : Turned) → worked_by turned ≤ 1
worked_few Worked = omega arith
worked_few (Over Unmade) = omega arith
worked_few (Over PeerEnded) = omega arith
worked_few (Over WeEnded) = omega arith
worked_few (Over (Refused fault)) = omega arith
worked_few (Over ReadFailed) = omega arith
worked_few (Over WriteFailed) = omega arith
worked_few Wrote = omega arith
worked_few Took = omega arith
worked_few Fed = omega arith
worked_few Waits = omega arith

-- a socket is let go at the last turn alone
pub last_of : (turned : Turned) (s : ℕ) → is_over turned ≡ true → last_deed turned s ≡ left s ∷ []
last_of (Over ending) s e = refl
last_of Wrote s e = absurd (let clash : false ≡ true = e in cc)
last_of Took s e = absurd (let clash : false ≡ true = e in cc)
last_of Fed s e = absurd (let clash : false ≡ true = e in cc)
last_of Worked s e = absurd (let clash : false ≡ true = e in cc)
last_of Waits s e = absurd (let clash : false ≡ true = e in cc)

pub none_of : (turned : Turned) (s : ℕ) → is_over turned ≡ false → last_deed turned s ≡ []
none_of (Over ending) s e = absurd (let clash : true ≡ false = e in cc)
none_of Wrote s e = refl
none_of Took s e = refl
none_of Fed s e = refl
none_of Worked s e = refl
none_of Waits s e = refl

-- after a piece of work, less is left to do for the connection that is put back
pub worked_less : {S W : Type 0} (remaining : W → ℕ) (turned : Turned) (old new : Clients S W) (c : ℕ) (client after : Client S W) → client_at old c ≡ Some client → Changes old new c (Some after)
    → GetsLess remaining turned client.channel after.channel → turned ≡ Worked → left_to_do remaining (client_at new c) < left_to_do remaining (client_at old c)
worked_less remaining turned old new c client after was changes less worked = rw (was, changes c, eq-eqb c c refl) (less worked)

-- so many turns of connection c were made, in which the desk took a piece or none, and a reply was worked on or not, and the connection is
-- there after each of them
pub record HaveCome {S W : Type 0} (c made : ℕ) (has_fed has_worked : Bool) (turns : List Turned) (next : Clients S W) : Type 0 where
  pub count : length turns ≡ made
  pub fed : fed_in turns ≡ times has_fed
  pub worked : worked_in turns ≡ times has_worked
  pub there : (turns ≡ []) ⊎ IsSome (client_at next c)
  pub none_over : any_over turns ≡ false

module _ {R S W : Type 0} (g : Ghosts R) (owes : W → List ℕ) (name : S → ℕ) (c now : ℕ) where
  -- a connection that is not over is there after its turn
  still_there : (turned : Turned) (mid new : Desk R) (between next : Clients S W) (deeds : List Deed)
      → is_over turned ≡ false → HasTurn g owes name c now First mid between (Some turned) new next deeds → IsSome (client_at next c)
  still_there turned mid new between next deeds goes_on turn = rw (turn.8 c, eq-eqb c c refl, goes_on) refl

  -- the desk takes a piece only after all replies went out
  owes_nothing : (mid new : Desk R) (between next : Clients S W) (deeds : List Deed)
      → HasTurn g owes name c now First mid between (Some Fed) new next deeds → IsSomeAnd (client_at between c) IsOwing → ⊥
  owes_nothing mid new between next deeds turn owing =
      let sent = turn.5.1.3.0.sent in
      let here : IsOwing turn.0 = subst (λ (o : Option (Client S W)). IsSomeAnd o IsOwing) turn.3 owing in
      let at_hand = ap length sent.none_at_hand in
      let owed = ap length sent.none_owed in
      elim here [
        | inl some ↦ omega (arith, some, at_hand)
        | inr some ↦ omega (arith, some, owed)
      ]

  -- a turn that is a piece of work is one for a connection whose reply is worked on
  is_worked_on : (turned : Turned) (budget : Budget) (mid new : Desk R) (between next : Clients S W) (deeds : List Deed)
      → HasTurn g owes name c now budget mid between (Some turned) new next deeds → worked_by turned ≡ 1 → IsSomeAnd (client_at between c) IsWorking
  is_worked_on Worked budget mid new between next deeds turn one = rw turn.3 turn.5.1
  is_worked_on (Over Unmade) budget mid new between next deeds turn one = rw turn.3 turn.5.0
  is_worked_on (Over PeerEnded) budget mid new between next deeds turn one = absurd (omega (arith, one))
  is_worked_on (Over WeEnded) budget mid new between next deeds turn one = absurd (omega (arith, one))
  is_worked_on (Over (Refused fault)) budget mid new between next deeds turn one = absurd (omega (arith, one))
  is_worked_on (Over ReadFailed) budget mid new between next deeds turn one = absurd (omega (arith, one))
  is_worked_on (Over WriteFailed) budget mid new between next deeds turn one = absurd (omega (arith, one))
  is_worked_on Wrote budget mid new between next deeds turn one = absurd (omega (arith, one))
  is_worked_on Took budget mid new between next deeds turn one = absurd (omega (arith, one))
  is_worked_on Fed budget mid new between next deeds turn one = absurd (omega (arith, one))
  is_worked_on Waits budget mid new between next deeds turn one = absurd (omega (arith, one))

  -- while a reply is worked on, a turn is a piece of work, or there is no memory for one
  module _ (budget : Budget) (mid new : Desk R) (between next : Clients S W) (deeds : List Deed) where
    here : (turned : Turned) (turn : HasTurn g owes name c now budget mid between (Some turned) new next deeds) → IsSomeAnd (client_at between c) IsWorking → IsWorking turn.0
    here turned turn working = subst (λ (o : Option (Client S W)). IsSomeAnd o IsWorking) turn.3 working

    pub has_worked : (turned : Turned) → is_over turned ≡ false → HasTurn g owes name c now budget mid between (Some turned) new next deeds
        → IsSomeAnd (client_at between c) IsWorking → turned ≡ Worked
    has_worked Worked stays turn working = refl
    has_worked Wrote stays turn working = absurd (working_not_sending turn.0.channel (here Wrote turn working) turn.5.3)
    has_worked Took stays turn working = absurd (working_not_sent turn.0.channel (here Took turn working) turn.5.2.0.ready.sent)
    has_worked Fed stays turn working = absurd (working_not_sent turn.0.channel (here Fed turn working) turn.5.1.3.0.sent)
    has_worked Waits stays turn working = absurd (working_not_waiting turn.0.channel (here Waits turn working) turn.5.1)
    has_worked (Over ending) stays turn working = absurd (let clash : true ≡ false = stays in cc)

    pub is_unmade : (ending : Ending) → HasTurn g owes name c now budget mid between (Some (Over ending)) new next deeds
        → IsSomeAnd (client_at between c) IsWorking → ending ≡ Unmade
    is_unmade Unmade turn working = refl
    is_unmade PeerEnded turn working = absurd (working_not_sent turn.0.channel (here (Over PeerEnded) turn working) turn.5.1.ready.sent)
    is_unmade WeEnded turn working = absurd (working_not_sent turn.0.channel (here (Over WeEnded) turn working) turn.5.1)
    is_unmade (Refused fault) turn working = absurd (working_not_sent turn.0.channel (here (Over (Refused fault)) turn working) turn.5.0.sent)
    is_unmade ReadFailed turn working = absurd (working_not_sent turn.0.channel (here (Over ReadFailed) turn working) turn.5.1.ready.sent)
    is_unmade WriteFailed turn working = absurd (working_not_sending turn.0.channel (here (Over WriteFailed) turn working) turn.5.1)

  module _ (has_fed has_worked : Bool) (mid new : Desk R) (between next : Clients S W) (deeds : List Deed) (goes_on : HasEnough c has_fed has_worked between → ⊥) where
    -- while the connection has not enough, the desk takes the first piece
    pub first_fed : HasTurn g owes name c now First mid between (Some Fed) new next deeds → has_fed ≡ false
    first_fed turn = go has_fed refl
      where
        go : (fed : Bool) → has_fed ≡ fed → has_fed ≡ false
        go true e = absurd (goes_on (inl (e, owes_nothing mid new between next deeds turn)))
        go false e = e

    -- and a piece of work is the first one
    pub first_worked : (turned : Turned) → HasTurn g owes name c now First mid between (Some turned) new next deeds → worked_by turned + times has_worked ≤ 1
    first_worked turned turn = go has_worked (worked_by turned) refl refl (worked_few turned)
      where
        go : (worked : Bool) (count : ℕ) → has_worked ≡ worked → worked_by turned ≡ count → count ≤ 1 → worked_by turned + times has_worked ≤ 1
        go false count e f few = let none = ap times e in omega (arith, none, f, few)
        go true zero e f few = let one = ap times e in omega (arith, one, f)
        go true (suc count) e f few = absurd (goes_on (inr (e, is_worked_on turned First mid new between next deeds turn (omega (arith, f, few)))))

module _ {R S W : Type 0} (g : Ghosts R) (owes : W → List ℕ) (name : S → ℕ) (c now : ℕ) (old : Desk R) (clients : Clients S W) where
  -- turns of the connection were made
  abbrev pub HadTurns : ℕ → Bool → Bool → Option (List Deed) → Option (List Deed) → Desk R → Clients S W → Type 0
  HadTurns made has_fed has_worked from to new next =
      AddsSome from to (λ deeds. (turns : List Turned) × HasTurns g owes name c now old clients turns new next deeds × HaveCome c made has_fed has_worked turns next)

  -- and the connection has no more for now
  pub stays : (made : ℕ) (has_fed has_worked : Bool) (from to : Option (List Deed)) (new : Desk R) (next : Clients S W) (had : HadTurns made has_fed has_worked from to new next)
      → IsEnough c had.2.0 next → made ≤ most_turns → AddsSome from to (IsServed g owes name c now old clients Stays new next)
  stays made has_fed has_worked from to new next had enough most =
      let few_fed = times_few has_fed in
      let few_worked = times_few has_worked in
      let fed = had.2.2.fed in
      let worked = had.2.2.worked in
      let count = had.2.2.count in
      (had.0, had.1, (had.2.0, had.2.1, omega (arith, few_fed, fed), omega (arith, few_worked, worked), enough, had.2.2.none_over, omega (arith, count, most)))

  -- since it has enough
  pub has_enough : (made : ℕ) (has_fed has_worked : Bool) (from to : Option (List Deed)) (new : Desk R) (next : Clients S W)
      → HadTurns made has_fed has_worked from to new next → HasEnough c has_fed has_worked next → made ≤ most_turns
      → AddsSome from to (IsServed g owes name c now old clients Stays new next)
  has_enough made has_fed has_worked from to new next had enough most =
      stays made has_fed has_worked from to new next had (elim enough [
        | inl out ↦ inr (inl (had.2.2.fed ∙ ap times out.0, out.1))
        | inr working ↦ inr (inr (inl (had.2.2.worked ∙ ap times working.0, working.1)))
      ]) most

  module _ (made : ℕ) (has_fed has_worked : Bool) (from to last : Option (List Deed)) (mid new : Desk R) (between next : Clients S W) (had : HadTurns made has_fed has_worked from to mid between) where
    -- and then there was no connection
    pub unknown : AddsSome to last (HasTurn g owes name c now First mid between None new next) → AddsSome from last (IsServed g owes name c now old clients Unknown new next)
    unknown turn =
        let none : (had.2.0 ≡ []) = elim had.2.2.there [ inl e ↦ e | inr some ↦ (let there = rw turn.2.0 at some in cc) ] in
        let first = subst (λ (turns : List Turned). HasTurns g owes name c now old clients turns mid between had.0) none had.2.1 in (
          had.0 ++ turn.0,
          Adds-trans from to last had.0 turn.0 had.1 turn.1,
          (
            subst (λ (it : Clients S W). client_at it c ≡ None) first.2 turn.2.0,
            rw (first.0, turn.2.1) refl,
            turn.2.2 ∙ first.1,
            λ d. turn.2.3 d ∙ ap (λ (it : Clients S W). client_at it d) first.2,
          ),
        )

    -- and then it was over
    pub ended : (ending : Ending) → made < most_turns → worked_by (Over ending) + times has_worked ≤ 1
        → AddsSome to last (HasTurn g owes name c now First mid between (Some (Over ending)) new next)
        → AddsSome from last (IsServed g owes name c now old clients (Served-Over ending) new next)
    ended ending most few turn =
        let few_fed = times_few has_fed in
        let fed = had.2.2.fed in
        let worked = had.2.2.worked in
        let count = had.2.2.count in (
          had.0 ++ turn.0,
          Adds-trans from to last had.0 turn.0 had.1 turn.1,
          (had.2.0, (mid, between, had.0, turn.0, had.2.1, turn.2, refl), omega (arith, few_fed, fed), omega (arith, few, worked), had.2.2.none_over, omega (arith, count, most)),
        )

    -- and the connection goes on
    pub went_on : (turned : Turned) (feeds works : Bool) → is_over turned ≡ false → fed_by turned + times has_fed ≡ times feeds → worked_by turned + times has_worked ≡ times works
        → AddsSome to last (HasTurn g owes name c now First mid between (Some turned) new next) → HadTurns (made + 1) feeds works from last new next
    went_on turned feeds works goes_on fed worked turn =
        let count = had.2.2.count in (
          had.0 ++ turn.0,
          Adds-trans from to last had.0 turn.0 had.1 turn.1,
          (
            turned ∷ had.2.0,
            (mid, between, had.0, turn.0, had.2.1, turn.2, refl),
            record {
              count = omega (arith, count);
              fed = ap (λ (n : ℕ). fed_by turned + n) had.2.2.fed ∙ fed;
              worked = ap (λ (n : ℕ). worked_by turned + n) had.2.2.worked ∙ worked;
              there = inr (still_there g owes name c now turned mid new between next turn.0 goes_on turn.2);
              none_over = rw goes_on had.2.2.none_over;
            },
          ),
        )

    -- and its socket gives or takes nothing for now
    pub waits : made < most_turns → AddsSome to last (HasTurn g owes name c now First mid between (Some Waits) new next)
        → AddsSome from last (IsServed g owes name c now old clients Stays new next)
    unfolding went_on
    waits most turn =
        stays (made + 1) has_fed has_worked from last new next (went_on Waits has_fed has_worked refl (omega arith) (omega arith) turn) (inl (had.2.0, refl)) (omega (arith, most))
