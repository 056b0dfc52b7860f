-- All that hosting does, by how it ended.
use Rattle.std.proofs.Common.{◌≡◌, ℕ, Bool, true, false, List, [], Option, None, Some, Result, Ok, Err, IsErr, refl, sym, ap, subst, inl, inr, arith}
use Rattle.cad_stream.specs.declared.responder.Responder.{Ghosts}
use Rattle.cad_stream.specs.declared.journal_responder.JournalResponder.{Ghosts as JournalGhosts}
use Rattle.cad_desk.specs.declared.desk.Desk.{Desk}
use Rattle.cad_network.specs.Deeds.{Deed, Adds}
use Rattle.cad_network.specs.lemmas.DeedLemmas.{Adds-nil, Adds-trans}
use Rattle.cad_clients.specs.declared.turned.Ending.{Ending}
use Rattle.cad_clients.specs.declared.turned.Ending.TheVariants.{PeerEnded, WeEnded, Refused, Unmade, ReadFailed, WriteFailed}
use Rattle.cad_dry_run.specs.Reports.{answer_of}
use Rattle.cad_office_socket.specs.declared.turned.EntryTurned.{EntryTurned}
use Rattle.cad_office_socket.specs.declared.turned.EntryTurned.TheVariants as turn
use Rattle.cad_office.specs.declared.print.Answer.TheVariants as answer
use Rattle.cad_office_socket.specs.Serving as serving
use Rattle.cad_event_loop.specs.declared.rounds.Rounds.{Rounds}
use Rattle.cad_event_loop.specs.declared.stopped.Stopped.{Stopped}
use Rattle.cad_event_loop.specs.declared.stopped.Stopped.TheVariants.{Asked, StoreRefused, RoundsSpent}
use Rattle.cad_event_loop.specs.Hosting.{end_of_rounds, IsClosing, IsLastOf, Hosts, Serves, HostsBy, Hosted}
use Rattle.cad_event_loop.specs.Turns.{nobody, AreServed}
use Rattle.cad_event_loop.specs.inner.Offices.{office_at}
use Rattle.cad_event_loop.specs.inner.Rounds.{here, IsNobody}
use Rattle.cad_event_loop.specs.Works.{Place, IsEmpty, held_of, Work, wakes, opens, acts, waits, ends, office_comes, enters, office_leaves, aside, is_store, store_end, end_of_cause, end_of_turned, end_by, EndsBy, all_deeds}
use Rattle.cad_event_loop.proofs.GoesLemmas.{all_deeds-append, goes-append}

store_or_none : (refused : Bool) → store_end refused ≡ Some RoundsSpent → ⊥
store_or_none true e = let clash : Some StoreRefused ≡ Some RoundsSpent = e in cc
store_or_none false e = let clash : ◌≡◌ {A = Option Stopped} None (Some RoundsSpent) = e in cc

nothing_spends : ◌≡◌ {A = Option Stopped} None (Some RoundsSpent) → ⊥
nothing_spends e = cc

cause_spends : (cause : Option Ending) → end_of_cause cause ≡ Some RoundsSpent → ⊥
cause_spends None e = nothing_spends e
cause_spends (Some PeerEnded) e = nothing_spends e
cause_spends (Some WeEnded) e = nothing_spends e
cause_spends (Some (Refused fault)) e = store_or_none (is_store (Err fault)) e
cause_spends (Some Unmade) e = nothing_spends e
cause_spends (Some ReadFailed) e = nothing_spends e
cause_spends (Some WriteFailed) e = nothing_spends e

turn_spends : (turned : EntryTurned) → end_of_turned turned ≡ Some RoundsSpent → ⊥
turn_spends turn.Wrote e = nothing_spends e
turn_spends turn.Took e = nothing_spends e
turn_spends turn.Added e = nothing_spends e
turn_spends (turn.Answered answer) e = store_or_none (serving.is_store answer) e
turn_spends (turn.Lost answer) e = store_or_none (serving.is_store answer) e
turn_spends (turn.Checked report) e = store_or_none (serving.is_store (answer_of report)) e
turn_spends (turn.CheckLost report) e = store_or_none (serving.is_store (answer_of report)) e
turn_spends (turn.StatusAnswered status) e = nothing_spends e
turn_spends turn.StatusLost e = nothing_spends e
turn_spends (turn.JournalBegun behind) e = nothing_spends e
turn_spends turn.RowsRead e = nothing_spends e
turn_spends (turn.RowsRefused fault) e = store_or_none (serving.is_store (answer.Refused fault)) e
turn_spends (turn.RowsLost fault) e = store_or_none (serving.is_store (answer.Refused fault)) e
turn_spends turn.Piece e = nothing_spends e
turn_spends turn.PieceLost e = nothing_spends e
turn_spends turn.Stops e = let clash : Some Asked ≡ Some RoundsSpent = e in cc
turn_spends turn.Waits e = nothing_spends e
turn_spends turn.Over e = nothing_spends e

none_spends : (work : Work) → end_by work ≡ Some RoundsSpent → ⊥
none_spends (wakes places) e = nothing_spends e
none_spends (opens s c) e = nothing_spends e
none_spends (acts s c act owing) e = nothing_spends e
none_spends (waits s c) e = nothing_spends e
none_spends (ends s c cause deeds said) e = cause_spends cause e
none_spends (office_comes o k) e = nothing_spends e
none_spends (enters o k text turned deeds said) e = turn_spends turned e
none_spends (office_leaves o k overdue) e = nothing_spends e
none_spends (aside deeds said) e = nothing_spends e

never_spent : (works : List Work) → EndsBy (Some RoundsSpent) works → ⊥
never_spent works e = none_spends e.1 e.4

abbrev empty : {J W : Type 0} → Place J W
empty = record { slots = λ c. None; offices = λ k. None }

pub nobody_is : {S J W : Type 0} (name : S → ℕ) (rounds : Rounds S J W) → IsNobody rounds → IsEmpty (here name rounds)
nobody_is name rounds nobody = ((λ c. ap (held_of name) (nobody.0 c)), λ k. ap (office_at name) (nobody.1 k))

module _ {R J W : Type 0} (g : Ghosts R) (jg : JournalGhosts R J) (owes : W → List ℕ) where
  -- a round ended hosting
  pub ended_so : (E : Type 0) (Holds : List Work → Type 0) (stopped : Stopped) (from to : Option (List Deed)) (old new : Desk R) (first last : Place J W) → Serves g jg owes Holds (Some stopped) from old first to new last
      → Serves g jg owes Holds (end_of_rounds {E = E} (Ok stopped)) from old first to new last
  ended_so E Holds Asked from to old new first last h = h
  ended_so E Holds StoreRefused from to old new first last h = h
  ended_so E Holds RoundsSpent from to old new first last h = absurd (never_spent h.0 h.2)

  -- nothing was hosted
  pub unhosted : (from : Option (List Deed)) (desk : Desk R) → HostsBy g jg owes None from desk from desk
  unhosted from desk = record {
    works = [];
    closing = [];
    first = empty;
    last = empty;
    deeds = Adds-nil from;
    ends = refl;
    serving = tt;
    served = record { rounds = []; last = []; all = refl; served = tt; few = omega arith };
    closed = tt;
    nobody_first = ((λ c. refl), λ k. refl);
    nobody_last = ((λ c. refl), λ k. refl);
    goes = (refl, refl);
  }

  -- rounds, and then the end
  pub hosted_by : (end : Option Stopped) (from mid to : Option (List Deed)) (old between new : Desk R) (first then last : Place J W) → IsEmpty first → IsEmpty last
      → Serves g jg owes (AreServed nobody) end from old first mid between then → Hosts g jg owes IsClosing None mid between then to new last → HostsBy g jg owes end from old to new
  hosted_by end from mid to old between new first then last nobody_first nobody_last x y = record {
    works = x.0;
    closing = y.0;
    first = first;
    last = last;
    deeds = subst (λ (l : List Deed). Adds from to l) (sym (all_deeds-append x.0 y.0)) (Adds-trans from mid to (all_deeds x.0) (all_deeds y.0) x.1 y.1);
    ends = x.2;
    serving = x.4;
    served = x.5;
    closed = y.4;
    nobody_first = nobody_first;
    nobody_last = nobody_last;
    goes = goes-append g jg owes x.0 y.0 old between new first then last x.3 y.3;
  }

  by_rounds : (E : Type 0) (hosted : Result Stopped E) (from to : Option (List Deed)) (old new : Desk R) → HostsBy g jg owes (end_of_rounds hosted) from old to new → Hosted g jg owes from old hosted to new
  by_rounds E (Ok Asked) from to old new h = h
  by_rounds E (Ok StoreRefused) from to old new h = h
  by_rounds E (Ok RoundsSpent) from to old new h = h
  by_rounds E (Err error) from to old new h = inl h

  failed_then : (E : Type 0) (result : Result Stopped E) (from to : Option (List Deed)) (old new : Desk R) → IsErr result → HostsBy g jg owes (Some Asked) from old to new → Hosted g jg owes from old result to new
  failed_then E (Ok stopped) from to old new failed h = absurd (let clash : false ≡ true = failed in cc)
  failed_then E (Err error) from to old new failed h = inr h

  -- how it ended
  pub hosted_so : (E : Type 0) (hosted result : Result Stopped E) (from to : Option (List Deed)) (old new : Desk R) → IsLastOf hosted result → HostsBy g jg owes (end_of_rounds hosted) from old to new → Hosted g jg owes from old result to new
  hosted_so E hosted result from to old new last h = elim last [
    | inl same ↦ subst (λ (r : Result Stopped E). Hosted g jg owes from old r to new) (sym same) (by_rounds E hosted from to old new h)
    | inr asked ↦ failed_then E result from to old new asked.1 (subst (λ (r : Result Stopped E). HostsBy g jg owes (end_of_rounds r) from old to new) asked.0 h)
  ]
