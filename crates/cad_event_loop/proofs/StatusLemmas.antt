-- What is said of the commands where the office asked for the status.
use Rattle.std.proofs.Common.{◌≡◌, ℕ, List, ◌∷◌, sym, ◌∙◌, inl, inr}
use Rattle.cad_stream.specs.declared.responder.Responder.{Ghosts}
use Rattle.cad_stream.specs.declared.journal_responder.JournalResponder.{Ghosts as JournalGhosts}
use Rattle.cad_desk.specs.declared.desk.Desk.{Desk}
use Rattle.cad_desk.specs.Desks.{SummarizesDesk}
use Rattle.cad_network.specs.Deeds.{Deed}
use Rattle.cad_office_socket.specs.declared.entry.Entry.{Entry}
use Rattle.cad_office_socket.specs.declared.status.Status.{Status}
use Rattle.cad_office_socket.specs.declared.turned.EntryTurned.TheVariants.{Added, StatusAnswered}
use Rattle.cad_office_socket.specs.Turns.{HasBegun, IsTaken}
use Rattle.cad_event_loop.specs.Works.{enters}
use Rattle.cad_event_loop.specs.Laws.{commands_in}
use Rattle.cad_event_loop.specs.Statuses.{StatusesAreCurrent}
use Rattle.cad_event_loop.specs.lemmas.CleanLemmas.{goes_clean}
use Rattle.cad_event_loop.proofs.BegunLemmas.{begun_in}
use Rattle.cad_event_loop.proofs.LifeLemmas.{none_some}
use Rattle.cad_event_loop.proofs.SocketLemmas.{split}
use Rattle.cad_event_loop.proofs.StandLemmas.{goes_stands}

module _ {R J W : Type 0} (g : Ghosts R) (jg : JournalGhosts R J) (owes : W → List ℕ) where
  -- how the line ended
  summed_by : (o : ℕ) (status : Status) (old mid : Desk R) (entry next : Entry J) (own : List Deed) → (begun : List ℕ) → HasBegun begun entry → IsTaken g jg o old entry (StatusAnswered status) mid next own → SummarizesDesk g old status.summary
  summed_by o status old mid entry next own begun has t = elim t.1 [
    | inl some ↦
        let f = some.2 begun has in
        elim f.2 [
          | inl goes ↦ (let clash : StatusAnswered status ≡ Added = goes.0 in cc)
          | inr ended ↦ ended.1.0.1
        ]
    | inr last ↦ (last.2 begun has).0.0.1
  ]

  pub statuses_are_current : StatusesAreCurrent g jg owes
  statuses_are_current o k text status deeds said commands before later old new first next empty goes may counts stands =
      let s = split g jg owes before (enters o k text (StatusAnswered status) deeds said ∷ later) old new first next goes may in
      let w = s.4.2 in
      let clean = goes_clean g jg owes (enters o k text (StatusAnswered status) deeds said ∷ later) s.0 new s.1 next s.4 counts in
      let now = goes_stands g jg owes commands before old s.0 first s.1 s.2 s.3 clean stands in
      let begun = begun_in g jg owes before old s.0 first s.1 s.2 (λ j p entry at. absurd (none_some {X = ℕ × Entry J} (p, entry) (sym (empty.1 j) ∙ at))) k o w.0 w.3 in
      summed_by o status s.0 s.4.0 w.0 w.1 w.2 begun.0 begun.1 w.4 (commands_in commands before) now
