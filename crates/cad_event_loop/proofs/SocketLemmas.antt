-- Each socket is its own.
use Rattle.std.proofs.Common.{◌≡◌, ℕ, nat_eq, Bool, true, false, List, [], ◌∷◌, ◌++◌, Some, refl, sym, ap, ◌∙◌}
use Rattle.std.proofs.lemmas.Bool.{eqb-true, eq-eqb}
use Rattle.cad_stream.specs.declared.responder.Responder.{Ghosts}
use Rattle.cad_stream.specs.declared.journal_responder.JournalResponder.{Ghosts as JournalGhosts}
use Rattle.cad_desk.specs.declared.desk.Desk.{Desk}
use Rattle.cad_network.specs.Deeds.{came, given_by, taken_by}
use Rattle.cad_clients.specs.declared.channel.Channel.{Channel}
use Rattle.cad_clients.specs.Laws.{ChannelsAreTheirOwn}
use Rattle.cad_event_loop.specs.Works.{Held, Place, IsEmpty, Puts, Work, opens, all_deeds, Goes, MayGoOn}
use Rattle.cad_event_loop.specs.Lives.{life_of, own_deeds, end_of}
use Rattle.cad_event_loop.specs.Laws.{commands_in, SocketsAreTheirOwn}
use Rattle.cad_event_loop.proofs.GoesLemmas.{all_deeds-append}
use Rattle.cad_event_loop.proofs.LifeLemmas.{each_has_its_life, none_some}
use Rattle.cad_event_loop.specs.lemmas.CleanLemmas.{goes_clean}
use Rattle.cad_event_loop.proofs.StandLemmas.{goes_stands}
use Rattle.cad_event_loop.proofs.ApartLemmas.{NotIn, OnceIn, NotHeld, HeldOnce, kept_office, unheld, held, not_own}
use Rattle.cad_office_socket.specs.declared.entry.Entry.{Entry}

module _ {R J W : Type 0} (g : Ghosts R) (jg : JournalGhosts R J) (owes : W → List ℕ) where
  -- what is done is done first and then later
  pub split : (xs ys : List Work) (a d : Desk R) (p r : Place J W) → (goes : Goes g jg owes a p (xs ++ ys) d r) → MayGoOn g jg owes (xs ++ ys) a d p r goes
      → (b : Desk R) × (q : Place J W) × (front : Goes g jg owes a p xs b q) × MayGoOn g jg owes xs a b p q front × (back : Goes g jg owes b q ys d r) × MayGoOn g jg owes ys b d q r back
  split [] ys a d p r goes may = (a, p, (refl, refl), tt, goes, may)
  split (work ∷ xs) ys a d p r goes may =
      let s = split xs ys goes.0 d goes.1 r goes.3 may.1 in
      (s.0, s.1, (goes.0, goes.1, goes.2, s.2), (may.0, s.3), s.4, s.5)

nobody_has : {J W : Type 0} (s : ℕ) (first : Place J W) → IsEmpty first → NotHeld s first
nobody_has {J} {W} s first empty =
    ((λ d channel at. none_some {X = ℕ × Channel W} (s, channel) (sym (empty.0 d) ∙ at)), (λ k entry at. none_some {X = ℕ × Entry J} (s, entry) (sym (empty.1 k) ∙ at)))

first_has : {W : Type 0} (s c : ℕ) (channel : Channel W) (slots next : Held W) → NotIn s slots → Puts slots next c (Some (s, channel)) → OnceIn s c next
first_has s c channel slots next not puts d it at = go (nat_eq c d) refl
  where
    go : (same : Bool) → nat_eq c d ≡ same → d ≡ c
    go true e = sym (eqb-true c d e)
    go false e = absurd (not d it (sym (puts d ∙ rw e refl) ∙ at))

pub sockets_are_their_own : {R J W : Type 0} (g : Ghosts R) (jg : JournalGhosts R J) (owes : W → List ℕ) → ChannelsAreTheirOwn g owes → SocketsAreTheirOwn g jg owes
sockets_are_their_own g jg owes law s c commands before later old new first next empty goes may none_before none_later counts stands =
    let parts = split g jg owes before (opens s c ∷ later) old new first next goes may in
    let back = parts.4 in
    let work = back.2 in
    let there : back.1.slots c ≡ Some (s, work.0) = work.4 c ∙ rw (eq-eqb c c refl) refl in
    let quiet = unheld g jg owes s before old parts.0 first parts.1 parts.2 (nobody_has s first empty) none_before in
    let once : HeldOnce s c back.1 = (first_has s c work.0 parts.1.slots back.1.slots quiet.1.0 work.4, kept_office g jg owes s parts.1.offices back.1.offices work.5 quiet.1.1) in
    let life = each_has_its_life g jg owes c s later back.0 new back.1 next work.0 back.3 parts.5.1 there in
    let own = held g jg owes s c later back.0 new back.1 next work.0 back.3 there once none_later in
    let all = not_own g jg owes s (all_deeds before) (came s ∷ all_deeds later) (own_deeds c later) quiet.0 own in
    let joined = all_deeds-append before (opens s c ∷ later) in
    let counts_before = goes_clean g jg owes (opens s c ∷ later) parts.0 new parts.1 next back counts in
    let stood = goes_stands g jg owes commands before old parts.0 first parts.1 parts.2 parts.3 counts_before stands in
    let told = law c (commands_in commands before) parts.0 back.0 life.0 work.0 life.1 (life_of c later) work.2 work.3 life.2 (life.6 counts) stood in
    record {
      happenings = life_of c later;
      mid = life.0;
      last = life.1;
      ended = end_of c later;
      read = ap (given_by s) joined ∙ (all.0 ∙ life.4);
      written = ap (taken_by s) joined ∙ (all.1 ∙ life.5);
      left = life.3;
      passed = told.1;
      answered = told.2;
    }
