-- How hosting ends a run.
use Rattle.std.proofs.Common.{ℕ, List, Option, Result, Ok, Err, refl, inl, inr}
use Rattle.std.specs.declared.net.socket_addr.SocketAddr.{SocketAddr}
use Rattle.cad_stream.specs.declared.responder.Responder.{Ghosts}
use Rattle.cad_stream.specs.declared.journal_responder.JournalResponder.{Ghosts as JournalGhosts}
use Rattle.cad_desk.specs.declared.desk.Desk.{Desk}
use Rattle.cad_network.specs.Deeds.{Deed}
use Rattle.cad_event_loop.specs.declared.stopped.Stopped.{Stopped}
use Rattle.cad_event_loop.specs.declared.stopped.Stopped.TheVariants.{Asked, StoreRefused, RoundsSpent}
use Rattle.cad_event_loop.specs.Hosting.{Hosted}
use Rattle.cadastred_run.specs.Hosting.{outcome_of_hosting, TellsAddress, EndsHosting}

module _ {R J W : Type 0} (g : Ghosts R) (j : JournalGhosts R J) (owes : W → List ℕ) (asked : SocketAddr) (before after : Option (List ℕ)) (from to : Option (List Deed)) where
  -- once the address was told
  pub hosted_ends : (E : Type 0) (hosted : Result Stopped E) (old new : Desk R) → TellsAddress asked before after from to → Hosted g j owes from old hosted to new → EndsHosting asked before after from to g j owes old (outcome_of_hosting hosted) new
  hosted_ends E (Ok Asked) old new told h = (told, h)
  hosted_ends E (Ok StoreRefused) old new told h = (refl, told, h)
  hosted_ends E (Ok RoundsSpent) old new told h = inr (told, inl h)
  hosted_ends E (Err error) old new told h = inr (told, h)
