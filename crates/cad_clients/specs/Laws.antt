-- What holds of every connection, no matter what happens to the others (own profile).
use Rattle.std.specs.Prelude.{◌≡◌, ℕ, List, [], ◌∷◌, ◌++◌, Ok}
use Rattle.cad_versions.specs.declared.command.Command.{Command}
use Rattle.cad_stream.specs.declared.responder.Responder.{Ghosts}
use Rattle.cad_stream.specs.Streams.{Outcome, waits}
use Rattle.cad_stream.specs.Replies.{AreReplies, last_reply}
use Rattle.cad_stream.specs.Conversations.{HeadAt, bytes_of, IsConversation}
use Rattle.cad_desk.specs.declared.desk.Desk.{Desk}
use Rattle.cad_desk.specs.declared.event.Event.TheVariants.{Open}
use Rattle.cad_desk.specs.declared.event.Reply.TheVariants.{Opened}
use Rattle.cad_desk.specs.Desks.{responder_of, connections_of, rules_of, Steps}
use Rattle.cad_desk.specs.Runs.{RunOf, Exchange, exchanges_of, pieces_of, outs_of}
use Rattle.cad_clients.specs.declared.channel.Channel.{Channel}
use Rattle.cad_clients.specs.Channels.{unfed, unsent, IsSent}
use Rattle.cad_clients.specs.Acts.{Happening, read_of, written_of, events_of, answers_of, Lives}

-- nothing was read, and nothing is to be written
pub record IsNew {W : Type 0} (channel : Channel W) : Type 0 where
  pub none_read : unfed channel ≡ []
  pub sent : IsSent channel

-- the connection's own exchanges with the desk, from its opening on
abbrev pub exchanges_with : ℕ → List Command → List Happening → List Exchange
exchanges_with c commands happenings = exchanges_of c commands (events_of c happenings) (answers_of happenings)

-- what was read is the pieces that the desk took, and then what it has not taken; what the desk sent was written, except for what is left
-- to write
pub record IsPassedOn {W : Type 0} (owes : W → List ℕ) (own : List Exchange) (read written : List ℕ) (last : Channel W) : Type 0 where
  pub taken : read ≡ bytes_of (pieces_of own) ++ unfed last
  pub sent : outs_of own ≡ written ++ unsent owes last

module _ {R W : Type 0} (g : Ghosts R) (owes : W → List ℕ) where
  -- what was written, and then what is left to write, are the replies to the heads of what was read, each with the commands in force when its last byte came to the desk
  abbrev pub IsAnswered : List Exchange → List ℕ → Channel W → Type 0
  IsAnswered own written last =
      (heads : List HeadAt) × (outcome : Outcome) × IsConversation g.closes (waits []) (pieces_of own) heads outcome
      × AreReplies g.replies heads (last_reply g.bad_head outcome) (written ++ unsent owes last)

  -- this holds from its opening on, no matter what the other connections and the land office do
  abbrev pub ChannelsAreTheirOwn : Type 0
  ChannelsAreTheirOwn = (c : ℕ) (commands : List Command) (old opened new : Desk R) (channel last : Channel W) (happenings : List Happening)
      → IsNew channel → Steps g old (Open c) (Ok Opened) opened → Lives g owes c opened channel happenings new last
      → g.counts (responder_of new) → g.stands_for (responder_of old) commands
      → RunOf (rules_of g) commands (connections_of old) (Open c ∷ events_of c happenings) (Ok Opened ∷ answers_of happenings)
      × IsPassedOn owes (exchanges_with c commands happenings) (read_of happenings) (written_of happenings) last
      × IsAnswered (exchanges_with c commands happenings) (written_of happenings) last
