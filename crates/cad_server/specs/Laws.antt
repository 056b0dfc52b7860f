-- What holds of all replies.
use Rattle.std.specs.Prelude.{◌≡◌, ℕ, List}
use Rattle.cad_versions.specs.declared.command.Command.{Command}
use Rattle.cad_head.specs.Request.{Request}
use Rattle.cad_server.specs.Replies.{IsReply}

-- a request has one reply
abbrev pub RequestsHaveOneReply : Type 0
RequestsHaveOneReply =
    (commands : List Command) (request : Request) (one other : List ℕ) → IsReply commands request one → IsReply commands request other → one ≡ other
