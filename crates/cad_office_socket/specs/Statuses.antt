-- The line `status`, and its answer as JSON, members in byte order of their names (own profile).
use Rattle.std.specs.Prelude.{◌≡◌, ℕ, List, ◌++◌, fold, zip, codes, Option, None, Some}
use Rattle.hex.specs.Hex.{encode_lower}
use Rattle.serde_json.specs.Data.{Data, null, number, string, unsigned, object, Members, member, no_members, put}
use Rattle.serde_json.specs.Written.{compact_text}
use Rattle.cad_versions.specs.declared.body.Class.{Class}
use Rattle.cad_versions.specs.Class.{classes, class_name}
use Rattle.cad_commands.specs.declared.chain.Chain.{Chain}
use Rattle.cad_commands.specs.Chains.{digest_of}
use Rattle.cad_stream.specs.declared.responder.Responder.{Ghosts}
use Rattle.cad_stream.specs.declared.summary.VersionCounts.{VersionCounts}
use Rattle.cad_desk.specs.declared.desk.Desk.{Desk}
use Rattle.cad_desk.specs.Desks.{SummarizesDesk}
use Rattle.cad_office_socket.specs.declared.figures.ClientCounts.{ClientCounts}
use Rattle.cad_office_socket.specs.declared.figures.CommandCounts.{CommandCounts}
use Rattle.cad_office_socket.specs.declared.figures.ReplyCounts.{ReplyCounts}
use Rattle.cad_office_socket.specs.declared.figures.WorkCounts.{WorkCounts}
use Rattle.cad_office_socket.specs.declared.status.Status.{Status}

abbrev pub whole : ℕ → Data
whole n = number (unsigned n)

abbrev pub number_or_null : Option ℕ → Data
number_or_null None = null
number_or_null (Some n) = whole n

-- as 64 hexadecimal digits
abbrev pub chain_or_null : Option Chain → Data
chain_or_null None = null
chain_or_null (Some chain) = string (encode_lower (digest_of chain))

-- the members, and one more for a class, in byte order of the names
abbrev pub with_count : Members → Class × ℕ → Members
with_count members counted = put (class_name counted.0) (whole counted.1) members

-- the count of each class under its name
abbrev pub versions_data : VersionCounts → Data
versions_data counts = object (fold with_count no_members (zip classes counts.of_each))

abbrev pub versions_or_null : Option VersionCounts → Data
versions_or_null None = null
versions_or_null (Some counts) = versions_data counts

abbrev pub clients_data : ClientCounts → Data
clients_data clients = object (member (codes "all") (whole clients.all) (member (codes "now") (whole clients.connected) no_members))

abbrev pub commands_data : CommandCounts → Data
commands_data commands = object (member (codes "accepted") (whole commands.accepted) (member (codes "refused") (whole commands.refused) no_members))

-- by their statuses
abbrev pub replies_data : ReplyCounts → Data
replies_data replies =
    object (member (codes "200") (whole replies.ok)
    (member (codes "400") (whole replies.bad_request)
    (member (codes "404") (whole replies.not_found)
    (member (codes "405") (whole replies.method_not_allowed)
    (member (codes "500") (whole replies.internal_error)
    (member (codes "503") (whole replies.unavailable) no_members))))))

abbrev pub work_data : WorkCounts → Data
work_data work =
    object (member (codes "in_turn") (whole work.in_turn)
    (member (codes "longest_micros") (whole work.longest_micros)
    (member (codes "pieces") (whole work.pieces)
    (member (codes "waiting") (whole work.waiting) no_members))))

abbrev pub status_data : Status → Data
status_data status =
    object (member (codes "chain") (chain_or_null status.summary.chain)
    (member (codes "clients") (clients_data status.figures.clients)
    (member (codes "commands") (commands_data status.figures.commands)
    (member (codes "highest_object") (number_or_null status.summary.highest_object)
    (member (codes "oldest") (number_or_null status.summary.oldest)
    (member (codes "replies") (replies_data status.figures.replies)
    (member (codes "reply_bytes") (whole status.figures.reply_bytes)
    (member (codes "resident_bytes") (whole status.figures.resident_bytes)
    (member (codes "revision") (whole status.summary.revision)
    (member (codes "seconds") (whole status.figures.seconds)
    (member (codes "versions") (versions_or_null status.summary.versions)
    (member (codes "work") (work_data status.figures.work) no_members))))))))))))

-- the line of the status
abbrev pub status_text : Status → List ℕ
status_text status = compact_text (status_data status) ++ codes "\n"

-- the line asks for the status
abbrev pub IsStatusLine : List ℕ → Type 0
IsStatusLine text = text ≡ codes "status"

-- the line asks for the status, which says what the desk's register holds; the desk does not change
abbrev pub IsStatusOf : {R : Type 0} → Ghosts R → List ℕ → Desk R → Status → Desk R → Type 0
IsStatusOf g text old status new = IsStatusLine text × SummarizesDesk g old status.summary × (new ≡ old)
