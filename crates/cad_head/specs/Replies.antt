-- The bytes of a reply (RFC 9112, section 4: status line; section 5: field syntax; section 6: message body).
use Rattle.std.specs.Prelude.{ℕ, List, [], ◌∷◌, ◌++◌, length, codes, decimal, Bool, if◌then◌else◌}
use Rattle.cad_head.specs.declared.status.Status.{Status}
use Rattle.cad_head.specs.declared.status.Status.TheVariants as status

-- a line and its end
abbrev pub line : List ℕ → List ℕ
line text = text ++ 13 ∷ 10 ∷ []

-- the status code and its reason phrase (RFC 9110, section 15)
abbrev pub status_text : Status → List ℕ
status_text status.Ok = codes "200 OK"
status_text status.BadRequest = codes "400 Bad Request"
status_text status.NotFound = codes "404 Not Found"
status_text status.MethodNotAllowed = codes "405 Method Not Allowed"

-- the line of the methods that a resource has, which only one status needs (RFC 9110, section 15.5.6)
abbrev pub allow_line : Status → List ℕ
allow_line status.Ok = []
allow_line status.BadRequest = []
allow_line status.NotFound = []
allow_line status.MethodNotAllowed = line (codes "Allow: GET")

-- the line that says that the connection ends after the reply, if it does (RFC 9112, section 9.6: tear-down)
abbrev pub close_line : Bool → List ℕ
close_line ends = if ends then line (codes "Connection: close") else []

-- the lines before a body of this length
abbrev pub head_lines : Status → Bool → ℕ → List ℕ
head_lines status ends length =
    line (codes "HTTP/1.1 " ++ status_text status)
    ++ line (codes "Content-Type: application/json")
    ++ line (codes "Content-Length: " ++ decimal length)
    ++ allow_line status
    ++ close_line ends
    ++ line []

-- a whole reply
abbrev pub reply_text : Status → Bool → List ℕ → List ℕ
reply_text status ends body = head_lines status ends (length body) ++ body
