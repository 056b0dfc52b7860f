-- The checks of requests: their words (own profile), their statuses (RFC 9110, section 15.5: client error), and which of them end the connection (RFC 9112, section 9.6: tear-down).
use Rattle.std.specs.Prelude.{ℕ, List, codes, Bool, true, false}
use Rattle.cad_head.specs.declared.status.Status.{Status}
use Rattle.cad_head.specs.declared.status.Status.TheVariants.{BadRequest, NotFound, MethodNotAllowed}
use Rattle.cad_resource.specs.declared.check.Check.{Check}
use Rattle.cad_resource.specs.declared.check.Check.TheVariants.{BadHead, Host, Body, Target, NoResource, Method, NoCollection}

-- the word in the body of the refusal
abbrev pub word_of : Check → List ℕ
word_of BadHead = codes "bad-head"
word_of Host = codes "host"
word_of Body = codes "body"
word_of Target = codes "target"
word_of NoResource = codes "no-resource"
word_of Method = codes "method"
word_of NoCollection = codes "no-collection"

-- the status of the refusal
abbrev pub status_of : Check → Status
status_of BadHead = BadRequest
status_of Host = BadRequest
status_of Body = BadRequest
status_of Target = BadRequest
status_of NoResource = NotFound
status_of Method = MethodNotAllowed
status_of NoCollection = NotFound

-- after these checks it is not known where the next request begins, so the connection ends
abbrev pub ends_connection : Check → Bool
ends_connection BadHead = true
ends_connection Host = true
ends_connection Body = true
ends_connection Target = false
ends_connection NoResource = false
ends_connection Method = false
ends_connection NoCollection = false
