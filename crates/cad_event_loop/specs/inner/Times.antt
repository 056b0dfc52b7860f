-- How long clients may take (own profile).
use Rattle.cad_clients.specs.declared.limits.Limits.{Limits}

-- in seconds: without a byte that is read or written, and for a request and its reply
abbrev pub longest : Limits
longest = record { idle = 60; request = 300 }
