-- What the definition of replies says of streams of replies (RFC 9112, section 6.3: message body length).
use Rattle.std.specs.Prelude.{◌≡◌, ℕ, ◌<◌, ◌^◌, List, ◌++◌, length, Bool}
use Rattle.cad_head.specs.declared.status.Status.{Status}
use Rattle.cad_head.specs.Replies.{reply_text}

-- the bytes are a reply with this body, which is shorter than 2^64 bytes, and these bytes after it
pub record BeginsWith (bytes : List ℕ) (status : Status) (ends : Bool) (body : List ℕ) (after : List ℕ) : Type 0 where
  pub is_all : bytes ≡ reply_text status ends body ++ after
  pub in_memory : length body < 2 ^ 64

-- bytes begin with at most one reply
abbrev pub RepliesAreUnambiguous : Type 0
RepliesAreUnambiguous =
    (bytes : List ℕ) (status other : Status) (ends closes : Bool) (body text after more : List ℕ)
    → BeginsWith bytes status ends body after → BeginsWith bytes other closes text more
    → (status ≡ other) × (ends ≡ closes) × (body ≡ text) × (after ≡ more)
