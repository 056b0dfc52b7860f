-- What is found at the front of a connection's bytes (RFC 9112, section 2.2: message parsing).
use Rattle.std.specs.Prelude.{ℕ, List, take, drop, ⊤}
use Rattle.httparse.specs.Grammar.{RequestHead, MayBecomeRequest}
use Rattle.httparse.specs.Spans.{IsRequestAt, IsRequestWithin}
use Rattle.httparse.specs.declared.spans.HeaderSpan.{HeaderSpan}
use Rattle.httparse.specs.declared.spans.RequestSpans.{RequestSpans}
use Rattle.cad_head.specs.Heads.{front_len, Fits, HasNone, IsHopeless, IsIncomplete}
use Rattle.cad_head.specs.declared.parsing.HeadState.{HeadState}
use Rattle.cad_head.specs.declared.parsing.HeadState.TheVariants.{Complete, Incomplete, Invalid}

-- the bytes that a head may take (own profile)
abbrev pub front_bytes : List ℕ → List ℕ
front_bytes bytes = take front_len bytes

-- the spans are the places of this head, which is within the limits
pub record IsHeadAt (bytes : List ℕ) (headers : List HeaderSpan) (spans : RequestSpans) (head : RequestHead) : Type 0 where
  pub at : IsRequestAt (front_bytes bytes) headers spans head
  pub fits : Fits bytes head (drop spans.len bytes)

-- what is at the front of the bytes
abbrev pub IsFrontOf : List ℕ → List HeaderSpan → HeadState → Type 0
IsFrontOf bytes headers (Complete spans) = (head : RequestHead) × IsHeadAt bytes headers spans head
IsFrontOf bytes headers Incomplete = IsIncomplete bytes
IsFrontOf bytes headers Invalid = IsHopeless bytes

-- the places are in the bytes
abbrev pub IsFrontWithin : List ℕ → List HeaderSpan → HeadState → Type 0
IsFrontWithin bytes headers (Complete spans) = IsRequestWithin (front_bytes bytes) headers spans
IsFrontWithin bytes headers Incomplete = ⊤
IsFrontWithin bytes headers Invalid = ⊤

-- incomplete bytes may still become a head of the grammar
abbrev pub IsFrontUnfinished : List ℕ → HeadState → Type 0
IsFrontUnfinished bytes (Complete spans) = ⊤
IsFrontUnfinished bytes Incomplete = MayBecomeRequest bytes
IsFrontUnfinished bytes Invalid = ⊤

-- if a head is found, the bytes begin with one, and they are not hopeless
abbrev pub HeadsExcludeAll : Type 0
HeadsExcludeAll =
    (bytes : List ℕ) (headers : List HeaderSpan) (spans : RequestSpans)
    → IsFrontOf bytes headers (Complete spans) → ¬ (HasNone bytes) × ¬ (IsHopeless bytes)
