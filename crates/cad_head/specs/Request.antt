-- The parts of a request's head that a reply depends on (RFC 9112, section 3: request line).
use Rattle.std.specs.Prelude.{ℕ, List, [], ◌∷◌, map, take, codes, Bool, ◌&&◌, ◌||◌, ◌==◌, if◌then◌else◌}
use Rattle.std.specs.List.{list_any, before_first, after_first}
use Rattle.std.specs.Str.{str_eq_ignore_ascii_case}
use Rattle.httparse.specs.Grammar.{RequestHead, trim_ows}
use Rattle.httparse.specs.Spans.{name_and_value, span_bytes, header_bytes}
use Rattle.httparse.specs.declared.spans.HeaderSpan.{HeaderSpan}
use Rattle.httparse.specs.declared.spans.RequestSpans.{RequestSpans}

-- a field's name, and its value without the blanks around it (RFC 9110, section 5.5)
abbrev pub FieldText : Type 0
FieldText = List ℕ × List ℕ

-- a request; its version is HTTP/1.minor
pub record Request : Type 0 where
  pub method : List ℕ
  pub target : List ℕ
  pub minor : ℕ
  pub fields : List FieldText

-- the request of a head
abbrev pub request_of : RequestHead → Request
request_of head = record {
  method = head.method;
  target = head.target;
  minor = head.minor;
  fields = map name_and_value head.fields;
}

-- the request that these spans show in these bytes
abbrev pub request_at : List ℕ → List HeaderSpan → RequestSpans → Request
request_at bytes headers spans = record {
  method = span_bytes bytes spans.method;
  target = span_bytes bytes spans.path;
  minor = spans.version;
  fields = map (header_bytes bytes) (take spans.headers headers);
}

-- the list with a byte put before its first member
abbrev pub onto_first : ℕ → List (List ℕ) → List (List ℕ)
onto_first b [] = (b ∷ []) ∷ []
onto_first b (member ∷ members) = (b ∷ member) ∷ members

-- the texts between the commas of a field's value (RFC 9110, section 5.6.1: lists)
abbrev pub members : List ℕ → List (List ℕ)
members [] = [] ∷ []
members (b ∷ bytes) = if b == 44 then [] ∷ members bytes else onto_first b (members bytes)

-- a member that asks to close, in any ASCII case (RFC 9110, section 7.6.1: connection)
abbrev pub is_close : List ℕ → Bool
is_close member = str_eq_ignore_ascii_case (trim_ows member) (codes "close")

-- a field that asks to close
abbrev pub asks_to_close : FieldText → Bool
asks_to_close field =
    str_eq_ignore_ascii_case field.0 (codes "connection") && list_any is_close (members field.1)

-- the connection closes after the reply (RFC 9112, section 9.3: persistence; HTTP/1.0 keeps no connection open: own profile)
abbrev pub closes_connection : Request → Bool
closes_connection r = r.minor == 0 || list_any asks_to_close r.fields

-- the target before its first question mark (RFC 9112, section 3.2.1: origin form)
abbrev pub path : Request → List ℕ
path r = before_first (λ b. b == 63) r.target

-- the target after its first question mark
abbrev pub query : Request → List ℕ
query r = after_first (λ b. b == 63) r.target
