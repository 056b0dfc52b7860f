-- What a request's head has to be, no matter what it asks for (RFC 9112).
use Rattle.std.specs.Prelude.{ℕ, List, codes, Bool, not, get_or, ◌&&◌, ◌||◌, ◌==◌, nat_le, count_by}
use Rattle.std.specs.List.{list_any, list_all}
use Rattle.std.specs.Str.{bytes_eq, str_eq_ignore_ascii_case}
use Rattle.cad_head.specs.Request.{FieldText, Request}

-- the field has this name, in any ASCII case (RFC 9110, section 5.1: field names)
abbrev pub is_named : List ℕ → FieldText → Bool
is_named name field = str_eq_ignore_ascii_case field.0 name

-- HTTP/1.1 without a Host field, or with more than one (RFC 9112, section 3.2: request target)
abbrev pub lacks_host : Request → Bool
lacks_host r = r.minor == 1 && not (count_by (is_named (codes "host")) r.fields == 1)

-- the field announces a body: any Transfer-Encoding, or a Content-Length other than `0` (RFC 9112, section 6.1: transfer-encoding, 6.2:
-- content-length)
abbrev pub announces_body : FieldText → Bool
announces_body field =
    is_named (codes "transfer-encoding") field
    || (is_named (codes "content-length") field && not (bytes_eq field.1 (codes "0")))

-- a body is announced, which no resource takes (own profile)
abbrev pub has_body : Request → Bool
has_body r = list_any announces_body r.fields

-- a character that is allowed in a target: ASCII without blanks and control characters (own profile)
abbrev pub is_visible : ℕ → Bool
is_visible b = nat_le 33 b && nat_le b 126

-- a target that begins with a slash, and has only such characters (RFC 9112, section 3.2.1: origin form)
abbrev pub is_target : List ℕ → Bool
is_target target = get_or target 0 0 == 47 && list_all is_visible target
