use Rattle.std.proofs.Common.{◌≡◌, map, take}
use Rattle.std.specs.List.{list_any}
use Rattle.httparse.specs.Spans.{header_bytes}
use Rattle.cad_head.specs.Request.{asks_to_close}
use Rattle.cad_head.proofs.fields.has_closing_field.Given as goal

abbrev pub invariant-loop-header : goal.invariant-loop-header
invariant-loop-header l = l.is_found ≡ list_any asks_to_close (map (header_bytes l.bytes) (take l.header-index l.headers))
