use Rattle.std.proofs.Common.{◌≡◌, map, take}
use Rattle.std.specs.List.{list_any}
use Rattle.httparse.specs.Spans.{header_bytes}
use Rattle.cad_resource.specs.Heads.{announces_body}
use Rattle.cad_resource.proofs.fields.announce_body.Given as goal

abbrev pub invariant-loop-header : goal.invariant-loop-header
invariant-loop-header l = l.is_found ≡ list_any announces_body (map (header_bytes l.bytes) (take l.header-index l.headers))
