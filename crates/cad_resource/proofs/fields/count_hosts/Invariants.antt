use Rattle.std.proofs.Common.{◌≡◌, ◌≤◌, map, take, count_by, codes}
use Rattle.httparse.specs.Spans.{header_bytes}
use Rattle.cad_resource.specs.Heads.{is_named}
use Rattle.cad_resource.proofs.fields.count_hosts.Given as goal

abbrev pub invariant-loop-header : goal.invariant-loop-header
invariant-loop-header l = record {
  counted : l.count ≡ count_by (is_named (codes "host")) (map (header_bytes l.bytes) (take l.header-index l.headers));
  small : l.count ≤ l.header-index;
}
