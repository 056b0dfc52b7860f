use Rattle.std.proofs.Common.{◌≡◌}
use Rattle.cad_tables.proofs.RowLemmas.{HasReadOn}
use Rattle.cad_tables.proofs.reading.read_rest.Given as goal

abbrev pub invariant-loop : goal.invariant-loop
invariant-loop g l = record {
  same_reference : l.rows.conn.ghost_name ≡ l.initial.rows.conn.ghost_name;
  so_far : HasReadOn g.S.Store g.R.Reader.reads l.initial.rows.conn.now l.rows.conn.now l.found.items;
}
