use Rattle.std.proofs.Common.{◌++◌, ℤ, List, drop}
use Rattle.cql_tree.specs.Syntax.{parts_of}
use Rattle.cql_tree.specs.Views.{rings_of}
use Rattle.cql_types.specs.declared.fault.Fault.{Fault}
use Rattle.cql_types.specs.inner.Reading.{IsFirstNumber, AreLines, lines_of}
use Rattle.cql_types.proofs.literal.read_lines.Given as goal

-- What is read completes what is left, and the first fault of what is left is that of all.
abbrev pub invariant-loop-ring : goal.invariant-loop-ring
invariant-loop-ring l = record {
  completes : (zs : List (List ℤ)) → AreLines (parts_of (rings_of (drop l.ring-index l.rings))) zs → AreLines (parts_of (rings_of l.rings)) (lines_of l.lines.items ++ zs);
  first : (f : Fault) → IsFirstNumber (parts_of (rings_of (drop l.ring-index l.rings))) f → IsFirstNumber (parts_of (rings_of l.rings)) f;
}
