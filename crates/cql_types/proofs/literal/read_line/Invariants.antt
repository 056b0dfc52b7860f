use Rattle.std.proofs.Common.{◌++◌, ℤ, List, drop}
use Rattle.cql_tree.specs.Syntax.{parts_of}
use Rattle.cql_tree.specs.Views.{numbers_of}
use Rattle.cql_types.specs.declared.fault.Fault.{Fault}
use Rattle.cql_types.specs.Literals.{AreNumbers}
use Rattle.cql_types.specs.inner.Reading.{IsFirstNumber, positions_of}
use Rattle.cql_types.proofs.literal.read_line.Given as goal

-- What is read completes what is left, and the first fault of what is left is that of all.
abbrev pub invariant-loop-corner : goal.invariant-loop-corner
invariant-loop-corner l = record {
  completes : (zs : List ℤ) → AreNumbers (parts_of (numbers_of (drop l.corner-index l.corners))) zs → AreNumbers (parts_of (numbers_of l.corners)) (positions_of l.line.items ++ zs);
  first : (f : Fault) → IsFirstNumber (parts_of (numbers_of (drop l.corner-index l.corners))) f → IsFirstNumber (parts_of (numbers_of l.corners)) f;
}
