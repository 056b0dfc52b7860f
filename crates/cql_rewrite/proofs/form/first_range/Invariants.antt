use Rattle.std.proofs.Common.{◌≡◌, drop}
use Rattle.std.specs.List.{list_any}
use Rattle.cql_rewrite.specs.Meets.{offers_own}
use Rattle.cql_rewrite.proofs.form.first_range.Given as goal

-- the parts that are left decide
abbrev pub invariant-loop-part : goal.invariant-loop-part
invariant-loop-part l = list_any offers_own (drop l.part-index l.parts) ≡ list_any offers_own l.parts
