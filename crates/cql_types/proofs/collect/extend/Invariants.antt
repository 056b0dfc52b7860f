use Rattle.std.proofs.Common.{◌≡◌, ◌++◌, List}
use Rattle.std.specs.Vec.Iter.{into_iter_items}
use Rattle.cql_types.specs.declared.judged.Judged.{Judged}
use Rattle.cql_types.specs.Means.{Are, marks_of}
use Rattle.cql_types.specs.Kinds.{first_not}
use Rattle.cql_types.proofs.collect.extend.Given as goal

abbrev pub invariant-loop-part : goal.invariant-loop-part
invariant-loop-part g l = record {
  rest : l.fn.parts.items ≡ l.yielded ++ into_iter_items l.part-iterator;
  are : (js : List Judged) → Are g.T.Term.as_term js l.fn.terms.items → Are g.T.Term.as_term (js ++ l.yielded) l.terms.items;
  fit : first_not g.T.Term.has_kind (marks_of l.fn.parts.items) ≡ first_not g.T.Term.has_kind (marks_of (into_iter_items l.part-iterator));
}
