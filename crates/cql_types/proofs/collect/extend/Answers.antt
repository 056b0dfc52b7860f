use Rattle.std.proofs.Common.{◌≡◌, ◌∷◌, [], ◌++◌, sym, ap, ◌∙◌, append_assoc}
use Rattle.std.specs.Vec.Iter.{into_iter_items}
use Rattle.cql_types.specs.Kinds.{first_not}
use Rattle.cql_types.specs.Means.{marks_of}
use Rattle.cql_types.proofs.Terms.{more_terms, fits_first, is_true}
use Rattle.cql_types.proofs.collect.extend.Goals as goal

pub loop-part-preserved : goal.loop-part-preserved
loop-part-preserved g c =
    let steps : into_iter_items c.loop-part.part-iterator ≡ c.in-Some.part ∷ into_iter_items c.next.new.self = c.in-Some.ensures.steps.0 in
    record {
      rest = c.loop-part.invariant.rest ∙ (ap (λ is. c.loop-part.yielded ++ is) steps ∙ sym (append_assoc c.loop-part.yielded (c.in-Some.part ∷ []) _));
      are = λ js h. rw (c.in_ok-push.ensures.items, ← append_assoc) (more_terms c.in-Some.part (c.loop-part.invariant.are js h) c.in_ok-one.ensures.ok);
      fit = c.loop-part.invariant.fit ∙ (ap (λ is. first_not g.T.Term.has_kind (marks_of is)) steps
          ∙ fits_first g.T.Term.has_kind c.in-Some.part _ (is_true (g.met.T.Term.fits c.in-Some.part.node) c.in_ok-one.ensures.ok));
    }
