use Rattle.std.proofs.Common.{◌∙◌, ap, filter, subst, sym}
use Rattle.std.specs.List.Sorted.{IsStrictlySortedBy}
use Rattle.cad_feature.specs.Features.{by_identifier}
use Rattle.cad_layer.specs.Segments.{AreSegments}
use Rattle.cad_run.specs.Sought.{is_sought}
use Rattle.cad_run.proofs.SourceLemmas.{ascending_wanted, few_wanted}
use Rattle.cad_run.proofs.candidates.Candidates.sought.Goals as goal

pub invariant_of-result : goal.invariant_of-result
invariant_of-result c =
    let xs = c.args.layer.now.features in
    let test = is_sought c.args.sought in
    let left = c.new-segments.ensures.left ∙ ap (filter test) c.segments.ensures.all in
    record {
      apart = subst AreSegments (sym c.new-segments.ensures.unopened) c.segments.ensures.apart;
      in_order = subst (IsStrictlySortedBy by_identifier) (sym (c.new-segments.ensures.ahead ∙ c.segments.ensures.all)) c.collection-collection.ensures.listed.ascending;
      ascending = ascending_wanted test xs _ c.collection-collection.ensures.listed.ascending left;
      few = few_wanted test xs _ c.count-count.result c.count-count.ensures c.count-count.type_inv left;
    }

pub returns-clause-left : goal.returns-clause-left
returns-clause-left c = c.new-segments.ensures.left ∙ ap (filter (is_sought c.args.sought)) c.segments.ensures.all

pub returns-clause-ahead : goal.returns-clause-ahead
returns-clause-ahead c = c.new-segments.ensures.ahead ∙ c.segments.ensures.all
