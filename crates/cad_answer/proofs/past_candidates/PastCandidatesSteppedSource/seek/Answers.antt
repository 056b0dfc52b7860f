use Rattle.std.proofs.Common.{◌∙◌, [], Some, ap, map, subst, sym}
use Rattle.std.proofs.lemmas.List.{take_at}
use Rattle.cad_answer.specs.inner.ListsLeft.{lists_left}
use Rattle.cad_answer.specs.inner.Merged.{AllAscend, merged_from}
use Rattle.cad_run.specs.Slices.{identifier, later}
use Rattle.cad_answer.specs.inner.MergedLemmas.{nothing_ascends}
use Rattle.cad_answer.proofs.LeastLemmas.{all_later, later_from}
use Rattle.cad_run.specs.lemmas.TakenLemmas.{few_later}
use Rattle.cad_answer.proofs.past_candidates.PastCandidatesSteppedSource.seek.Goals as goal

pub invariant_of-self : goal.invariant_of-self
invariant_of-self c =
    let last = Some (identifier c.args.last) in
    let lists = lists_left c.args.self.now.sources.items in
    let sought = ap lists_left (take_at c.seek_each.new.sources _ _ (c.seek_each.auto.sources ∙ c.deref_mut.ensures.len)) ∙ c.seek_each.ensures ∙ ap (λ ss. map (later last) (lists_left ss)) c.deref_mut.ensures.value in
    record {
      ascending = subst AllAscend (sym sought) (all_later last lists c.args.self.now.ascending);
      few = few_later last (merged_from [] lists) _ (ap (merged_from []) sought ∙ later_from last [] lists nothing_ascends) c.args.self.now.few;
    }

pub returns-clause-left : goal.returns-clause-left
returns-clause-left c =
    let last = Some (identifier c.args.last) in
    ap (merged_from [])
    (ap lists_left (take_at c.seek_each.new.sources _ _ (c.seek_each.auto.sources ∙ c.deref_mut.ensures.len)) ∙ c.seek_each.ensures ∙ ap (λ ss. map (later last) (lists_left ss)) c.deref_mut.ensures.value)
    ∙ later_from last [] (lists_left c.args.self.now.sources.items) nothing_ascends

pub returns-clause-ahead : goal.returns-clause-ahead
returns-clause-ahead c =
    let last = Some (identifier c.args.last) in
    ap (merged_from [])
    (ap lists_left (take_at c.seek_each.new.sources _ _ (c.seek_each.auto.sources ∙ c.deref_mut.ensures.len)) ∙ c.seek_each.ensures ∙ ap (λ ss. map (later last) (lists_left ss)) c.deref_mut.ensures.value)
    ∙ later_from last [] (lists_left c.args.self.now.sources.items) nothing_ascends
