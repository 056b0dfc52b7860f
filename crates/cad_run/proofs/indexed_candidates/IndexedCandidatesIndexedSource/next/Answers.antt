use Rattle.std.proofs.Common.{subst, sym, ◌∙◌}
use Rattle.std.specs.List.Sorted.{IsStrictlySortedBy}
use Rattle.std.proofs.lemmas.List.Kept.{IsStrictlySortedBy-filter}
use Rattle.cad_feature.specs.Features.{by_identifier}
use Rattle.cad_run.specs.Bases.{rows_left}
use Rattle.cad_run.specs.Peeked.{peeked_left}
use Rattle.cad_run.specs.Standing.{standing, stands}
use Rattle.cad_layer.specs.Walks.{all_in}
use Rattle.cad_run.proofs.FrontLemmas.{IsTaken, taken_behind, taken_rises, without_rises}
use Rattle.cad_run.proofs.StandingLemmas.{base_comes, change_comes}
use Rattle.cad_run.proofs.indexed_candidates.IndexedCandidatesIndexedSource.next.Goals as goal

pub invariant_of-self : goal.invariant_of-self
invariant_of-self c =
    let d = c.drop_replaced.new.self in
    record {
      ascending = d.ascending;
      order = (taken_rises c.next.result _ _ c.next.ensures d.order.0, subst (IsStrictlySortedBy by_identifier) (sym c.peek.ensures.kept) d.order.1);
    }

pub invariant_of-self-then-give_way : goal.invariant_of-self-then-give_way
invariant_of-self-then-give_way c =
    let d = c.drop_replaced.new.self in
    record {
      ascending = d.ascending;
      order = (
        subst (IsStrictlySortedBy by_identifier) (sym c.give_way.ensures.rest) (without_rises c.in-Some.older.now _ d.order.0),
        taken_rises c.next-then-give_way.result _ _ c.next-then-give_way.ensures (subst (IsStrictlySortedBy by_identifier) (sym c.peek.ensures.kept) d.order.1),
      );
    }

pub invariant_of-self-else-give_way : goal.invariant_of-self-else-give_way
invariant_of-self-else-give_way c =
    let d = c.drop_replaced.new.self in
    let taken = taken_behind c.next-else-give_way.result c.in-Some.older.now _ _ _ (sym c.if-give_way.false ∙ c.give_way.ensures.first) c.give_way.ensures.rest c.next-else-give_way.ensures in
    record {
      ascending = d.ascending;
      order = (taken_rises c.next-else-give_way.result _ _ taken d.order.0, subst (IsStrictlySortedBy by_identifier) (sym c.peek.ensures.kept) d.order.1);
    }

pub returns-then-give_way : goal.returns-then-give_way
returns-then-give_way c =
    let d = c.drop_replaced.new.self in
    let bs = peeked_left rows_left d.bases in
    let up = IsStrictlySortedBy-filter by_identifier (stands d.older.now) bs d.order.0 in
    let left = all_in (standing d.older.now (peeked_left rows_left c.give_way.new.self)) (peeked_left rows_left c.next-then-give_way.new.self) in
    subst (λ xs. IsTaken c.next-then-give_way.result xs left) c.drop_replaced.ensures.left
    (change_comes d.older.now bs (peeked_left rows_left d.olders) c.drop_replaced.ensures.first (up, d.order.1) c.in-Some.older.now _ c.in-Some.ensures.none c.next-then-give_way.result _ _ _ (sym c.if-give_way.true ∙ c.give_way.ensures.first) c.give_way.ensures.rest c.peek.ensures.kept c.next-then-give_way.ensures)

pub returns-else-give_way : goal.returns-else-give_way
returns-else-give_way c =
    let d = c.drop_replaced.new.self in
    let bs = peeked_left rows_left d.bases in
    let up = IsStrictlySortedBy-filter by_identifier (stands d.older.now) bs d.order.0 in
    let left = all_in (standing d.older.now (peeked_left rows_left c.next-else-give_way.new.self)) (peeked_left rows_left c.peek.new.self) in
    let behind = sym c.if-give_way.false ∙ c.give_way.ensures.first in
    let taken = taken_behind c.next-else-give_way.result c.in-Some.older.now _ _ _ behind c.give_way.ensures.rest c.next-else-give_way.ensures in
    subst (λ xs. IsTaken c.next-else-give_way.result xs left) c.drop_replaced.ensures.left
    (base_comes d.older.now bs (peeked_left rows_left d.olders) c.drop_replaced.ensures.first (up, d.order.1) c.in-Some.older.now _ c.in-Some.ensures.none c.next-else-give_way.result _ _ behind c.peek.ensures.kept taken)
