use Rattle.std.proofs.Common.{refl, sym, ◌∙◌}
use Rattle.std.proofs.lemmas.Result.{err_from_is_err_and}
use Rattle.cad_schema.specs.Schema.{schema_of}
use Rattle.cql_tree.specs.Views.{bound_of}
use Rattle.cql_types.specs.Means.{interval, literal_means}
use Rattle.cql_types.proofs.EndLemmas.{first_no_end, last_no_end, ends_turned, first_end_wrong, last_end_wrong, turned_by_ends}
use Rattle.cql_types.proofs.literal.interval.Goals as goal

pub returns-in_err-first : goal.returns-in_err-first
returns-in_err-first c =
    let p = err_from_is_err_and c.from_residual.result c.from_residual.ensures.1 in
    rw (p.1, p.2) (first_end_wrong (schema_of c.args.collection) c.args.place (bound_of c.args.from.now) (bound_of c.args.to.now) c.in_err-first.field-0.0 c.in_err-first.ensures)

pub returns-in_err-last : goal.returns-in_err-last
returns-in_err-last c =
    let p = err_from_is_err_and c.from_residual-in_err-last.result c.from_residual-in_err-last.ensures.1 in
    rw (p.1, p.2) (last_end_wrong (schema_of c.args.collection) c.args.place (bound_of c.args.from.now) (bound_of c.args.to.now) _ c.in_err-last.field-0.0 c.in_ok-first.ensures c.in_err-last.ensures)

pub returns-in_default : goal.returns-in_default
returns-in_default c = rw (c.wrong_kind.ensures, c.bound_place.ensures) (first_no_end c.in_ok-last.last (rw c.in_default.is at c.in_ok-first.ensures) c.in_ok-last.ensures)

pub returns-in_default-last : goal.returns-in_default-last
returns-in_default-last c = rw (c.wrong_kind-in_default-last.ensures, c.bound_place-in_default-last.ensures)
    (last_no_end (rw c.in-Some.is at c.in_ok-first.ensures) (rw c.in_default-last.is at c.in_ok-last.ensures))

pub returns-then-are_turned : goal.returns-then-are_turned
returns-then-are_turned c = rw c.at.ensures
    (ends_turned (rw c.in-Some.is at c.in_ok-first.ensures) (rw c.in-Some-last.is at c.in_ok-last.ensures) (sym c.are_turned.ensures ∙ c.if-are_turned.true))

pub returns : goal.returns
returns c =
    let first = rw c.in-Some.is at c.in_ok-first.ensures in
    let last = rw c.in-Some-last.is at c.in_ok-last.ensures in
    record { place = refl; means = literal_means (interval first last (sym (turned_by_ends first last) ∙ (sym c.are_turned.ensures ∙ c.if-are_turned.false))) }
