use Rattle.std.proofs.Common.{◌≡◌, inr, map, Some, None, rules, sym, subst, ap, ◌∙◌}
use Rattle.std.specs.Prelude.{IfSome}
use Rattle.std.specs.Option.{option_copied}
use Rattle.std.specs.Result.{result_err}
use Rattle.cad_schema.specs.Schema.{schema_of}
use Rattle.cql_filter.specs.Filters.{IsAccepted}
use Rattle.cad_parameters.specs.Pairs.{pair_text, pairs_of}
use Rattle.cad_ask.specs.Faults.{selection_fault, continuation_fault}
use Rattle.cad_ask.specs.Answers.{filter_given, of_selection, of_continuation, FiltersWell}
use Rattle.cad_ask.specs.lemmas.AnswerLemmas.{filter_accepted}
use Rattle.cad_ask.proofs.AskLemmas.{answered, filter_refused}
use Rattle.cad_ask.proofs.ask.read_ask.Goals as goal

pub returns-in_err-selection : goal.returns-in_err-selection
returns-in_err-selection c =
    let pairs : map pair_text c.deref.result.now ≡ pairs_of c.args.query.now = search rules in
    let told : result_err c.from_residual-in_err-selection.result ≡ Some c.in_err-selection.field-0.0 = search rules in
    answered c.args.collection (pairs_of c.args.query.now) c.from_residual-in_err-selection.result c.in_err-selection.field-0.0 told
    (inr (of_selection (sym (c.in_err-selection.ensures.fault ∙ ap selection_fault pairs))))

pub returns-in_err-filter : goal.returns-in_err-filter
returns-in_err-filter c =
    let pairs : map pair_text c.deref.result.now ≡ pairs_of c.args.query.now = search rules in
    let others : map pair_text c.deref-2.result.now ≡ pairs_of c.args.query.now = search rules in
    let told : result_err c.from_residual-in_err-filter.result ≡ Some c.in_err-filter.field-0.0 = search rules in
    let none : selection_fault (pairs_of c.args.query.now) ≡ None = sym (c.in_ok-selection.ensures.fault ∙ ap selection_fault pairs) in
    let text = c.filter_text.ensures ∙ ap filter_given others in
    answered c.args.collection (pairs_of c.args.query.now) c.from_residual-in_err-filter.result c.in_err-filter.field-0.0 told
    (filter_refused c.args.collection (pairs_of c.args.query.now) (option_copied c.filter_text.result) c.in_err-filter.field-0.0 none text c.in_err-filter.ensures)

pub returns-in_err-continuation : goal.returns-in_err-continuation
returns-in_err-continuation c =
    let pairs : map pair_text c.deref.result.now ≡ pairs_of c.args.query.now = search rules in
    let others : map pair_text c.deref-2.result.now ≡ pairs_of c.args.query.now = search rules in
    let last : map pair_text c.deref-3.result.now ≡ pairs_of c.args.query.now = search rules in
    let told : result_err c.from_residual-in_err-continuation.result ≡ Some c.in_err-continuation.field-0.0 = search rules in
    let none : selection_fault (pairs_of c.args.query.now) ≡ None = sym (c.in_ok-selection.ensures.fault ∙ ap selection_fault pairs) in
    let text = c.filter_text.ensures ∙ ap filter_given others in
    let well : FiltersWell c.args.collection (pairs_of c.args.query.now) =
    subst (λ o. IfSome o (IsAccepted (schema_of c.args.collection))) text
    (filter_accepted c.args.collection (option_copied c.filter_text.result) c.in_ok-filter.filter c.in_ok-filter.ensures) in
    answered c.args.collection (pairs_of c.args.query.now) c.from_residual-in_err-continuation.result c.in_err-continuation.field-0.0 told
    (inr (of_continuation none well (sym (c.in_err-continuation.ensures.fault ∙ ap continuation_fault last))))
