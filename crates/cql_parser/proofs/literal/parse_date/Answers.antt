use Rattle.std.proofs.Common.{[], ◌∷◌, refl, ◌∙◌}
use Rattle.std.proofs.lemmas.Result.{err_from_is_err_and}
use Rattle.cql_lexer.specs.Mark.{marks}
use Rattle.cql_parser.specs.Machine.{open_slot, sign_slot, close_sign, text_slot, want_slots, date_slots}
use Rattle.cql_tree.specs.Syntax.{date_op}
use Rattle.cql_parser.specs.inner.Descent.{for_slot, want_here}
use Rattle.cql_parser.proofs.Turns.{stops_from}
use Rattle.cql_parser.proofs.literal.parse_date.Goals as goal

pub returns-in_err-after-clause-parses : goal.returns-in_err-after-clause-parses
returns-in_err-after-clause-parses c =
    let p = err_from_is_err_and c.from_residual.result c.from_residual.ensures.1 in
    rw (p.1, p.2)
    (stops_from (want_slots date_slots (date_op c.args.place) []) (want_here open_slot) (marks c.args.tokens.now) _ c.in_err-after.field-0.0
    (λ k. (for_slot (text_slot ∷ sign_slot close_sign ∷ []) (date_op c.args.place) _ k))
    (λ k. refl) c.in_err-after.ensures.passes)

pub returns-in_err-text_place-clause-parses : goal.returns-in_err-text_place-clause-parses
returns-in_err-text_place-clause-parses c =
    let p = err_from_is_err_and c.from_residual-in_err-text_place.result c.from_residual-in_err-text_place.ensures.1 in
    rw (p.1, p.2)
    (stops_from (want_slots date_slots (date_op c.args.place) []) (want_here text_slot) (marks c.args.tokens.now) _ c.in_err-text_place.field-0.0
    (λ k. (for_slot (sign_slot close_sign ∷ []) (date_op c.args.place) _ k))
    (λ k. c.in_ok-after.ensures.passes (for_slot (text_slot ∷ sign_slot close_sign ∷ []) (date_op c.args.place) _ k)) c.in_err-text_place.ensures.takes)

pub returns-in_err-rest-clause-parses : goal.returns-in_err-rest-clause-parses
returns-in_err-rest-clause-parses c =
    let p = err_from_is_err_and c.from_residual-in_err-rest.result c.from_residual-in_err-rest.ensures.1 in
    rw (p.1, p.2)
    (stops_from (want_slots date_slots (date_op c.args.place) []) (want_here (sign_slot close_sign)) (marks c.args.tokens.now) _ c.in_err-rest.field-0.0
    (λ k. (for_slot ([]) (date_op c.args.place) _ k))
    (λ k. c.in_ok-after.ensures.passes (for_slot (text_slot ∷ sign_slot close_sign ∷ []) (date_op c.args.place) _ k) ∙ (c.in_ok-text_place.ensures.takes (for_slot (sign_slot close_sign ∷ []) (date_op c.args.place) _ k))) c.in_err-rest.ensures.passes)

pub returns-clause-parses : goal.returns-clause-parses
returns-clause-parses c = λ k. rw c.in_ok-tree.ensures (c.in_ok-after.ensures.passes (for_slot (text_slot ∷ sign_slot close_sign ∷ []) (date_op c.args.place) _ k) ∙ (c.in_ok-text_place.ensures.takes (for_slot (sign_slot close_sign ∷ []) (date_op c.args.place) _ k)) ∙ (c.in_ok-rest.ensures.passes (for_slot ([]) (date_op c.args.place) _ k)))
