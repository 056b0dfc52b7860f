use Rattle.std.proofs.Common.{[], ◌∷◌, refl, ◌∙◌}
use Rattle.std.proofs.lemmas.Result.{err_from_is_err_and}
use Rattle.cql_lexer.specs.Mark.{marks}
use Rattle.cql_parser.specs.Machine.{open_slot, sign_slot, comma_sign, close_sign, whole_slot, want_slots, bbox_slots}
use Rattle.cql_tree.specs.Syntax.{bbox_op}
use Rattle.cql_parser.specs.inner.Descent.{for_slot, want_here, want_pair}
use Rattle.cql_parser.proofs.Turns.{stops_from}
use Rattle.cql_parser.proofs.literal.parse_bbox.Goals as goal

pub returns-in_err-after-clause-parses : goal.returns-in_err-after-clause-parses
returns-in_err-after-clause-parses c =
    let p = err_from_is_err_and c.from_residual.result c.from_residual.ensures.1 in
    rw (p.1, p.2)
    (stops_from (want_slots bbox_slots (bbox_op c.args.place) []) (want_here open_slot) (marks c.args.tokens.now) _ c.in_err-after.field-0.0
    (λ k. (for_slot (whole_slot ∷ sign_slot comma_sign ∷ whole_slot ∷ sign_slot comma_sign ∷ whole_slot ∷ sign_slot comma_sign ∷ whole_slot ∷ sign_slot close_sign ∷ []) (bbox_op c.args.place) _ k))
    (λ k. refl) c.in_err-after.ensures.passes)

pub returns-in_err-low-clause-parses : goal.returns-in_err-low-clause-parses
returns-in_err-low-clause-parses c =
    let p = err_from_is_err_and c.from_residual-in_err-low.result c.from_residual-in_err-low.ensures.1 in
    rw (p.1, p.2)
    (stops_from (want_slots bbox_slots (bbox_op c.args.place) []) want_pair (marks c.args.tokens.now) _ c.in_err-low.field-0.0
    (λ k. (for_slot (sign_slot comma_sign ∷ whole_slot ∷ sign_slot comma_sign ∷ whole_slot ∷ sign_slot close_sign ∷ []) (bbox_op c.args.place) _ k))
    (λ k. c.in_ok-after.ensures.passes (for_slot (whole_slot ∷ sign_slot comma_sign ∷ whole_slot ∷ sign_slot comma_sign ∷ whole_slot ∷ sign_slot comma_sign ∷ whole_slot ∷ sign_slot close_sign ∷ []) (bbox_op c.args.place) _ k)) c.in_err-low.ensures.takes)

pub returns-in_err-after-2-clause-parses : goal.returns-in_err-after-2-clause-parses
returns-in_err-after-2-clause-parses c =
    let p = err_from_is_err_and c.from_residual-in_err-after-2.result c.from_residual-in_err-after-2.ensures.1 in
    rw (p.1, p.2)
    (stops_from (want_slots bbox_slots (bbox_op c.args.place) []) (want_here (sign_slot comma_sign)) (marks c.args.tokens.now) _ c.in_err-after-2.field-0.0
    (λ k. (for_slot (whole_slot ∷ sign_slot comma_sign ∷ whole_slot ∷ sign_slot close_sign ∷ []) (bbox_op c.args.place) _ k))
    (λ k. c.in_ok-after.ensures.passes (for_slot (whole_slot ∷ sign_slot comma_sign ∷ whole_slot ∷ sign_slot comma_sign ∷ whole_slot ∷ sign_slot comma_sign ∷ whole_slot ∷ sign_slot close_sign ∷ []) (bbox_op c.args.place) _ k) ∙ (c.in_ok-low.ensures.takes (for_slot (sign_slot comma_sign ∷ whole_slot ∷ sign_slot comma_sign ∷ whole_slot ∷ sign_slot close_sign ∷ []) (bbox_op c.args.place) _ k))) c.in_err-after-2.ensures.passes)

pub returns-in_err-high-clause-parses : goal.returns-in_err-high-clause-parses
returns-in_err-high-clause-parses c =
    let p = err_from_is_err_and c.from_residual-in_err-high.result c.from_residual-in_err-high.ensures.1 in
    rw (p.1, p.2)
    (stops_from (want_slots bbox_slots (bbox_op c.args.place) []) want_pair (marks c.args.tokens.now) _ c.in_err-high.field-0.0
    (λ k. (for_slot (sign_slot close_sign ∷ []) (bbox_op c.args.place) _ k))
    (λ k. c.in_ok-after.ensures.passes (for_slot (whole_slot ∷ sign_slot comma_sign ∷ whole_slot ∷ sign_slot comma_sign ∷ whole_slot ∷ sign_slot comma_sign ∷ whole_slot ∷ sign_slot close_sign ∷ []) (bbox_op c.args.place) _ k) ∙ (c.in_ok-low.ensures.takes (for_slot (sign_slot comma_sign ∷ whole_slot ∷ sign_slot comma_sign ∷ whole_slot ∷ sign_slot close_sign ∷ []) (bbox_op c.args.place) _ k)) ∙ (c.in_ok-after-2.ensures.passes (for_slot (whole_slot ∷ sign_slot comma_sign ∷ whole_slot ∷ sign_slot close_sign ∷ []) (bbox_op c.args.place) _ k))) c.in_err-high.ensures.takes)

pub returns-in_err-rest-clause-parses : goal.returns-in_err-rest-clause-parses
returns-in_err-rest-clause-parses c =
    let p = err_from_is_err_and c.from_residual-in_err-rest.result c.from_residual-in_err-rest.ensures.1 in
    rw (p.1, p.2)
    (stops_from (want_slots bbox_slots (bbox_op c.args.place) []) (want_here (sign_slot close_sign)) (marks c.args.tokens.now) _ c.in_err-rest.field-0.0
    (λ k. (for_slot ([]) (bbox_op c.args.place) _ k))
    (λ k. c.in_ok-after.ensures.passes (for_slot (whole_slot ∷ sign_slot comma_sign ∷ whole_slot ∷ sign_slot comma_sign ∷ whole_slot ∷ sign_slot comma_sign ∷ whole_slot ∷ sign_slot close_sign ∷ []) (bbox_op c.args.place) _ k) ∙ (c.in_ok-low.ensures.takes (for_slot (sign_slot comma_sign ∷ whole_slot ∷ sign_slot comma_sign ∷ whole_slot ∷ sign_slot close_sign ∷ []) (bbox_op c.args.place) _ k)) ∙ (c.in_ok-after-2.ensures.passes (for_slot (whole_slot ∷ sign_slot comma_sign ∷ whole_slot ∷ sign_slot close_sign ∷ []) (bbox_op c.args.place) _ k)) ∙ (c.in_ok-high.ensures.takes (for_slot (sign_slot close_sign ∷ []) (bbox_op c.args.place) _ k))) c.in_err-rest.ensures.passes)

pub returns-clause-parses : goal.returns-clause-parses
returns-clause-parses c = λ k. rw c.in_ok-tree.ensures (c.in_ok-after.ensures.passes (for_slot (whole_slot ∷ sign_slot comma_sign ∷ whole_slot ∷ sign_slot comma_sign ∷ whole_slot ∷ sign_slot comma_sign ∷ whole_slot ∷ sign_slot close_sign ∷ []) (bbox_op c.args.place) _ k) ∙ (c.in_ok-low.ensures.takes (for_slot (sign_slot comma_sign ∷ whole_slot ∷ sign_slot comma_sign ∷ whole_slot ∷ sign_slot close_sign ∷ []) (bbox_op c.args.place) _ k)) ∙ (c.in_ok-after-2.ensures.passes (for_slot (whole_slot ∷ sign_slot comma_sign ∷ whole_slot ∷ sign_slot close_sign ∷ []) (bbox_op c.args.place) _ k)) ∙ (c.in_ok-high.ensures.takes (for_slot (sign_slot close_sign ∷ []) (bbox_op c.args.place) _ k)) ∙ (c.in_ok-rest.ensures.passes (for_slot ([]) (bbox_op c.args.place) _ k)))
