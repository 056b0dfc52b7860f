use Rattle.std.proofs.Common.{[], refl}
use Rattle.cql_lexer.specs.Mark.{marks, word, name, text}
use Rattle.cql_lexer.specs.declared.token.Keyword.TheVariants.{Date, Interval, Point, Polygon, Bbox}
use Rattle.cql_tree.specs.Syntax.{date_op, interval_op, point_op, bbox_op}
use Rattle.cql_parser.specs.Machine.{as_primary, after_sign, want_primary, want_slots, have_primary, date_slots, interval_slots, point_slots, bbox_slots}
use Rattle.cql_parser.specs.inner.Descent.{want_rings}
use Rattle.cql_parser.proofs.Turns.{goes_at, truth_goes, number_stays, primary_sign_goes, primary_stops, parses_from}
use Rattle.cql_parser.proofs.literal.parse_literal.Goals as goal

pub returns-in_ok-tree-in-Name-clause-parses : goal.returns-in_ok-tree-in-Name-clause-parses
returns-in_ok-tree-in-Name-clause-parses c =
    λ h k.
    rw c.in_ok-tree-in-Name.ensures
    (goes_at (want_primary k) (have_primary k _) _ (name _) _ _ refl c.in-Name.ensures.starts)

pub returns-in_ok-tree-in-Text-clause-parses : goal.returns-in_ok-tree-in-Text-clause-parses
returns-in_ok-tree-in-Text-clause-parses c =
    λ h k.
    rw c.in_ok-tree-in-Text.ensures
    (goes_at (want_primary k) (have_primary k _) _ (text _) _ _ refl c.in-Text.ensures.starts)

pub returns-in_ok-tree-in-Truth-clause-parses : goal.returns-in_ok-tree-in-Truth-clause-parses
returns-in_ok-tree-in-Truth-clause-parses c =
    λ h k. rw c.in_ok-tree-in-Truth.ensures (truth_goes _ k _ _ _ c.in-Truth.ensures.starts)

pub returns-in-Number-clause-parses : goal.returns-in-Number-clause-parses
returns-in-Number-clause-parses c =
    λ h.
    parses_from want_primary (λ k. after_sign _ (as_primary k)) have_primary have_primary
    (marks c.args.tokens.now) (marks c.args.tokens.now) c.parse_digits.result (λ k. k)
    (λ k. number_stays k _ _ _ _ c.in-Number.ensures.starts) (λ k s zs. refl) c.parse_digits.ensures.parses

pub returns-in-Sign-clause-parses : goal.returns-in-Sign-clause-parses
returns-in-Sign-clause-parses c =
    λ h.
    parses_from want_primary (λ k. after_sign c.in-Sign.is_negative (as_primary k)) have_primary have_primary
    (marks c.args.tokens.now) (marks c.in-Sign.after.now) c.parse_digits-in-Sign.result (λ k. k)
    (λ k. primary_sign_goes _ k _ _ c.in-Sign.ensures.starts) (λ k s zs. refl) c.parse_digits-in-Sign.ensures.parses

pub returns-in-Date-clause-parses : goal.returns-in-Date-clause-parses
returns-in-Date-clause-parses c =
    λ h.
    parses_from want_primary (want_slots date_slots (date_op c.in-Date.place) []) have_primary have_primary
    (marks c.args.tokens.now) (marks c.in-Date.after.now) c.parse_date.result (λ k. k)
    (λ k. goes_at (want_primary k) (want_slots date_slots (date_op c.in-Date.place) [] k) _ (word Date) _ _ refl c.in-Date.ensures.starts)
    (λ k s zs. refl) c.parse_date.ensures.parses

pub returns-in-Interval-clause-parses : goal.returns-in-Interval-clause-parses
returns-in-Interval-clause-parses c =
    λ h.
    parses_from want_primary (want_slots interval_slots (interval_op c.in-Interval.place) []) have_primary have_primary
    (marks c.args.tokens.now) (marks c.in-Interval.after.now) c.parse_interval.result (λ k. k)
    (λ k. goes_at (want_primary k) (want_slots interval_slots (interval_op c.in-Interval.place) [] k) _ (word Interval) _ _ refl c.in-Interval.ensures.starts)
    (λ k s zs. refl) c.parse_interval.ensures.parses

pub returns-in-Point-clause-parses : goal.returns-in-Point-clause-parses
returns-in-Point-clause-parses c =
    λ h.
    parses_from want_primary (want_slots point_slots (point_op c.in-Point.place) []) have_primary have_primary
    (marks c.args.tokens.now) (marks c.in-Point.after.now) c.parse_point.result (λ k. k)
    (λ k. goes_at (want_primary k) (want_slots point_slots (point_op c.in-Point.place) [] k) _ (word Point) _ _ refl c.in-Point.ensures.starts)
    (λ k s zs. refl) c.parse_point.ensures.parses

pub returns-in-Polygon-clause-parses : goal.returns-in-Polygon-clause-parses
returns-in-Polygon-clause-parses c =
    λ h.
    parses_from want_primary (want_rings c.in-Polygon.place) have_primary have_primary
    (marks c.args.tokens.now) (marks c.in-Polygon.after.now) c.parse_polygon.result (λ k. k)
    (λ k. goes_at (want_primary k) (want_rings c.in-Polygon.place k) _ (word Polygon) _ _ refl c.in-Polygon.ensures.starts)
    (λ k s zs. refl) c.parse_polygon.ensures.parses

pub returns-in-Bbox-clause-parses : goal.returns-in-Bbox-clause-parses
returns-in-Bbox-clause-parses c =
    λ h.
    parses_from want_primary (want_slots bbox_slots (bbox_op c.in-Bbox.place) []) have_primary have_primary
    (marks c.args.tokens.now) (marks c.in-Bbox.after.now) c.parse_bbox.result (λ k. k)
    (λ k. goes_at (want_primary k) (want_slots bbox_slots (bbox_op c.in-Bbox.place) [] k) _ (word Bbox) _ _ refl c.in-Bbox.ensures.starts)
    (λ k s zs. refl) c.parse_bbox.ensures.parses

pub returns-in-NoLiteral-clause-parses : goal.returns-in-NoLiteral-clause-parses
returns-in-NoLiteral-clause-parses c = λ h k. primary_stops k _ h c.in-NoLiteral.ensures.starts
