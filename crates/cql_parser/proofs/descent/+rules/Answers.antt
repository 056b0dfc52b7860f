use Rattle.std.proofs.Common.{◌≡◌, [], ◌∷◌, ◌++◌, refl, ◌∙◌, arith}
use Rattle.std.proofs.lemmas.Result.{err_from_is_err_and}
use Rattle.std.proofs.lemmas.List.{map_push}
use Rattle.cql_lexer.specs.Mark.{marks, opening, closing, comma, word}
use Rattle.cql_lexer.specs.declared.token.Keyword.TheVariants.{And, Or, Not, Like, Between, In, Is, Casei}
use Rattle.cql_lexer.specs.Mark.{compare}
use Rattle.cql_tree.specs.Syntax.{casei_op}
use Rattle.cql_parser.specs.Machine.{open_slot, sign_slot, sum_slot, comma_sign, close_sign, two_sums, left, right, pattern, low, high, item, argument, in_paren, plain, under_not, or_part, and_part, sum_part, product_part, want_or, want_and, want_not, want_predicate, want_sum, want_product, want_primary, want_slot, want_slots, after_in, after_is, have_or, have_not, have_predicate, have_sum, have_primary, have_ors, have_ands, have_items}
use Rattle.cql_parser.specs.inner.Starts.{pair_op}
use Rattle.cql_tree.specs.Views.{syntax_of, syntaxes_of, operands_of, operations_of}
use Rattle.cql_parser.specs.inner.Descent.{for_slot, want_here}
use Rattle.cql_parser.proofs.Turns.{goes, goes_at, or_stays, and_stays, not_stays, right_done, pattern_done, high_done, left_stays, tail_goes, negated_stops, low_stops, in_stops, item_had, items_stop, sum_stays, term_goes, product_stays, factor_goes, paren_stops, pair_goes, argument_had, stops_from, parses_from}
use Rattle.cql_parser.proofs.descent.+rules.Goals as goal

pub parse_or-returns-in_err-next-clause-parses : goal.parse_or-returns-in_err-next-clause-parses
parse_or-returns-in_err-next-clause-parses t c =
    let p = err_from_is_err_and c.from_residual-in_err-next.result c.from_residual-in_err-next.ensures.1 in
    rw (p.1, p.2)
    (stops_from want_or want_and (marks c.args.tokens.now) _ c.in_err-next.field-0.0 (λ k. or_part (syntax_of c.in_ok-first.field-0.tree.value ∷ syntaxes_of c.loop-after.others.items) k)
    (λ k. c.loop-after.invariant.reads k ∙ goes (have_ors k (syntax_of c.in_ok-first.field-0.tree.value ∷ syntaxes_of c.loop-after.others.items)) (want_and (or_part (syntax_of c.in_ok-first.field-0.tree.value ∷ syntaxes_of c.loop-after.others.items) k)) (word Or) _ _ (λ p. refl) c.in-Some.ensures.found) c.in_err-next.ensures.parses)

pub parse_or-loop-after-preserved : goal.parse_or-loop-after-preserved
parse_or-loop-after-preserved t c =
    let e : syntaxes_of c.push.new.self.items ≡ syntaxes_of c.loop-after.others.items ++ syntax_of c.in_ok-next.next.tree.value ∷ [] =
    rw (c.in_ok-push.ensures.items, c.into_inner.ensures) (map_push syntax_of c.loop-after.others.items c.in_ok-next.next.tree.value) in
    record {
      shorter = omega (arith, c.in-Some.ensures.shorter, c.in_ok-next.ensures.shorter, c.loop-after.invariant.shorter);
      reads = λ k.
          rw e
          (c.loop-after.invariant.reads k ∙
          (goes (have_ors k (syntax_of c.in_ok-first.field-0.tree.value ∷ syntaxes_of c.loop-after.others.items)) (want_and (or_part (syntax_of c.in_ok-first.field-0.tree.value ∷ syntaxes_of c.loop-after.others.items) k)) (word Or) _ _ (λ p. refl) c.in-Some.ensures.found ∙
          c.in_ok-next.ensures.parses (or_part _ k)));
    }

pub parse_or-returns-clause-parses : goal.parse_or-returns-clause-parses
parse_or-returns-clause-parses t c =
    λ k. rw c.in_ok-tree.ensures (c.loop-after.invariant.reads k ∙ or_stays k _ _ c.in_default.ensures.none)

pub parse_and-returns-in_err-next-clause-parses : goal.parse_and-returns-in_err-next-clause-parses
parse_and-returns-in_err-next-clause-parses t c =
    let p = err_from_is_err_and c.from_residual-in_err-next.result c.from_residual-in_err-next.ensures.1 in
    rw (p.1, p.2)
    (stops_from want_and want_not (marks c.args.tokens.now) _ c.in_err-next.field-0.0 (λ k. and_part (syntax_of c.in_ok-first.field-0.tree.value ∷ syntaxes_of c.loop-after.others.items) k)
    (λ k. c.loop-after.invariant.reads k ∙ goes (have_ands k (syntax_of c.in_ok-first.field-0.tree.value ∷ syntaxes_of c.loop-after.others.items)) (want_not (and_part (syntax_of c.in_ok-first.field-0.tree.value ∷ syntaxes_of c.loop-after.others.items) k)) (word And) _ _ (λ p. refl) c.in-Some.ensures.found) c.in_err-next.ensures.parses)

pub parse_and-loop-after-preserved : goal.parse_and-loop-after-preserved
parse_and-loop-after-preserved t c =
    let e : syntaxes_of c.push.new.self.items ≡ syntaxes_of c.loop-after.others.items ++ syntax_of c.in_ok-next.next.tree.value ∷ [] =
    rw (c.in_ok-push.ensures.items, c.into_inner.ensures) (map_push syntax_of c.loop-after.others.items c.in_ok-next.next.tree.value) in
    record {
      shorter = omega (arith, c.in-Some.ensures.shorter, c.in_ok-next.ensures.shorter, c.loop-after.invariant.shorter);
      reads = λ k.
          rw e
          (c.loop-after.invariant.reads k ∙
          (goes (have_ands k (syntax_of c.in_ok-first.field-0.tree.value ∷ syntaxes_of c.loop-after.others.items)) (want_not (and_part (syntax_of c.in_ok-first.field-0.tree.value ∷ syntaxes_of c.loop-after.others.items) k)) (word And) _ _ (λ p. refl) c.in-Some.ensures.found ∙
          c.in_ok-next.ensures.parses (and_part _ k)));
    }

pub parse_and-returns-clause-parses : goal.parse_and-returns-clause-parses
parse_and-returns-clause-parses t c =
    λ k. rw c.in_ok-tree.ensures (c.loop-after.invariant.reads k ∙ and_stays k _ _ c.in_default.ensures.none)

pub parse_not-returns-in_err-part-in-Some-clause-parses : goal.parse_not-returns-in_err-part-in-Some-clause-parses
parse_not-returns-in_err-part-in-Some-clause-parses t c =
    let p = err_from_is_err_and c.from_residual.result c.from_residual.ensures.1 in
    rw (p.1, p.2)
    (stops_from want_not want_predicate (marks c.args.tokens.now) _ c.in_err-part-in-Some.field-0.0 (λ k. under_not c.in-Some.place k)
    (λ k. goes_at (want_not k) (want_predicate (under_not c.in-Some.place k)) _ (word Not) _ _ refl c.in-Some.ensures.found) c.in_err-part-in-Some.ensures.parses)

pub parse_not-returns-in_ok-tree-in-Some-clause-parses : goal.parse_not-returns-in_ok-tree-in-Some-clause-parses
parse_not-returns-in_ok-tree-in-Some-clause-parses t c =
    λ k.
    rw c.in_ok-tree-in-Some.ensures
    (goes_at (want_not k) (want_predicate (under_not c.in-Some.place k)) _ (word Not) _ _ refl c.in-Some.ensures.found ∙
    c.in_ok-part-in-Some.ensures.parses (under_not _ k))

pub parse_not-returns-in-None-clause-parses : goal.parse_not-returns-in-None-clause-parses
parse_not-returns-in-None-clause-parses t c =
    parses_from want_not want_predicate have_not have_predicate
    (marks c.args.tokens.now) (marks c.args.tokens.now) c.parse_predicate-in-None.result (λ k. plain k)
    (λ k. not_stays k _ c.in-None.ensures.none) (λ k s zs. refl) c.parse_predicate-in-None.ensures.parses

pub parse_predicate-returns-clause-parses : goal.parse_predicate-returns-clause-parses
parse_predicate-returns-clause-parses t c =
    parses_from want_predicate (λ k. have_sum (left k) (syntax_of c.in_ok-tree.field-0.tree.value)) have_predicate have_predicate
    (marks c.args.tokens.now) (marks c.in_ok-tree.field-0.rest.now) c.parse_tail.result (λ k. k)
    (λ k. c.in_ok-tree.ensures.parses (left k)) (λ k s zs. refl) c.parse_tail.ensures.parses

pub parse_tail-returns-in-Compared-clause-parses : goal.parse_tail-returns-in-Compared-clause-parses
parse_tail-returns-in-Compared-clause-parses t c =
    parses_from (λ k. have_sum (left k) (syntax_of c.args.value.value)) (λ k. want_sum (right c.in-Compared.by (syntax_of c.args.value.value) k)) have_predicate have_predicate
    (marks c.args.tokens.now) (marks c.in-Compared.after.now) c.parse_right.result (λ k. k)
    (λ k. goes (have_sum (left k) (syntax_of c.args.value.value)) (want_sum (right c.in-Compared.by (syntax_of c.args.value.value) k)) (compare c.in-Compared.by) _ _ (λ p. refl) c.in-Compared.ensures.starts)
    (λ k s zs. refl) c.parse_right.ensures.parses

pub parse_tail-returns-in-Liked-clause-parses : goal.parse_tail-returns-in-Liked-clause-parses
parse_tail-returns-in-Liked-clause-parses t c =
    parses_from (λ k. have_sum (left k) (syntax_of c.args.value.value)) (λ k. want_sum (pattern c.in-Liked.is_negated (syntax_of c.args.value.value) k)) have_predicate have_predicate
    (marks c.args.tokens.now) (marks c.in-Liked.after.now) c.parse_pattern.result (λ k. k)
    (λ k. tail_goes k (syntax_of c.args.value.value) _ Like (λ n. want_sum (pattern n (syntax_of c.args.value.value) k)) _ _ (λ p. refl) (λ p. refl) c.in-Liked.ensures.starts)
    (λ k s zs. refl) c.parse_pattern.ensures.parses

pub parse_tail-returns-in-Ranged-clause-parses : goal.parse_tail-returns-in-Ranged-clause-parses
parse_tail-returns-in-Ranged-clause-parses t c =
    parses_from (λ k. have_sum (left k) (syntax_of c.args.value.value)) (λ k. want_sum (low c.in-Ranged.is_negated (syntax_of c.args.value.value) k)) have_predicate have_predicate
    (marks c.args.tokens.now) (marks c.in-Ranged.after.now) c.parse_range.result (λ k. k)
    (λ k. tail_goes k (syntax_of c.args.value.value) _ Between (λ n. want_sum (low n (syntax_of c.args.value.value) k)) _ _ (λ p. refl) (λ p. refl) c.in-Ranged.ensures.starts)
    (λ k s zs. refl) c.parse_range.ensures.parses

pub parse_tail-returns-in-Listed-clause-parses : goal.parse_tail-returns-in-Listed-clause-parses
parse_tail-returns-in-Listed-clause-parses t c =
    parses_from (λ k. have_sum (left k) (syntax_of c.args.value.value)) (after_in c.in-Listed.is_negated (syntax_of c.args.value.value)) have_predicate have_predicate
    (marks c.args.tokens.now) (marks c.in-Listed.after.now) c.parse_items.result (λ k. k)
    (λ k. tail_goes k (syntax_of c.args.value.value) _ In (λ n. after_in n (syntax_of c.args.value.value) k) _ _ (λ p. refl) (λ p. refl) c.in-Listed.ensures.starts)
    (λ k s zs. refl) c.parse_items.ensures.parses

pub parse_tail-returns-in-Tested-clause-parses : goal.parse_tail-returns-in-Tested-clause-parses
parse_tail-returns-in-Tested-clause-parses t c =
    parses_from (λ k. have_sum (left k) (syntax_of c.args.value.value)) (after_is (syntax_of c.args.value.value)) have_predicate have_predicate
    (marks c.args.tokens.now) (marks c.in-Tested.after.now) c.parse_is.result (λ k. k)
    (λ k. goes (have_sum (left k) (syntax_of c.args.value.value)) (after_is (syntax_of c.args.value.value) k) (word Is) _ _ (λ p. refl) c.in-Tested.ensures.starts)
    (λ k s zs. refl) c.parse_is.ensures.parses

pub parse_tail-returns-in-Broken-clause-parses : goal.parse_tail-returns-in-Broken-clause-parses
parse_tail-returns-in-Broken-clause-parses t c = λ k. negated_stops k _ _ _ c.in-Broken.ensures.starts

pub parse_tail-returns-in-NoTail-clause-parses : goal.parse_tail-returns-in-NoTail-clause-parses
parse_tail-returns-in-NoTail-clause-parses t c = λ k. left_stays k _ _ c.in-NoTail.ensures.starts

pub parse_right-returns-clause-parses : goal.parse_right-returns-clause-parses
parse_right-returns-clause-parses t c =
    λ k. rw c.in_ok-tree.ensures (c.in_ok-other.ensures.parses (right _ _ k) ∙ right_done _ _ k _ _)

pub parse_pattern-returns-clause-parses : goal.parse_pattern-returns-clause-parses
parse_pattern-returns-clause-parses t c =
    λ k. rw c.in_ok-tree.ensures (c.in_ok-other.ensures.parses (pattern _ _ k) ∙ pattern_done _ _ k _ _)

pub parse_range-returns-in_default-clause-parses : goal.parse_range-returns-in_default-clause-parses
parse_range-returns-in_default-clause-parses t c =
    λ k. c.in_ok-low.ensures.parses (low c.args.is_negated (syntax_of c.args.value.value) k) ∙ low_stops _ _ _ k _ c.in_default.ensures.none

pub parse_range-returns-in_err-high-clause-parses : goal.parse_range-returns-in_err-high-clause-parses
parse_range-returns-in_err-high-clause-parses t c =
    let p = err_from_is_err_and c.from_residual-in_err-high.result c.from_residual-in_err-high.ensures.1 in
    rw (p.1, p.2)
    (stops_from (λ k. want_sum (low c.args.is_negated (syntax_of c.args.value.value) k)) want_sum (marks c.args.tokens.now) _ c.in_err-high.field-0.0 (λ k. high c.args.is_negated (syntax_of c.args.value.value) (syntax_of c.in_ok-low.field-0.tree.value) k)
    (λ k. c.in_ok-low.ensures.parses (low c.args.is_negated (syntax_of c.args.value.value) k) ∙ goes (have_sum (low c.args.is_negated (syntax_of c.args.value.value) k) (syntax_of c.in_ok-low.field-0.tree.value)) (want_sum (high c.args.is_negated (syntax_of c.args.value.value) (syntax_of c.in_ok-low.field-0.tree.value) k)) (word And) _ _ (λ p. refl) c.in-Some.ensures.found) c.in_err-high.ensures.parses)

pub parse_range-returns-clause-parses : goal.parse_range-returns-clause-parses
parse_range-returns-clause-parses t c =
    λ k.
    rw c.in_ok-tree.ensures
    (c.in_ok-low.ensures.parses (low c.args.is_negated (syntax_of c.args.value.value) k) ∙
    (goes (have_sum (low c.args.is_negated (syntax_of c.args.value.value) k) (syntax_of c.in_ok-low.field-0.tree.value)) (want_sum (high c.args.is_negated (syntax_of c.args.value.value) (syntax_of c.in_ok-low.field-0.tree.value) k)) (word And) _ _ (λ p. refl) c.in-Some.ensures.found ∙
    (c.in_ok-high.ensures.parses (high c.args.is_negated (syntax_of c.args.value.value) (syntax_of c.in_ok-low.field-0.tree.value) k) ∙ high_done _ _ _ k _ _)))

pub parse_items-returns-in_default-clause-parses : goal.parse_items-returns-in_default-clause-parses
parse_items-returns-in_default-clause-parses t c = λ k. in_stops _ _ k _ c.in_default.ensures.none

pub parse_items-returns-in_err-first-clause-parses : goal.parse_items-returns-in_err-first-clause-parses
parse_items-returns-in_err-first-clause-parses t c =
    let p = err_from_is_err_and c.from_residual.result c.from_residual.ensures.1 in
    rw (p.1, p.2)
    (stops_from (after_in c.args.is_negated (syntax_of c.args.value.value)) want_sum (marks c.args.tokens.now) _ c.in_err-first.field-0.0 (λ k. item c.args.is_negated (syntax_of c.args.value.value) [] k)
    (λ k. goes (after_in c.args.is_negated (syntax_of c.args.value.value) k) (want_sum (item c.args.is_negated (syntax_of c.args.value.value) [] k)) opening _ _ (λ p. refl) c.in-Some.ensures.found) c.in_err-first.ensures.parses)

pub parse_items-loop-after-init : goal.parse_items-loop-after-init
parse_items-loop-after-init t c =
    record {
      shorter = omega (arith, c.in-Some.ensures.shorter, c.in_ok-first.ensures.shorter);
      reads = λ k.
          rw c.new-others.ensures.items
          (goes (after_in c.args.is_negated (syntax_of c.args.value.value) k) (want_sum (item c.args.is_negated (syntax_of c.args.value.value) [] k)) opening _ _ (λ p. refl) c.in-Some.ensures.found ∙ (c.in_ok-first.ensures.parses (item c.args.is_negated (syntax_of c.args.value.value) [] k) ∙ item_had _ _ [] k _ _));
    }

pub parse_items-returns-in_err-next-clause-parses : goal.parse_items-returns-in_err-next-clause-parses
parse_items-returns-in_err-next-clause-parses t c =
    let p = err_from_is_err_and c.from_residual-in_err-next.result c.from_residual-in_err-next.ensures.1 in
    rw (p.1, p.2)
    (stops_from (after_in c.args.is_negated (syntax_of c.args.value.value)) want_sum (marks c.args.tokens.now) _ c.in_err-next.field-0.0 (λ k. item c.args.is_negated (syntax_of c.args.value.value) (syntax_of c.in_ok-first.field-0.tree.value ∷ syntaxes_of c.loop-after.others.items) k)
    (λ k. c.loop-after.invariant.reads k ∙ goes (have_items c.args.is_negated (syntax_of c.args.value.value) (syntax_of c.in_ok-first.field-0.tree.value ∷ syntaxes_of c.loop-after.others.items) k) (want_sum (item c.args.is_negated (syntax_of c.args.value.value) (syntax_of c.in_ok-first.field-0.tree.value ∷ syntaxes_of c.loop-after.others.items) k)) comma _ _ (λ p. refl) c.in-Some-after_comma.ensures.found) c.in_err-next.ensures.parses)

pub parse_items-loop-after-preserved : goal.parse_items-loop-after-preserved
parse_items-loop-after-preserved t c =
    let e : syntaxes_of c.push.new.self.items ≡ syntaxes_of c.loop-after.others.items ++ syntax_of c.in_ok-next.next.tree.value ∷ [] =
    rw (c.in_ok-push.ensures.items, c.into_inner.ensures) (map_push syntax_of c.loop-after.others.items c.in_ok-next.next.tree.value) in
    record {
      shorter = omega (arith, c.in-Some-after_comma.ensures.shorter, c.in_ok-next.ensures.shorter, c.loop-after.invariant.shorter);
      reads = λ k.
          rw e
          (c.loop-after.invariant.reads k ∙
          (goes (have_items c.args.is_negated (syntax_of c.args.value.value) (syntax_of c.in_ok-first.field-0.tree.value ∷ syntaxes_of c.loop-after.others.items) k) (want_sum (item c.args.is_negated (syntax_of c.args.value.value) (syntax_of c.in_ok-first.field-0.tree.value ∷ syntaxes_of c.loop-after.others.items) k)) comma _ _ (λ p. refl) c.in-Some-after_comma.ensures.found ∙
          (c.in_ok-next.ensures.parses (item c.args.is_negated (syntax_of c.args.value.value) (syntax_of c.in_ok-first.field-0.tree.value ∷ syntaxes_of c.loop-after.others.items) k) ∙ item_had _ _ (syntax_of c.in_ok-first.field-0.tree.value ∷ syntaxes_of c.loop-after.others.items) k _ _)));
    }

pub parse_items-returns-in_default-after_close-clause-parses : goal.parse_items-returns-in_default-after_close-clause-parses
parse_items-returns-in_default-after_close-clause-parses t c =
    λ k. c.loop-after.invariant.reads k ∙ items_stop _ _ _ k _ c.in_default-after_comma.ensures.none c.in_default-after_close.ensures.none

pub parse_items-returns-clause-parses : goal.parse_items-returns-clause-parses
parse_items-returns-clause-parses t c =
    λ k.
    rw c.in_ok-tree.ensures
    (c.loop-after.invariant.reads k ∙
    goes (have_items c.args.is_negated (syntax_of c.args.value.value) (syntax_of c.in_ok-first.field-0.tree.value ∷ syntaxes_of c.loop-after.others.items) k) (have_predicate k _) closing _ _ (λ p. refl) c.in-Some-after_close.ensures.found)

pub parse_sum-returns-in_err-next-clause-parses : goal.parse_sum-returns-in_err-next-clause-parses
parse_sum-returns-in_err-next-clause-parses t c =
    let p = err_from_is_err_and c.from_residual-in_err-next.result c.from_residual-in_err-next.ensures.1 in
    rw (p.1, p.2)
    (stops_from want_sum want_product (marks c.args.tokens.now) _ c.in_err-next.field-0.0 (λ k. sum_part (operations_of c.loop-by.others.items ++ c.in-Some.by ∷ []) (syntax_of c.in_ok-first.field-0.tree.value ∷ operands_of c.loop-by.others.items) k)
    (λ k. c.loop-by.invariant.reads k ∙ term_goes c.in-Some.ensures.adds k _ _ _ _ c.in-Some.ensures.found) c.in_err-next.ensures.parses)

pub parse_sum-loop-by-preserved : goal.parse_sum-loop-by-preserved
parse_sum-loop-by-preserved t c =
    let e : operands_of c.push.new.self.items ≡ operands_of c.loop-by.others.items ++ syntax_of c.in_ok-next.next.tree.value ∷ [] =
    rw (c.in_ok-push.ensures.items, map_push (λ s. syntax_of s.tree) c.loop-by.others.items _, c.into_inner-tree.ensures) refl in
    let f : operations_of c.push.new.self.items ≡ operations_of c.loop-by.others.items ++ c.in-Some.by ∷ [] =
    rw (c.in_ok-push.ensures.items) (map_push (λ s. s.by) c.loop-by.others.items _) in
    record {
      shorter = omega (arith, c.in-Some.ensures.shorter, c.in_ok-next.ensures.shorter, c.loop-by.invariant.shorter);
      reads = λ k.
          rw (e, f) (c.loop-by.invariant.reads k ∙ (term_goes c.in-Some.ensures.adds k _ _ _ _ c.in-Some.ensures.found ∙ c.in_ok-next.ensures.parses (sum_part (operations_of c.loop-by.others.items ++ c.in-Some.by ∷ []) (syntax_of c.in_ok-first.field-0.tree.value ∷ operands_of c.loop-by.others.items) k)));
    }

pub parse_sum-returns-clause-parses : goal.parse_sum-returns-clause-parses
parse_sum-returns-clause-parses t c =
    λ k. rw c.in_ok-tree.ensures (c.loop-by.invariant.reads k ∙ sum_stays k _ _ _ c.in_default.ensures.no_plus c.in_default.ensures.no_minus)

pub parse_product-returns-in_err-next-clause-parses : goal.parse_product-returns-in_err-next-clause-parses
parse_product-returns-in_err-next-clause-parses t c =
    let p = err_from_is_err_and c.from_residual-in_err-next.result c.from_residual-in_err-next.ensures.1 in
    rw (p.1, p.2)
    (stops_from want_product want_primary (marks c.args.tokens.now) _ c.in_err-next.field-0.0 (λ k. product_part (operations_of c.loop-by.others.items ++ c.in-Some.by ∷ []) (syntax_of c.in_ok-first.field-0.tree.value ∷ operands_of c.loop-by.others.items) k)
    (λ k. c.loop-by.invariant.reads k ∙ factor_goes c.in-Some.ensures.multiplies k _ _ _ _ c.in-Some.ensures.found) c.in_err-next.ensures.parses)

pub parse_product-loop-by-preserved : goal.parse_product-loop-by-preserved
parse_product-loop-by-preserved t c =
    let e : operands_of c.push.new.self.items ≡ operands_of c.loop-by.others.items ++ syntax_of c.in_ok-next.next.tree.value ∷ [] =
    rw (c.in_ok-push.ensures.items, map_push (λ s. syntax_of s.tree) c.loop-by.others.items _, c.into_inner-tree.ensures) refl in
    let f : operations_of c.push.new.self.items ≡ operations_of c.loop-by.others.items ++ c.in-Some.by ∷ [] =
    rw (c.in_ok-push.ensures.items) (map_push (λ s. s.by) c.loop-by.others.items _) in
    record {
      shorter = omega (arith, c.in-Some.ensures.shorter, c.in_ok-next.ensures.shorter, c.loop-by.invariant.shorter);
      reads = λ k.
          rw (e, f) (c.loop-by.invariant.reads k ∙ (factor_goes c.in-Some.ensures.multiplies k _ _ _ _ c.in-Some.ensures.found ∙ c.in_ok-next.ensures.parses (product_part (operations_of c.loop-by.others.items ++ c.in-Some.by ∷ []) (syntax_of c.in_ok-first.field-0.tree.value ∷ operands_of c.loop-by.others.items) k)));
    }

pub parse_product-returns-clause-parses : goal.parse_product-returns-clause-parses
parse_product-returns-clause-parses t c =
    λ k. rw c.in_ok-tree.ensures (c.loop-by.invariant.reads k ∙ product_stays k _ _ _ c.in_default.ensures.no_times c.in_default.ensures.no_div c.in_default.ensures.no_modulo)

pub parse_primary-returns-in-Paren-clause-parses : goal.parse_primary-returns-in-Paren-clause-parses
parse_primary-returns-in-Paren-clause-parses t c =
    parses_from want_primary (λ k. want_or (in_paren k)) have_primary have_primary
    (marks c.args.tokens.now) (marks c.in-Paren.after.now) c.parse_paren.result (λ k. k)
    (λ k. goes (want_primary k) (want_or (in_paren k)) opening _ _ (λ p. refl) c.in-Paren.ensures.starts)
    (λ k s zs. refl) c.parse_paren.ensures.parses

pub parse_primary-returns-in-Folded-clause-parses : goal.parse_primary-returns-in-Folded-clause-parses
parse_primary-returns-in-Folded-clause-parses t c =
    parses_from want_primary (want_slot open_slot (sum_slot close_sign ∷ []) (casei_op c.in-Folded.place) []) have_primary have_primary
    (marks c.args.tokens.now) (marks c.in-Folded.after.now) c.parse_casei.result (λ k. k)
    (λ k.
    goes_at (want_primary k) (want_slot open_slot (sum_slot close_sign ∷ []) (casei_op c.in-Folded.place) [] k) _ (word Casei) _ _
    refl c.in-Folded.ensures.starts)
    (λ k s zs. refl) c.parse_casei.ensures.parses

pub parse_primary-returns-in-Paired-clause-parses : goal.parse_primary-returns-in-Paired-clause-parses
parse_primary-returns-in-Paired-clause-parses t c =
    parses_from want_primary (want_slots two_sums (pair_op c.in-Paired.place c.in-Paired.by) []) have_primary have_primary
    (marks c.args.tokens.now) (marks c.in-Paired.after.now) c.parse_pair.result (λ k. k)
    (λ k. pair_goes _ k _ _ _ c.in-Paired.ensures.starts) (λ k s zs. refl) c.parse_pair.ensures.parses

pub parse_primary-returns-in-NoCall-clause-parses : goal.parse_primary-returns-in-NoCall-clause-parses
parse_primary-returns-in-NoCall-clause-parses t c = c.parse_literal.ensures.parses c.in-NoCall.ensures.starts

pub parse_paren-returns-in-Some-clause-parses : goal.parse_paren-returns-in-Some-clause-parses
parse_paren-returns-in-Some-clause-parses t c =
    λ k.
    c.in_ok-tree.ensures.parses (in_paren k) ∙
    goes (have_or (in_paren k) (syntax_of c.in_ok-tree.field-0.tree.value)) (have_primary k (syntax_of c.in_ok-tree.field-0.tree.value))
    closing _ _ (λ p. refl) c.in-Some.ensures.found

pub parse_paren-returns-in-None-clause-parses : goal.parse_paren-returns-in-None-clause-parses
parse_paren-returns-in-None-clause-parses t c =
    λ k. c.in_ok-tree.ensures.parses (in_paren k) ∙ paren_stops k _ _ c.in-None.ensures.none

pub parse_casei-returns-in_err-after-clause-parses : goal.parse_casei-returns-in_err-after-clause-parses
parse_casei-returns-in_err-after-clause-parses t c =
    let p = err_from_is_err_and c.from_residual.result c.from_residual.ensures.1 in
    rw (p.1, p.2)
    (stops_from (want_slot open_slot (sum_slot close_sign ∷ []) (casei_op c.args.place) []) (want_here open_slot) (marks c.args.tokens.now) _ c.in_err-after.field-0.0 (λ k. for_slot (sum_slot close_sign ∷ []) (casei_op c.args.place) [] k)
    (λ k. refl) c.in_err-after.ensures.passes)

pub parse_casei-returns-in_err-part-clause-parses : goal.parse_casei-returns-in_err-part-clause-parses
parse_casei-returns-in_err-part-clause-parses t c =
    let p = err_from_is_err_and c.from_residual-in_err-part.result c.from_residual-in_err-part.ensures.1 in
    rw (p.1, p.2)
    (stops_from (want_slot open_slot (sum_slot close_sign ∷ []) (casei_op c.args.place) []) want_sum (marks c.args.tokens.now) _ c.in_err-part.field-0.0 (λ k. argument close_sign [] (casei_op c.args.place) [] k)
    (λ k. c.in_ok-after.ensures.passes (for_slot (sum_slot close_sign ∷ []) (casei_op c.args.place) [] k)) c.in_err-part.ensures.parses)

pub parse_casei-returns-in_err-rest-clause-parses : goal.parse_casei-returns-in_err-rest-clause-parses
parse_casei-returns-in_err-rest-clause-parses t c =
    let p = err_from_is_err_and c.from_residual-in_err-rest.result c.from_residual-in_err-rest.ensures.1 in
    rw (p.1, p.2)
    (stops_from (want_slot open_slot (sum_slot close_sign ∷ []) (casei_op c.args.place) []) (want_here (sign_slot close_sign)) (marks c.args.tokens.now) _ c.in_err-rest.field-0.0 (λ k. for_slot [] (casei_op c.args.place) _ k)
    (λ k. c.in_ok-after.ensures.passes (for_slot (sum_slot close_sign ∷ []) (casei_op c.args.place) [] k) ∙ (c.in_ok-part.ensures.parses (argument close_sign [] (casei_op c.args.place) [] k) ∙ argument_had close_sign [] (casei_op c.args.place) [] k _ _)) c.in_err-rest.ensures.passes)

pub parse_casei-returns-clause-parses : goal.parse_casei-returns-clause-parses
parse_casei-returns-clause-parses t c =
    λ k. rw c.in_ok-tree.ensures ((c.in_ok-after.ensures.passes (for_slot (sum_slot close_sign ∷ []) (casei_op c.args.place) [] k) ∙ (c.in_ok-part.ensures.parses (argument close_sign [] (casei_op c.args.place) [] k) ∙ argument_had close_sign [] (casei_op c.args.place) [] k _ _)) ∙ c.in_ok-rest.ensures.passes (for_slot [] (casei_op c.args.place) _ k))

pub parse_pair-returns-in_err-after-clause-parses : goal.parse_pair-returns-in_err-after-clause-parses
parse_pair-returns-in_err-after-clause-parses t c =
    let p = err_from_is_err_and c.from_residual.result c.from_residual.ensures.1 in
    rw (p.1, p.2)
    (stops_from (want_slots two_sums (pair_op c.args.place c.args.by) []) (want_here open_slot) (marks c.args.tokens.now) _ c.in_err-after.field-0.0 (λ k. for_slot (sum_slot comma_sign ∷ sum_slot close_sign ∷ []) (pair_op c.args.place c.args.by) [] k)
    (λ k. refl) c.in_err-after.ensures.passes)

pub parse_pair-returns-in_err-left-clause-parses : goal.parse_pair-returns-in_err-left-clause-parses
parse_pair-returns-in_err-left-clause-parses t c =
    let p = err_from_is_err_and c.from_residual-in_err-left.result c.from_residual-in_err-left.ensures.1 in
    rw (p.1, p.2)
    (stops_from (want_slots two_sums (pair_op c.args.place c.args.by) []) want_sum (marks c.args.tokens.now) _ c.in_err-left.field-0.0 (λ k. argument comma_sign (sum_slot close_sign ∷ []) (pair_op c.args.place c.args.by) [] k)
    (λ k. c.in_ok-after.ensures.passes (for_slot (sum_slot comma_sign ∷ sum_slot close_sign ∷ []) (pair_op c.args.place c.args.by) [] k)) c.in_err-left.ensures.parses)

pub parse_pair-returns-in_err-after-2-clause-parses : goal.parse_pair-returns-in_err-after-2-clause-parses
parse_pair-returns-in_err-after-2-clause-parses t c =
    let p = err_from_is_err_and c.from_residual-in_err-after-2.result c.from_residual-in_err-after-2.ensures.1 in
    rw (p.1, p.2)
    (stops_from (want_slots two_sums (pair_op c.args.place c.args.by) []) (want_here (sign_slot comma_sign)) (marks c.args.tokens.now) _ c.in_err-after-2.field-0.0 (λ k. for_slot (sum_slot close_sign ∷ []) (pair_op c.args.place c.args.by) _ k)
    (λ k. c.in_ok-after.ensures.passes (for_slot (sum_slot comma_sign ∷ sum_slot close_sign ∷ []) (pair_op c.args.place c.args.by) [] k) ∙ (c.in_ok-left.ensures.parses (argument comma_sign (sum_slot close_sign ∷ []) (pair_op c.args.place c.args.by) [] k) ∙ argument_had comma_sign (sum_slot close_sign ∷ []) (pair_op c.args.place c.args.by) [] k _ _)) c.in_err-after-2.ensures.passes)

pub parse_pair-returns-in_err-right-clause-parses : goal.parse_pair-returns-in_err-right-clause-parses
parse_pair-returns-in_err-right-clause-parses t c =
    let p = err_from_is_err_and c.from_residual-in_err-right.result c.from_residual-in_err-right.ensures.1 in
    rw (p.1, p.2)
    (stops_from (want_slots two_sums (pair_op c.args.place c.args.by) []) want_sum (marks c.args.tokens.now) _ c.in_err-right.field-0.0 (λ k. argument close_sign [] (pair_op c.args.place c.args.by) (syntax_of c.in_ok-left.field-0.tree.value ∷ []) k)
    (λ k. (c.in_ok-after.ensures.passes (for_slot (sum_slot comma_sign ∷ sum_slot close_sign ∷ []) (pair_op c.args.place c.args.by) [] k) ∙ (c.in_ok-left.ensures.parses (argument comma_sign (sum_slot close_sign ∷ []) (pair_op c.args.place c.args.by) [] k) ∙ argument_had comma_sign (sum_slot close_sign ∷ []) (pair_op c.args.place c.args.by) [] k _ _)) ∙ c.in_ok-after-2.ensures.passes (for_slot (sum_slot close_sign ∷ []) (pair_op c.args.place c.args.by) _ k)) c.in_err-right.ensures.parses)

pub parse_pair-returns-in_err-rest-clause-parses : goal.parse_pair-returns-in_err-rest-clause-parses
parse_pair-returns-in_err-rest-clause-parses t c =
    let p = err_from_is_err_and c.from_residual-in_err-rest.result c.from_residual-in_err-rest.ensures.1 in
    rw (p.1, p.2)
    (stops_from (want_slots two_sums (pair_op c.args.place c.args.by) []) (want_here (sign_slot close_sign)) (marks c.args.tokens.now) _ c.in_err-rest.field-0.0 (λ k. for_slot [] (pair_op c.args.place c.args.by) _ k)
    (λ k. ((c.in_ok-after.ensures.passes (for_slot (sum_slot comma_sign ∷ sum_slot close_sign ∷ []) (pair_op c.args.place c.args.by) [] k) ∙ (c.in_ok-left.ensures.parses (argument comma_sign (sum_slot close_sign ∷ []) (pair_op c.args.place c.args.by) [] k) ∙ argument_had comma_sign (sum_slot close_sign ∷ []) (pair_op c.args.place c.args.by) [] k _ _)) ∙ c.in_ok-after-2.ensures.passes (for_slot (sum_slot close_sign ∷ []) (pair_op c.args.place c.args.by) _ k)) ∙ (c.in_ok-right.ensures.parses (argument close_sign [] (pair_op c.args.place c.args.by) (syntax_of c.in_ok-left.field-0.tree.value ∷ []) k) ∙ argument_had close_sign [] (pair_op c.args.place c.args.by) (syntax_of c.in_ok-left.field-0.tree.value ∷ []) k _ _)) c.in_err-rest.ensures.passes)

pub parse_pair-returns-clause-parses : goal.parse_pair-returns-clause-parses
parse_pair-returns-clause-parses t c =
    λ k. rw c.in_ok-tree.ensures ((((c.in_ok-after.ensures.passes (for_slot (sum_slot comma_sign ∷ sum_slot close_sign ∷ []) (pair_op c.args.place c.args.by) [] k) ∙ (c.in_ok-left.ensures.parses (argument comma_sign (sum_slot close_sign ∷ []) (pair_op c.args.place c.args.by) [] k) ∙ argument_had comma_sign (sum_slot close_sign ∷ []) (pair_op c.args.place c.args.by) [] k _ _)) ∙ c.in_ok-after-2.ensures.passes (for_slot (sum_slot close_sign ∷ []) (pair_op c.args.place c.args.by) _ k)) ∙ (c.in_ok-right.ensures.parses (argument close_sign [] (pair_op c.args.place c.args.by) (syntax_of c.in_ok-left.field-0.tree.value ∷ []) k) ∙ argument_had close_sign [] (pair_op c.args.place c.args.by) (syntax_of c.in_ok-left.field-0.tree.value ∷ []) k _ _)) ∙ c.in_ok-rest.ensures.passes (for_slot [] (pair_op c.args.place c.args.by) _ k))
