use Rattle.std.proofs.Common.{◌≡◌, ◌∷◌, ◌+◌, ◌*◌, ◌<◌, length}
use Rattle.cql_lexer.specs.Mark.{marks}
use Rattle.cql_parser.specs.Machine.{ForOr, ForAnd, ForSum, ForProduct, ForPredicate, want_or, want_and, want_sum, want_product, after_in, have_ors, have_ands, have_terms, have_factors, have_items, run}
use Rattle.cql_tree.specs.Views.{syntax_of, syntaxes_of, operands_of, operations_of}
use Rattle.cql_parser.proofs.descent.+rules.Given as goal

-- fewer tokens, and for the same tokens an inner rule
abbrev pub decreases-parse_primary : goal.decreases-parse_primary
decreases-parse_primary l = 16 * length l.tokens.now + 1

abbrev pub decreases-parse_product : goal.decreases-parse_product
decreases-parse_product l = 16 * length l.tokens.now + 2

abbrev pub decreases-parse_sum : goal.decreases-parse_sum
decreases-parse_sum l = 16 * length l.tokens.now + 3

abbrev pub decreases-parse_right : goal.decreases-parse_right
decreases-parse_right l = 16 * length l.tokens.now + 4

abbrev pub decreases-parse_pattern : goal.decreases-parse_pattern
decreases-parse_pattern l = 16 * length l.tokens.now + 4

abbrev pub decreases-parse_range : goal.decreases-parse_range
decreases-parse_range l = 16 * length l.tokens.now + 4

abbrev pub decreases-parse_items : goal.decreases-parse_items
decreases-parse_items l = 16 * length l.tokens.now

abbrev pub decreases-parse_tail : goal.decreases-parse_tail
decreases-parse_tail l = 16 * length l.tokens.now

abbrev pub decreases-parse_predicate : goal.decreases-parse_predicate
decreases-parse_predicate l = 16 * length l.tokens.now + 4

abbrev pub decreases-parse_not : goal.decreases-parse_not
decreases-parse_not l = 16 * length l.tokens.now + 5

abbrev pub decreases-parse_and : goal.decreases-parse_and
decreases-parse_and l = 16 * length l.tokens.now + 6

abbrev pub decreases-parse_or : goal.decreases-parse_or
decreases-parse_or l = 16 * length l.tokens.now + 7

abbrev pub decreases-parse_paren : goal.decreases-parse_paren
decreases-parse_paren l = 16 * length l.tokens.now + 8

abbrev pub decreases-parse_casei : goal.decreases-parse_casei
decreases-parse_casei l = 16 * length l.tokens.now

abbrev pub decreases-parse_pair : goal.decreases-parse_pair
decreases-parse_pair l = 16 * length l.tokens.now

abbrev pub invariant-parse_or-loop-after : goal.invariant-parse_or-loop-after
invariant-parse_or-loop-after l = record {
  shorter : length l.rest < length l.tokens;
  reads : (k : ForOr) →
      run (want_or k) (marks l.tokens) ≡ run (have_ors k (syntax_of l.first.value ∷ syntaxes_of l.others.items)) (marks l.rest);
}

abbrev pub decreases-parse_or-loop-after : goal.decreases-parse_or-loop-after
decreases-parse_or-loop-after l = length l.rest

abbrev pub invariant-parse_and-loop-after : goal.invariant-parse_and-loop-after
invariant-parse_and-loop-after l = record {
  shorter : length l.rest < length l.tokens;
  reads : (k : ForAnd) →
      run (want_and k) (marks l.tokens) ≡ run (have_ands k (syntax_of l.first.value ∷ syntaxes_of l.others.items)) (marks l.rest);
}

abbrev pub decreases-parse_and-loop-after : goal.decreases-parse_and-loop-after
decreases-parse_and-loop-after l = length l.rest

abbrev pub invariant-parse_items-loop-after : goal.invariant-parse_items-loop-after
invariant-parse_items-loop-after l = record {
  shorter : length l.rest < length l.tokens;
  reads : (k : ForPredicate) →
      run (after_in l.is_negated (syntax_of l.value.value) k) (marks l.tokens) ≡
      run (have_items l.is_negated (syntax_of l.value.value) (syntax_of l.first.value ∷ syntaxes_of l.others.items) k) (marks l.rest);
}

abbrev pub decreases-parse_items-loop-after : goal.decreases-parse_items-loop-after
decreases-parse_items-loop-after l = length l.rest

abbrev pub invariant-parse_sum-loop-by : goal.invariant-parse_sum-loop-by
invariant-parse_sum-loop-by l = record {
  shorter : length l.rest < length l.tokens;
  reads : (k : ForSum) →
      run (want_sum k) (marks l.tokens) ≡
      run (have_terms k (operations_of l.others.items) (syntax_of l.first.value ∷ operands_of l.others.items)) (marks l.rest);
}

abbrev pub decreases-parse_sum-loop-by : goal.decreases-parse_sum-loop-by
decreases-parse_sum-loop-by l = length l.rest

abbrev pub invariant-parse_product-loop-by : goal.invariant-parse_product-loop-by
invariant-parse_product-loop-by l = record {
  shorter : length l.rest < length l.tokens;
  reads : (k : ForProduct) →
      run (want_product k) (marks l.tokens) ≡
      run (have_factors k (operations_of l.others.items) (syntax_of l.first.value ∷ operands_of l.others.items)) (marks l.rest);
}

abbrev pub decreases-parse_product-loop-by : goal.decreases-parse_product-loop-by
decreases-parse_product-loop-by l = length l.rest
