use Rattle.std.proofs.lemmas.Result.{err_from_is_err_and}
use Rattle.cad_schema.specs.Schema.{schema_of}
use Rattle.cql_lexer.specs.Mark.{marks}
use Rattle.cql_tree.specs.Views.{syntax_of}
use Rattle.cql_filter.specs.Filters.{IsRead}
use Rattle.cql_filter.proofs.Verdict.{of_lexer_answers, of_parser_answers, of_types_answers}
use Rattle.cql_filter.proofs.reading.read_filter.Goals as goal

pub returns-in_err-tokens : goal.returns-in_err-tokens
returns-in_err-tokens c =
    let p = err_from_is_err_and c.from_residual.result c.from_residual.ensures.1 in
    rw (p.1, p.2) (of_lexer_answers (schema_of c.args.collection) c.args.text.now c.in_err-tokens.field-0.0 c.in_err-tokens.ensures.answer)

pub returns-in_err-tree : goal.returns-in_err-tree
returns-in_err-tree c =
    let p = err_from_is_err_and c.from_residual-in_err-tree.result c.from_residual-in_err-tree.ensures.1 in
    rw (p.1, p.2)
    (of_parser_answers (schema_of c.args.collection) c.args.text.now (marks c.in_ok-tokens.tokens.list.items) c.in_ok-tokens.tokens.end c.in_err-tree.field-0.0
    c.in_ok-tokens.ensures.answer.0 c.in_ok-tokens.ensures.answer.1 c.in_err-tree.ensures.answer)

pub returns-in_err-filter : goal.returns-in_err-filter
returns-in_err-filter c =
    let p = err_from_is_err_and c.from_residual-in_err-filter.result c.from_residual-in_err-filter.ensures.1 in
    let tokens = marks c.in_ok-tokens.tokens.list.items in
    let spelt = c.in_ok-tokens.ensures.answer.0 in
    let read : IsRead c.args.text.now (syntax_of c.in_ok-tree.tree.root) = record {
      tokens = tokens;
      spelt = spelt;
      parsed = record { shallow = c.in_ok-tree.ensures.answer.0; reads = c.in_ok-tree.ensures.answer.1.reads };
    } in
    rw (p.1, p.2)
    (of_types_answers (schema_of c.args.collection) c.args.text.now (syntax_of c.in_ok-tree.tree.root) c.in_err-filter.field-0.0 read
    c.in_err-filter.ensures.least)
