use Rattle.std.proofs.Common.{◌≡◌, ◌<◌, false, ◌==◌, sym, arith}
use Rattle.std.proofs.lemmas.Bool.Decides.{nat_tests}
use Rattle.std.specs.Str.{byte}
use Rattle.cql_lexer.proofs.Longest.{finds_plain, none_of_nothing}
use Rattle.cql_lexer.proofs.Utf8.{utf8_behind}
use Rattle.cql_lexer.proofs.scan.token_at.Goals as goal

pub quoted_name_at-requires : goal.quoted_name_at-requires
quoted_name_at-requires c =
    let quote = c.in-Some-eq34-default in
    let ascii : quote.field-0-0.now < 128 = omega (arith, quote.field-0-0-test) in
    utf8_behind c.args.bytes.now quote.field-0-0.now quote.behind.now quote.ensures.cases.0 ascii c.requires

pub text_at-requires : goal.text_at-requires
text_at-requires c =
    let quote = c.in-Some-eq39-default in
    let ascii : quote.field-0-0.now < 128 = omega (arith, quote.field-0-0-test) in
    utf8_behind c.args.bytes.now quote.field-0-0.now quote.behind.now quote.ensures.cases.0 ascii c.requires

pub returns-in-None : goal.returns-in-None
returns-in-None c = none_of_nothing c.args.bytes.now c.in-None.ensures.cases

pub returns-in-Some-3 : goal.returns-in-Some-3
returns-in-Some-3 c =
    let first = c.in-Some-3.field-0.0.now in
    let all = c.in-Some-3.ensures.cases.0 in
    let no_quoted : (first == byte "\"") ≡ false = grind (arith, nat_tests) in
    let no_text : (first == byte "'") ≡ false = grind (arith, nat_tests) in
    finds_plain first c.in-Some-3.field-0.1.now c.args.bytes.now c.symbol_at.result all
    (record { no_name = sym (rw all at c.if-is_name_first.ensures); no_number = sym (rw all at c.if-is_number_first.ensures); no_quoted = no_quoted; no_text = no_text })
    c.symbol_at.ensures
