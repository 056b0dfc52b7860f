use Rattle.cql_lexer.proofs.Longest.{longest_number}
use Rattle.cql_lexer.proofs.Numbers.{number_shorter, number_front, number_ascii}
use Rattle.cql_lexer.proofs.Utf8.{utf8_is}
use Rattle.cql_lexer.proofs.number.number_at.Goals as goal

pub slice_bounds-spelling-count : goal.slice_bounds-spelling-count
slice_bounds-spelling-count c = rw c.behind_number-rest.ensures (number_shorter c.args.bytes.now)

pub text_of-requires : goal.text_of-requires
text_of-requires c =
    let found = longest_number c.args.bytes.now c.requires in
    rw (c.behind_number-rest.ensures, number_front found.is) (utf8_is (number_ascii found.is))

pub returns : goal.returns
returns c =
    let found = longest_number c.args.bytes.now c.requires in
    rw (c.in_ok-number.ensures, c.behind_number-rest.ensures, number_front found.is) found.longest
