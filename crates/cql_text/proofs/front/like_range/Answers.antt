use Rattle.std.specs.Prelude.{chars, option_map}
use Rattle.cql_text.specs.Fronts.{text_of}
use Rattle.cql_text.proofs.RangeLemmas.{like_range_is}
use Rattle.cql_text.proofs.front.like_range.Goals as goal

pub returns : goal.returns
returns c =
    let range = rw c.as_str.ensures.value at c.in_ok-end.ensures in
    like_range_is (chars c.args.pattern.now) (text_of c.in_ok-front.front.text) (option_map text_of c.in_ok-end.end) c.in_ok-front.front.is_alone c.in_ok-front.ensures range
