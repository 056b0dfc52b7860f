use Rattle.std.specs.Prelude.{chars, option_map}
use Rattle.cql_text.specs.Fronts.{text_of}
use Rattle.cql_text.proofs.FrontLemmas.{front_range}
use Rattle.cql_text.proofs.front.end_of_front.Goals as goal

pub returns : goal.returns
returns c = front_range (chars c.args.front.now) (option_map text_of c.in_ok-end.end) c.in_ok-end.ensures
