use Rattle.std.proofs.Common.{◌≡◌, ◌++◌, map}
use Rattle.form_urlencoded.specs.Parse.{raw_pairs_left}
use Rattle.cad_parameters.specs.Pairs.{pairs_of, pair_of, pair_text}
use Rattle.cad_parameters.proofs.pairs.read_pairs.Given as goal

abbrev pub invariant-loop-name : goal.invariant-loop-name
invariant-loop-name l = map pair_text l.pairs.items ++ map pair_of (raw_pairs_left l.name-iterator) ≡ pairs_of l.query
