use Rattle.std.proofs.Common.{rules}
use Rattle.cql_text.proofs.Going.{going_any, going_first, going_on}
use Rattle.std.specs.Prelude.{chars}
use Rattle.cql_text.specs.Patterns.{pieces}
use Rattle.cql_text.proofs.pattern.is_some_end_like.Goals as goal

pub walk-init : goal.walk-init
walk-init c = record {
  going = going_first (pieces (chars c.args.pattern.now)) (chars c.args.text.now);
  again_text = c.utf8.pattern;
  from_text = c.utf8.text;
  left_text = c.utf8.pattern;
  rest_text = c.utf8.text;
}

pub walk-preserved-in-Some : goal.walk-preserved-in-Some
walk-preserved-in-Some c = record {
  going = going_any _ _ _ _ _ _ _ c.in-Some.ensures c.walk.invariant.going;
  again_text = search rules;
  from_text = search rules;
  left_text = search rules;
  rest_text = search rules;
}

pub walk-preserved-in-Some-advance : goal.walk-preserved-in-Some-advance
walk-preserved-in-Some-advance c =
    let a = c.in-Some-advance.ensures in
    record {
      going = going_on _ _ _ _ _ a.0 a.1 _ _ _ a.2 a.3 a.4 c.walk.invariant.going;
      again_text = search rules;
      from_text = search rules;
      left_text = search rules;
      rest_text = search rules;
    }
