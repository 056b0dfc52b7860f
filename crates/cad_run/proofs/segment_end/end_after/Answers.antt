use Rattle.std.proofs.Common.{◌∙◌, sym}
use Rattle.std.specs.Prelude.{option_map}
use Rattle.cad_run.specs.Slices.{identifier}
use Rattle.cad_run.proofs.EndLemmas.{end_beyond, none_beyond}
use Rattle.cad_run.proofs.segment_end.end_after.Goals as goal

pub returns-then-comes_after : goal.returns-then-comes_after
returns-then-comes_after c =
    end_beyond (option_map identifier c.args.after) (identifier c.in_ok-last.last) c.args.segment.now.features (sym c.comes_after.ensures ∙ c.if-comes_after.true) c.in_ok-last.ensures

pub returns-else-comes_after : goal.returns-else-comes_after
returns-else-comes_after c =
    none_beyond (option_map identifier c.args.after) (identifier c.in_ok-last.last) c.args.segment.now.features (sym c.comes_after.ensures ∙ c.if-comes_after.false) c.in_ok-last.ensures
