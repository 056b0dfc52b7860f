use Rattle.std.proofs.Common.{◌∙◌, Some, ap, filter, sym}
use Rattle.std.specs.Prelude.{option_map}
use Rattle.cad_run.specs.SegmentLeft.{segment_left}
use Rattle.cad_run.specs.Slices.{identifier, later}
use Rattle.cad_run.specs.Sought.{is_sought}
use Rattle.cad_run.proofs.LeftLemmas.{all_later}
use Rattle.cad_run.proofs.SoughtLemmas.{unsought}
use Rattle.cad_run.proofs.SourceLemmas.{nothing_opened}
use Rattle.cad_run.proofs.segments_left.open.Goals.{in-Some, in_default}
use Rattle.cad_run.proofs.segments_left.open.Goals as goal

pub returns-then-not-may_have : goal.returns-then-not-may_have
returns-then-not-may_have c =
    nothing_opened (is_sought c.args.sought) c.extents.result.now c.args.segment.now.features (option_map identifier c.args.after) c.extents.ensures
    (λ x within. unsought c.args.sought.plan.now c.args.sought.revision x (c.may_have.ensures c.if-not-may_have.true x within))

pub returns : goal.returns
returns c =
    let found = filter (is_sought c.args.sought) c.args.segment.now.features in
    elim c.match-after.branch [
      | in-Some w ↦ ap segment_left w.opened-is ∙ w.seek.ensures ∙ ap (later (Some (identifier w.in-Some.last))) c.in_ok-opened.ensures ∙ ap (λ o. later (option_map identifier o) found) (sym w.in-Some.is)
      | in_default w ↦ ap segment_left w.opened-is ∙ c.in_ok-opened.ensures ∙ all_later found ∙ ap (λ o. later (option_map identifier o) found) (sym w.in_default.is)
    ]
