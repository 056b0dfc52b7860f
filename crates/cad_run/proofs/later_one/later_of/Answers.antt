use Rattle.std.proofs.Common.{◌∙◌, ap, is_gt, sym, Some}
use Rattle.std.specs.Prelude.{option_map}
use Rattle.cad_run.specs.Slices.{identifier, later}
use Rattle.cad_run.proofs.SourceLemmas.{later_named, no_later_named, none_named}
use Rattle.cad_run.proofs.later_one.later_of.Goals as goal

pub returns-then-is_gt-clause-later : goal.returns-then-is_gt-clause-later
returns-then-is_gt-clause-later c = λ xs.
    later_named (identifier c.in-Some.after) (identifier c.args.last) (sym (c.is_gt.ensures ∙ ap is_gt c.compare_identifiers.ensures) ∙ c.if-is_gt.true) xs
    ∙ ap (λ o. later (Some (identifier c.args.last)) (later (option_map identifier o) xs)) (sym c.in-Some.is)

pub returns-else-is_gt-clause-later : goal.returns-else-is_gt-clause-later
returns-else-is_gt-clause-later c = λ xs.
    no_later_named (identifier c.in-Some.after) (identifier c.args.last) (sym (c.is_gt.ensures ∙ ap is_gt c.compare_identifiers.ensures) ∙ c.if-is_gt.false) xs
    ∙ ap (λ o. later (Some (identifier c.args.last)) (later (option_map identifier o) xs)) (sym c.in-Some.is)

pub returns-in_default-clause-later : goal.returns-in_default-clause-later
returns-in_default-clause-later c = λ xs.
    none_named (identifier c.args.last) xs
    ∙ ap (λ o. later (Some (identifier c.args.last)) (later (option_map identifier o) xs)) (sym c.in_default.is)
