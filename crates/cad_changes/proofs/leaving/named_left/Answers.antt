use Rattle.std.proofs.Common.{◌∙◌, ap}
use Rattle.cad_versions.specs.lemmas.ListLemmas.{filter_same}
use Rattle.cad_schema.specs.declared.collection.Collection.{Collection}
use Rattle.cad_changes.specs.Touching.{names_object, items_left}
use Rattle.cad_changes.proofs.leaving.named_left.Goals as goal

pub returns : goal.returns
returns c =
    c.in_ok-all.ensures
    ∙ ap (items_left c.args.command.now c.args.features.now.collection)
    (filter_same _ _ (λ x. c.in_ok-plan.ensures x ∙ ap (λ (k : Collection). names_object c.args.command.now k x) c.collection.ensures.collection) c.args.features.now.features)
