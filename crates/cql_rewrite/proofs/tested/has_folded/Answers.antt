use Rattle.std.proofs.Common.{◌∙◌, sym}
use Rattle.cql_rewrite.proofs.FoldedTexts.{none_folds_to}
use Rattle.cql_rewrite.proofs.tested.has_folded.Goals as goal

pub returns-else-may_fold_to : goal.returns-else-may_fold_to
returns-else-may_fold_to c = c.if-may_fold_to.false ∙ sym (none_folds_to _ c.args.text.now.text (c.may_fold_to.ensures c.if-may_fold_to.false))
