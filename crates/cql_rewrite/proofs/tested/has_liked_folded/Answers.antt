use Rattle.std.proofs.Common.{sym}
use Rattle.cql_rewrite.proofs.FoldedTexts.{none_is_liked}
use Rattle.cql_rewrite.proofs.tested.has_liked_folded.Goals as goal

pub returns-else-may_fold_like : goal.returns-else-may_fold_like
returns-else-may_fold_like c = sym (none_is_liked _ c.args.pattern.now.pattern (c.may_fold_like.ensures c.if-may_fold_like.false))
