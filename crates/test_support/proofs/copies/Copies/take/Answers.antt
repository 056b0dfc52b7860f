use Rattle.std.proofs.Common.{rules}
use Rattle.test_support.proofs.CopyLemmas.{copy_ends}
use Rattle.test_support.proofs.copies.Copies.take.Goals as goal

pub returns-then-self-clause-got : goal.returns-then-self-clause-got
returns-then-self-clause-got c = λ bytes got others.
    copy_ends c.args.self.now.text.now _ bytes c.args.self.now.count _ c.args.self.now.at _ c.args.byte (search rules) (search rules) (search rules)
    (got (c.end_copy.ensures.others others)) c.end_copy.ensures.text (c.end_copy.ensures.counted others) c.end_copy.ensures.at
