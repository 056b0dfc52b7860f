use Rattle.std.proofs.Common.{arith}
use Rattle.std.specs.Prelude.{string_bytes}
use Rattle.std.specs.Rc.{rc_value}
use Rattle.std.proofs.lemmas.Str.{IsUtf8-string_bytes}
use Rattle.cad_ordered.proofs.Sampled.{sampled_apart}
use Rattle.cad_ordered.proofs.texts.Texts.against.Goals as goal

pub returns-then-ne : goal.returns-then-ne
returns-then-ne c =
    sampled_apart (λ x. string_bytes (rc_value x)) (λ x. IsUtf8-string_bytes (rc_value x)) c.args.self.now.texts.items c.args.self.now.samples.items c.args.rank c.index.result.now c.args.fronts c.args.text.now c.cmp-answer.result
    c.args.self.now.sampled c.requires.within (omega (arith, c.if-rank-eq0.true)) c.index.ensures c.utf8.text c.requires.fronts c.cmp-answer.ensures c.if-ne.ensures
