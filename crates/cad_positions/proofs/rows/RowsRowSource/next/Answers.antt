use Rattle.std.proofs.Common.{◌<◌, ◌^◌, ℕ, Bool, ap, arith, rules}
use Rattle.cad_positions.specs.Has.{has, has_Empty}
use Rattle.cad_positions.proofs.Takings.{next_last, next_none, next_some}
use Rattle.cad_positions.proofs.rows.RowsRowSource.next.Goals as goal

pub returns-in_default : goal.returns-in_default
returns-in_default c = next_none (has c.args.self.now.source) (has c.settle.new.source) c.args.self.now.from c.in_default.ensures.settles

pub returns-then-front-lt4294967295 : goal.returns-then-front-lt4294967295
returns-then-front-lt4294967295 c =
    next_some (has c.args.self.now.source) (has c.settle.new.source) c.args.self.now.from c.in-Some.front (omega arith) c.in-Some.ensures.settles

pub returns-else-front-lt4294967295 : goal.returns-else-front-lt4294967295
returns-else-front-lt4294967295 c =
    let fits : c.in-Some.front < 2 ^ 32 = search rules in
    next_last (has c.args.self.now.source) (has c.settle.new.source) _ c.args.self.now.from _ c.in-Some.front fits (omega arith) c.in-Some.ensures.settles (λ k. ap (λ (f : ℕ → Bool). f k) has_Empty)
