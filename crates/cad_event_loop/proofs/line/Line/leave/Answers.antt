use Rattle.std.proofs.Common.{ℕ, nat_eq, not, rules}
use Rattle.arrayvec.proofs.ArrayVecLemmas.{filter-from_retain}
use Rattle.cad_event_loop.proofs.line.Line.leave.Goals as goal

pub returns : goal.returns
returns c = filter-from_retain _ (λ (d : ℕ). not (nat_eq d c.args.c)) _ (λ x b f' y t. search rules) c.args.self.now.numbers.items c.retain.new.self.items c.retain.ensures.filtered
