use Rattle.std.proofs.Common.{lit<, sym, ◌∙◌}
use Rattle.cad_event_loop.proofs.LineLemmas.{among_any}
use Rattle.cad_event_loop.proofs.line.Line.keep.Goals as goal

pub push-requires : goal.push-requires
push-requires c = (lit< tt, c.requires (sym (among_any c.args.c c.args.self.now.numbers.items) ∙ (sym c.contains.ensures ∙ c.if-not-contains.true)))
