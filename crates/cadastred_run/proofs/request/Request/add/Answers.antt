use Rattle.std.proofs.Common.{ap, sym, subst, ◌∙◌, ◌++◌, take, drop, append_assoc}
use Rattle.std.proofs.lemmas.List.{take-append-drop}
use Rattle.cadastred_run.specs.inner.Requests.{HoldsLineOf}
use Rattle.cadastred_run.proofs.FirstLineLemmas.{stays_ended}
use Rattle.cadastred_run.proofs.request.Request.add.Goals as goal

pub returns-then-self : goal.returns-then-self
returns-then-self c read holds =
    let bytes = c.args.bytes.now in
    let at = c.loop-byte.byte-index in
    let so_far = c.loop-byte.invariant read holds in
    let stays = stays_ended (read ++ take at bytes) (drop at bytes) (sym so_far.ended ∙ c.if-self.true) in
    let whole = append_assoc read (take at bytes) (drop at bytes) ∙ ap (λ l. read ++ l) (take-append-drop at bytes) in
    subst (HoldsLineOf c.loop-byte.self) whole (record { line = so_far.line ∙ ap (take 512) (sym stays.0); ended = c.if-self.true ∙ sym stays.1 })
