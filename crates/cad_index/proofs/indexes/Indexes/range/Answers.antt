use Rattle.std.proofs.Common.{◌∙◌, sym}
use Rattle.std.proofs.lemmas.Bool.{false≢true}
use Rattle.cad_feature.specs.Limits.{limit_of}
use Rattle.cad_index.proofs.Served.{without_order, with_order, low_misfit, high_misfit}
use Rattle.cad_index.proofs.indexes.Indexes.range.Goals as goal
use Rattle.cad_index.proofs.indexes.Indexes.range.Goals.{else-takes-via-then-takes+else-takes-2, else-takes-via-else-takes}

pub returns-in-None : goal.returns-in-None
returns-in-None c = λ collection xs listed made.
    let range = c.args.range.now in
    without_order collection xs listed c.args.self.now made range.property (limit_of range.low) (limit_of range.high) (rw c.in-None.is at c.ordered.ensures)

pub returns-then-takes-2 : goal.returns-then-takes-2
returns-then-takes-2 c = λ collection xs listed made.
    let range = c.args.range.now in
    c.range.ensures ∙ with_order collection xs listed c.args.self.now made range.property c.in-Some.ordered.now (limit_of range.low) (limit_of range.high) (rw c.in-Some.is at c.ordered.ensures)

pub returns-else-takes : goal.returns-else-takes
returns-else-takes c = λ collection xs listed made.
    let range = c.args.range.now in
    elim c.else-takes.branch [
      | else-takes-via-then-takes+else-takes-2 w ↦ high_misfit collection xs listed c.args.self.now made range.property c.in-Some.ordered.now range.low range.high (rw c.in-Some.is at c.ordered.ensures) (λ fits. false≢true (sym w.if-takes-2.false ∙ w.takes-then-takes.ensures.1 fits))
      | else-takes-via-else-takes w ↦ low_misfit collection xs listed c.args.self.now made range.property c.in-Some.ordered.now range.low range.high (rw c.in-Some.is at c.ordered.ensures) (λ fits. false≢true (sym w.if-takes.false ∙ c.takes.ensures.1 fits))
    ]
