use Rattle.std.proofs.Common.{◌≡◌, ◌∙◌, None, Some, get_or, sym, subst}
use Rattle.cad_register.specs.inner.Gathering.{changed, begun_over, slots_of}
use Rattle.cad_register.proofs.GatheringLemmas.{changed_at, changed_same, changed_nowhere, begun_free, begun_taken}
use Rattle.cad_register.proofs.gathering.Gathering.begin.Goals as goal

pub returns-then-is_open-clause-slots : goal.returns-then-is_open-clause-slots
returns-then-is_open-clause-slots c =
    let behind = c.args.self.now.behind in
    let os = slots_of c.args.self.now.slots in
    let change = begun_over c.args.command in
    let is = c.in-Some.ensures in
    subst (λ r. slots_of c.put.new.self ≡ changed behind r change os) is.1
    (c.put.ensures ∙ changed_at behind c.in-Some.at change os None (Some c.args.command) is.0 (sym (begun_free c.args.command (get_or os c.in-Some.at None) (sym c.is_open.ensures ∙ c.if-is_open.true))))

pub returns-else-is_open-clause-slots : goal.returns-else-is_open-clause-slots
returns-else-is_open-clause-slots c =
    let behind = c.args.self.now.behind in
    let os = slots_of c.args.self.now.slots in
    let change = begun_over c.args.command in
    let is = c.in-Some.ensures in
    subst (λ r. os ≡ changed behind r change os) is.1
    (sym (changed_same behind c.in-Some.at change os None is.0 (begun_taken c.args.command (get_or os c.in-Some.at None) (sym c.is_open.ensures ∙ c.if-is_open.false))))

pub returns-in_default-clause-slots : goal.returns-in_default-clause-slots
returns-in_default-clause-slots c = sym (changed_nowhere c.args.self.now.behind c.args.revision (begun_over c.args.command) (slots_of c.args.self.now.slots) c.in_default.ensures)
