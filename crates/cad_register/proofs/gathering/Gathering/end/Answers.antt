use Rattle.std.proofs.Common.{◌≡◌, ◌∙◌, None, Some, get_or, sym, subst}
use Rattle.cad_versions.specs.declared.command.Command.TheVariants.{Retire}
use Rattle.cad_register.specs.inner.Gathering.{changed, retired, slots_of}
use Rattle.cad_register.proofs.GatheringLemmas.{changed_at, changed_same, changed_nowhere, retired_free, retired_taken}
use Rattle.cad_register.proofs.gathering.Gathering.end.Goals as goal

pub returns-then-is_empty-clause-slots : goal.returns-then-is_empty-clause-slots
returns-then-is_empty-clause-slots c =
    let behind = c.args.self.now.behind in
    let os = slots_of c.args.self.now.slots in
    let command = Retire c.args.object c.args.last in
    let is = c.in-Some.ensures in
    subst (λ r. slots_of c.put.new.self ≡ changed behind r (retired command) os) is.1
    (c.put.ensures ∙ changed_at behind c.in-Some.at (retired command) os None (Some command) is.0 (sym (retired_free command (get_or os c.in-Some.at None) (sym c.is_empty.ensures ∙ c.if-is_empty.true))))

pub returns-else-is_empty-clause-slots : goal.returns-else-is_empty-clause-slots
returns-else-is_empty-clause-slots c =
    let behind = c.args.self.now.behind in
    let os = slots_of c.args.self.now.slots in
    let command = Retire c.args.object c.args.last in
    let is = c.in-Some.ensures in
    subst (λ r. os ≡ changed behind r (retired command) os) is.1
    (sym (changed_same behind c.in-Some.at (retired command) os None is.0 (retired_taken command (get_or os c.in-Some.at None) (sym c.is_empty.ensures ∙ c.if-is_empty.false))))

pub returns-in_default-clause-slots : goal.returns-in_default-clause-slots
returns-in_default-clause-slots c = sym (changed_nowhere c.args.self.now.behind c.args.revision (retired (Retire c.args.object c.args.last)) (slots_of c.args.self.now.slots) c.in_default.ensures)
