use Rattle.std.proofs.Common.{◌≡◌, ◌∙◌, sym, ap, subst}
use Rattle.cad_versions.specs.declared.command.Command.TheVariants.{Retire}
use Rattle.cad_register.specs.inner.Gathering.{changed, retired, ended_in, slots_of}
use Rattle.cad_register.proofs.GatheringLemmas.{open_in, undated_in, closed_in}
use Rattle.cad_register.proofs.gathering.Gathering.end_if_closed.Goals as goal

pub returns-in_default-clause-slots : goal.returns-in_default-clause-slots
returns-in_default-clause-slots c v entered e f =
    let os = slots_of c.args.self.now.slots in
    subst (λ o. os ≡ ended_in c.args.self.now.behind (record { version = v; entered = entered; closed = o }) os) (sym c.in_default.is) (sym (open_in c.args.self.now.behind v entered os))

pub returns-in_default-last-clause-slots : goal.returns-in_default-last-clause-slots
returns-in_default-last-clause-slots c v entered e f =
    let os = slots_of c.args.self.now.slots in
    subst (λ o. os ≡ ended_in c.args.self.now.behind (record { version = v; entered = entered; closed = o }) os) (sym c.in-Some.is) (sym (undated_in c.args.self.now.behind v entered c.in-Some.closed (f ∙ c.in_default-last.is) os))

pub returns-clause-slots : goal.returns-clause-slots
returns-clause-slots c v entered e f =
    let behind = c.args.self.now.behind in
    let os = slots_of c.args.self.now.slots in
    subst (λ o. slots_of c.end.new.self.slots ≡ ended_in behind (record { version = v; entered = entered; closed = o }) os) (sym c.in-Some.is)
    (c.end.ensures.slots ∙ ap (λ object. changed behind c.in-Some.closed (retired (Retire object c.in-Some-last.last)) os) (sym e) ∙ sym (closed_in behind v entered c.in-Some.closed c.in-Some-last.last (f ∙ c.in-Some-last.is) os))
