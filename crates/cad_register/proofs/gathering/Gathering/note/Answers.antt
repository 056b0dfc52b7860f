use Rattle.std.proofs.Common.{◌≡◌, ◌∙◌, sym, ap, ap₂}
use Rattle.cad_versions.specs.Entries.{Entry}
use Rattle.cad_register.specs.Journal.{beginning}
use Rattle.cad_register.specs.inner.Gathering.{changed, begun_over, ended_in, slots_of}
use Rattle.cad_register.proofs.GatheringLemmas.{begun_in}
use Rattle.cad_register.proofs.gathering.Gathering.note.Goals as goal

pub returns-clause-notes : goal.returns-clause-notes
returns-clause-notes c behind count entries gathers =
    let v = c.args.version in
    let e : Entry = record { version = v; entered = c.args.entered; closed = c.args.closed } in
    let here = c.end_if_closed.ensures.behind ∙ gathers.behind_is in
    let object : v.object ≡ c.version.inside.object = cc in
    let last : v.last ≡ c.version.inside.last = cc in
    let began : c.beginning.result ≡ beginning v = cc in
    let ended = c.end_if_closed.ensures.slots v c.args.entered object last ∙ ap₂ (λ b os. ended_in b e os) gathers.behind_is gathers.commands_are in
    record {
      behind_is = c.begin.ensures.behind ∙ here;
      commands_are = c.begin.ensures.slots ∙ ap (λ x. changed c.end_if_closed.new.self.behind c.args.entered (begun_over x) (slots_of c.end_if_closed.new.self.slots)) began
          ∙ ap₂ (λ b os. changed b c.args.entered (begun_over (beginning v)) os) here ended ∙ sym (begun_in behind count entries e);
    }
