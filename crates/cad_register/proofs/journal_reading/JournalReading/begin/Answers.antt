use Rattle.std.proofs.Common.{◌≡◌, ◌-◌, [], refl, sym, subst}
use Rattle.cad_register.specs.Journal.{commands_behind}
use Rattle.cad_register.specs.inner.Gathering.{slots_of}
use Rattle.cad_register.proofs.journal_reading.JournalReading.begin.Goals as goal

pub returns : goal.returns
returns c =
    let made = c.in_ok-gathering.ensures in
    let gathering = c.in_ok-gathering.gathering in
    record {
      behind_is = made.behind_is;
      newest_is = refl;
      none_read = refl;
      holds = subst (λ b. slots_of gathering.slots ≡ commands_behind b (c.args.newest - b) []) (sym made.behind_is) made.commands_are;
    }
