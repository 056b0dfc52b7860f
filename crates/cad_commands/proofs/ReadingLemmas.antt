-- What is read of a whole by its parts.
use Rattle.std.proofs.Common.{◌≡◌, Result, Ok, Err}
use Rattle.std.specs.Result.{IsErrAnd}
use Rattle.cad_commands.specs.declared.command_error.CommandError.{CommandError}
use Rattle.cad_commands.specs.declared.command_error.CommandError.TheVariants.{NotACommand, Memory}
use Rattle.cad_commands.specs.Reading.{IsUnread, IsReadAs}

unread : {X Y : Type 0} (Part : X → Type 0) (Whole : Y → Type 0) (e : CommandError) → IsUnread Part e → ((y : Y) → Whole y → (x : X) × Part x) → IsUnread Whole e
unread Part Whole NotACommand none part = λ y whole. none (part y whole).0 (part y whole).1
unread Part Whole Memory none part = tt

-- where a part is not read, the whole is not
pub unread_part : {V X Y : Type 0} (look : V → Y) (Part : X → Type 0) (Whole : Y → Type 0) (r : Result V CommandError) (e : CommandError) → IsErrAnd r (λ y. y ≡ e) → IsUnread Part e → ((y : Y) → Whole y → (x : X) × Part x) → IsReadAs look Whole r
unread_part look Part Whole (Ok v) e is none part = absurd is
unread_part look Part Whole (Err y) e is none part = rw is (unread Part Whole e none part)
