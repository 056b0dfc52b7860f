-- The answers to requests in the cases (own profile).
use Rattle.std.specs.Prelude.{◌≡◌, ℕ, List, ◌++◌, length, codes, decimal}
use Rattle.std.proofs.Common.{sym, ◌∙◌}
use Rattle.cad_versions.specs.declared.command.Command.{Command}
use Rattle.cad_versions.specs.declared.fault.RegisterFault.{RegisterFault}
use Rattle.cad_versions.specs.declared.fault.RegisterFault.TheVariants.{NotARegister}
use Rattle.cad_versions.specs.Keeping.{IsOfKeeping}
use Rattle.cad_memory_ledger.specs.Ledgers.{IsLedgerOf}
use Rattle.cad_head.specs.Request.{Request}
use Rattle.test_support.specs.declared.echo.Echo.{Echo}
use Rattle.test_support.specs.declared.echoing.Echoing.{Echoing}
use Rattle.test_support.specs.declared.echoing.Units.{Units}

-- its ledger holds the commands
abbrev pub StandsFor : Echo → List Command → Type 0
StandsFor e commands = IsLedgerOf e.ledger commands

-- the method, the target and the revision
abbrev pub echo : List ℕ → List ℕ → ℕ → List ℕ
echo method target revision = ((((method ++ codes " ") ++ target) ++ codes " at revision ") ++ decimal revision) ++ codes "\n"

-- the reply to a request
abbrev pub reply_of : List Command → Request → List ℕ
reply_of commands r = echo r.method r.target (length commands)

-- these bytes are that reply
abbrev pub IsReply : List Command → Request → List ℕ → Type 0
IsReply commands r bytes = bytes ≡ reply_of commands r

pub one_echo : (commands : List Command) (r : Request) (one other : List ℕ) → IsReply commands r one → IsReply commands r other → one ≡ other
one_echo commands r one other e f = e ∙ sym f

pub lost_keeps : (fault : RegisterFault) → fault ≡ NotARegister → IsOfKeeping fault
lost_keeps fault e = rw e tt

-- the reply that is owed, how many units of work are left for it, and how many were done
abbrev pub owed : Echoing → List ℕ
owed work = work.reply.items

abbrev pub left_of : Echoing → ℕ
left_of work = work.left

abbrev pub done_in : Units → ℕ
done_in units = units.done
