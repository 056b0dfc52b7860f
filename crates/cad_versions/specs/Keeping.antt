-- Faults of a ledger's store, and not of its commands (own profile).
use Rattle.std.specs.Prelude.{ℤ, Result, Ok, Err}
use Rattle.cad_versions.specs.declared.fault.RegisterFault.{RegisterFault}
use Rattle.cad_versions.specs.declared.fault.RegisterFault.TheVariants.{Damaged, NotARegister, Store, Memory}

abbrev pub IsOfKeeping : RegisterFault → Type 0
IsOfKeeping (Damaged object number) = Unit {0}
IsOfKeeping NotARegister = Unit {0}
IsOfKeeping Store = Unit {0}
IsOfKeeping Memory = Unit {0}
IsOfKeeping other = ⊥

-- neither the store nor memory is the cause of the refusal
abbrev pub IsOfTheRegister : RegisterFault → Type 0
IsOfTheRegister Store = ⊥
IsOfTheRegister Memory = ⊥
IsOfTheRegister other = Unit {0}

-- the store answered, and there was memory
abbrev pub IsAnswered : {X : Type 0} → Result X RegisterFault → Type 0
IsAnswered (Ok x) = Unit {0}
IsAnswered (Err cause) = IsOfTheRegister cause

-- a ledger's store may be closed after this fault: it refused, or it was out of memory
abbrev pub MayClose : RegisterFault → Type 0
MayClose Store = Unit {0}
MayClose Memory = Unit {0}
MayClose other = ⊥

-- a ledger's store is closed after this fault, since it failed in between
abbrev pub IsShut : {L : Type 0} → (L → Type 0) → (L → L → Type 0) → L → RegisterFault → L → Type 0
IsShut Lives Fails old fault new = MayClose fault × ¬ Lives new × Fails old new

-- the predicate holds of the row that is named as damaged, by its object and its number as they are stored
abbrev pub NamesDamage : (ℤ → ℤ → Type 0) → RegisterFault → Type 0
NamesDamage IsDamaged (Damaged object number) = IsDamaged object number
NamesDamage IsDamaged other = Unit {0}
