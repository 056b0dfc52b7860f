-- Reading cells back (own profile).
use Rattle.std.specs.Prelude.{Result, Ok, Err}
use Rattle.cad_register.specs.declared.columns.ReadFault.{ReadFault}
use Rattle.cad_register.specs.declared.columns.ReadFault.TheVariants.{Damaged, Memory}

-- what was read fits; or nothing does; or memory ran out
abbrev pub Reads : {X : Type 0} → Result X ReadFault → (X → Type 0) → Type 0
Reads (Ok x) Fits = Fits x
Reads {X} (Err Damaged) Fits = (x : X) → ¬ Fits x
Reads (Err Memory) Fits = Unit {0}
