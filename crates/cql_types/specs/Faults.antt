-- The numbers and names of the faults of kinds (own profile).
use Rattle.std.specs.Prelude.{ℕ, List, codes, Option, Some, None}
use Rattle.cql_types.specs.declared.fault.Misuse.{Misuse}
use Rattle.cql_types.specs.declared.fault.Misuse.TheVariants.{UnknownProperty, WrongKind, NotADate, NotWhole, NumberTooLarge, BadShape, EndsTurned}
use Rattle.cql_types.specs.declared.fault.TypeFault.{TypeFault}
use Rattle.cql_types.specs.declared.fault.TypeFault.TheVariants.{At, Memory}

abbrev pub misuse_row : Misuse → ℕ × List ℕ
misuse_row UnknownProperty = (1, codes "UnknownProperty")
misuse_row WrongKind = (2, codes "WrongKind")
misuse_row NotADate = (3, codes "NotADate")
misuse_row NotWhole = (4, codes "NotWhole")
misuse_row NumberTooLarge = (5, codes "NumberTooLarge")
misuse_row BadShape = (6, codes "BadShape")
misuse_row EndsTurned = (7, codes "EndsTurned")

-- a fault's number and its name
abbrev pub fault_row : TypeFault → ℕ × List ℕ
fault_row (At fault) = misuse_row fault.cause
fault_row Memory = (8, codes "Memory")

abbrev pub fault_place : TypeFault → Option ℕ
fault_place (At fault) = Some fault.place
fault_place Memory = None
