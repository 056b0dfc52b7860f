-- What an answer says of a feature.
use Rattle.std.specs.Prelude.{true, false}
use Rattle.cql_meaning.specs.declared.verdict.Truth.{Truth}
use Rattle.cql_meaning.specs.declared.verdict.Truth.TheVariants.{Yes, No, Unknown}
use Rattle.cql_meaning.specs.Sides.{Sides}

-- only true, only false, or neither
abbrev pub said : Truth → Sides
said Yes = record { yes = true; no = false }
said No = record { yes = false; no = true }
said Unknown = record { yes = false; no = false }
