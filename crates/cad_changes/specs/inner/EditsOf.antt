-- The meaning of the crate's own values.
use Rattle.std.specs.Prelude.{Option, option_map}
use Rattle.std.specs.Option.{option_copied}
use Rattle.cad_feature.specs.Values.{Datum, datum_of}
use Rattle.cad_feature.specs.declared.value.Value.{Value}
use Rattle.cad_changes.specs.declared.edits.NewValues.{NewValues}
use Rattle.cad_changes.specs.Touching.{Edits}

-- the value in its place, if there is one
abbrev pub datum_if_any : Option Value → Option Datum
datum_if_any v = option_map datum_of v

abbrev pub edits_of : NewValues → Edits
edits_of e = record { closing = e.closing; unit_name = datum_if_any (option_copied e.unit_name); party_name = datum_if_any (option_copied e.party_name) }
