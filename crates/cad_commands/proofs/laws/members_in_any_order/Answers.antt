use Rattle.std.proofs.Common.{◌≡◌, sym, ap, ◌∙◌}
use Rattle.std.specs.Option.{option_and_then}
use Rattle.serde_json.specs.Read.{of_json, read}
use Rattle.cad_commands.proofs.OrderLemmas.{same_value}
use Rattle.cad_commands.proofs.laws.members_in_any_order.Goals as goal

pub returns : goal.returns
returns c text other differ utf8 command says =
    let values : read other ≡ read text = ap (option_and_then of_json) differ.3 ∙ sym (same_value differ.0 differ.1 differ.4) ∙ sym (ap (option_and_then of_json) differ.2) in
    (utf8, (says.1.0, rw values says.1.1, says.1.2))
