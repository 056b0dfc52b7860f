-- What was done at the network of the cases (own profile).
use Rattle.std.specs.Prelude.{List, map, Option, None, Some, if◌then◌else◌}
use Rattle.cad_network.specs.Deeds as deed
use Rattle.cad_network.specs.Deeds.{Deed}
use Rattle.clients_cases.specs.declared.history.Done.{Done}
use Rattle.clients_cases.specs.declared.history.Done.TheVariants.{Came, OfficeCame, Woke, Gave, Took, Blocked, Failed, Left}
use Rattle.clients_cases.specs.declared.history.History.{History}

abbrev pub deed_of : Done → Deed
deed_of (Came s) = deed.came s
deed_of (OfficeCame s) = deed.office_came s
deed_of (Woke place) = deed.woke place
deed_of (Gave s bytes) = deed.gave s bytes.items
deed_of (Took s bytes) = deed.took s bytes.items
deed_of (Blocked s) = deed.blocked s
deed_of (Failed s) = deed.failed s
deed_of (Left s) = deed.left s

-- all of it, as long as there was memory to keep it
abbrev pub known : History → Option (List Deed)
known history = if history.is_known then Some (map deed_of history.done.items) else None
