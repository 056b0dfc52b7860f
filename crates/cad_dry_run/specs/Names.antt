-- Names of members (own profile).
use Rattle.std.specs.Prelude.{ℕ, List, codes}
use Rattle.cad_dry_run.specs.declared.member_name.MemberName.{MemberName}
use Rattle.cad_dry_run.specs.declared.member_name.MemberName.TheVariants as name

-- the name as a line spells it
abbrev pub name_text : MemberName → List ℕ
name_text name.Do = codes "do"
name_text name.Object = codes "object"
name_text name.First = codes "first"
name_text name.Last = codes "last"
name_text name.Unit = codes "unit"
name_text name.Party = codes "party"
name_text name.Name = codes "name"
name_text name.Code = codes "code"
name_text name.Label = codes "label"
name_text name.Area = codes "area"
name_text name.Share = codes "share"
name_text name.Required = codes "required"
name_text name.Spot = codes "spot"
name_text name.Shape = codes "shape"
name_text name.Holes = codes "holes"
