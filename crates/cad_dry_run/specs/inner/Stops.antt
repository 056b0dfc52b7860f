-- That the cause at which checks end is true; if memory ran out, nothing is said (own profile).
use Rattle.std.specs.Prelude.{◌≡◌, ⊤, None, Some}
use Rattle.serde_json.specs.Data.{Data, Items, Members}
use Rattle.serde_json.specs.Find.{as_object, get_item}
use Rattle.cad_dry_run.specs.declared.cause.Cause.{Cause}
use Rattle.cad_dry_run.specs.declared.cause.Cause.TheVariants as line
use Rattle.cad_dry_run.specs.declared.cause.RingCause.TheVariants as corner
use Rattle.cad_dry_run.specs.declared.stop.HolesStop.{HolesStop}
use Rattle.cad_dry_run.specs.declared.stop.HolesStop.TheVariants as holes
use Rattle.cad_dry_run.specs.declared.stop.RingStop.{RingStop}
use Rattle.cad_dry_run.specs.declared.stop.RingStop.TheVariants as ring
use Rattle.cad_dry_run.specs.declared.stop.MemberStop.{MemberStop}
use Rattle.cad_dry_run.specs.declared.stop.MemberStop.TheVariants as members
use Rattle.cad_dry_run.specs.declared.stop.ObjectStop.{ObjectStop}
use Rattle.cad_dry_run.specs.declared.stop.ObjectStop.TheVariants as object
use Rattle.cad_dry_run.specs.ValueFaults.{IsWrong}
use Rattle.cad_dry_run.specs.Causes.{IsNoRing, IsWrongIn, IsWrongOf}

abbrev pub StopsRing : Data → RingStop → Type 0
StopsRing d (ring.Cause why) = IsNoRing d why
StopsRing d ring.Memory = ⊤

abbrev pub StopsCorners : Items → RingStop → Type 0
StopsCorners ds (ring.Cause (corner.Corner i fault)) = (d : Data) × (get_item i ds ≡ Some d) × IsWrong d fault
StopsCorners ds (ring.Cause other) = ⊥
StopsCorners ds ring.Memory = ⊤

abbrev pub StopsHoles : Items → HolesStop → Type 0
StopsHoles ds (holes.Cause k why) = (d : Data) × (get_item k ds ≡ Some d) × IsNoRing d why
StopsHoles ds holes.Memory = ⊤

abbrev pub StopsMembers : Members → MemberStop → Type 0
StopsMembers ms (members.Cause why) = IsWrongIn ms why
StopsMembers ms members.Memory = ⊤

abbrev pub StopsObject : Members → ObjectStop → Type 0
StopsObject ms (object.Cause why) = IsWrongOf ms why
StopsObject ms object.Memory = ⊤

-- that the cause is true of a line that is this value
abbrev pub IsCauseFor : Data → Cause → Type 0
IsCauseFor d line.NotAnObject = as_object d ≡ None
IsCauseFor d (line.Object why) = (ms : Members) × (as_object d ≡ Some ms) × IsWrongOf ms why
IsCauseFor d line.Unexplained = ⊤
IsCauseFor d other = ⊥
