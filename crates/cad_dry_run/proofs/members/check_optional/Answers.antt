use Rattle.serde_json.specs.View.{members_view, view}
use Rattle.cad_dry_run.specs.Names.{name_text}
use Rattle.cad_dry_run.proofs.MemberLemmas.{found_by}
use Rattle.cad_dry_run.proofs.members.check_optional.Goals as goal

pub returns-in-Err : goal.returns-in-Err
returns-in-Err c =
    (view c.in-Some.value.now, found_by (name_text c.args.name) _ (members_view c.args.members.now.entries) (view c.in-Some.value.now) c.in-Some.ensures c.text.ensures, c.in-Err.ensures)
