use Rattle.std.proofs.Common.{refl}
use Rattle.std.specs.List.{list_all}
use Rattle.cql_rewrite.specs.Meets.{meets}
use Rattle.cql_rewrite.proofs.Forms.{added_always}
use Rattle.cql_rewrite.proofs.Least.{always_costs}
use Rattle.cql_rewrite.proofs.parts.add_one.Goals as goal

pub returns-then-is_always : goal.returns-then-is_always
returns-then-is_always c = record {
  stands = λ x. added_always x c.args.part (list_all (meets x) c.args.parts.now.items) (c.if-is_always.ensures refl);
  costs = λ t. always_costs t c.args.parts.now.items c.args.part (c.if-is_always.ensures refl);
  atoms = λ h k. h;
}
