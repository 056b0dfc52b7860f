use Rattle.std.proofs.Common.{refl, sym, true≢false, ◌∙◌}
use Rattle.cad_commands.proofs.MemberLemmas.{no_entries}
use Rattle.cad_commands.proofs.members.Members.only.Goals as goal

pub returns-else-is_empty : goal.returns-else-is_empty
returns-else-is_empty c =
    (refl, λ only. true≢false (sym (c.is_empty.ensures.1 (no_entries _ (c.without.ensures ∙ only))) ∙ c.if-is_empty.false))
