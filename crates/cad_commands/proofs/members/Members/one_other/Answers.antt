use Rattle.std.proofs.Common.{sym, true≢false, ◌∙◌}
use Rattle.cad_commands.proofs.MemberLemmas.{no_entries, none_behind}
use Rattle.cad_commands.proofs.members.Members.one_other.Goals as goal

pub returns : goal.returns
returns c =
    λ other one. true≢false (sym (c.is_empty.ensures.1 (no_entries _ (none_behind c.without-others.result.map.entries c.in-Some.other _ _ _ c.in-Some.ensures.removal (c.without-others.ensures ∙ one)))) ∙ c.if-is_empty.false)
