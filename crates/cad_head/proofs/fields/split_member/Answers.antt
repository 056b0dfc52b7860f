use Rattle.std.proofs.Common.{◌≡◌, ℕ, suc, ◌+◌, ◌-◌, ◌∷◌, List, length, take, drop, rules, sym, ap, ◌∙◌, add-one}
use Rattle.std.proofs.lemmas.List.{take_rest}
use Rattle.cad_head.specs.Request.{members}
use Rattle.cad_head.proofs.MemberLemmas.{members_cut, members_one}
use Rattle.cad_head.proofs.fields.split_member.Goals as goal

pub returns-in-Some-clause-split : goal.returns-in-Some-clause-split
returns-in-Some-clause-split c =
    let list = c.args.list.now in
    let i = c.in-Some.i in
    members_cut list i (search rules) (search rules) (search rules) ∙ ap (λ (rest : List ℕ). take i list ∷ members rest) (let whole : drop (suc i) list ≡ take (length list - (i + 1)) (drop (i + 1) list) = rw add-one (sym (take_rest list (suc i))) in whole)

pub returns-in-None-clause-split : goal.returns-in-None-clause-split
returns-in-None-clause-split c = members_one c.args.list.now (search rules)
