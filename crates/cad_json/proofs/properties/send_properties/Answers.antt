use Rattle.std.proofs.Common.{sym, ◌∙◌, ap, subst}
use Rattle.serde_json.specs.Data.{object}
use Rattle.std.proofs.lemmas.Result.{on_ok_weaker}
use Rattle.cad_json.specs.Sent.{Sends}
use Rattle.cad_json.specs.inner.Members.{members_at}
use Rattle.cad_json.proofs.ListedLemmas.{listed}
use Rattle.cad_json.proofs.properties.send_properties.Goals as goal

pub returns : goal.returns
returns g c =
    let w = g.S.Serializer.written in
    let x = c.args.feature.now in
    let same = ap (λ ps. object (members_at x ps)) c.listed_properties.ensures ∙ sym (listed c.args.collection x) in
    on_ok_weaker c.send_members.result (λ e. subst (λ d. Sends d (w c.args.out.now) (w c.send_members.new.out)) same e) c.send_members.ensures
