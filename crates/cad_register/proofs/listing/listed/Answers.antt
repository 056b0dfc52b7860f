use Rattle.cad_register.proofs.OrderedLemmas.{put_in_order}
use Rattle.cad_register.proofs.DamageLemmas.{lists_rows}
use Rattle.cad_register.proofs.listing.listed.Goals as goal

pub returns-clause-judged : goal.returns-clause-judged
returns-clause-judged c shown read =
    let ordered = put_in_order shown c.args.found.items c.put_in_order.new.found.items read c.put_in_order.ensures.same c.put_in_order.ensures.sorted in
    let listed = c.versions_at.ensures in
    lists_rows c.args.revision c.args.newest shown ordered.0 c.versions_at.result ordered.1 (listed.sound ordered.0 ordered.2) (listed.shown ordered.0 ordered.2) (listed.cause ordered.0 ordered.2)

pub returns-clause-listed : goal.returns-clause-listed
returns-clause-listed c shown read =
    let ordered = put_in_order shown c.args.found.items c.put_in_order.new.found.items read c.put_in_order.ensures.same c.put_in_order.ensures.sorted in
    c.versions_at.ensures.listed ordered.0 ordered.2
