use Rattle.std.proofs.Common.{List, Err, map, sym, subst}
use Rattle.std.proofs.lemmas.Result.{err_from_is_err_and}
use Rattle.cad_versions.specs.Entries.{Entry, version_in}
use Rattle.cad_versions.specs.Listing.{IsListing}
use Rattle.cad_register.specs.StoredVersions.{AreRowsOf}
use Rattle.cad_register.proofs.DamageLemmas.{lists_stored}
use Rattle.cad_register.proofs.OrderedLemmas.{put_in_order}
use Rattle.cad_register.proofs.listing.listed_entries.Goals as goal

pub entries-requires : goal.entries-requires
entries-requires c =
    let ordered = put_in_order c.requires.read.0 c.args.found.items c.put_in_order.new.found.items c.requires.read.1 c.put_in_order.ensures.same c.put_in_order.ensures.sorted in
    (c.in_ok-stored.ensures.listed ordered.0 ordered.2).each

pub returns-in_err-stored-clause-judged : goal.returns-in_err-stored-clause-judged
returns-in_err-stored-clause-judged c shown read =
    let ordered = put_in_order shown c.args.found.items c.put_in_order.new.found.items read c.put_in_order.ensures.same c.put_in_order.ensures.sorted in
    let same = err_from_is_err_and c.from_residual.result c.from_residual.ensures.1 in
    rw (same.1, same.2) (lists_stored c.args.newest shown ordered.0 (Err c.in_err-stored.field-0.0) ordered.1 tt tt (c.in_err-stored.ensures.cause ordered.0 ordered.2))

pub returns-clause-judged : goal.returns-clause-judged
returns-clause-judged c shown read =
    let ordered = put_in_order shown c.args.found.items c.put_in_order.new.found.items read c.put_in_order.ensures.same c.put_in_order.ensures.sorted in (
      ordered.0,
      ordered.1,
      c.in_ok-stored.ensures.sound ordered.0 ordered.2,
      subst (AreRowsOf ordered.0) (sym c.in_ok-entries.ensures) (c.in_ok-stored.ensures.shown ordered.0 ordered.2),
    )

pub returns-clause-listed : goal.returns-clause-listed
returns-clause-listed c =
    let ordered = put_in_order c.requires.read.0 c.args.found.items c.put_in_order.new.found.items c.requires.read.1 c.put_in_order.ensures.same c.put_in_order.ensures.sorted in
    subst (λ (entries : List Entry). IsListing (map version_in entries)) (sym c.in_ok-entries.ensures) (c.in_ok-stored.ensures.listed ordered.0 ordered.2)
