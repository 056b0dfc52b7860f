use Rattle.std.proofs.Common.{◌≡◌, map, sym, subst, ap}
use Rattle.cad_versions.specs.Entries.{seen_at}
use Rattle.cad_versions.specs.Listing.{IsListing}
use Rattle.cad_register.specs.Damage.{AreSeenAt}
use Rattle.cad_register.specs.StoredVersions.{entry_of}
use Rattle.cad_register.proofs.DamageLemmas.{rows_seen}
use Rattle.cad_register.proofs.ListedLemmas.{seen_listing}
use Rattle.cad_register.proofs.listing.versions_at.Goals as goal

pub returns-clause-shown : goal.returns-clause-shown
returns-clause-shown c rows read =
    subst (AreSeenAt c.args.revision rows) (sym c.in_ok-versions.ensures) (rows_seen c.args.revision rows (map entry_of c.in_ok-stored.stored.items) (c.in_ok-stored.ensures.shown rows read))

pub returns-clause-listed : goal.returns-clause-listed
returns-clause-listed c rows read = subst IsListing (sym c.in_ok-versions.ensures) (seen_listing c.args.revision (map entry_of c.in_ok-stored.stored.items) (c.in_ok-stored.ensures.listed rows read))
