use Rattle.std.proofs.Common.{◌≡◌, length}
use Rattle.cad_versions.specs.Listing.{IsListing}
use Rattle.cad_index_cases.proofs.ListingLemmas.{Below}
use Rattle.cad_index_cases.proofs.parcels.listed.Given as goal

abbrev pub invariant-loop-parcel : goal.invariant-loop-parcel
invariant-loop-parcel l = record {
  listed : IsListing l.versions.items;
  below : Below l.number l.versions.items;
  many : length l.versions.items ≡ l.number;
}
