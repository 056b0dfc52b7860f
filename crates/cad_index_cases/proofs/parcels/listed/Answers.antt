use Rattle.std.proofs.Common.{◌<◌, length, ap, arith}
use Rattle.std.proofs.Common.{length-append}
use Rattle.cad_index_cases.proofs.ListingLemmas.{below_more, listed_more, nothing_listed, nothing_below}
use Rattle.cad_index_cases.proofs.parcels.listed.Goals as goal

pub loop-parcel-init : goal.loop-parcel-init
loop-parcel-init c =
    let vs = c.new-versions.result.items in
    record {
      listed = nothing_listed vs c.new-versions.ensures.items;
      below = nothing_below vs c.new-versions.ensures.items;
      many = ap length c.new-versions.ensures.items;
    }

pub loop-parcel-preserved : goal.loop-parcel-preserved
loop-parcel-preserved c =
    let n = c.loop-parcel.number in
    let vs = c.loop-parcel.versions.items in
    let v = c.in_ok-version.version in
    let so_far = c.loop-parcel.invariant in
    let few : n < 2147483647 = omega arith in
    let number = c.in_ok-version.ensures.number in
    record {
      listed = rw c.in_ok-push.ensures.items (listed_more n vs v so_far.listed so_far.below number c.in_ok-version.ensures.version so_far.many few);
      below = rw c.in_ok-push.ensures.items (below_more n vs v so_far.below number);
      many = rw (c.in_ok-push.ensures.items, length-append) (omega (arith, so_far.many));
    }
