use Rattle.std.proofs.Common.{◌≡◌, ◌++◌, ◌<◌, ◌^◌, ℕ, List, Option, Some, None, Result, Ok, Err, IfOk, length, sym, ap, ap₂, subst, ◌∙◌}
use Rattle.std.specs.Int.{to_be_bytes, w16}
use Rattle.std.specs.Option.{MatchOption}
use Rattle.cad_shape.specs.declared.polygon.Region.{Region}
use Rattle.cad_shape.specs.declared.ring.Ring.{Ring}
use Rattle.cad_shape.specs.Polygons.{IsRegion}
use Rattle.cad_shape.specs.RegionRings.{rings_of, region_is}
use Rattle.cad_versions.specs.ShapeBytes.{rings_bytes, AreRingsOf}
use Rattle.cad_versions.specs.lemmas.RingLemmas.{rings_counted, rings_same}
use Rattle.cad_versions.proofs.shape_bytes.read_rings.Goals as goal

pub returns-then-as_slice-count : goal.returns-then-as_slice-count
returns-then-as_slice-count c region is =
    let found = c.in-Some-2.rings.items in
    let held : c.in-Some.rest.now ≡ rings_bytes found = rw c.in-Some-2.is at c.in_ok-rings.ensures in
    let parts = rings_counted c.in-Some.count c.in-Some.rest.now (rings_of region) c.in-Some.ensures.1 (region_is region).few.0 (sym c.in-Some.ensures.0 ∙ is) in
    c.if-as_slice-count.true (ap length c.as_slice.ensures.value ∙ ap length (rings_same found (rings_of region) (sym held ∙ parts.1)) ∙ sym parts.0)

-- as many rings as are counted are a region, or no shape is stored
read : {E : Type 0} (found : Result (Option Region) E) (rings : List Ring) (bytes rest : List ℕ) (count : ℕ) → bytes ≡ to_be_bytes w16 count ++ rest → count < 2 ^ 16 → rest ≡ rings_bytes rings → length rings ≡ count
    → IfOk found (λ o. MatchOption o (¬ (IsRegion rings)) (λ region. rings_of region ≡ rings)) → IfOk found (λ o. MatchOption o ((region : Region) → ¬ AreRingsOf bytes region) (AreRingsOf bytes))
read (Err fault) rings bytes rest count e small held counted h = h
read (Ok (Some region)) rings bytes rest count e small held counted h = e ∙ ap₂ (λ n l. to_be_bytes w16 n ++ l) (sym counted ∙ ap length (sym h)) (held ∙ ap rings_bytes (sym h))
read (Ok None) rings bytes rest count e small held counted h = λ region are.
    let parts = rings_counted count rest (rings_of region) small (region_is region).few.0 (sym e ∙ are) in
    h (subst IsRegion (sym (rings_same rings (rings_of region) (sym held ∙ parts.1))) (region_is region))

pub returns : goal.returns
returns c =
    let found = c.in-Some-2.rings in
    let held : c.in-Some.rest.now ≡ rings_bytes found.items = rw c.in-Some-2.is at c.in_ok-rings.ensures in
    read c.region_of.result found.items c.args.bytes.now c.in-Some.rest.now c.in-Some.count c.in-Some.ensures.0 c.in-Some.ensures.1 held (sym (ap length c.as_slice.ensures.value) ∙ c.if-as_slice-count.false) c.region_of.ensures
