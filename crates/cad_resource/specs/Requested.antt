-- What a request asks for, or the first check that it fails (own profile of OGC 17-069r4, section 7).
use Rattle.std.specs.Prelude.{ℕ, List, codes, not, Bool, false, ◌||◌, ◌==◌, Option, Some, None, Result, Ok, Err, if◌then◌else◌}
use Rattle.std.specs.List.{before_first, after_first}
use Rattle.std.specs.Str.{bytes_eq}
use Rattle.cad_schema.specs.declared.collection.Collection.{Collection}
use Rattle.cad_head.specs.Request.{Request, closes_connection}
use Rattle.cad_resource.specs.declared.resource_query.ResourceQuery.{ResourceQuery}
use Rattle.cad_resource.specs.declared.check.Check.{Check}
use Rattle.cad_resource.specs.declared.check.Check.TheVariants.{Host, Body, Target, NoResource, Method, NoCollection}
use Rattle.cad_resource.specs.declared.resource.Resource.{Resource}
use Rattle.cad_resource.specs.declared.resource.Resource.TheVariants as resource
use Rattle.cad_resource.specs.Heads.{lacks_host, has_body, is_target}
use Rattle.cad_resource.specs.Places.{Place, landing, collections, collection, queryables, items, item, place_of, known}
use Rattle.cad_resource.specs.Checks.{ends_connection}

-- a resource, and the text of the query
abbrev pub RequestedText : Type 0
RequestedText = Place Collection × List ℕ

-- the resource of a known collection, if the path names one
abbrev pub requested_resource : Option (Place Collection) → List ℕ → Result RequestedText Check
requested_resource None text = Err NoCollection
requested_resource (Some place) text = Ok (place, text)

-- what is asked for at a place, by the only method that exists (RFC 9110, section 9.3.1: GET)
abbrev pub requested_at_place : Option (Place (List ℕ)) → List ℕ → List ℕ → Result RequestedText Check
requested_at_place None method text = Err NoResource
requested_at_place (Some place) method text = if not (bytes_eq method (codes "GET")) then Err Method else requested_resource (known place) text

-- what is asked for by the target's path and query, which its first question mark separates (RFC 9112, section 3.2.1: origin form)
abbrev pub requested_by_target : List ℕ → List ℕ → Result RequestedText Check
requested_by_target method target =
    if not (is_target target) then Err Target
    else requested_at_place (place_of (before_first (λ b. b == 63) target)) method (after_first (λ b. b == 63) target)

-- the first check that fails decides
abbrev pub requested : Request → Result RequestedText Check
requested r =
    if lacks_host r then Err Host
    else (if has_body r then Err Body
    else requested_by_target r.method r.target)

-- a check that fails ends the connection
abbrev pub ends_by_check : Result RequestedText Check → Bool
ends_by_check (Ok requested) = false
ends_by_check (Err check) = ends_connection check

-- the connection ends after the reply
abbrev pub ends_after : Request → Bool
ends_after r = closes_connection r || ends_by_check (requested r)

-- the place that a value holds
abbrev pub place_held : Resource → Place Collection
place_held resource.Landing = landing
place_held resource.Collections = collections
place_held (resource.Collection c) = collection c
place_held (resource.Queryables c) = queryables c
place_held (resource.Items c) = items c
place_held (resource.Item c id) = item c id.now

-- what a value says
abbrev pub requested_text : Result ResourceQuery Check → Result RequestedText Check
requested_text (Ok requested) = Ok (place_held requested.resource, requested.query.now)
requested_text (Err check) = Err check
