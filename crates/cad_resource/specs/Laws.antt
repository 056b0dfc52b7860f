-- What the definitions of requests and paths say together.
use Rattle.std.specs.Prelude.{◌≡◌, ◌≢◌, ◌<◌, ℕ, true, false, List, codes, All, length, Some, None, Ok, Err, ⊤}
use Rattle.cad_schema.specs.declared.collection.Collection.{Collection}
use Rattle.cad_head.specs.Request.{Request, path, query}
use Rattle.cad_resource.specs.declared.check.Check.TheVariants.{Host, Body, Target, NoResource, Method, NoCollection}
use Rattle.cad_resource.specs.Heads.{lacks_host, has_body, is_target}
use Rattle.cad_resource.specs.Places.{Place, landing, collections, collection, queryables, items, item, place_of, resource_of, path_of, named}
use Rattle.cad_resource.specs.Requested.{requested}

-- the head is as it has to be, no matter what is asked for
pub record IsSound (r : Request) : Type 0 where
  pub has_host : lacks_host r ≡ false
  pub bodiless : has_body r ≡ false

-- hosts are checked first
abbrev pub HostIsFirst : Type 0
HostIsFirst = (r : Request) → lacks_host r ≡ true → requested r ≡ Err Host

-- then bodies, for any target
abbrev pub BodyIsSecond : Type 0
BodyIsSecond = (r : Request) → lacks_host r ≡ false → has_body r ≡ true → requested r ≡ Err Body

-- then targets
abbrev pub TargetIsThird : Type 0
TargetIsThird = (r : Request) → IsSound r → is_target r.target ≡ false → requested r ≡ Err Target

-- then paths, for any method
abbrev pub PathIsFourth : Type 0
PathIsFourth = (r : Request) → IsSound r → is_target r.target ≡ true → place_of (path r) ≡ None → requested r ≡ Err NoResource

-- then methods, for any collection
abbrev pub MethodIsFifth : Type 0
MethodIsFifth =
    (r : Request) (place : Place (List ℕ)) → IsSound r → is_target r.target ≡ true → place_of (path r) ≡ Some place
    → r.method ≢ codes "GET" → requested r ≡ Err Method

-- a GET of a path
pub record IsGet (r : Request) : Type 0 where
  pub sound : IsSound r
  pub target : is_target r.target ≡ true
  pub method : r.method ≡ codes "GET"

-- then collections
abbrev pub CollectionIsSixth : Type 0
CollectionIsSixth =
    (r : Request) (place : Place (List ℕ)) → IsGet r → place_of (path r) ≡ Some place → resource_of (path r) ≡ None
    → requested r ≡ Err NoCollection

-- a GET of a resource's path asks for it, with any query
abbrev pub ResourcesAreRequested : Type 0
ResourcesAreRequested =
    (r : Request) (place : Place Collection) → IsGet r → resource_of (path r) ≡ Some place → requested r ≡ Ok (place, query r)

-- a text that may be between slashes
pub record IsSegment (text : List ℕ) : Type 0 where
  pub some : 0 < length text
  pub no_slash : All (λ b. b ≢ 47) text

-- the texts of a place may be between slashes
abbrev pub IsPlace : Place (List ℕ) → Type 0
IsPlace landing = ⊤
IsPlace collections = ⊤
IsPlace (collection c) = IsSegment c
IsPlace (queryables c) = IsSegment c
IsPlace (items c) = IsSegment c
IsPlace (item c id) = IsSegment c × IsSegment id

-- the path of a place names it
abbrev pub PathsAreReadBack : Type 0
PathsAreReadBack = (place : Place (List ℕ)) → IsPlace place → place_of (path_of place) ≡ Some place

-- nothing but its path names a place
abbrev pub PlacesHaveOnePath : Type 0
PlacesHaveOnePath = (bytes : List ℕ) (place : Place (List ℕ)) → place_of bytes ≡ Some place → (bytes ≡ path_of place) × IsPlace place

-- the path of a known collection's resource names it
abbrev pub KnownPathsAreReadBack : Type 0
KnownPathsAreReadBack = (place : Place Collection) → IsPlace (named place) → resource_of (path_of (named place)) ≡ Some place

-- nothing but its path names a resource
abbrev pub ResourcesHaveOnePath : Type 0
ResourcesHaveOnePath = (bytes : List ℕ) (place : Place Collection) → resource_of bytes ≡ Some place → bytes ≡ path_of (named place)
