-- The routes as the router keeps them.
use Rattle.std.specs.Prelude.{◌≡◌, ℕ, List, [], codes, Option, Some, None, Result, Ok, Err, MatchResult}
use Rattle.matchit.specs.Rows.{RowsOf}
use Rattle.matchit.specs.Route.{Scan, parse_route}
use Rattle.matchit.specs.Order.{placed}
use Rattle.matchit.specs.Router.{RouteOf, route_from, nearest}
use Rattle.matchit.specs.declared.error.InsertError.{InsertError}
use Rattle.cad_resource.specs.declared.route.Route.{Route}
use Rattle.cad_resource.specs.declared.route.Routed.{Routed}
use Rattle.cad_resource.specs.declared.route.Route.TheVariants.{Landing, Collections, Collection, Queryables, Items, Item}
use Rattle.cad_resource.specs.Places.{Place, landing, collections, collection, queryables, items, item}

abbrev pub RouteRows : Type 0
RouteRows = RowsOf (RouteOf Route)

-- the text is that of a route, and no other route conflicts with it
abbrev pub CanAdd : List ℕ → RouteRows → Type 0
CanAdd text rows = MatchResult (parse_route text) (λ scan. nearest scan.pattern rows ≡ None) (λ error. ⊥)

-- the rows with the route that was read from a text
abbrev pub with_scan : Result Scan InsertError → Route → RouteRows → RouteRows
with_scan (Ok scan) route rows = placed (scan.pattern, route_from scan route) rows
with_scan (Err error) route rows = rows

-- the rows with one more route
abbrev pub with_route : List ℕ → Route → RouteRows → RouteRows
with_route text route rows = with_scan (parse_route text) route rows

-- all routes
abbrev pub route_rows : RouteRows
route_rows =
    with_route (codes "/collections/{c}/items/{id}") Item
    (with_route (codes "/collections/{c}/items") Items
    (with_route (codes "/collections/{c}/queryables") Queryables
    (with_route (codes "/collections/{c}") Collection
    (with_route (codes "/collections") Collections
    (with_route (codes "/") Landing [])))))

-- the route of a place
abbrev pub route_of : {C : Type 0} → Place C → Route
route_of landing = Landing
route_of collections = Collections
route_of (collection c) = Collection
route_of (queryables c) = Queryables
route_of (items c) = Items
route_of (item c id) = Item

-- the text that a parameter took, if the route has the parameter
abbrev pub taken : Option (List ℕ) → List ℕ
taken None = []
taken (Some text) = text

-- the place of a route whose parameters took these texts
abbrev pub place_by : Route → List ℕ → List ℕ → Place (List ℕ)
place_by Landing c id = landing
place_by Collections c id = collections
place_by Collection c id = collection c
place_by Queryables c id = queryables c
place_by Items c id = items c
place_by Item c id = item c id

abbrev pub place_routed : Routed → Place (List ℕ)
place_routed routed = place_by routed.route routed.name.now routed.identifier.now
