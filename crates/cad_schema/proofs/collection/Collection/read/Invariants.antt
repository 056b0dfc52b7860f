use Rattle.std.proofs.Common.{◌≡◌, find, drop}
use Rattle.std.specs.Str.{bytes_eq}
use Rattle.cad_schema.specs.Collections.{collections, name_of, collection_named}
use Rattle.cad_schema.proofs.collection.Collection.read.Given as goal

-- No collection so far has the name.
abbrev pub invariant-loop-collection : goal.invariant-loop-collection
invariant-loop-collection l = find (λ c. bytes_eq l.name (name_of c)) (drop l.collection-index collections) ≡ collection_named l.name
