-- The rows of a register without commands.
use Rattle.std.proofs.Common.{◌≡◌, [], refl, sym, subst, arith}
use Rattle.cad_versions.specs.AsOf.{as_of}
use Rattle.cad_schema.specs.declared.collection.Collection.{Collection}
use Rattle.cad_feature.specs.Flatten.{features_in}
use Rattle.cad_history.specs.Registers.{AreRowsOf}
use Rattle.cad_history.specs.Rows.{Rows, newest_alone, shown_at}

none_shown : (collection : Collection) → AreRowsOf [] (newest_alone collection [])
none_shown collection = record {
  last = omega arith;
  each = λ r within. let none : 0 ≡ r = omega (arith, within) in subst (λ r. shown_at r (newest_alone collection []) ≡ features_in (as_of r []) collection) none refl;
}

pub show_nothing : (collection : Collection) (rows : Rows) → rows ≡ newest_alone collection [] → AreRowsOf [] rows
show_nothing collection rows is = subst (AreRowsOf []) (sym is) (none_shown collection)
