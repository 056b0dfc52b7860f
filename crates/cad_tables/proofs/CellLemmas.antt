-- The cells of a line are of the columns' types.
use Rattle.std.proofs.Common.{◌≡◌, ℕ, ℤ, pos, Bool, true, false, cond, List, Option, Some, None, ◌∷◌, refl, ap₂}
use Rattle.sqlite_value.specs.declared.value.Value.{Value}
use Rattle.sqlite_value.specs.declared.value.Value.TheVariants.{Null, Int, Text, Blob}
use Rattle.sqlite_schema.specs.declared.schema.Kind.TheVariants.{Integer, Text as Words, Blob as Bytes}
use Rattle.sqlite_sql.specs.Ops.{unary}
use Rattle.sqlite_rules.specs.Cast.{cast, cast_all}
use Rattle.sqlite_typed.specs.Columns.{or_null}
use Rattle.cad_tables.specs.VersionRow.{VersionRow, cells_of}
use Rattle.cad_tables.specs.Tables.{version_table}

either : (b : Bool) (x : Value) → cond b x x ≡ x
either true x = refl
either false x = refl

pub cast_null : cast Integer Null ≡ Null
unfolding unary
cast_null = either _ Null

pub cast_int : (n : ℤ) → cast Integer (Int n) ≡ Int n
unfolding unary
cast_int n = either _ (Int n)

cast_day : (o : Option ℤ) → cast Integer (or_null Int o) ≡ or_null Int o
cast_day None = cast_null
cast_day (Some n) = cast_int n

cast_count : (o : Option ℕ) → cast Integer (or_null (λ n. Int (pos n)) o) ≡ or_null (λ n. Int (pos n)) o
cast_count None = cast_null
cast_count (Some n) = cast_int (pos n)

cast_words : (o : Option (List ℕ)) → cast Words (or_null Text o) ≡ or_null Text o
cast_words None = refl
cast_words (Some t) = refl

cast_bytes : (o : Option (List ℕ)) → cast Bytes (or_null Blob o) ≡ or_null Blob o
cast_bytes None = refl
cast_bytes (Some t) = refl

pub typed : (l : VersionRow) → cast_all version_table.columns (cells_of l) ≡ cells_of l
typed l =
    ap₂ ◌∷◌ (cast_int (pos l.object)) (ap₂ ◌∷◌ (cast_int (pos l.number)) (ap₂ ◌∷◌ (cast_int (pos l.class)) (ap₂ ◌∷◌ (cast_int l.first) (ap₂ ◌∷◌ (cast_day l.last)
    (ap₂ ◌∷◌ (cast_int (pos l.entered)) (ap₂ ◌∷◌ (cast_count l.closed) (ap₂ ◌∷◌ (cast_words l.name) (ap₂ ◌∷◌ (cast_words l.code) (ap₂ ◌∷◌ (cast_words l.label)
    (ap₂ ◌∷◌ (cast_count l.area) (ap₂ ◌∷◌ (cast_count l.unit) (ap₂ ◌∷◌ (cast_count l.party) (ap₂ ◌∷◌ (cast_count l.share_num) (ap₂ ◌∷◌ (cast_count l.share_den)
    (ap₂ ◌∷◌ (cast_count l.required) (ap₂ ◌∷◌ (cast_day l.spot_x) (ap₂ ◌∷◌ (cast_day l.spot_y) (ap₂ ◌∷◌ (cast_bytes l.shape) refl))))))))))))))))))
