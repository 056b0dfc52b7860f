-- Refusals of a part refuse the whole.
use Rattle.std.proofs.Common.{◌≡◌, ℕ, List, Err, Option, Some, None, option_map, sym, subst, ◌∙◌}
use Rattle.sqlite_value.specs.declared.value.Value.{Value}
use Rattle.sqlite_value.specs.declared.value.Value.TheVariants.{Text, Blob}
use Rattle.sqlite_typed.specs.Columns.{or_null}
use Rattle.cad_shape.specs.declared.polygon.Region.{Region}
use Rattle.cad_versions.specs.declared.words.Words.{Words}
use Rattle.cad_versions.specs.Texts.{bytes_of}
use Rattle.cad_versions.specs.ShapeBytes.{IsShapeOf}
use Rattle.cad_register.specs.declared.columns.ReadFault.{ReadFault}
use Rattle.cad_register.specs.declared.columns.ReadFault.TheVariants.{Damaged, Memory}
use Rattle.cad_register.specs.Parts.{HasShape}
use Rattle.cad_register.specs.inner.Reading.{Reads}
use Rattle.cad_register.proofs.PartLemmas.{blob_same}

-- where no part fits, no whole does
pub refused : {X Y : Type 0} {P : X → Type 0} {Q : Y → Type 0} (e : ReadFault) → (((x : X) → ¬ P x) → (y : Y) → ¬ Q y) → Reads {X = X} (Err e) P → Reads {X = Y} (Err e) Q
refused Damaged whole part = whole part
refused Memory whole part = tt

pub no_words : (bytes : List ℕ) (v : Value) → Text bytes ≡ v → ((words : Words) → ¬ (bytes ≡ bytes_of words)) → (o : Option Words) → ¬ (v ≡ or_null Text (option_map bytes_of o))
no_words bytes v is none None e = absurd cc
no_words bytes v is none (Some words) e = none words cc

pub no_shape : (bytes : List ℕ) (v : Value) → Blob bytes ≡ v → ((region : Region) → ¬ IsShapeOf bytes region) → (o : Option Region) → ¬ HasShape v o
no_shape bytes v is none None e = absurd cc
no_shape bytes v is none (Some region) e = none region (subst (λ t. IsShapeOf t region) (sym (blob_same bytes e.0 (is ∙ e.1))) e.2)
