-- The features of a collection hold characters alone.
use Rattle.std.proofs.Common.{◌≡◌, ◌∙◌, sym, ap, ℕ, zero, suc, List, [], ◌∷◌, true, Some, get_or}
use Rattle.std.specs.Str.{all_scalars}
use Rattle.cad_feature.specs.Features.{Item, IsFeatureOf, FitSchema, datum_at}
use Rattle.cad_schema.specs.Attributes.{Named}
use Rattle.cad_schema.specs.Schema.{schema_of}
use Rattle.cad_feature.specs.Values.{Datum, IsOfKind, null, a_text, a_whole, a_flag, a_day, a_span, a_spot, an_area}
use Rattle.cad_schema.specs.declared.collection.Collection.{Collection}
use Rattle.cad_schema.specs.declared.property.PropertyKind.{PropertyKind}
use Rattle.cql_meaning.specs.Values.{text_in}

same_text : (s t : List ℕ) → Some s ≡ Some t → s ≡ t
same_text s t h = cc

of_kind : (k : PropertyKind) (d : Datum) (t : List ℕ) → IsOfKind k d → text_in d ≡ Some t → all_scalars t ≡ true
of_kind k null t h e = absurd cc
of_kind k (a_text s) t h e = ap all_scalars (sym (same_text s t e)) ∙ h.1
of_kind k (a_whole n) t h e = absurd cc
of_kind k (a_flag b) t h e = absurd cc
of_kind k (a_day day) t h e = absurd cc
of_kind k (a_span days) t h e = absurd cc
of_kind k (a_spot p) t h e = absurd cc
of_kind k (an_area region) t h e = absurd cc

all_of_kind : (ps : List Named) (ds : List Datum) → FitSchema ps ds → (i : ℕ) (t : List ℕ) → text_in (get_or ds i null) ≡ Some t → all_scalars t ≡ true
all_of_kind ps [] h i t e = absurd cc
all_of_kind [] (d ∷ ds) h i t e = absurd h
all_of_kind (p ∷ ps) (d ∷ ds) h zero t e = of_kind p.1 d t h.0 e
all_of_kind (p ∷ ps) (d ∷ ds) h (suc i) t e = all_of_kind ps ds h.1 i t e

pub written : (collection : Collection) (x : Item) → IsFeatureOf collection x → (i : ℕ) (t : List ℕ) → text_in (datum_at x i) ≡ Some t → all_scalars t ≡ true
written collection x h i t e = all_of_kind (schema_of collection) x.values h.fits i t e
