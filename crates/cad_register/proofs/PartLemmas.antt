-- A row has its parts and no others.
use Rattle.std.proofs.Common.{◌≡◌, ℕ, ℤ, pos, Bool, true, false, List, Option, Some, None, refl, sym, ap, subst, ◌∙◌, option_map, arith}
use Rattle.sqlite_value.specs.declared.value.Value.{Value}
use Rattle.sqlite_value.specs.declared.value.Value.TheVariants.{Null, Int, Text, Blob}
use Rattle.sqlite_value.specs.Order.{Row}
use Rattle.sqlite_typed.specs.Columns.{or_null}
use Rattle.cad_day.specs.declared.day.Day.{Day}
use Rattle.cad_day.specs.Days.{number_of}
use Rattle.cad_shape.specs.declared.point.Point.{Point}
use Rattle.cad_shape.specs.declared.polygon.Region.{Region}
use Rattle.cad_versions.specs.declared.object_id.ObjectId.{ObjectId}
use Rattle.cad_versions.specs.declared.words.Words.{Words}
use Rattle.cad_versions.specs.declared.share.Share.{Share}
use Rattle.cad_versions.specs.Objects.{object_number}
use Rattle.cad_versions.specs.Texts.{bytes_of}
use Rattle.cad_versions.specs.Fractions.{num_of, den_of}
use Rattle.cad_versions.specs.ShapeBytes.{IsShapeOf}
use Rattle.cad_shape.specs.lemmas.SameLemmas.{same_point}
use Rattle.cad_versions.specs.lemmas.SameLemmas.{same_object, same_share, same_words, one_shape}
use Rattle.cad_day.specs.lemmas.SameLemmas.{same_day}
use Rattle.cad_versions.specs.declared.body_parts.BodyParts.{BodyParts}
use Rattle.cad_register.specs.Rows.{flag_number, x_of, y_of}
use Rattle.cad_register.specs.Parts.{HasParts, HasShape}

-- one cell is one value, or none
or_null_same : {X T : Type 0} (cell : T → Value) (f : X → T) → ((x y : X) → cell (f x) ≡ cell (f y) → x ≡ y) → ((t : T) → ¬ (cell t ≡ Null)) → (a b : Option X) → or_null cell (option_map f a) ≡ or_null cell (option_map f b) → a ≡ b
or_null_same cell f same some None None e = refl
or_null_same cell f same some None (Some y) e = absurd (some (f y) (sym e))
or_null_same cell f same some (Some x) None e = absurd (some (f x) e)
or_null_same cell f same some (Some x) (Some y) e = ap Some (same x y e)

text_some : (t : List ℕ) → ¬ (Text t ≡ Null)
text_some t e = cc

blob_some : (t : List ℕ) → ¬ (Blob t ≡ Null)
blob_some t e = cc

count_some : (n : ℕ) → ¬ (Int (pos n) ≡ Null)
count_some n e = cc

number_some : (n : ℤ) → ¬ (Int n ≡ Null)
number_some n e = cc

words_cell : (v w : Words) → Text (bytes_of v) ≡ Text (bytes_of w) → v ≡ w
words_cell v w e = same_words v w cc

pub blob_same : (m n : List ℕ) → Blob m ≡ Blob n → m ≡ n
blob_same m n e = cc

pub count_cell : (m n : ℕ) → Int (pos m) ≡ Int (pos n) → m ≡ n
count_cell m n e = cc

number_cell : (m n : ℤ) → Int m ≡ Int n → m ≡ n
number_cell m n e = cc

pub object_cell : (a b : ObjectId) → Int (pos (object_number a)) ≡ Int (pos (object_number b)) → a ≡ b
object_cell a b e = same_object a b (count_cell _ _ e)

pub day_cell : (a b : Day) → Int (number_of a) ≡ Int (number_of b) → a ≡ b
day_cell a b e = same_day a b cc

flag_cell : (a b : Bool) → Int (pos (flag_number a)) ≡ Int (pos (flag_number b)) → a ≡ b
flag_cell true true e = refl
flag_cell false false e = refl
flag_cell true false e = absurd (omega (arith, count_cell 1 0 e))
flag_cell false true e = absurd (omega (arith, count_cell 0 1 e))

pub words_same : (a b : Option Words) (v : Value) → v ≡ or_null Text (option_map bytes_of a) → v ≡ or_null Text (option_map bytes_of b) → a ≡ b
words_same a b v e f = or_null_same Text bytes_of words_cell text_some a b (sym e ∙ f)

pub objects_same : (a b : Option ObjectId) (v : Value) → v ≡ or_null (λ n. Int (pos n)) (option_map object_number a) → v ≡ or_null (λ n. Int (pos n)) (option_map object_number b) → a ≡ b
objects_same a b v e f = or_null_same (λ n. Int (pos n)) object_number object_cell count_some a b (sym e ∙ f)

pub days_same : (a b : Option Day) (v : Value) → v ≡ or_null Int (option_map number_of a) → v ≡ or_null Int (option_map number_of b) → a ≡ b
days_same a b v e f = or_null_same Int number_of day_cell number_some a b (sym e ∙ f)

pub counts_same : (a b : Option ℕ) (v : Value) → v ≡ or_null (λ n. Int (pos n)) a → v ≡ or_null (λ n. Int (pos n)) b → a ≡ b
counts_same None None v e f = refl
counts_same None (Some y) v e f = absurd (count_some y (sym f ∙ e))
counts_same (Some x) None v e f = absurd (count_some x (sym e ∙ f))
counts_same (Some x) (Some y) v e f = ap Some (count_cell x y (sym e ∙ f))

shares_same : (a b : Option Share) → or_null (λ n. Int (pos n)) (option_map num_of a) ≡ or_null (λ n. Int (pos n)) (option_map num_of b) → or_null (λ n. Int (pos n)) (option_map den_of a) ≡ or_null (λ n. Int (pos n)) (option_map den_of b) → a ≡ b
shares_same None None e f = refl
shares_same None (Some y) e f = absurd (count_some (num_of y) (sym e))
shares_same (Some x) None e f = absurd (count_some (num_of x) e)
shares_same (Some x) (Some y) e f = ap Some (same_share x y (count_cell _ _ e) (count_cell _ _ f))

spots_same : (a b : Option Point) → or_null Int (option_map x_of a) ≡ or_null Int (option_map x_of b) → or_null Int (option_map y_of a) ≡ or_null Int (option_map y_of b) → a ≡ b
spots_same None None e f = refl
spots_same None (Some q) e f = absurd (number_some (x_of q) (sym e))
spots_same (Some p) None e f = absurd (number_some (x_of p) e)
spots_same (Some p) (Some q) e f = ap Some (same_point p q (number_cell _ _ e) (number_cell _ _ f))

-- the bytes of a shape are of one shape, in whatever form
shapes_same : (v : Value) (a b : Option Region) → HasShape v a → HasShape v b → a ≡ b
shapes_same v None None h k = refl
shapes_same v None (Some region) h k = absurd (blob_some k.0 (sym k.1 ∙ h))
shapes_same v (Some region) None h k = absurd (blob_some h.0 (sym h.1 ∙ k))
shapes_same v (Some one) (Some other) h k = ap Some (one_shape k.0 one other (subst (λ bytes. IsShapeOf bytes one) (blob_same h.0 k.0 (sym h.1 ∙ k.1)) h.2) k.2)

pub parts_same : (row : Row) (f g : BodyParts) → HasParts row f → HasParts row g → f ≡ g
parts_same row f g h k =
    let name = words_same f.name g.name _ h.name k.name in
    let code = words_same f.code g.code _ h.code k.code in
    let label = words_same f.label g.label _ h.label k.label in
    let area = counts_same f.area g.area _ h.area.0 k.area.0 in
    let unit = objects_same f.unit g.unit _ h.unit k.unit in
    let party = objects_same f.party g.party _ h.party k.party in
    let share = shares_same f.share g.share (sym h.share.0 ∙ k.share.0) (sym h.share.1 ∙ k.share.1) in
    let required = or_null_same (λ n. Int (pos n)) flag_number flag_cell count_some f.required g.required (sym h.required ∙ k.required) in
    let spot = spots_same f.spot g.spot (sym h.spot.0 ∙ k.spot.0) (sym h.spot.1 ∙ k.spot.1) in
    let shape = shapes_same _ f.shape g.shape h.shape k.shape in
    λ i. record { name = name i; code = code i; label = label i; area = area i; unit = unit i; party = party i; share = share i; required = required i; spot = spot i; shape = shape i }
