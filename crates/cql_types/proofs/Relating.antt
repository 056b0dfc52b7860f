-- Shapes that may stand beside one another.
use Rattle.std.proofs.Common.{if◌then◌else◌, ◌≡◌, refl, sym, ◌∙◌, Bool, true, false}
use Rattle.cql_lexer.specs.declared.token.SpatialRelation.{SpatialRelation}
use Rattle.cql_lexer.specs.declared.token.SpatialRelation.TheVariants as spatial
use Rattle.cql_types.specs.Kinds.{Kind, whole, text, pattern, day, flag, truth, span, spot, area, frame, condition, open_end, line, is_spot, is_frame, is_shape, is_related}

no_spot : (k : Kind) → is_shape k ≡ false → is_spot k ≡ false
no_spot whole h = refl
no_spot text h = refl
no_spot pattern h = refl
no_spot day h = refl
no_spot flag h = refl
no_spot truth h = refl
no_spot span h = refl
no_spot spot h = absurd cc
no_spot area h = absurd cc
no_spot frame h = absurd cc
no_spot condition h = refl
no_spot open_end h = refl
no_spot line h = refl

no_frame : (k : Kind) → is_shape k ≡ false → is_frame k ≡ false
no_frame whole h = refl
no_frame text h = refl
no_frame pattern h = refl
no_frame day h = refl
no_frame flag h = refl
no_frame truth h = refl
no_frame span h = refl
no_frame spot h = absurd cc
no_frame area h = absurd cc
no_frame frame h = absurd cc
no_frame condition h = refl
no_frame open_end h = refl
no_frame line h = refl

either : (test : Bool) (p q : Kind → Bool) (k : Kind) → p k ≡ false → q k ≡ false → (if test then p else q) k ≡ false
either true p q k e f = e
either false p q k e f = f

-- what is no shape stands beside none
unrelated : (r : SpatialRelation) (k l : Kind) → is_shape l ≡ false → is_related r k l ≡ false
unrelated spatial.Intersects k l h = h
unrelated spatial.Disjoint k l h = h
unrelated spatial.Within k l h = either (is_spot k) is_shape is_frame l h (no_frame l h)
unrelated spatial.Contains k l h = either (is_frame k) is_shape is_spot l h (no_spot l h)

pub no_shape_beside : (r : SpatialRelation) (k l : Kind) → is_related r k l ≡ true → is_shape l ≡ false → ⊥
no_shape_beside r k l e h = let clash = sym e ∙ unrelated r k l h in cc
