-- What holds of patterns, case folding and the order of texts, beyond what each call says.
use Rattle.std.specs.Prelude.{◌≡◌, ◌↔◌, ◌≢◌, IsTrue, ℕ, List, [], ◌∷◌, All}
use Rattle.std.specs.declared.cmp.Ordering.TheVariants.{Equal}
use Rattle.std.specs.Cmp.{IsTotalOrder}
use Rattle.caseless.specs.Caseless.{default_case_fold}
use Rattle.cql_text.specs.Likeness.{IsLike}
use Rattle.cql_text.specs.Order.{text_cmp}
use Rattle.cql_text.specs.Patterns.{like_test}

-- a character that matches only itself in a pattern
abbrev pub IsPlain : ℕ → Type 0
IsPlain c = (c ≢ 37) × (c ≢ 95) × (c ≢ 92)

-- a pattern without %, _ and \ matches only the same text
abbrev pub PlainPatternsAreEqual : Type 0
PlainPatternsAreEqual = (pattern text : List ℕ) → All IsPlain pattern → IsLike pattern text ↔ (text ≡ pattern)

-- the test of likeness is true exactly if the relation holds
abbrev pub LikeTestTells : Type 0
LikeTestTells = (pattern text : List ℕ) → IsTrue (like_test pattern text) ↔ IsLike pattern text

-- every text is like the pattern %
abbrev pub AnyNumberTakesAll : Type 0
AnyNumberTakesAll = (text : List ℕ) → IsLike (37 ∷ []) text

-- folding a folded text leaves it as it is
abbrev pub FoldedTextsStay : Type 0
FoldedTextsStay = (text : List ℕ) → default_case_fold (default_case_fold text) ≡ default_case_fold text

-- the order of two texts is Equal exactly if they are the same text
abbrev pub OneTextIsEqual : Type 0
OneTextIsEqual = (left right : List ℕ) → (text_cmp left right ≡ Equal) ↔ (left ≡ right)

-- the order of texts is total
abbrev pub OrderIsTotal : Type 0
OrderIsTotal = IsTotalOrder text_cmp
