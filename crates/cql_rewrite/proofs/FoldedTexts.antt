-- Texts with their case folded, by the sides of a condition, and where no text meets it.
use Rattle.std.proofs.Common.{◌≡◌, ◌≢◌, Bool, false, true, ℕ, List, Option, Some, None, refl}
use Rattle.std.specs.declared.cmp.Ordering.{Ordering}
use Rattle.std.specs.declared.cmp.Ordering.TheVariants as ordering
use Rattle.std.specs.Ordering.{is_eq}
use Rattle.std.proofs.lemmas.Map.Lookups.{exact_bytes}
use Rattle.caseless.specs.Caseless.{default_case_fold}
use Rattle.cad_feature.specs.Values.{Datum, null, a_text, a_whole, a_flag, a_day, a_span, a_spot, an_area}
use Rattle.cql_lexer.specs.declared.token.Comparison.TheVariants as comparison
use Rattle.cql_text.specs.Order.{text_cmp}
use Rattle.cql_text.specs.Patterns.{like_test}
use Rattle.cql_meaning.specs.Sides.{compared, is_like, texts}
use Rattle.cql_meaning.specs.Values.{folded_content, text_in}
use Rattle.cql_rewrite.specs.Meets.{is_folded_to, is_liked_folded}

pub folded_said : (text : Option (List ℕ)) (folded : List ℕ) → is_folded_to text folded ≡ (compared (texts comparison.Equal) (folded_content text) (Some folded)).yes
folded_said None folded = refl
folded_said (Some text) folded = refl

-- a value that is no text with this folding
pub none_folds_to : (d : Datum) (folded : List ℕ) → ((own : List ℕ) → d ≡ a_text own → default_case_fold own ≢ folded) → is_folded_to (text_in d) folded ≡ false
none_folds_to null folded none = refl
none_folds_to (a_whole n) folded none = refl
none_folds_to (a_flag b) folded none = refl
none_folds_to (a_day day) folded none = refl
none_folds_to (a_span days) folded none = refl
none_folds_to (a_spot p) folded none = refl
none_folds_to (an_area r) folded none = refl
none_folds_to (a_text own) folded none = go (text_cmp (default_case_fold own) folded) refl
  where
    go : (o : Ordering) → text_cmp (default_case_fold own) folded ≡ o → is_eq o ≡ false
    go ordering.Less e = refl
    go ordering.Greater e = refl
    go ordering.Equal e = absurd (none own refl (exact_bytes (default_case_fold own) folded e))

pub liked_said : (text : Option (List ℕ)) (pattern : List ℕ) → is_liked_folded text pattern ≡ (compared is_like (folded_content text) (Some pattern)).yes
liked_said None pattern = refl
liked_said (Some text) pattern = refl

not_true : (b : Bool) → b ≢ true → b ≡ false
not_true true h = absurd (h refl)
not_true false h = refl

-- a value that is no text like the pattern
pub none_is_liked : (d : Datum) (pattern : List ℕ) → ((own : List ℕ) → d ≡ a_text own → like_test pattern (default_case_fold own) ≢ true) → is_liked_folded (text_in d) pattern ≡ false
none_is_liked null pattern none = refl
none_is_liked (a_whole n) pattern none = refl
none_is_liked (a_flag b) pattern none = refl
none_is_liked (a_day day) pattern none = refl
none_is_liked (a_span days) pattern none = refl
none_is_liked (a_spot p) pattern none = refl
none_is_liked (an_area r) pattern none = refl
none_is_liked (a_text own) pattern none = not_true _ (none own refl)
