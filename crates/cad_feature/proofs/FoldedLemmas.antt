-- Marks of texts with their case folded: which ones the values of a feature have, and which text cannot be there without them.
use Rattle.std.proofs.Common.{◌≡◌, ◌∙◌, ◌⊎◌, ℕ, zero, suc, ◌+◌, ◌<◌, ◌≤◌, min, false, List, [], ◌∷◌, length, map, get_or, slice_get, Some, option_map, reverse, ◌++◌, bit_or, inl, inr, refl, ap, sym, subst, arith}
use Rattle.std.specs.Prelude.{◌↔◌, Bool, IfSome, IsTrue, MatchOption, None, Option}
use Rattle.std.specs.Int.{bit_at}
use Rattle.std.proofs.lemmas.List.{length-map, reverse-append}
use Rattle.std.proofs.lemmas.Nat.Bits.{bit_at_and, bit_at_or, same_from_bits}
use Rattle.std.proofs.lemmas.Option.{same_Some, slice_get-map, slice_get_read, slice_get_within}
use Rattle.caseless.specs.Caseless.{default_case_fold}
use Rattle.cql_text.specs.Ends.{BeginsExactly, EndsExactly}
use Rattle.cql_text.specs.Patterns.{Piece, exactly, pieces}
use Rattle.cad_feature.specs.Marks.{AreMarked, AreMarksOf, HasBits, HasEndsOf, HasMarksOf, Includes, bit_of_first, bit_of_last}
use Rattle.cad_feature.specs.Values.{Datum, null, a_text, datum_of}
use Rattle.cad_feature.specs.declared.marks.TextMarks.{TextMarks}
use Rattle.cad_feature.specs.declared.value.Value.{Value}

-- ---- bits

bits_same : (bits : ℕ) → HasBits bits bits
bits_same bits = same_from_bits _ _ (λ i. bit_at_and bits bits i ∙ omega arith)

bits_added : (all bits : ℕ) → HasBits (bit_or all bits) bits
bits_added all bits = same_from_bits _ _ (λ i. bit_at_and (bit_or all bits) bits i ∙ ap (λ b. min b (bit_at bits i)) (bit_at_or all bits i) ∙ omega arith)

bits_kept : (all more bits : ℕ) → HasBits all bits → HasBits (bit_or all more) bits
bits_kept all more bits has = same_from_bits _ _ (λ i.
    let own : min (bit_at all i) (bit_at bits i) ≡ bit_at bits i = sym (bit_at_and all bits i) ∙ ap (λ n. bit_at n i) has in
    bit_at_and (bit_or all more) bits i ∙ ap (λ b. min b (bit_at bits i)) (bit_at_or all more i) ∙ omega arith)

-- what bits include, others include that include them
bits_through : (all more bits : ℕ) → HasBits all more → HasBits more bits → HasBits all bits
bits_through all more bits has among = same_from_bits _ _ (λ i.
    let one : min (bit_at all i) (bit_at more i) ≡ bit_at more i = sym (bit_at_and all more i) ∙ ap (λ n. bit_at n i) has in
    let two : min (bit_at more i) (bit_at bits i) ≡ bit_at bits i = sym (bit_at_and more bits i) ∙ ap (λ n. bit_at n i) among in
    bit_at_and all bits i ∙ omega arith)

-- two of which each is among all of them
pub both_bits : (all a b : ℕ) → HasBits all a → HasBits all b → HasBits all (bit_or a b)
both_bits all a b has also = same_from_bits _ _ (λ i.
    let one : min (bit_at all i) (bit_at a i) ≡ bit_at a i = sym (bit_at_and all a i) ∙ ap (λ n. bit_at n i) has in
    let two : min (bit_at all i) (bit_at b i) ≡ bit_at b i = sym (bit_at_and all b i) ∙ ap (λ n. bit_at n i) also in
    bit_at_and all (bit_or a b) i ∙ ap (λ n. min (bit_at all i) n) (bit_at_or a b i) ∙ omega (arith, bit_at_or a b i))

pub no_bits : (all : ℕ) → HasBits all 0
no_bits all = same_from_bits _ _ (λ i. bit_at_and all 0 i ∙ omega arith)

text_in : Datum → List ℕ
text_in (a_text t) = t
text_in _ = []

-- a value that is a text has its marks
pub text_of_value : (property : ℕ) (own : List ℕ) (marks : TextMarks) → HasMarksOf marks property (default_case_fold own) → (text : List ℕ) → a_text own ≡ a_text text → HasMarksOf marks property (default_case_fold text)
unfolding text_in
text_of_value property own marks has text same = subst (λ t. HasMarksOf marks property (default_case_fold t)) (ap text_in same) has

pub kept_first : (o : Option ℕ) (bit : ℕ → ℕ) (all more : ℕ) → IfSome o (λ c. HasBits all (bit c)) → IfSome o (λ c. HasBits (bit_or all more) (bit c))
kept_first None bit all more has = tt
kept_first (Some c) bit all more has = bits_kept all more (bit c) has

pub added_last : (o : Option ℕ) (bit : ℕ → ℕ) (all more : ℕ) → IfSome o (λ c. HasBits more (bit c)) → IfSome o (λ c. HasBits (bit_or all more) (bit c))
added_last None bit all more has = tt
added_last (Some c) bit all more has = bits_through (bit_or all more) more (bit c) (bits_added all more) has

-- ---- the characters with which a pattern begins and ends

same_first : (a b : ℕ) (p q : List Piece) → exactly a ∷ p ≡ exactly b ∷ q → a ≡ b
same_first a b p q e = cc

same_last : (a b : ℕ) (p q : List Piece) → p ++ exactly a ∷ [] ≡ q ++ exactly b ∷ [] → a ≡ b
same_last a b p q e = same_first a b (reverse p) (reverse q) (sym (reverse-append p (exactly a ∷ [])) ∙ ap reverse e ∙ reverse-append q (exactly b ∷ []))

first_marked : (first : Option ℕ) (bit : ℕ → ℕ) (all : ℕ) (parts : List Piece) → MatchOption first ((c : ℕ) → BeginsExactly c parts → ⊥) (λ c. BeginsExactly c parts)
    → IfSome first (λ c. HasBits all (bit c)) → (c : ℕ) → BeginsExactly c parts → HasBits all (bit c)
first_marked None bit all parts none has c begins = absurd (none c begins)
first_marked (Some d) bit all parts at has c begins = subst (λ n. HasBits all (bit n)) (same_first d c at.0 begins.0 (sym at.1 ∙ begins.1)) has

last_marked : (last : Option ℕ) (bit : ℕ → ℕ) (all : ℕ) (parts : List Piece) → MatchOption last ((c : ℕ) → EndsExactly c parts → ⊥) (λ c. EndsExactly c parts)
    → IfSome last (λ c. HasBits all (bit c)) → (c : ℕ) → EndsExactly c parts → HasBits all (bit c)
last_marked None bit all parts none has c ends = absurd (none c ends)
last_marked (Some d) bit all parts at has c ends = subst (λ n. HasBits all (bit n)) (same_last d c at.0 ends.0 (sym at.1 ∙ ends.1)) has

-- bits of the first and of the last character of a pattern, if it begins and ends with one
pub ends_marked : (marks : TextMarks) (property : ℕ) (pattern : List ℕ) (first last : Option ℕ)
    → MatchOption first ((c : ℕ) → BeginsExactly c (pieces pattern) → ⊥) (λ c. BeginsExactly c (pieces pattern))
    → MatchOption last ((c : ℕ) → EndsExactly c (pieces pattern) → ⊥) (λ c. EndsExactly c (pieces pattern))
    → IfSome first (λ c. HasBits marks.ends (bit_of_first property c)) → IfSome last (λ c. HasBits marks.ends (bit_of_last property c))
    → HasEndsOf marks property pattern
ends_marked marks property pattern first last begins ends has also = record {
  first = first_marked first (bit_of_first property) marks.ends (pieces pattern) begins has;
  last = last_marked last (bit_of_last property) marks.ends (pieces pattern) ends also;
}

-- ---- more marks

abbrev joined : TextMarks → TextMarks → TextMarks
joined all more = record { hashes = bit_or all.hashes more.hashes; ends = bit_or all.ends more.ends }

kept : (all more : TextMarks) (property : ℕ) (folded : List ℕ) → HasMarksOf all property folded → HasMarksOf (joined all more) property folded
kept all more property folded has = record {
  hash = bits_kept all.hashes more.hashes _ has.hash;
  first = λ c b. bits_kept all.ends more.ends _ (has.first c b);
  last = λ c e. bits_kept all.ends more.ends _ (has.last c e);
}

added : (all more : TextMarks) (property : ℕ) (folded : List ℕ) → HasMarksOf more property folded → HasMarksOf (joined all more) property folded
added all more property folded has = record {
  hash = bits_through (bit_or all.hashes more.hashes) more.hashes _ (bits_added all.hashes more.hashes) has.hash;
  first = λ c b. bits_through (bit_or all.ends more.ends) more.ends _ (bits_added all.ends more.ends) (has.first c b);
  last = λ c e. bits_through (bit_or all.ends more.ends) more.ends _ (bits_added all.ends more.ends) (has.last c e);
}

-- ---- the texts of the first properties

abbrev pub AreMarkedBelow : TextMarks → ℕ → List Datum → Type 0
AreMarkedBelow all count values = (property : ℕ) (text : List ℕ) → property < count → slice_get values property ≡ Some (a_text text) → HasMarksOf all property (default_case_fold text)

split : (n count : ℕ) → n < count + 1 → (n ≡ count) ⊎ (n < count)
split n count h = grind arith

pub marked_more : (values : List Value) (count : ℕ) (all more : TextMarks) (value : Value) → count < length values → value ≡ get_or values count value → AreMarkedBelow all count (map datum_of values)
    → ((text : List ℕ) → datum_of value ≡ a_text text → HasMarksOf more count (default_case_fold text)) → AreMarkedBelow (joined all more) (count + 1) (map datum_of values)
marked_more values count all more value within is before here property text below at = go (split property count below)
  where
    value_at : slice_get (map datum_of values) count ≡ Some (datum_of value)
    value_at = slice_get-map datum_of values count ∙ ap (option_map datum_of) (slice_get_read values (length values) count value refl within is)

    go : (property ≡ count) ⊎ (property < count) → HasMarksOf (joined all more) property (default_case_fold text)
    go (inl e) =
        subst (λ n. HasMarksOf (joined all more) n (default_case_fold text)) (sym e)
        (added all more count (default_case_fold text) (here text (same_Some _ _ (sym value_at ∙ subst (λ n. slice_get (map datum_of values) n ≡ Some (a_text text)) e at))))
    go (inr l) = kept all more property (default_case_fold text) (before property text l at)

pub all_marked : (values : List Value) (count : ℕ) (all : TextMarks) → length values ≤ count → AreMarkedBelow all count (map datum_of values) → AreMarked all (map datum_of values)
all_marked values count all past below property text at = below property text (omega (arith, slice_get_within (map datum_of values) property _ at, length-map values datum_of)) at

-- ---- texts that are not there

text_at : (values : List Datum) (property : ℕ) (own : List ℕ) → get_or values property null ≡ a_text own → slice_get values property ≡ Some (a_text own)
text_at [] property own is = cc
text_at (d ∷ values) zero own is = ap Some is
text_at (d ∷ values) (suc property) own is = text_at values property own is

pub not_told : {A : Type 0} (told : Bool) → told ≡ false → IsTrue told ↔ A → A → ⊥
not_told told e is a = let so = is.1 a in cc

-- where marks are not among all, no value is a text that has them with its case folded
pub none_has : (values : List Datum) (all marks : TextMarks) (property : ℕ) (IsSuch : List ℕ → Type 0) → AreMarked all values → AreMarksOf marks property IsSuch → (Includes all marks → ⊥)
    → (own : List ℕ) → get_or values property null ≡ a_text own → IsSuch (default_case_fold own) → ⊥
none_has values all marks property IsSuch marked are none own at such = none (are all (default_case_fold own) such (marked property own (text_at values property own at)))
