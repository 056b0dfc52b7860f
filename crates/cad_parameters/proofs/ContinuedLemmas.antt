-- What the continued pairs of a page ask for.
use Rattle.std.proofs.Common.{◌≡◌, ℕ, ◌^◌, ◌<◌, Bool, true, false, cond, not, ◌||◌, List, [], ◌∷◌, ◌++◌, length, Option, Some, None, refl, sym, ap, ap₂, ◌∙◌, arith}
use Rattle.std.specs.Prelude.{filter, decimal, codes, option_map, is_some, nat_le}
use Rattle.std.specs.Option.{option_and_then, option_or}
use Rattle.std.specs.List.{list_any, find}
use Rattle.std.specs.Str.{bytes_eq}
use Rattle.std.proofs.lemmas.Bool.Decides.{nat_tests}
use Rattle.std.proofs.lemmas.Bool.{or_from, or_parts}
use Rattle.std.proofs.lemmas.List.Folds.{find-append, list_any-append}
use Rattle.std.proofs.lemmas.Slice.Eq.{bytes_eq-Decides}
use Rattle.std.proofs.lemmas.Fmt.{length-decimal-le}
use Rattle.cad_parameters.specs.declared.fault.ParameterFault.{ParameterFault}
use Rattle.cad_parameters.specs.declared.fault.ParameterFault.TheVariants.{Unknown, Repeated, Limit, Datetime, Bbox, FilterLang, Revision, After}
use Rattle.cad_parameters.specs.Pairs.{PairText, given}
use Rattle.cad_parameters.specs.Numerals.{limit_of, revision_of}
use Rattle.cad_parameters.specs.Boxes.{box_of}
use Rattle.cad_parameters.specs.Identifiers.{Numbers, Identifies, identifier_text, identifier_named}
use Rattle.cad_parameters.specs.Parameters.{is_unknown, has_twice, is_language, is_wrong, have, days_of}
use Rattle.cad_parameters.specs.Links.{is_beginning, continued}
use Rattle.cad_parameters.specs.Laws.{ContinuedGoesOn}
use Rattle.cad_parameters.proofs.FirstLemmas.{no_first_fault_means_no_fault}
use Rattle.cad_parameters.proofs.IdentifierLemmas.{number_in_decimal, reading_is_identifying}

abbrev is_kept : PairText → Bool
is_kept pair = not (is_beginning pair)

abbrev has_name : List ℕ → PairText → Bool
has_name name pair = bytes_eq pair.0 name

-- where a page begins
abbrev beginning : ℕ → Numbers → List PairText
beginning revision last = (codes "revision", decimal revision) ∷ (codes "after", identifier_text last) ∷ []

-- a pair of that name stays or goes as the name says
by_its_name : (name : List ℕ) (pair : PairText) → bytes_eq pair.0 name ≡ true → is_beginning pair ≡ is_beginning (name, [])
by_its_name name pair e =
    ap (λ (n : List ℕ). bytes_eq n (codes "revision") || bytes_eq n (codes "after")) ((bytes_eq-Decides pair.0 name).0 e)

find_kept : (name : List ℕ) → is_beginning (name, []) ≡ false → (pairs : List PairText)
    → find (has_name name) (filter is_kept pairs) ≡ find (has_name name) pairs
find_kept name stays [] = refl
find_kept name stays (pair ∷ pairs) = go (bytes_eq pair.0 name) refl (is_beginning pair) refl (find_kept name stays pairs)
  where
    go : (t : Bool) → bytes_eq pair.0 name ≡ t → (k : Bool) → is_beginning pair ≡ k
        → find (has_name name) (filter is_kept pairs) ≡ find (has_name name) pairs
        → find (has_name name) (cond (not k) (pair ∷ filter is_kept pairs) (filter is_kept pairs)) ≡ cond t (Some pair) (find (has_name name) pairs)
    go true e true goes ih = absurd (let no_more : true ≡ false = sym goes ∙ by_its_name name pair e ∙ stays in cc)
    go true e false kept ih = ap (λ t. cond t (Some pair) (find (has_name name) (filter is_kept pairs))) e
    go false e true goes ih = ih
    go false e false kept ih = ap (λ t. cond t (Some pair) (find (has_name name) (filter is_kept pairs))) e ∙ ih

find_gone : (name : List ℕ) → is_beginning (name, []) ≡ true → (pairs : List PairText) → find (has_name name) (filter is_kept pairs) ≡ None
find_gone name goes [] = refl
find_gone name goes (pair ∷ pairs) = go (bytes_eq pair.0 name) refl (is_beginning pair) refl (find_gone name goes pairs)
  where
    go : (t : Bool) → bytes_eq pair.0 name ≡ t → (k : Bool) → is_beginning pair ≡ k
        → find (has_name name) (filter is_kept pairs) ≡ None
        → find (has_name name) (cond (not k) (pair ∷ filter is_kept pairs) (filter is_kept pairs)) ≡ None
    go t e true gone ih = ih
    go true e false kept ih = absurd (let no_more : true ≡ false = sym goes ∙ sym (by_its_name name pair e) ∙ kept in cc)
    go false e false kept ih = ap (λ t. cond t (Some pair) (find (has_name name) (filter is_kept pairs))) e ∙ ih

-- a name that is not `text` is not found under it
turned : (text name : List ℕ) → bytes_eq name text ≡ false → bytes_eq text name ≡ false
turned text name other = go (bytes_eq text name) refl
  where
    go : (t : Bool) → bytes_eq text name ≡ t → t ≡ false
    go false e = refl
    go true e = absurd (let no_more : true ≡ false = sym ((bytes_eq-Decides name text).1 (sym ((bytes_eq-Decides text name).0 e))) ∙ other in cc)

not_beginning : (name : List ℕ) (revision : ℕ) (last : Numbers) → is_beginning (name, []) ≡ false → find (has_name name) (beginning revision last) ≡ None
not_beginning name revision last stays =
    let both = or_parts (bytes_eq name (codes "revision")) (bytes_eq name (codes "after")) stays in
    rw (turned (codes "revision") name both.0, turned (codes "after") name both.1) refl

or_none : (o : Option PairText) → option_or o None ≡ o
or_none None = refl
or_none (Some pair) = refl

-- what is given under a name that stays is the same
given_kept : (name : List ℕ) (pairs : List PairText) (revision : ℕ) (last : Numbers) → is_beginning (name, []) ≡ false
    → given name (continued revision last pairs) ≡ given name pairs
given_kept name pairs revision last stays =
    ap (option_map (λ (pair : PairText). pair.1))
    (find-append (has_name name) (filter is_kept pairs) (beginning revision last)
    ∙ ap₂ option_or (find_kept name stays pairs) (not_beginning name revision last stays) ∙ or_none (find (has_name name) pairs))

given_revision : (pairs : List PairText) (revision : ℕ) (last : Numbers) → given (codes "revision") (continued revision last pairs) ≡ Some (decimal revision)
given_revision pairs revision last =
    ap (option_map (λ (pair : PairText). pair.1))
    (find-append (has_name (codes "revision")) (filter is_kept pairs) (beginning revision last)
    ∙ ap (λ o. option_or o (find (has_name (codes "revision")) (beginning revision last))) (find_gone (codes "revision") refl pairs))

given_after : (pairs : List PairText) (revision : ℕ) (last : Numbers) → given (codes "after") (continued revision last pairs) ≡ Some (identifier_text last)
given_after pairs revision last =
    ap (option_map (λ (pair : PairText). pair.1))
    (find-append (has_name (codes "after")) (filter is_kept pairs) (beginning revision last)
    ∙ ap (λ o. option_or o (find (has_name (codes "after")) (beginning revision last))) (find_gone (codes "after") refl pairs))

-- ---- faults

known_kept : (pairs : List PairText) → list_any is_unknown pairs ≡ false → list_any is_unknown (filter is_kept pairs) ≡ false
known_kept [] known = refl
known_kept (pair ∷ pairs) known =
    let both = or_parts (is_unknown pair) (list_any is_unknown pairs) known in
    go (is_beginning pair) both.0 (known_kept pairs both.1)
  where
    go : (k : Bool) → is_unknown pair ≡ false → list_any is_unknown (filter is_kept pairs) ≡ false
        → list_any is_unknown (cond (not k) (pair ∷ filter is_kept pairs) (filter is_kept pairs)) ≡ false
    go true first others = others
    go false first others = or_from _ _ first others

none_unknown : (pairs : List PairText) (revision : ℕ) (last : Numbers) → list_any is_unknown pairs ≡ false
    → list_any is_unknown (continued revision last pairs) ≡ false
none_unknown pairs revision last known =
    list_any-append is_unknown (filter is_kept pairs) (beginning revision last) ∙ or_from _ _ (known_kept pairs known) refl

none_twice : (pairs : List PairText) (revision : ℕ) (last : Numbers) → has_twice pairs ≡ false → has_twice (continued revision last pairs) ≡ false
none_twice [] revision last once = refl
none_twice (pair ∷ pairs) revision last once =
    let both = or_parts (is_some (given pair.0 pairs)) (has_twice pairs) once in
    go (is_beginning pair) refl both.0 (none_twice pairs revision last both.1)
  where
    go : (k : Bool) → is_beginning pair ≡ k → is_some (given pair.0 pairs) ≡ false → has_twice (continued revision last pairs) ≡ false
        → has_twice (cond (not k) (pair ∷ filter is_kept pairs) (filter is_kept pairs) ++ beginning revision last) ≡ false
    go true goes first others = others
    go false stays first others = or_from _ _ (ap is_some (given_kept pair.0 pairs revision last stays) ∙ first) others

revision_of_decimal : (revision : ℕ) → revision < 10 ^ 18 → revision_of (decimal revision) ≡ Some revision
revision_of_decimal revision small =
    let short = length-decimal-le 18 revision (omega arith) small (omega arith) in
    let told : nat_le (length (decimal revision)) 18 ≡ true = grind (arith, nat_tests) in
    rw (told, number_in_decimal revision (omega arith)) refl

read_after : (last : Numbers) → Identifies (identifier_text last) last → identifier_named (identifier_text last) ≡ Some last
read_after last is = (reading_is_identifying (identifier_text last) last).1 is

still_none : (pairs : List PairText) (revision : ℕ) (last : Numbers) → revision < 10 ^ 18
    → Identifies (identifier_text last) last → ((fault : ParameterFault) → have fault pairs ≡ false)
    → (fault : ParameterFault) → have fault (continued revision last pairs) ≡ false
still_none pairs revision last small is none Unknown = none_unknown pairs revision last (none Unknown)
still_none pairs revision last small is none Repeated = none_twice pairs revision last (none Repeated)
still_none pairs revision last small is none Limit =
    ap (is_wrong (λ text. is_some (limit_of text))) (given_kept (codes "limit") pairs revision last refl) ∙ none Limit
still_none pairs revision last small is none Datetime =
    ap (is_wrong (λ text. is_some (days_of text))) (given_kept (codes "datetime") pairs revision last refl) ∙ none Datetime
still_none pairs revision last small is none Bbox =
    ap (is_wrong (λ text. is_some (box_of text))) (given_kept (codes "bbox") pairs revision last refl) ∙ none Bbox
still_none pairs revision last small is none FilterLang =
    ap (is_wrong is_language) (given_kept (codes "filter-lang") pairs revision last refl) ∙ none FilterLang
still_none pairs revision last small is none Revision =
    ap (is_wrong (λ text. is_some (revision_of text))) (given_revision pairs revision last) ∙ ap (λ (o : Option ℕ). not (is_some o)) (revision_of_decimal revision small)
still_none pairs revision last small is none After =
    ap (is_wrong (λ text. is_some (identifier_named text))) (given_after pairs revision last) ∙ ap (λ (o : Option Numbers). not (is_some o)) (read_after last is)

pub continued_goes_on : ContinuedGoesOn
continued_goes_on pairs revision last small is none =
    let again = continued revision last pairs in
    record {
      no_fault = (no_first_fault_means_no_fault again).1 (still_none pairs revision last small is ((no_first_fault_means_no_fault pairs).0 none));
      same_limit = ap (option_and_then limit_of) (given_kept (codes "limit") pairs revision last refl);
      same_datetime = ap (option_and_then days_of) (given_kept (codes "datetime") pairs revision last refl);
      same_bbox = ap (option_and_then box_of) (given_kept (codes "bbox") pairs revision last refl);
      same_filter = given_kept (codes "filter") pairs revision last refl;
      revision_is = ap (option_and_then revision_of) (given_revision pairs revision last) ∙ revision_of_decimal revision small;
      after_is = ap (option_and_then identifier_named) (given_after pairs revision last) ∙ read_after last is;
    }
