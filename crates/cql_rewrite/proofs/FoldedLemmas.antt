-- Terms that have the same values.
use Rattle.std.proofs.Common.{◌≡◌, ◌∙◌, ◌+◌, ◌<◌, ◌++◌, ap, sym, refl, ℕ, Bool, List, [], ◌∷◌, map, take, length, get_or, Option}
use Rattle.std.proofs.lemmas.List.{map_push, take_more}
use Rattle.cad_feature.specs.Features.{Item}
use Rattle.cql_lexer.specs.declared.token.Comparison.TheVariants as comparison
use Rattle.cql_types.specs.declared.filter.TextTerm.{TextTerm}
use Rattle.cql_meaning.specs.Sides.{among, compared, disjunction, equal_to, texts}
use Rattle.cql_meaning.specs.Values.{text_value}

through : {A T : Type 0} (equal : A → A → Bool) (value : T → Option A) (a : Option A) (items : List T) → map (equal_to equal value a) items ≡ map (compared equal a) (map value items)
through equal value a [] = refl
through equal value a (item ∷ items) = ap (λ rest. compared equal a (value item) ∷ rest) (through equal value a items)

pub among_alike : (x : Item) (v w : Option (List ℕ)) (items others : List TextTerm) → v ≡ w → map (text_value x) items ≡ map (text_value x) others →
    among (texts comparison.Equal) (text_value x) v items ≡ among (texts comparison.Equal) (text_value x) w others
among_alike x v w items others e f = ap disjunction
    (through (texts comparison.Equal) (text_value x) v items
    ∙ ap (λ u. map (compared (texts comparison.Equal) u) (map (text_value x) items)) e
    ∙ ap (map (compared (texts comparison.Equal) w)) f
    ∙ sym (through (texts comparison.Equal) (text_value x) w others))

-- one term more, with the value of the next item
pub one_more : (x : Item) (items terms new : List TextTerm) (i : ℕ) (item term : TextTerm) → i < length items → item ≡ get_or items i item → new ≡ terms ++ term ∷ [] → text_value x term ≡ text_value x item →
    map (text_value x) terms ≡ map (text_value x) (take i items) → map (text_value x) new ≡ map (text_value x) (take (i + 1) items)
one_more x items terms new i item term h at added same so_far =
    ap (map (text_value x)) added
    ∙ map_push (text_value x) terms term
    ∙ ap (λ values. values ++ text_value x term ∷ []) so_far
    ∙ ap (λ value. map (text_value x) (take i items) ++ value ∷ []) (same ∙ ap (text_value x) at)
    ∙ sym (map_push (text_value x) (take i items) (get_or items i item))
    ∙ ap (map (text_value x)) (sym (take_more items i item h))
