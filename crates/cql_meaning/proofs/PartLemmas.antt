-- What the operands of a comparison and the parts of a condition decide.
use Rattle.std.proofs.Common.{◌≡◌, ◌⊎◌, inl, inr, ℕ, ◌+◌, ◌<◌, Bool, true, false, ◌&&◌, ◌||◌, length, get_or, drop, add-one, drop-cons, arith, List, [], ◌∷◌, map, Option, Some, None, refl, sym, ap, ap₂, ◌∙◌}
use Rattle.std.specs.List.{list_all, list_any}
use Rattle.std.specs.Prelude.{Vec}
use Rattle.std.specs.declared.alloc.Global.{Global}
use Rattle.cad_feature.specs.Features.{Item}
use Rattle.cql_types.specs.declared.filter.Filter.{Filter}
use Rattle.cql_types.specs.declared.filter.Filter.TheVariants as filter
use Rattle.cql_meaning.specs.lemmas.NodeLemmas.{sides_Or}
use Rattle.cql_meaning.specs.Laws.{IsUndecidedByNull}
use Rattle.cql_meaning.specs.Sides.{Sides, sides_of, conjunction, disjunction, sides}
use Rattle.cql_meaning.specs.Values.{both}

-- nothing is said of two operands one of which has no value
nothing_said : {A : Type 0} (test : A → A → Option Bool) (a b : Option A) → (a ≡ None) ⊎ (b ≡ None) → ((sides_of (both test a b)).yes ≡ false) × ((sides_of (both test a b)).no ≡ false)
nothing_said test None b h = (refl, refl)
nothing_said test (Some a) None h = (refl, refl)
nothing_said test (Some a) (Some b) (inl e) = absurd cc
nothing_said test (Some a) (Some b) (inr e) = absurd cc

pub undecided : {T V : Type 0} (value : Item → T → Option V) (test : V → V → Option Bool) (made : T → T → Filter) →
    ((x : Item) (a b : T) → sides x (made a b) ≡ sides_of (both test (value x a) (value x b))) → IsUndecidedByNull value made
undecided value test made says a b x h =
    let nothing = nothing_said test (value x a) (value x b) h in
    (ap (λ (s : Sides). s.yes) (says x a b) ∙ nothing.0, ap (λ (s : Sides). s.no) (says x a b) ∙ nothing.1)

each_equal : {T : Type 0} (x : Item) (equal : T → Filter) (said : T → Sides) → ((b : T) → sides x (equal b) ≡ said b) → (items : List T) → map (sides x) (map equal items) ≡ map said items
each_equal x equal said each [] = refl
each_equal x equal said each (b ∷ items) = ap₂ (λ (s : Sides) (ss : List Sides). s ∷ ss) (each b) (each_equal x equal said each items)

-- the OR of equalities, each of which says what is said of its item
pub some_equal : {T : Type 0} (x : Item) (equal : T → Filter) (said : T → Sides) (items : List T) (fs : Vec Filter Global) {s : Sides} → ((b : T) → sides x (equal b) ≡ said b) →
    fs.items ≡ map equal items → s ≡ disjunction (map said items) → s ≡ sides x (filter.Or fs)
some_equal x equal said items fs each is h =
    h ∙ sym (sides_Or x fs ∙ ap (λ (parts : List Filter). disjunction (map (sides x) parts)) is ∙ ap disjunction (each_equal x equal said each items))

-- ---- one part more of AND and of OR

and_three : (p q r : Bool) → ((p && (q && true)) && r) ≡ (p && (q && r))
and_three p q r = grind arith

or_three : (p q r : Bool) → ((p || (q || false)) || r) ≡ (p || (q || r))
or_three p q r = grind arith

and_joined : (a b : Sides) (rest : List Sides) → conjunction (conjunction (a ∷ b ∷ []) ∷ rest) ≡ conjunction (a ∷ b ∷ rest)
and_joined a b rest = ap₂ (λ (y n : Bool). record { yes = y; no = n }) (and_three a.yes b.yes (list_all (λ s. s.yes) rest)) (or_three a.no b.no (list_any (λ s. s.no) rest))

or_joined : (a b : Sides) (rest : List Sides) → disjunction (disjunction (a ∷ b ∷ []) ∷ rest) ≡ disjunction (a ∷ b ∷ rest)
or_joined a b rest = ap₂ (λ (y n : Bool). record { yes = y; no = n }) (or_three a.yes b.yes (list_any (λ s. s.yes) rest)) (and_three a.no b.no (list_all (λ s. s.no) rest))

next_first : (x : Item) (part : Filter) (parts : List Filter) (i : ℕ) → i < length parts → part ≡ get_or parts i part →
    map (sides x) (drop i parts) ≡ sides x part ∷ map (sides x) (drop (i + 1) parts)
next_first x part parts i h e = rw (add-one, drop-cons parts i part, ← e) refl

pub and_more : (x : Item) (all next joined : Sides) (part : Filter) (parts : List Filter) (i : ℕ) {whole : Sides} → conjunction (all ∷ map (sides x) (drop i parts)) ≡ whole →
    i < length parts → part ≡ get_or parts i part → next ≡ sides x part → joined ≡ conjunction (all ∷ next ∷ []) → conjunction (joined ∷ map (sides x) (drop (i + 1) parts)) ≡ whole
and_more x all next joined part parts i so_far h e f g =
    ap (λ (s : Sides). conjunction (s ∷ map (sides x) (drop (i + 1) parts))) g
    ∙ and_joined all next (map (sides x) (drop (i + 1) parts))
    ∙ ap (λ (s : Sides). conjunction (all ∷ s ∷ map (sides x) (drop (i + 1) parts))) f
    ∙ ap (λ (ss : List Sides). conjunction (all ∷ ss)) (sym (next_first x part parts i h e))
    ∙ so_far

pub or_more : (x : Item) (some next joined : Sides) (part : Filter) (parts : List Filter) (i : ℕ) {whole : Sides} → disjunction (some ∷ map (sides x) (drop i parts)) ≡ whole →
    i < length parts → part ≡ get_or parts i part → next ≡ sides x part → joined ≡ disjunction (some ∷ next ∷ []) → disjunction (joined ∷ map (sides x) (drop (i + 1) parts)) ≡ whole
or_more x some next joined part parts i so_far h e f g =
    ap (λ (s : Sides). disjunction (s ∷ map (sides x) (drop (i + 1) parts))) g
    ∙ or_joined some next (map (sides x) (drop (i + 1) parts))
    ∙ ap (λ (s : Sides). disjunction (some ∷ s ∷ map (sides x) (drop (i + 1) parts))) f
    ∙ ap (λ (ss : List Sides). disjunction (some ∷ ss)) (sym (next_first x part parts i h e))
    ∙ so_far
