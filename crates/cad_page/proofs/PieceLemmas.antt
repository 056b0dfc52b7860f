-- A page in pieces, by a plan that covers what is asked.
use Rattle.std.proofs.Common.{◌≡◌, ◌∙◌, ℕ, zero, suc, ◌+◌, ◌<◌, ◌^◌, Bool, List, [], ◌∷◌, ◌++◌, Option, Some, None, Contains, ap, refl, sym, subst, length, take, get_or, option_map, arith, Result, Ok, Err}
use Rattle.std.specs.List.{All}
use Rattle.std.proofs.lemmas.List.{get_or_default}
use Rattle.std.proofs.lemmas.List.Elements.{All-contains, All-filter, All-take}
use Rattle.cad_versions.specs.declared.object_id.ObjectId.{ObjectId}
use Rattle.std.specs.Prelude.{IfOk, map}
use Rattle.cad_versions.specs.lemmas.ListLemmas.{filter_fewer}
use Rattle.cad_schema.specs.declared.collection.Collection.{Collection}
use Rattle.cad_feature.specs.Features.{AreFeaturesOf, IsFeatureOf, Item, identifier_of}
use Rattle.cad_lookup.specs.declared.plan.Plan.{Plan}
use Rattle.cad_lookup.specs.Candidates.{candidates, is_candidate}
use Rattle.cad_run.specs.Slices.{identifier, is_later, is_more, later, slice}
use Rattle.cad_run.specs.declared.search.Progress.{Progress}
use Rattle.cad_run.specs.declared.search.Progress.TheVariants.{Part, Whole}
use Rattle.cad_run.specs.declared.search.Search.{Search}
use Rattle.cad_run.specs.Owed.{Owed, owes, page_after, page_in, IfPart, Keeps}
use Rattle.cad_answer.specs.Answers.{Restrictions, answers}
use Rattle.cad_answer.specs.Laws.{CoveringPlansHaveTheAnswer}
use Rattle.cad_ask.specs.declared.ask.Ask.{Ask}
use Rattle.cad_history.specs.Snapshots.{RevisionFeatures, features_at}
use Rattle.cad_page.specs.Pages.{answer_in, beginning, restrictions, rows_in}
use Rattle.cad_page.specs.Pieces.{ComesOf, IsPageFor, IsSearchFor}
use Rattle.cad_page.specs.Plans.{candidates_in}

module _ (law : CoveringPlansHaveTheAnswer) (plan : Plan) (ask : Ask) (snapshot : RevisionFeatures) (old new : Search) (was : IsSearchFor plan old ask snapshot) where
  Kept : {E : Type 0} → Result Progress E → Collection → Restrictions → List Item → Type 0
  Kept result own asked listed = IfOk result (λ progress. Keeps (owes (answers own asked) (candidates plan listed) old) progress (owes (answers own asked) (candidates plan listed) new) (page_in new))

  is_page : (more : Bool) → page_in new more ≡ page_after (answers ask.collection (restrictions ask)) (beginning ask) ask.selection.limit (candidates_in plan ask snapshot) → IsPageFor plan new more ask snapshot
  is_page more e =
      let whole = law plan ask.collection (restrictions ask) (features_at snapshot ask.collection) was.covers in
      record {
        found = record {
          rows = ap (λ (o : Owed). o.rows) e ∙ ap (λ (xs : List Item). map identifier_of (slice (beginning ask) ask.selection.limit xs)) whole;
          more_is = ap (λ (o : Owed). o.more) e ∙ ap (is_more (beginning ask) ask.selection.limit) whole;
        };
        examined = ap (λ (o : Owed). o.examined) e;
      }

  comes_of : {E : Type 0} (result : Result Progress E) → Kept result ask.collection (restrictions ask) (features_at snapshot ask.collection)
      → IfOk result (λ progress. IfPart progress (new.examined + length (later (option_map identifier new.after) (candidates_in plan ask snapshot)) < 2 ^ 64))
      → IfOk result (λ progress. ComesOf progress plan new ask snapshot)
  unfolding Kept
  comes_of (Ok Part) keeps few = record { covers = was.covers; owed = keeps ∙ was.owed; few = few }
  comes_of (Ok (Whole more)) keeps few = is_page more (keeps ∙ was.owed)
  comes_of (Err error) keeps few = tt

  -- a piece by a query of what is asked
  pub comes_of_piece : {E : Type 0} (result : Result Progress E) (own : Collection) (asked : Restrictions) (listed : List Item) → own ≡ ask.collection → asked ≡ restrictions ask → listed ≡ features_at snapshot ask.collection
      → IfOk result (λ progress. Keeps (owes (answers own asked) (candidates plan listed) old) progress (owes (answers own asked) (candidates plan listed) new) (page_in new))
      → IfOk result (λ progress. IfPart progress (new.examined + length (later (option_map identifier new.after) (candidates plan listed)) < 2 ^ 64))
      → IfOk result (λ progress. ComesOf progress plan new ask snapshot)
  unfolding Kept
  comes_of_piece result own asked listed same is all keeps few =
      comes_of result
      (subst (λ (c : Collection). Kept result c (restrictions ask) (features_at snapshot ask.collection)) same
      (subst (λ (r : Restrictions). Kept result own r (features_at snapshot ask.collection)) is
      (subst (λ (xs : List Item). Kept result own asked xs) all keeps)))
      (subst (λ (xs : List Item). IfOk result (λ progress. IfPart progress (new.examined + length (later (option_map identifier new.after) (candidates plan xs)) < 2 ^ 64))) all few)

-- a search of which nothing was tested
pub few_at_first : (plan : Plan) (search : Search) (xs : List Item) → search.examined ≡ 0 → length xs < 2 ^ 64 → search.examined + length (later (option_map identifier search.after) (candidates plan xs)) < 2 ^ 64
few_at_first plan search xs none few = omega (arith, none, filter_fewer (is_later (option_map identifier search.after)) (candidates plan xs), filter_fewer (is_candidate plan) xs, few)

-- ---- the rows of identifiers

module _ {X : Type 0} where
  here_first : (x : X) (xs : List X) → Contains (x ∷ xs) x
  here_first x xs = (0, omega arith, refl)

  here_later : (x y : X) (xs : List X) → Contains xs y → Contains (x ∷ xs) y
  here_later x y xs (k, h, at) = (suc k, omega (arith, h), at)

  all_contained : (xs : List X) → All (Contains xs) xs
  all_contained xs = λ k d h. (k, h, get_or_default xs k (get_or xs k d) d h)

next_row : (xs : List Item) (found : List (ObjectId × ℕ)) (i : ℕ) (id : ObjectId × ℕ) → i < length found → id ≡ get_or found i id → map identifier found ≡ map identifier_of xs
    → (x : Item) × (identifier_of x ≡ identifier id) × Contains xs x × (take (suc i) xs ≡ take i xs ++ x ∷ [])
next_row xs [] i id within at same = absurd (omega (arith, within))
next_row [] (first ∷ found) i id within at same = absurd cc
next_row (x ∷ xs) (first ∷ found) zero id within at same =
    let heads : identifier first ≡ identifier_of x = cc in
    (x, sym heads ∙ ap identifier (sym at), here_first x xs, refl)
next_row (x ∷ xs) (first ∷ found) (suc i) id within at same =
    let tails : map identifier found ≡ map identifier_of xs = cc in
    let rest = next_row xs found i id (omega (arith, within)) at tails in
    (rest.0, rest.1, here_later x rest.0 xs rest.2, ap (λ (ys : List Item). x ∷ ys) rest.3)

module _ (ask : Ask) (snapshot : RevisionFeatures) (found : List (ObjectId × ℕ)) (i : ℕ) (id : ObjectId × ℕ) (lent : Option Item) where
  -- the next row is one of the snapshot's features, which are asked for the identifier
  there : (next : Item) → Contains (rows_in ask snapshot) next → Contains (features_at snapshot ask.collection) next
  there next at =
      let features = features_at snapshot ask.collection in
      let listed = All-take (Contains features) ask.selection.limit (later (beginning ask) (answer_in ask snapshot)) (All-filter (is_later (beginning ask)) (Contains features) (answer_in ask snapshot) (All-filter (answers ask.collection (restrictions ask)) (Contains features) features (all_contained features))) in
      All-contains (Contains features) (rows_in ask snapshot) next listed at

  -- the row that the snapshot has for the next identifier
  pub row_more : (rows : List Item) (feature : Item)
      → i < length found → id ≡ get_or found i id → map identifier found ≡ map identifier_of (rows_in ask snapshot) → rows ≡ take i (rows_in ask snapshot)
      → ((x : Item) → Contains (features_at snapshot ask.collection) x → identifier_of x ≡ identifier id → lent ≡ Some x) → lent ≡ Some feature
      → rows ++ feature ∷ [] ≡ take (suc i) (rows_in ask snapshot)
  row_more rows feature within at same are one is =
      let next = next_row (rows_in ask snapshot) found i id within at same in
      let same_row : feature ≡ next.0 = some_is feature next.0 (sym is ∙ one next.0 (there next.0 next.2) next.1) in
      rw (are, same_row) (sym next.3)
    where
      some_is : (a b : Item) → Some a ≡ Some b → a ≡ b
      some_is a b e = cc

  -- there is one
  pub row_there : i < length found → id ≡ get_or found i id → map identifier found ≡ map identifier_of (rows_in ask snapshot)
      → ((x : Item) → Contains (features_at snapshot ask.collection) x → identifier_of x ≡ identifier id → lent ≡ Some x) → lent ≡ None → ⊥
  row_there within at same one none =
      let next = next_row (rows_in ask snapshot) found i id within at same in
      let some = one next.0 (there next.0 next.2) next.1 in
      absurd cc

-- ---- the features of the page

pub rows_of_collection : (own : Collection) (ask : Ask) (snapshot : RevisionFeatures) → own ≡ ask.collection → AreFeaturesOf own (features_at snapshot ask.collection) → All (IsFeatureOf ask.collection) (rows_in ask snapshot)
rows_of_collection own ask snapshot same listed =
    let is_own = IsFeatureOf ask.collection in
    let each = (subst (λ c. AreFeaturesOf c (features_at snapshot ask.collection)) same listed).each in
    All-take is_own ask.selection.limit (later (beginning ask) (answer_in ask snapshot))
    (All-filter (is_later (beginning ask)) is_own (answer_in ask snapshot)
    (All-filter (answers ask.collection (restrictions ask)) is_own (features_at snapshot ask.collection) each))
