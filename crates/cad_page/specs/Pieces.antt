-- The page that is asked for, in pieces (own profile).
use Rattle.std.specs.Prelude.{◌≡◌, ℕ, ◌+◌, ◌<◌, ◌^◌, Bool, length, map}
use Rattle.cad_feature.specs.Features.{identifier_of}
use Rattle.cad_lookup.specs.declared.plan.Plan.{Plan}
use Rattle.cad_run.specs.declared.search.Progress.{Progress}
use Rattle.cad_run.specs.declared.search.Progress.TheVariants.{Part, Whole}
use Rattle.cad_run.specs.declared.search.Search.{Search}
use Rattle.cad_run.specs.Owed.{found_in, owes, page_after, remaining}
use Rattle.cad_answer.specs.Answers.{answers}
use Rattle.cad_ask.specs.declared.ask.Ask.{Ask}
use Rattle.cad_history.specs.Snapshots.{RevisionFeatures, features_at}
use Rattle.cad_page.specs.Pages.{restrictions, beginning, rows_in, is_more_in}
use Rattle.cad_page.specs.Plans.{CoversAnswer, candidates_in, examined_in}

-- the plan covers the answer, and the search owes the page of its candidates that answer, which is the one that is asked for
pub record IsSearchFor (plan : Plan) (search : Search) (ask : Ask) (snapshot : RevisionFeatures) : Type 0 where
  pub covers : CoversAnswer plan ask snapshot
  pub owed : owes (answers ask.collection (restrictions ask)) (candidates_in plan ask snapshot) search
      ≡ page_after (answers ask.collection (restrictions ask)) (beginning ask) ask.selection.limit (candidates_in plan ask snapshot)
  pub few : search.examined + length (remaining search (candidates_in plan ask snapshot)) < 2 ^ 64

-- the identifiers that were found are those of the page that is asked for
pub record IsFound (search : Search) (more : Bool) (ask : Ask) (snapshot : RevisionFeatures) : Type 0 where
  pub rows : found_in search ≡ map identifier_of (rows_in ask snapshot)
  pub more_is : more ≡ is_more_in ask snapshot

-- and as many features were tested as an answer at once would have tested
pub record IsPageFor (plan : Plan) (search : Search) (more : Bool) (ask : Ask) (snapshot : RevisionFeatures) : Type 0 where
  pub found : IsFound search more ask snapshot
  pub examined : search.examined ≡ examined_in plan ask snapshot

-- after a piece the search is for the same page, or the page is found
abbrev pub ComesOf : Progress → Plan → Search → Ask → RevisionFeatures → Type 0
ComesOf Part plan search ask snapshot = IsSearchFor plan search ask snapshot
ComesOf (Whole more) plan search ask snapshot = IsPageFor plan search more ask snapshot

-- how many features of the collection the search has still to look through
abbrev pub remaining_in : Search → Ask → RevisionFeatures → ℕ
remaining_in search ask snapshot = length (remaining search (features_at snapshot ask.collection))
