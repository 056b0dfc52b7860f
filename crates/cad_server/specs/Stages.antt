-- How far the work for a page is (OGC 17-069r4, 7.15: items; in pieces: own profile).
use Rattle.std.specs.Prelude.{ℕ, ◌+◌, ◌-◌, Bool, List, length}
use Rattle.std.proofs.Props.{props}
use Rattle.serde_json.specs.Written.{compact_text}
use Rattle.cad_ask.specs.declared.ask.Ask.{Ask}
use Rattle.cad_history.specs.Snapshots.{RevisionFeatures, features_at}
use Rattle.cad_head.specs.declared.status.Status.TheVariants as status
use Rattle.cad_head.specs.Replies.{reply_text}
use Rattle.cad_page.specs.Bodies.{page_data}
use Rattle.cad_page.specs.Pieces.{remaining_in, IsFound, IsSearchFor}
use Rattle.cad_page.specs.Plans.{AreCountsFor, counts_in}
use Rattle.cad_server.specs.declared.stage.Counted.{Counted}
use Rattle.cad_server.specs.declared.stage.Stage.{Stage}
use Rattle.cad_server.specs.declared.stage.Stage.TheVariants.{Counting, Searching, Writing}

-- the reply with the page that is asked for, of a snapshot of its revision
abbrev pub reply_with : Ask → RevisionFeatures → Bool → List ℕ
reply_with ask snapshot ends = reply_text status.Ok ends (compact_text (page_data ask snapshot))

-- the stage is one of the work for this page
abbrev pub IsStageFor : Stage → Ask → RevisionFeatures → Type 0
IsStageFor (Counting counted) ask snapshot = AreCountsFor counted.full counted.counts.items ask snapshot
IsStageFor (Searching planned) ask snapshot = IsSearchFor planned.plan planned.search ask snapshot
IsStageFor (Writing search more) ask snapshot = IsFound search more ask snapshot

-- it is a fact, which has one proof
pub stage_prop : (stage : Stage) (ask : Ask) (snapshot : RevisionFeatures) → IsProp (IsStageFor stage ask snapshot)
stage_prop (Counting counted) ask snapshot = Prim.hlevel props
stage_prop (Searching planned) ask snapshot = Prim.hlevel props
stage_prop (Writing search more) ask snapshot = Prim.hlevel props

-- how many leaves are counted in a piece at most
abbrev pub most_leaves : ℕ
most_leaves = 32

-- how many leaves of the full plan are not counted
abbrev pub leaves_left : Counted → Ask → RevisionFeatures → ℕ
leaves_left counted ask snapshot = length (counts_in counted.full ask snapshot) - length counted.counts.items

-- how much is left to do, at most: to count leaves, to choose a plan, to look at features, and to write the text
abbrev pub remaining_at : Stage → Ask → RevisionFeatures → ℕ
remaining_at (Counting counted) ask snapshot = 2 + length (features_at snapshot ask.collection) + leaves_left counted ask snapshot
remaining_at (Searching planned) ask snapshot = 1 + remaining_in planned.search ask snapshot
remaining_at (Writing search more) ask snapshot = 0
