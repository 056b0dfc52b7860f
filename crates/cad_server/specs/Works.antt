-- The reply that the work for a page owes, and how much is left to do for it (own profile).
use Rattle.std.specs.Prelude.{ℕ, ◌+◌, List}
use Rattle.cad_server.specs.declared.page_work.PageWork.{PageWork}
use Rattle.cad_server.specs.declared.work_meter.WorkMeter.{WorkMeter}
use Rattle.cad_server.specs.Stages.{remaining_at, reply_with}

-- whatever its stage is
abbrev pub reply_owed : PageWork → List ℕ
reply_owed work = reply_with work.page.ask work.page.snapshot work.page.ends

abbrev pub remaining_of : PageWork → ℕ
remaining_of work = remaining_at work.stage work.page.ask work.page.snapshot

-- the work that is done: a unit for each feature that is tested, and for each leaf that is counted
abbrev pub spent_by : WorkMeter → ℕ
spent_by meter = meter.tested + meter.counted
