-- A visit that is a part of a walk, and what its reply tells.
use Rattle.std.proofs.Common.{◌≡◌, ℕ, ◌-◌, ◌≤◌, Bool, true, false, cond, nat_lt, List, [], ◌∷◌, length, take, slice_get, Option, Some, None, refl, sym, ap, ap₂, ◌∙◌, arith, get_or}
use Rattle.std.specs.Prelude.{codes, option_map}
use Rattle.std.proofs.lemmas.Bool.Decides.{nat_tests}
use Rattle.std.proofs.lemmas.List.{length-take-le}
use Rattle.std.proofs.lemmas.Option.{slice_get-get_or}
use Rattle.std.proofs.lemmas.Bool.{ltb-true}
use Rattle.serde_json.specs.Written.{compact_text}
use Rattle.cad_versions.specs.declared.command.Command.{Command}
use Rattle.cad_feature.specs.Features.{Item}
use Rattle.cad_ask.specs.declared.ask.Ask.{Ask}
use Rattle.cad_history.specs.Snapshots.{RevisionFeatures}
use Rattle.cad_run.specs.Slices.{later}
use Rattle.cad_page.specs.Pages.{beginning, answer_in, rows_in, is_more_in}
use Rattle.cad_page.specs.Bodies.{target_after, next_in, page_data}
use Rattle.cad_head.specs.declared.status.Status.TheVariants as status
use Rattle.cad_request.specs.declared.request.ParsedRequest.{ParsedRequest}
use Rattle.cad_request.specs.declared.request.ParsedRequest.TheVariants as parsed
use Rattle.cad_request.specs.declared.feature_request.FeatureRequest.TheVariants as features
use Rattle.cad_server.specs.Contents.{refusal, content_requested, snapshot_at}
use Rattle.cad_server.specs.Replies.{reply_of}
use Rattle.cad_http.specs.Walks.{Visit, AsksFor, revision_requested, next_link_in, next_of, Shows}

-- the visit asks for this, of the revision's features
pub record IsPart (snapshot : RevisionFeatures) (visit : Visit) (ask : Ask) : Type 0 where
  pub asks : AsksFor visit.request ask
  pub wanted : visit.replied.0 ≡ parsed.Features (features.Page ask)
  pub revision_is : revision_requested ask visit.commands ≡ snapshot.revision
  pub made : snapshot.revision ≤ length visit.commands
  pub snapshot_is : snapshot_at snapshot.revision visit.commands ≡ snapshot

-- ---- what is told

not_above : (m n : ℕ) → m ≤ n → nat_lt n m ≡ false
not_above m n h = grind (arith, nat_tests)

-- at a revision that was made the test of it passes
of_page : {A : Type 0} (none : A) (tell : RevisionFeatures → A) (snapshot : RevisionFeatures) (commands : List Command) (requested : ℕ)
    → requested ≡ snapshot.revision → snapshot.revision ≤ length commands → snapshot_at snapshot.revision commands ≡ snapshot → cond (nat_lt (length commands) requested) none (tell (snapshot_at requested commands)) ≡ tell snapshot
of_page none tell snapshot commands requested is made shows =
    ap (λ (n : ℕ). cond (nat_lt (length commands) n) none (tell (snapshot_at n commands))) is
    ∙ ap₂ (λ (b : Bool) (s : RevisionFeatures). cond b none (tell s)) (not_above snapshot.revision (length commands) made) shows

module _ (snapshot : RevisionFeatures) (visit : Visit) (ask : Ask) (part : IsPart snapshot visit ask) where
  pub linked : next_of visit ≡ next_in ask snapshot
  linked =
      ap (λ (w : ParsedRequest). next_link_in w visit.commands) part.wanted
      ∙ of_page None (next_in ask) snapshot visit.commands (revision_requested ask visit.commands) part.revision_is part.made part.snapshot_is

  told : content_requested visit.replied.0 visit.commands ≡ (status.Ok, compact_text (page_data ask snapshot))
  told =
      ap (λ (w : ParsedRequest). content_requested w visit.commands) part.wanted
      ∙ of_page (refusal status.BadRequest (codes "revision")) (λ (s : RevisionFeatures). (status.Ok, compact_text (page_data ask s))) snapshot visit.commands (revision_requested ask visit.commands) part.revision_is part.made part.snapshot_is

  pub shows : Shows snapshot visit (rows_in ask snapshot)
  shows = record {
    ask = ask;
    asks = part.asks;
    page_is = refl;
    link_is = linked;
    told = visit.replied.2 ∙ ap (reply_of visit.request) told;
  }

-- ---- no link

-- a page before more has a last feature
last_stands : (limit : ℕ) (xs : List Item) → 1 ≤ limit → nat_lt limit (length xs) ≡ true → slice_get (take limit xs) (length (take limit xs) - 1) ≡ None → ⊥
last_stands limit [] some more none = absurd (omega (arith, ltb-true limit 0 more))
last_stands limit (x ∷ xs) some more none =
    let n : length (take limit (x ∷ xs)) ≡ limit = length-take-le limit (x ∷ xs) (omega (arith, ltb-true limit (length (x ∷ xs)) more)) in
    let is = slice_get-get_or (take limit (x ∷ xs)) (length (take limit (x ∷ xs)) - 1) x (omega arith) in
    let e : Some (get_or (take limit (x ∷ xs)) (length (take limit (x ∷ xs)) - 1) x) ≡ None = sym is ∙ none in
    absurd cc

ends_by : (ask : Ask) (snapshot : RevisionFeatures) (more : Bool) (last : Option Item) → 1 ≤ ask.selection.limit → is_more_in ask snapshot ≡ more
    → slice_get (rows_in ask snapshot) (length (rows_in ask snapshot) - 1) ≡ last → cond more (option_map (target_after ask snapshot.revision) last) None ≡ None → is_more_in ask snapshot ≡ false
ends_by ask snapshot false last some is stands e = is
ends_by ask snapshot true (Some x) some is stands e = absurd cc
ends_by ask snapshot true None some is stands e = absurd (last_stands ask.selection.limit (later (beginning ask) (answer_in ask snapshot)) some is stands)

pub ends : (ask : Ask) (snapshot : RevisionFeatures) → 1 ≤ ask.selection.limit → next_in ask snapshot ≡ None → is_more_in ask snapshot ≡ false
ends ask snapshot some e = ends_by ask snapshot (is_more_in ask snapshot) (slice_get (rows_in ask snapshot) (length (rows_in ask snapshot) - 1)) some refl refl e
