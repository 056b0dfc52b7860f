-- A walk goes through the whole answer of one revision.
use Rattle.std.proofs.Common.{◌≡◌, ℕ, ◌+◌, ◌≤◌, ◌<◌, ◌^◌, ℤ, pos, true, false, List, [], ◌∷◌, length, Option, Some, None, refl, sym, ap, ap₂, subst, ◌∙◌, arith, length-append}
use Rattle.std.specs.Prelude.{unwrap_or, option_map}
use Rattle.std.specs.Bool.{MatchBool}
use Rattle.std.specs.List.{All, AllZip}
use Rattle.std.specs.List.Sorted.{IsStrictlySortedBy}
use Rattle.std.proofs.lemmas.Slice.Zip.{AllZip-long}
use Rattle.std.proofs.lemmas.List.Kept.{IsStrictlySortedBy-filter}
use Rattle.cad_versions.specs.AsOf.{as_of}
use Rattle.cad_versions.specs.Laws.{RevisionsStay}
use Rattle.cad_schema.specs.declared.collection.Collection.{Collection}
use Rattle.cad_feature.specs.Features.{Item, identifier_of, by_identifier}
use Rattle.cad_json.specs.Paths.{items_path}
use Rattle.cad_head.specs.Request.{query}
use Rattle.cad_versions.specs.declared.identifier.Identifier.{Identifier}
use Rattle.cad_parameters.specs.Identifiers.{Numbers, numbers_of as named_numbers, IsVersionNumber}
use Rattle.cad_parameters.specs.Pairs.{pairs_of}
use Rattle.cad_ask.specs.declared.ask.Ask.{Ask}
use Rattle.cad_ask.specs.Answers.{IsAsk}
use Rattle.cad_ask.specs.Laws.{HasFaultOrAsks, AskTheSame, PairsAskOneThing}
use Rattle.cad_ask.specs.lemmas.AnswerLemmas.{asks_well}
use Rattle.cad_history.specs.Snapshots.{RevisionFeatures, features_at}
use Rattle.cad_answer.specs.Answers.{answers}
use Rattle.cad_answer.specs.Laws.{last_of, AreWalk, WalksAreWhole}
use Rattle.cad_run.specs.Slices.{identifier, is_later, later, is_more}
use Rattle.cad_page.specs.Bodies.{numbers_of}
use Rattle.cad_page.specs.Laws.{TheSameHasOneAnswer, GoesOn, NextIsReadAgain}
use Rattle.cad_page.specs.Pages.{restrictions, beginning, answer_in, rows_in, is_more_in}
use Rattle.cad_resource.specs.Laws.{ResourcesAreRequested, KnownPathsAreReadBack}
use Rattle.cad_server.specs.Contents.{snapshot_of, snapshot_at}
use Rattle.cad_http.specs.Walks.{Visit, AsksFor, revision_requested, snapshot_requested, next_of, Follows, IsWalk, Shows, joined, pages_of}
use Rattle.cad_history.specs.Accepted.{AcceptedAreListed, AcceptedAreFew}
use Rattle.cad_http.specs.Laws.{WalksHaveThatManyPages, WalksShowTheAnswer}
use Rattle.cad_http.proofs.AskingLemmas.{page_wanted, page_read, some_wanted}
use Rattle.cad_http.proofs.ListingLemmas.{ascend, have_numbers}
use Rattle.cad_http.proofs.PartLemmas.{IsPart, linked, shows, ends}

-- ---- the laws that a walk stands on

pub record Laws : Type 0 where
  pub requested : ResourcesAreRequested
  pub paths : KnownPathsAreReadBack
  pub faults : HasFaultOrAsks
  pub one : PairsAskOneThing
  pub answer : TheSameHasOneAnswer
  pub next : NextIsReadAgain
  pub stay : RevisionsStay
  pub whole : WalksAreWhole
  pub count : WalksHaveThatManyPages
  pub listed : AcceptedAreListed
  pub few : AcceptedAreFew

-- ---- where a page begins

-- the two numbers of an identifier
abbrev place_of : Numbers → ℤ × ℤ
place_of n = (pos n.0, pos n.1)

after_is : (after : Option Identifier) → option_map (λ (i : Identifier). identifier (i.object, i.number)) after ≡ option_map place_of (option_map named_numbers after)
after_is None = refl
after_is (Some i) = refl

-- it follows from the numbers that it begins after
begins_at : (ask : Ask) (last : Option Numbers) → option_map named_numbers ask.continuation.after ≡ last → beginning ask ≡ option_map place_of last
begins_at ask last e = after_is ask.continuation.after ∙ ap (option_map place_of) e

-- ---- the page after a page

-- the next visit is shown the page after the one that is asked for
pub record IsNext (snapshot : RevisionFeatures) (ask : Ask) (next : Visit) : Type 0 where
  pub more : is_more_in ask snapshot ≡ true
  pub again : Ask
  pub part : IsPart snapshot next again
  pub same_limit : again.selection.limit ≡ ask.selection.limit
  pub same_answer : answer_in again snapshot ≡ answer_in ask snapshot
  pub begins : beginning again ≡ last_of (rows_in ask snapshot)

-- the old pairs and beginning with the selection and the filter of what goes on
abbrev between : Ask → Ask → Ask
between ask again = record { collection = again.collection; pairs = ask.pairs; selection = again.selection; filter = again.filter; continuation = ask.continuation }

-- what goes on has the same answer
one_answer : TheSameHasOneAnswer → (snapshot : RevisionFeatures) (ask again : Ask) (revision : ℕ) (last : Item) → GoesOn ask again revision last → answer_in again snapshot ≡ answer_in ask snapshot
one_answer answer snapshot ask again revision last on = answer (between ask again) ask snapshot (record {
  collection = on.collection;
  pairs = refl;
  limit = on.limit;
  datetime = on.datetime;
  bbox = on.bbox;
  condition = on.condition;
  revision = refl;
  after = refl;
})

-- the revision is made, and stays what it was
stays : RevisionsStay → (snapshot : RevisionFeatures) (visit next : Visit) → Follows visit next → snapshot.revision ≤ length visit.commands → snapshot_at snapshot.revision visit.commands ≡ snapshot
    → (snapshot.revision ≤ length next.commands) × (snapshot_at snapshot.revision next.commands ≡ snapshot)
stays stay snapshot visit next follows made shows =
    let n : length next.commands ≡ length visit.commands + length follows.added = ap length follows.meanwhile ∙ length-append visit.commands follows.added in
    (omega (arith, made, n), ap (snapshot_at snapshot.revision) follows.meanwhile ∙ ap (snapshot_of snapshot.revision) (stay visit.commands follows.added snapshot.revision made) ∙ shows)

module _ (laws : Laws) (snapshot : RevisionFeatures) (small : snapshot.revision < 10 ^ 18) (numbered : (c : Collection) → All (λ (x : Item). IsVersionNumber x.number) (features_at snapshot c)) where
  step : (visit next : Visit) (ask : Ask) → IsPart snapshot visit ask → Follows visit next → IsNext snapshot ask next
  step visit next ask part follows =
      let c = ask.collection in
      let link = laws.next (query visit.request) ask snapshot next.request.target part.asks.asks (numbered c) small (sym (linked snapshot visit ask part) ∙ follows.linked) in
      let read = page_read laws.faults c (pairs_of (query next.request)) next.replied.0 link.well (page_wanted laws.requested laws.paths next.request c next.replied.0 follows.get link.path_is next.replied.1) in
      let again = read.0 in
      let on = link.goes_on again read.2 in
      let here = stays laws.stay snapshot visit next follows part.made part.snapshot_is in
      record {
        more = link.more;
        again = again;
        part = record {
          asks = record { get = follows.get; path_is = link.path_is ∙ ap items_path (sym on.collection); asks = subst (λ (d : Collection). IsAsk d (pairs_of (query next.request)) again) (sym on.collection) read.2 };
          wanted = read.1;
          revision_is = ap (λ (n : Option ℕ). unwrap_or n (length next.commands)) on.revision_is;
          made = here.0;
          snapshot_is = here.1;
        };
        same_limit = on.limit;
        same_answer = one_answer laws.answer snapshot ask again snapshot.revision link.last on;
        begins = begins_at again (Some (numbers_of link.last)) on.after_is ∙ sym (ap (option_map identifier_of) link.stands);
      }

  -- ---- the pages one after the other

  -- the visits are shown the pages from here on
  record GoesThrough (ask : Ask) (visits : List Visit) : Type 0 where
    pages : List (List Item)
    walk : AreWalk ask.selection.limit (answer_in ask snapshot) (beginning ask) pages
    shown : AllZip (Shows snapshot) visits pages

  -- the last page
  alone : (visit : Visit) (ask : Ask) → IsPart snapshot visit ask → next_of visit ≡ None → GoesThrough ask (visit ∷ [])
  alone visit ask part none =
      let limit = ask.selection.limit in
      let xs = answer_in ask snapshot in
      let rows = rows_in ask snapshot in
      let others : List (List Item) = [] in
      let last : is_more (beginning ask) limit xs ≡ false = ends ask snapshot (some_wanted ask.collection _ ask part.asks.asks) (sym (linked snapshot visit ask part) ∙ none) in
      record {
        pages = rows ∷ [];
        walk = (refl, subst (λ b. MatchBool b (AreWalk limit xs (last_of rows) others) (others ≡ [])) (sym last) refl);
        shown = (shows snapshot visit ask part, tt);
      }

  -- one page more, before the others
  page_before : (visit next : Visit) (visits : List Visit) (ask : Ask) → IsPart snapshot visit ask → (n : IsNext snapshot ask next) → GoesThrough n.again (next ∷ visits) → GoesThrough ask (visit ∷ (next ∷ visits))
  page_before visit next visits ask part n rest =
      let limit = ask.selection.limit in
      let xs = answer_in ask snapshot in
      let rows = rows_in ask snapshot in
      let pages = rest.pages in
      let here : AreWalk limit xs (last_of rows) pages =
      subst (λ (last : Option (ℤ × ℤ)). AreWalk limit xs last pages) n.begins
      (subst (λ (ys : List Item). AreWalk limit ys (beginning n.again) pages) n.same_answer
      (subst (λ (most : ℕ). AreWalk most (answer_in n.again snapshot) (beginning n.again) pages) n.same_limit rest.walk)) in
      record {
        pages = rows ∷ pages;
        walk = (refl, subst (λ b. MatchBool b (AreWalk limit xs (last_of rows) pages) (pages ≡ [])) (sym n.more) here);
        shown = (shows snapshot visit ask part, rest.shown);
      }

  goes_through : (visit : Visit) (visits : List Visit) (ask : Ask) → IsPart snapshot visit ask → IsWalk (visit ∷ visits) → GoesThrough ask (visit ∷ visits)
  goes_through visit [] ask part walk = alone visit ask part walk
  goes_through visit (next ∷ visits) ask part walk =
      let n = step visit next ask part walk.0 in
      page_before visit next visits ask part n (goes_through next visits n.again n.part walk.1)

-- ---- the first page

-- what the first request wants
record IsFirst (visit : Visit) (ask : Ask) : Type 0 where
  own : Ask
  part : IsPart (snapshot_requested ask visit.commands) visit own
  same : AskTheSame own ask

first : Laws → (visit : Visit) (ask : Ask) → AsksFor visit.request ask → revision_requested ask visit.commands ≤ length visit.commands → IsFirst visit ask
first laws visit ask asks made =
    let c = ask.collection in
    let pairs = pairs_of (query visit.request) in
    let read = page_read laws.faults c pairs visit.replied.0 (asks_well c pairs ask asks.asks) (page_wanted laws.requested laws.paths visit.request c visit.replied.0 asks.get asks.path_is visit.replied.1) in
    let same : AskTheSame read.0 ask = laws.one c pairs read.0 ask read.2 asks.asks in
    record {
      own = read.0;
      part = record {
        asks = record { get = asks.get; path_is = asks.path_is ∙ ap items_path (sym same.collection); asks = subst (λ (d : Collection). IsAsk d pairs read.0) (sym same.collection) read.2 };
        wanted = read.1;
        revision_is = ap (λ (n : Option ℕ). unwrap_or n (length visit.commands)) same.revision;
        made = made;
        snapshot_is = refl;
      };
      same = same;
    }

-- ---- the whole answer

answer_ascends : (ask : Ask) (snapshot : RevisionFeatures) → IsStrictlySortedBy by_identifier (features_at snapshot ask.collection) → IsStrictlySortedBy by_identifier (answer_in ask snapshot)
answer_ascends ask snapshot up = IsStrictlySortedBy-filter by_identifier (answers ask.collection (restrictions ask)) (features_at snapshot ask.collection) up

same_part : TheSameHasOneAnswer → (a b : Ask) (snapshot : RevisionFeatures) → AskTheSame a b → later (beginning a) (answer_in a snapshot) ≡ later (beginning b) (answer_in b snapshot)
same_part answer a b snapshot same =
    ap₂ later (begins_at a (option_map named_numbers b.continuation.after) same.after ∙ sym (begins_at b (option_map named_numbers b.continuation.after) refl)) (answer a b snapshot same)

-- where none is named, all come later
all_later : (xs : List Item) → later None xs ≡ xs
all_later [] = refl
all_later (x ∷ xs) = ap (λ ys. x ∷ ys) (all_later xs)

from_the_first : (ask : Ask) (snapshot : RevisionFeatures) → ask.continuation.after ≡ None → later (beginning ask) (answer_in ask snapshot) ≡ answer_in ask snapshot
from_the_first ask snapshot e =
    ap (λ (last : Option (ℤ × ℤ)). later last (answer_in ask snapshot)) (begins_at ask None (ap (option_map named_numbers) e)) ∙ all_later (answer_in ask snapshot)

pub whole_answer : Laws → WalksShowTheAnswer
whole_answer laws visit visits ask accepted asks made walk =
    let commands = visit.commands in
    let revision = revision_requested ask commands in
    let versions = as_of revision commands in
    let snapshot = snapshot_requested ask commands in
    let listing = laws.listed commands accepted revision in
    let small : revision < 10 ^ 18 = omega (arith, made, laws.few commands accepted) in
    let f = first laws visit ask asks made in
    let own = f.own in
    let limit = own.selection.limit in
    let xs = answer_in own snapshot in
    let through = goes_through laws snapshot small (λ c. have_numbers revision versions c listing) visit visits own f.part walk in
    let pages = through.pages in
    let some = some_wanted own.collection _ own f.part.asks.asks in
    let up = answer_ascends own snapshot (ascend revision versions own.collection listing) in
    let whole : joined pages ≡ later (beginning own) xs = laws.whole limit xs (beginning own) pages some up through.walk in
    let count : length pages ≡ pages_of limit (length (later (beginning own) xs)) = laws.count limit xs (beginning own) pages some up through.walk in
    let all : joined pages ≡ later (beginning ask) (answer_in ask snapshot) = whole ∙ same_part laws.answer own ask snapshot f.same in (
      pages,
      record {
        shown = through.shown;
        whole = all;
        from_the_first = λ e. all ∙ from_the_first ask snapshot e;
        ascending = subst (IsStrictlySortedBy by_identifier) (sym whole) (IsStrictlySortedBy-filter by_identifier (is_later (beginning own)) xs up);
        count = sym (AllZip-long (Shows snapshot) (visit ∷ visits) pages through.shown) ∙ count ∙ ap₂ pages_of f.same.limit (ap length (sym whole));
      },
    )
