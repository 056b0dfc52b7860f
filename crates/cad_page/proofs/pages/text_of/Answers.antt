use Rattle.std.proofs.Common.{◌≡◌, refl, map, Bor, ◌∙◌, ap, option_copied, arith, Some}
use Rattle.std.proofs.lemmas.Result.{IfOk-at_ok}
use Rattle.serde_json.specs.Written.{compact_text}
use Rattle.cad_feature.specs.declared.feature.Feature.{Feature}
use Rattle.cad_feature.specs.Features.{Item}
use Rattle.cad_json.specs.lemmas.SentLemmas.{sent_text, sent_read}
use Rattle.cad_page.specs.Bodies.{next_in}
use Rattle.cad_page.specs.Pages.{rows_in}
use Rattle.cad_page.specs.inner.Sent.{sent_page}
use Rattle.cad_page.proofs.SentLemmas.{same_page, page_in_order, page_low}
use Rattle.cad_page.proofs.pages.text_of.Goals as goal

abbrev now : Bor Feature → Item
now x = x.now

pub returns-in-Ok-clause-text : goal.returns-in-Ok-clause-text
returns-in-Ok-clause-text c =
    let ask = c.args.ask.now in
    let snapshot = c.args.snapshot.now in
    let rows = map now c.deref.result.now in
    let own = c.as_str.result.now in
    let next = option_copied c.lent-next.result in
    let revision = c.revision-revision.result in
    let told = IfOk-at_ok _ c.in-Ok.is c.to_string.ensures.events in
    let same_rows : rows ≡ rows_in ask snapshot = ap (map now) c.deref.ensures.value ∙ c.requires.rows in
    let same_next : next ≡ next_in ask snapshot =
    c.lent-next.ensures ∙ c.in_ok-target.ensures ∙ rw (c.revision-revision.ensures, c.requires.rows, c.requires.more) refl in
    let same = same_page ask snapshot rows own next revision same_rows (c.as_str.ensures.value ∙ c.in_ok-own.ensures) same_next c.revision-revision.ensures in
    sent_text (sent_page ask.collection rows own next revision) told.0 _ told.1 told.2 ∙ ap compact_text same

pub returns-in-Ok-clause-reads_back : goal.returns-in-Ok-clause-reads_back
returns-in-Ok-clause-reads_back c =
    let ask = c.args.ask.now in
    let snapshot = c.args.snapshot.now in
    let rows = map now c.deref.result.now in
    let own = c.as_str.result.now in
    let next = option_copied c.lent-next.result in
    let revision = c.revision-revision.result in
    let told = IfOk-at_ok _ c.in-Ok.is c.to_string.ensures.events in
    let same_rows : rows ≡ rows_in ask snapshot = ap (map now) c.deref.ensures.value ∙ c.requires.rows in
    let same_next : next ≡ next_in ask snapshot =
    c.lent-next.ensures ∙ c.in_ok-target.ensures ∙ rw (c.revision-revision.ensures, c.requires.rows, c.requires.more) refl in
    let same = same_page ask snapshot rows own next revision same_rows (c.as_str.ensures.value ∙ c.in_ok-own.ensures) same_next c.revision-revision.ensures in
    sent_read (sent_page ask.collection rows own next revision) told.0 _ told.1 told.2 (page_in_order ask.collection rows own next revision) (omega (arith, page_low ask.collection rows own next revision))
    ∙ ap Some same
