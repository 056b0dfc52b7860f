use Rattle.std.proofs.Common.{arith}
use Rattle.std.proofs.lemmas.Result.{IfOk-at_ok}
use Rattle.cad_json.specs.Tree.{feature_data}
use Rattle.cad_json.specs.lemmas.DepthLemmas.{feature_low}
use Rattle.cad_json.specs.lemmas.OrderLemmas.{feature_in_order}
use Rattle.cad_json.specs.lemmas.SentLemmas.{sent_text, sent_read}
use Rattle.cad_json.proofs.features.feature_text.Goals as goal

pub returns-in-Ok-clause-text : goal.returns-in-Ok-clause-text
returns-in-Ok-clause-text c =
    let told = IfOk-at_ok _ c.in-Ok.is c.to_string.ensures.events in
    sent_text (feature_data c.args.collection c.args.feature.now) told.0 _ told.1 told.2

pub returns-in-Ok-clause-reads_back : goal.returns-in-Ok-clause-reads_back
returns-in-Ok-clause-reads_back c =
    let told = IfOk-at_ok _ c.in-Ok.is c.to_string.ensures.events in
    let collection = c.args.collection in
    let x = c.args.feature.now in
    sent_read (feature_data collection x) told.0 _ told.1 told.2 (feature_in_order collection x) (omega (arith, feature_low collection x))
