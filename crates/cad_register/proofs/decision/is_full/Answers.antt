use Rattle.std.proofs.Common.{◌≤◌, ◌∙◌, Ok, Err, ap, sym, length, arith, nat_le}
use Rattle.cad_versions.specs.Refusals.{most_versions}
use Rattle.cad_versions.specs.AsOf.{as_of}
use Rattle.cad_register.proofs.CountLemmas.{not_full, counted}
use Rattle.cad_register.proofs.NamingLemmas.{told_on, lines_named}
use Rattle.cad_register.proofs.InquiringLemmas.{inquires_nothing, inquires_as, inquires_on, inquires_lines}
use Rattle.cad_register.proofs.decision.is_full.Goals as goal

pub returns-then-revision-lt-MOST_VERSIONS-clause-inquires : goal.returns-then-revision-lt-MOST_VERSIONS-clause-inquires
returns-then-revision-lt-MOST_VERSIONS-clause-inquires g c = inquires_nothing g.S.Store c.args.connection.now _ _ _ _ (λ cs e. sym (not_full cs c.args.revision e c.if-revision-lt-MOST_VERSIONS.true))

pub returns-clause-inquires : goal.returns-clause-inquires
returns-clause-inquires g c =
    let asks = c.in_ok-standing.ensures in
    let lines = inquires_lines g.S.Store c.args.connection.now c.versions_of.new.connection c.args.revision (Ok c.in_ok-standing.standing) asks.told asks.asked asks.leaves asks.cause asks.still in
    inquires_as g.S.Store c.args.connection.now c.versions_of.new.connection _ _ _ _ _ _ c.in_ok-standing.standing _ (λ cs told e. ap (nat_le 2147483647) (ap length (c.as_slice.ensures.value ∙ told (omega (arith, e))) ∙ ap (λ r. length (as_of r cs)) e ∙ counted cs)) lines

pub returns-in_err-standing-clause-inquires : goal.returns-in_err-standing-clause-inquires
returns-in_err-standing-clause-inquires g c =
    let asks = c.in_err-standing.ensures in
    let lines = inquires_lines g.S.Store c.args.connection.now c.versions_of.new.connection c.args.revision (Err c.in_err-standing.field-0.0) asks.told asks.asked asks.leaves asks.cause asks.still in
    let many : most_versions ≤ c.args.revision = omega arith in
    inquires_on g.S.Store c.args.connection.now c.versions_of.new.connection _ _ _ _ _ _ _ c.from_residual.result c.from_residual.ensures.1 (λ question h. (many, h)) (λ commands h. h) lines

pub returns-in_err-standing-clause-damaged : goal.returns-in_err-standing-clause-damaged
returns-in_err-standing-clause-damaged g c =
    let asks = c.in_err-standing.ensures in
    let why = c.in_err-standing.field-0.0 in
    let many : most_versions ≤ c.args.revision = omega arith in
    told_on _ why c.from_residual.result c.from_residual.ensures.1
    (lines_named g.S.Store c.args.connection.now c.versions_of.new.connection c.args.revision (Err why) many asks.leaves asks.read)
