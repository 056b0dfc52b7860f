use Rattle.std.proofs.Common.{sym, subst}
use Rattle.std.specs.List.Sorted.{IsStrictlySortedBy}
use Rattle.cad_feature.specs.Features.{by_identifier}
use Rattle.cad_run.specs.Slices.{identifier}
use Rattle.cad_run.specs.lemmas.TakenLemmas.{nothing_rises}
use Rattle.cad_run.proofs.PlaceLemmas.{advanced, found_advanced, found_place, found_rises, passed_place}
use Rattle.cad_run.proofs.search.Search.one_step.Goals as goal

pub returns-in-Over-clause-ascending : goal.returns-in-Over-clause-ascending
returns-in-Over-clause-ascending g c =
    let step = rw c.in-Over.is at c.in_ok-step.ensures.step in
    subst (IsStrictlySortedBy by_identifier) (sym step.1) nothing_rises

pub returns-in-Passed-clause-ascending : goal.returns-in-Passed-clause-ascending
returns-in-Passed-clause-ascending g c =
    let step = rw c.in-Passed.is at c.in_ok-step.ensures.step in
    subst (IsStrictlySortedBy by_identifier) (sym step.0) c.requires.ascending

pub returns-in-Found-clause-ascending : goal.returns-in-Found-clause-ascending
returns-in-Found-clause-ascending g c =
    let step = rw c.in-Found.is at c.in_ok-step.ensures.step in
    found_rises c.take.result c.in-Found.feature.now _ _ c.requires.ascending step

pub returns-in-Passed-clause-place : goal.returns-in-Passed-clause-place
returns-in-Passed-clause-place g c =
    let step = rw c.in-Passed.is at c.in_ok-step.ensures.step in
    passed_place c.args.self.now c.pass.new.self (identifier c.in-Passed.last) _ _ c.pass.ensures.after step.0 step.1

pub returns-in-Found-clause-place : goal.returns-in-Found-clause-place
returns-in-Found-clause-place g c =
    let step = rw c.in-Found.is at c.in_ok-step.ensures.step in
    found_place c.take.result c.args.self.now c.take.new.self c.in-Found.feature.now _ _ c.requires.ascending step c.take.ensures.after

pub returns-in-Passed-clause-onward : goal.returns-in-Passed-clause-onward
returns-in-Passed-clause-onward g c =
    advanced c.args.self.now c.pass.new.self (identifier c.in-Passed.last) _ _ c.pass.ensures.after (rw c.in-Passed.is at c.in_ok-step.ensures.onward)

pub returns-in-Found-clause-onward : goal.returns-in-Found-clause-onward
returns-in-Found-clause-onward g c =
    found_advanced c.take.result c.args.self.now c.take.new.self c.in-Found.feature.now _ _ (rw c.in-Found.is at c.in_ok-step.ensures.onward) c.take.ensures.after
