use Rattle.std.proofs.Common.{◌∙◌, ap, Some, option_map}
use Rattle.cad_feature.specs.Features.{Item, identifier_of}
use Rattle.cad_run.specs.Slices.{identifier, later}
use Rattle.cad_run.proofs.search.Search.take.Goals as goal

pub returns-then-not-branch-clause-after : goal.returns-then-not-branch-clause-after
returns-then-not-branch-clause-after g c = λ xs. c.pass.ensures.after xs ∙ ap (λ (x : Item). later (Some (identifier_of x)) (later (option_map identifier c.args.self.now.after) xs)) c.feature.view_is

pub returns-then-len-self-clause-after : goal.returns-then-len-self-clause-after
returns-then-len-self-clause-after g c = λ xs. c.pass.ensures.after xs ∙ ap (λ (x : Item). later (Some (identifier_of x)) (later (option_map identifier c.args.self.now.after) xs)) c.feature.view_is

pub returns-clause-after : goal.returns-clause-after
returns-clause-after g c = λ xs. c.pass.ensures.after xs ∙ ap (λ (x : Item). later (Some (identifier_of x)) (later (option_map identifier c.args.self.now.after) xs)) c.feature.view_is
