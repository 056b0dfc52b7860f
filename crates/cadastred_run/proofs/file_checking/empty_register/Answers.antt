use Rattle.cadastred_run.proofs.CheckingLemmas.{made_empty, unmade}
use Rattle.cadastred_run.proofs.file_checking.empty_register.Goals as goal

pub returns-in-Ok-create-clause-empty : goal.returns-in-Ok-create-clause-empty
returns-in-Ok-create-clause-empty c =
    made_empty c.in-Ok.connection c.create.result c.in-Ok-create.register c.create.ensures c.in-Ok-create.is c.in-Ok.ensures.empty.2

pub returns-clause-cause : goal.returns-clause-cause
returns-clause-cause c =
    unmade c.in-Ok.connection c.create.result (c.in-Err.fault, c.in-Err.field-0-1) c.create.ensures c.in-Err.is c.in-Ok.ensures.empty.2
