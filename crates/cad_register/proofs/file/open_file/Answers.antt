use Rattle.sqlite.specs.Files.{file_state}
use Rattle.sqlite.specs.WalFiles.{image_at}
use Rattle.cad_register.proofs.ImageLemmas.{finds_register}
use Rattle.cad_register.proofs.file.open_file.Goals as goal

pub returns-in-Ok-clause-found : goal.returns-in-Ok-clause-found
returns-in-Ok-clause-found g c = finds_register (image_at g.S.Start) (file_state c.in-Ok.connection) c.in-Ok.ensures.opened c.in-Ok.ensures.found
