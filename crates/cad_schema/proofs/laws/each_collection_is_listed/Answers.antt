use Rattle.cad_schema.specs.lemmas.NameLemmas.{contained}
use Rattle.cad_schema.proofs.laws.each_collection_is_listed.Goals as goal

pub returns : goal.returns
returns c = contained c.args.collection
