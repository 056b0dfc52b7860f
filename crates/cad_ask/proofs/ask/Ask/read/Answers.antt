use Rattle.cad_parameters.specs.Pairs.{pairs_of}
use Rattle.cad_ask.proofs.AskLemmas.{asked, refused}
use Rattle.cad_ask.proofs.ask.Ask.read.Goals as goal

pub returns-clause-asked : goal.returns-clause-asked
returns-clause-asked c = asked c.fault_or_asks.ensures c.args.collection (pairs_of c.args.query.now) c.read_ask.result c.read_ask.ensures

pub returns-clause-refused : goal.returns-clause-refused
returns-clause-refused c =
    refused c.fault_or_asks.ensures c.one_first_fault.ensures c.args.collection (pairs_of c.args.query.now) c.read_ask.result c.read_ask.ensures
