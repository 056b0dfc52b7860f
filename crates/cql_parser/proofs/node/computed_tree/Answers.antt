use Rattle.std.proofs.Common.{◌∙◌, ap}
use Rattle.cql_tree.specs.Views.{syntax_of}
use Rattle.cql_parser.proofs.Nodes.{computed_made}
use Rattle.cql_parser.proofs.node.computed_tree.Goals as goal

pub returns : goal.returns
returns c = ap syntax_of c.in_ok-new.ensures.ok ∙ computed_made c.args.first c.args.others c.if-is_empty.ensures
