use Rattle.std.proofs.Common.{◌∙◌, ap}
use Rattle.cql_tree.specs.Views.{syntax_of}
use Rattle.cql_parser.proofs.Nodes.{in_made}
use Rattle.cql_parser.proofs.node.in_tree.Goals as goal

pub returns : goal.returns
returns c = ap syntax_of c.in_ok-new.ensures.ok ∙ in_made c.args.is_negated c.args.value c.args.first c.args.others
