use Rattle.std.proofs.Common.{◌≡◌, Some, rules}
use Rattle.std.specs.Result.{result_err}
use Rattle.cad_ask.specs.Faults.{of_filter}
use Rattle.cad_ask.proofs.AskLemmas.{filter_told}
use Rattle.cad_ask.proofs.ask.read_filter.Goals as goal

pub returns-in_err-filter : goal.returns-in_err-filter
returns-in_err-filter c =
    let told : result_err c.from_residual.result ≡ Some (of_filter c.in_err-filter.field-0.0) = search rules in
    filter_told c.args.collection c.args.text.now c.from_residual.result c.in_err-filter.field-0.0 told c.in_err-filter.ensures.answer
