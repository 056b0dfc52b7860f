use Rattle.std.proofs.Common.{◌≡◌, chars, false, rules, subst}
use Rattle.cad_feature.specs.Limits.{with_value}
use Rattle.cad_feature.specs.Values.{a_text}
use Rattle.cad_range.specs.Ranges.{lies_between}
use Rattle.cad_extents.proofs.PlaceLemmas.{no_text}
use Rattle.cad_extents.proofs.noted.has_text.Goals as goal

pub returns-else-ne : goal.returns-else-ne
returns-else-ne c = λ none d marked.
    let same : c.args.low.now ≡ c.args.high.now = search rules in
    subst (λ high. lies_between (with_value (a_text (chars c.args.low.now))) (with_value (a_text (chars high))) d ≡ false) same
    (no_text c.args.marks.now (chars c.args.low.now) (search rules) d marked)
