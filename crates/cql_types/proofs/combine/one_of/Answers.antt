use Rattle.std.proofs.Common.{◌≡◌, ◌⊎◌, inl, inr, Some, ap}
use Rattle.cql_types.specs.declared.filter.TextTerm.{TextTerm}
use Rattle.cql_types.specs.declared.judged.Node.{Node}
use Rattle.cql_types.specs.declared.judged.Node.TheVariants as n
use Rattle.cql_types.specs.Means.{whole_of, text_of, day_of, flag_of, in_whole, in_text, in_day, in_flag}
use Rattle.cql_types.proofs.combine.one_of.Goals as goal

pub returns-in_ok-items-in-Whole-clause-ok : goal.returns-in_ok-items-in-Whole-clause-ok
returns-in_ok-items-in-Whole-clause-ok c = λ b f h. in_whole _ (ap whole_of c.in-Whole.is) c.in_ok-items-in-Whole.ensures.ok h

a_text : {x : Node} {a : TextTerm} → (x ≡ n.Text a) ⊎ (x ≡ n.Pattern a) → text_of x ≡ Some a
a_text (inl e) = ap text_of e
a_text (inr e) = ap text_of e

pub returns-in_ok-items-in-Text-clause-ok : goal.returns-in_ok-items-in-Text-clause-ok
returns-in_ok-items-in-Text-clause-ok c = λ b f h. in_text _ (a_text c.in-Text.is) c.in_ok-items-in-Text.ensures.ok h

pub returns-in_ok-items-in-Day-clause-ok : goal.returns-in_ok-items-in-Day-clause-ok
returns-in_ok-items-in-Day-clause-ok c = λ b f h. in_day _ (ap day_of c.in-Day.is) c.in_ok-items-in-Day.ensures.ok h

pub returns-in_ok-items-in-Flag-clause-ok : goal.returns-in_ok-items-in-Flag-clause-ok
returns-in_ok-items-in-Flag-clause-ok c = λ b f h. in_flag _ (ap flag_of c.in-Flag.is) c.in_ok-items-in-Flag.ensures.ok h

pub returns-in_ok-items-in-Truth-clause-ok : goal.returns-in_ok-items-in-Truth-clause-ok
returns-in_ok-items-in-Truth-clause-ok c = λ b f h. in_flag _ (ap flag_of c.in-Truth.is) c.in_ok-items-in-Truth.ensures.ok h
