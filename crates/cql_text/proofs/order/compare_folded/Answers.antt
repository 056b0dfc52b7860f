use Rattle.std.proofs.Common.{◌≡◌, refl, subst, sym}
use Rattle.std.proofs.lemmas.Iterator.Search.{cmp_from_yields_List}
use Rattle.std.specs.Ordering.{nat_cmp}
use Rattle.std.specs.Str.Iter.{chars_rest, chars_steps}
use Rattle.std.specs.declared.str.Chars.{Chars}
use Rattle.unicode_normalization.proofs.IterLemmas.{Spells-chars}
use Rattle.caseless.specs.CaseFold.{CaseFoldSteps}
use Rattle.caseless.proofs.CaselessLemmas.{Spells-CaseFold}
use Rattle.cql_text.proofs.order.compare_folded.Goals as goal

pub returns : goal.returns
returns c =
    cmp_from_yields_List {U = Chars} {T = Chars} {steps = CaseFoldSteps chars_steps} {others = chars_steps} {v = λ x. x} {s = c.default_case_fold.result} (λ s it. it ≡ s) c.chars-2.result nat_cmp c.cmp.result c.cmp.ensures.ran
    (record { runs = Spells-CaseFold (c.default_case_fold.ensures.text _ (Spells-chars _ _ c.utf8.text c.chars.ensures.rest)) })
    (λ it becomes. record { runs = Spells-chars it _ c.utf8.other (subst (λ s. chars_rest s ≡ c.args.other.now) (sym becomes) c.chars-2.ensures.rest) })
    (λ x y. refl)
