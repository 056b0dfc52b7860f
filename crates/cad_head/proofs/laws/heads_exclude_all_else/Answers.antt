use Rattle.std.proofs.Common.{ℕ, List, [], ◌++◌, ◌≡◌, drop, sym, subst, append-nil}
use Rattle.cad_head.specs.Heads.{Fits}
use Rattle.cad_head.proofs.laws.heads_exclude_all_else.Goals as goal

pub returns : goal.returns
returns c bytes headers spans found =
    let same : bytes ++ [] ≡ bytes = append-nil bytes in
    let rest : List ℕ = drop spans.len bytes in
    (λ none. none found.0 rest found.1.fits, λ hopeless. hopeless [] found.0 rest (subst (λ (b : List ℕ). Fits b found.0 rest) (sym same) found.1.fits))
