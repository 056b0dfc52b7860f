-- What sources that are made of others have.
use Rattle.std.proofs.Common.{◌≡◌, ◌∙◌, ℕ, Bool, ◌&&◌, ◌||◌, ap}
use Rattle.cad_positions.specs.declared.front.Front.TheVariants.{Unknown}
use Rattle.cad_positions.specs.declared.source.Source.{Source}
use Rattle.cad_positions.specs.declared.source.Source.TheVariants as source
use Rattle.cad_positions.specs.declared.source.Tested.{Tested}
use Rattle.cad_positions.specs.declared.source.Met.{Met}
use Rattle.cad_positions.specs.declared.source.Joined.{Joined}
use Rattle.cad_positions.specs.Has.{has, has_Tested, has_Met, has_Joined}
use Rattle.cad_positions.specs.Held.{has_rank}

pub made_joined : (j : Joined) (a b : Source) (k : ℕ) → j.first_front ≡ Unknown → j.second_front ≡ Unknown → j.first.value ≡ a → j.second.value ≡ b → has (source.Joined j) k ≡ (has a k || has b k)
made_joined j a b k f g p q = ap (λ (h : ℕ → Bool). h k) (has_Joined j) ∙ rw (f, g, p, q)

pub made_met : (m : Met) (a b : Source) (k : ℕ) → m.first.value ≡ a → m.second.value ≡ b → has (source.Met m) k ≡ (has a k && has b k)
made_met m a b k p q = ap (λ (h : ℕ → Bool). h k) (has_Met m) ∙ rw (p, q)

pub made_tested : (t : Tested) (a : Source) (k : ℕ) → t.source.value ≡ a → has (source.Tested t) k ≡ (has a k && has_rank t.end t.ranks.now t.from t.to k)
made_tested t a k p = ap (λ (h : ℕ → Bool). h k) (has_Tested t) ∙ rw p
