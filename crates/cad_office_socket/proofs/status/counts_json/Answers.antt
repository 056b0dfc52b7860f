use Rattle.std.proofs.Common.{◌≡◌, ◌∙◌, ◌⊎◌, inl, inr, List, [], ◌∷◌, refl, sym, ap}
use Rattle.std.proofs.lemmas.Slice.Zip.{either_empty_from_Zip}
use Rattle.std.specs.List.{fold, zip}
use Rattle.serde_json.proofs.Views.{view-Object}
use Rattle.serde_json.specs.Data.{object}
use Rattle.serde_json.specs.View.{members_view}
use Rattle.cad_office_socket.specs.Statuses.{with_count}
use Rattle.cad_office_socket.proofs.status.counts_json.Goals as goal

-- where one of two lists has ended, no pair is left
none_paired : {A B : Type 0} (ks : List A) (vs : List B) → (ks ≡ []) ⊎ (vs ≡ []) → zip ks vs ≡ []
none_paired [] vs ended = refl
none_paired (k ∷ ks) [] ended = refl
none_paired (k ∷ ks) (v ∷ vs) (inl ended) = absurd cc
none_paired (k ∷ ks) (v ∷ vs) (inr ended) = absurd cc

pub returns : goal.returns
returns c =
    let none = none_paired _ _ (either_empty_from_Zip _ c.next.new.self _ c.in-None.is c.next.ensures.steps) in
    view-Object c.loop-class.members ∙ ap object (sym (ap (fold with_count (members_view c.loop-class.members.entries)) none) ∙ c.loop-class.invariant)
