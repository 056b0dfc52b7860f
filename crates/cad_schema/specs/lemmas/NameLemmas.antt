-- What is proved for each collection separately, and what follows for all collections.
use Rattle.std.proofs.Common.{◌≡◌, ℕ, List, [], ◌∷◌, Bool, true, false, true≢false, not, Some, Contains, cond, find, ap, refl, sym, ◌∙◌, arith}
use Rattle.std.specs.List.{list_any}
use Rattle.std.proofs.lemmas.List.Folds.{list_any_at}
use Rattle.std.specs.Str.{bytes_eq}
use Rattle.std.proofs.lemmas.Slice.Eq.{bytes_eq-Decides}
use Rattle.cad_schema.specs.declared.collection.Collection.{Collection}
use Rattle.cad_schema.specs.declared.collection.Collection.TheVariants.{Parcels, Rights, Restrictions, Units, Parties, Responsibilities}
use Rattle.cad_schema.specs.Collections.{collections, name_of, NamesAreReadBack, WhatIsReadHasTheName}

-- the list of all collections contains each one
pub contained : (c : Collection) → Contains collections c
contained Parcels = (0, omega arith, refl)
contained Rights = (1, omega arith, refl)
contained Restrictions = (2, omega arith, refl)
contained Units = (3, omega arith, refl)
contained Parties = (4, omega arith, refl)
contained Responsibilities = (5, omega arith, refl)

-- so each collection passes a test that all collections of the list pass
pub each_passes : (test : Collection → Bool) → list_any (λ c. not (test c)) collections ≡ false → (c : Collection) → test c ≡ true
each_passes test all c = go (test c) refl
  where
    go : (b : Bool) → test c ≡ b → test c ≡ true
    go true e = e
    go false e =
        let at = contained c in
        absurd (true≢false (sym (list_any_at (λ c. not (test c)) collections at.0 c at.1 (ap (λ d. not (test d)) at.2 ∙ ap not e)) ∙ all))

pub names_are_read_back : NamesAreReadBack
names_are_read_back Parcels = refl
names_are_read_back Rights = refl
names_are_read_back Restrictions = refl
names_are_read_back Units = refl
names_are_read_back Parties = refl
names_are_read_back Responsibilities = refl

-- what is found in a list of collections has the name that is looked for
found_has : (name : List ℕ) (c : Collection) (cs : List Collection) → find (λ c. bytes_eq name (name_of c)) cs ≡ Some c → name ≡ name_of c
found_has name c [] e = absurd cc
found_has name c (d ∷ cs) e = go (bytes_eq name (name_of d)) refl (found_has name c cs) e
  where
    go : (b : Bool) → bytes_eq name (name_of d) ≡ b → (find (λ c. bytes_eq name (name_of c)) cs ≡ Some c → name ≡ name_of c)
        → cond b (Some d) (find (λ c. bytes_eq name (name_of c)) cs) ≡ Some c → name ≡ name_of c
    go true same later e = let is : d ≡ c = cc in (bytes_eq-Decides name (name_of d)).0 same ∙ ap name_of is
    go false other later e = later e

pub what_is_read_has_the_name : WhatIsReadHasTheName
what_is_read_has_the_name name c e = found_has name c collections e
