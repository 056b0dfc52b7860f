-- Slots, the commands in them, and how many are missing.
use Rattle.std.proofs.Common.{◌≡◌, ◌≢◌, ℕ, zero, suc, ◌+◌, ◌≤◌, ◌<◌, Bool, true, false, not, cond, List, [], ◌∷◌, ◌++◌, length, get_or, set, map, Some, None, is_none, refl, sym, ap, arith}
use Rattle.cad_versions.specs.declared.command.Command.{Command}
use Rattle.cad_register.specs.Journal.{commands_behind}
use Rattle.cad_register.specs.inner.Slots.{slots_in, missing_in}

-- ---- how many slots there are

pub slots_length : (cs : List Command) (gs : List Bool) → length cs ≡ length gs → length (slots_in cs gs) ≡ length gs
slots_length [] [] even = refl
slots_length [] (g ∷ gs) even = absurd (omega (arith, even))
slots_length (c ∷ cs) [] even = absurd (omega (arith, even))
slots_length (c ∷ cs) (g ∷ gs) even = let shorter : length cs ≡ length gs = omega (arith, even) in omega (arith, slots_length cs gs shorter)

-- ---- one slot

pub slot_missing : (cs : List Command) (gs : List Bool) (at : ℕ) (g : Bool) → length cs ≡ length gs → at < length gs → get_or gs at g ≡ false → get_or (slots_in cs gs) at None ≡ None
slot_missing cs [] at g even low is = absurd (omega (arith, low))
slot_missing [] (h ∷ gs) at g even low is = absurd (omega (arith, even))
slot_missing (c ∷ cs) (h ∷ gs) zero g even low is = ap (λ t. cond t (Some c) None) is
slot_missing (c ∷ cs) (h ∷ gs) (suc at) g even low is = slot_missing cs gs at g (omega (arith, even)) (omega (arith, low)) is

pub slot_given : (cs : List Command) (gs : List Bool) (at : ℕ) (g : Bool) (c : Command) → length cs ≡ length gs → at < length gs → get_or gs at g ≡ true → get_or (slots_in cs gs) at None ≡ Some (get_or cs at c)
slot_given cs [] at g d even low is = absurd (omega (arith, low))
slot_given [] (h ∷ gs) at g d even low is = absurd (omega (arith, even))
slot_given (c ∷ cs) (h ∷ gs) zero g d even low is = ap (λ t. cond t (Some c) None) is
slot_given (c ∷ cs) (h ∷ gs) (suc at) g d even low is = slot_given cs gs at g d (omega (arith, even)) (omega (arith, low)) is

pub slot_empty : (cs : List Command) (gs : List Bool) (at : ℕ) (g : Bool) → length cs ≡ length gs → at < length gs → not (get_or gs at g) ≡ is_none (get_or (slots_in cs gs) at None)
slot_empty cs [] at g even low = absurd (omega (arith, low))
slot_empty [] (h ∷ gs) at g even low = absurd (omega (arith, even))
slot_empty (c ∷ cs) (true ∷ gs) zero g even low = refl
slot_empty (c ∷ cs) (false ∷ gs) zero g even low = refl
slot_empty (c ∷ cs) (h ∷ gs) (suc at) g even low = slot_empty cs gs at g (omega (arith, even)) (omega (arith, low))

pub slot_set : (cs : List Command) (gs : List Bool) (at : ℕ) (c : Command) → length cs ≡ length gs → slots_in (set cs at c) (set gs at true) ≡ set (slots_in cs gs) at (Some c)
slot_set [] [] at c even = refl
slot_set [] (g ∷ gs) at c even = absurd (omega (arith, even))
slot_set (d ∷ cs) [] at c even = absurd (omega (arith, even))
slot_set (d ∷ cs) (g ∷ gs) zero c even = refl
slot_set (d ∷ cs) (g ∷ gs) (suc at) c even = ap (λ os. cond g (Some d) None ∷ os) (slot_set cs gs at c (omega (arith, even)))

-- ---- how many are missing

pub missing_few : (gs : List Bool) → missing_in gs ≤ length gs
missing_few [] = omega arith
missing_few (true ∷ gs) = omega (arith, missing_few gs)
missing_few (false ∷ gs) = omega (arith, missing_few gs)

pub missing_push : (gs : List Bool) → missing_in (gs ++ false ∷ []) ≡ missing_in gs + 1
missing_push [] = refl
missing_push (true ∷ gs) = omega (arith, missing_push gs)
missing_push (false ∷ gs) = omega (arith, missing_push gs)

pub given_again : (gs : List Bool) (at : ℕ) (g : Bool) → at < length gs → get_or gs at g ≡ true → set gs at true ≡ gs
given_again [] at g low is = absurd (omega (arith, low))
given_again (h ∷ gs) zero g low is = ap (λ x. x ∷ gs) (sym is)
given_again (h ∷ gs) (suc at) g low is = ap (λ l. h ∷ l) (given_again gs at g (omega (arith, low)) is)

pub one_given : (gs : List Bool) (at : ℕ) (g : Bool) → at < length gs → get_or gs at g ≡ false → missing_in gs ≡ missing_in (set gs at true) + 1
one_given [] at g low is = absurd (omega (arith, low))
one_given (true ∷ gs) zero g low is = absurd cc
one_given (false ∷ gs) zero g low is = omega arith
one_given (true ∷ gs) (suc at) g low is = omega (arith, one_given gs at g (omega (arith, low)) is)
one_given (false ∷ gs) (suc at) g low is = omega (arith, one_given gs at g (omega (arith, low)) is)

-- ---- all slots

pub none_missing : (cs : List Command) (gs : List Bool) → length cs ≡ length gs → missing_in gs ≡ 0 → map Some cs ≡ slots_in cs gs
none_missing [] [] even none = refl
none_missing [] (g ∷ gs) even none = absurd (omega (arith, even))
none_missing (c ∷ cs) [] even none = absurd (omega (arith, even))
none_missing (c ∷ cs) (true ∷ gs) even none = ap (λ os. Some c ∷ os) (none_missing cs gs (omega (arith, even)) (omega (arith, none)))
none_missing (c ∷ cs) (false ∷ gs) even none = absurd (omega (arith, none))

pub some_missing : (cs : List Command) (gs : List Bool) → length cs ≡ length gs → missing_in gs ≢ 0 → (ds : List Command) → map Some ds ≢ slots_in cs gs
some_missing [] [] even some ds same = some refl
some_missing [] (g ∷ gs) even some ds same = absurd (omega (arith, even))
some_missing (c ∷ cs) [] even some ds same = absurd (omega (arith, even))
some_missing (c ∷ cs) (g ∷ gs) even some [] same = cc
some_missing (c ∷ cs) (true ∷ gs) even some (d ∷ ds) same = some_missing cs gs (omega (arith, even)) (λ none. some (omega (arith, none))) ds cc
some_missing (c ∷ cs) (false ∷ gs) even some (d ∷ ds) same = cc

pub all_missing : (behind : ℕ) (cs : List Command) (gs : List Bool) → length cs ≡ length gs → missing_in gs ≡ length gs → slots_in cs gs ≡ commands_behind behind (length gs) []
all_missing behind [] [] even all = refl
all_missing behind [] (g ∷ gs) even all = absurd (omega (arith, even))
all_missing behind (c ∷ cs) [] even all = absurd (omega (arith, even))
all_missing behind (c ∷ cs) (true ∷ gs) even all = absurd (omega (arith, missing_few gs, all))
all_missing behind (c ∷ cs) (false ∷ gs) even all = ap (λ os. None ∷ os) (all_missing (behind + 1) cs gs (omega (arith, even)) (omega (arith, all)))
