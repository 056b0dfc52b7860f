-- Blocks of cells inside others.
use Rattle.std.proofs.Common.{◌≡◌, ◌∙◌, ℤ, Bool, true, false, Some, refl, sym, arith}
use Rattle.std.specs.Prelude.{int_le, not, ◌&&◌, ◌||◌}
use Rattle.std.proofs.lemmas.Bool.{and_from, and_parts, false≢true}
use Rattle.std.proofs.lemmas.Int.{ints}
use Rattle.cad_grid.specs.Blocks.{Block, is_wide, share_a_cell}
use Rattle.cad_grid.specs.Near.{is_candidate}
use Rattle.cad_extents.specs.Extents.{is_inside, is_part, is_small_in}

part_of_all : (a b c d e f : ℤ) → is_part a b c d ≡ true → is_part c d e f ≡ true → is_part a b e f ≡ true
part_of_all a b c d e f h k = grind (arith, ints)

part_shares : (a b c d from to : ℤ) → is_part a b c d ≡ true → (int_le a to && int_le from b) ≡ true → (int_le c to && int_le from d) ≡ true
part_shares a b c d from to h k = grind (arith, ints)

pub inside_of_all : (a b c : Block) → is_inside a b ≡ true → is_inside b c ≡ true → is_inside a c ≡ true
inside_of_all a b c h k =
    let x = and_parts _ _ h in
    let y = and_parts _ _ k in
    and_from _ _ (part_of_all a.left a.right b.left b.right c.left c.right x.0 y.0) (part_of_all a.low a.high b.low b.high c.low c.high x.1 y.1)

all_shares : (own all asked : Block) → is_inside own all ≡ true → share_a_cell own asked ≡ true → share_a_cell all asked ≡ true
all_shares own all asked h k =
    let x = and_parts _ _ h in
    let y = and_parts _ _ k in
    and_from _ _ (part_shares own.left own.right all.left all.right asked.left asked.right x.0 y.0) (part_shares own.low own.high all.low all.high asked.low asked.high x.1 y.1)

apart_too : (own all asked : Block) → is_inside own all ≡ true → share_a_cell all asked ≡ false → share_a_cell own asked ≡ false
apart_too own all asked h k = go (share_a_cell own asked) refl
  where
    go : (b : Bool) → share_a_cell own asked ≡ b → b ≡ false
    go true e = absurd (false≢true (sym k ∙ all_shares own all asked h e))
    go false e = refl

-- what is small inside a block is small inside one around it
pub small_of_all : (own b c : Block) → is_small_in b own ≡ true → is_inside b c ≡ true → is_small_in c own ≡ true
small_of_all own b c h k =
    let x = and_parts _ _ h in
    and_from _ _ x.0 (inside_of_all own b c x.1 k)

-- what is small inside a block that shares no cell is not looked at
pub not_looked_at : (own all asked : Block) → is_small_in all own ≡ true → share_a_cell all asked ≡ false → is_candidate asked (Some own) ≡ false
not_looked_at own all asked h k = go (is_wide own) h
  where
    go : (w : Bool) → (not w && is_inside own all) ≡ true → (w || share_a_cell own asked) ≡ false
    go true e = absurd (false≢true e)
    go false e = apart_too own all asked e k

-- what is small is small inside a block around it
pub small_in : (own all : Block) → is_wide own ≡ false → is_inside own all ≡ true → is_small_in all own ≡ true
small_in own all w h = rw (w, h) refl

inside_own : (b : Block) → is_inside b b ≡ true
inside_own b = and_from _ _ (part_of_own b.left b.right) (part_of_own b.low b.high)
  where
    part_of_own : (m n : ℤ) → is_part m n m n ≡ true
    part_of_own m n = grind (arith, ints)

pub small_in_own : (b : Block) → is_wide b ≡ false → is_small_in b b ≡ true
small_in_own b w = small_in b b w (inside_own b)
