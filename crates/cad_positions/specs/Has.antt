-- The positions that are left of a tree of sources.
use Rattle.std.specs.Prelude.{◌≡◌, ℕ, Bool, false, ◌&&◌, ◌||◌, nat_lt, nat_le, List}
use Rattle.std.specs.List.{list_all, list_any}
use Rattle.std.proofs.Common.{◌∙◌, ap, sym}
use Rattle.cad_positions.specs.declared.source.Source.{Source}
use Rattle.cad_positions.specs.declared.source.Source.TheVariants as source
use Rattle.cad_positions.specs.declared.source.Source.TheOpen.{Source-F, Tested-F, Met-F, Joined-F}
use Rattle.cad_positions.specs.declared.source.Source.TheFolds.{fold-Source, fold-roll-Source}
use Rattle.cad_positions.specs.declared.source.Tested.{Tested, fold_out-Tested}
use Rattle.cad_positions.specs.declared.source.Met.{Met, fold_out-Met}
use Rattle.cad_positions.specs.declared.source.Joined.{Joined, fold_out-Joined}
use Rattle.cad_positions.specs.Held.{is_left, has_rank}
use Rattle.cad_positions.specs.Fronts.{behind}

-- a set of positions
abbrev pub Test : Type 0
Test = ℕ → Bool

-- from one position on, below another
abbrev pub scanned : ℕ → ℕ → Test
scanned at end k = nat_le at k && nat_lt k end

-- those of a source whose ranks lie in a range
abbrev pub tested_step : Tested-F Test Test Test Test → Test
tested_step t k = t.source.value k && has_rank t.end t.ranks.now t.from t.to k

-- those of both
abbrev pub met_step : Met-F Test Test Test Test → Test
met_step m k = m.first.value k && m.second.value k

-- those of either, behind its front
abbrev pub joined_step : Joined-F Test Test Test Test → Test
joined_step j k = behind j.first_front j.first.value k || behind j.second_front j.second.value k

-- a source, with what the sources inside have in their places
abbrev pub has_step : Source-F Test Test Test Test → Test
has_step Source-F.Empty k = false
has_step (Source-F.Scan at end) k = scanned at end k
has_step (Source-F.Listed listed) k = is_left listed.rows.items listed.at k
has_step (Source-F.Tested tested) k = tested k
has_step (Source-F.Met met) k = met k
has_step (Source-F.Joined joined) k = joined k

-- the tree has the position
abbrev pub has : Source → Test
has = fold-Source Test Test Test Test has_step joined_step met_step tested_step

-- the same of the parts of a tree
abbrev pub has_tested : Tested → Test
has_tested t k = has t.source.value k && has_rank t.end t.ranks.now t.from t.to k

abbrev pub has_met : Met → Test
has_met m k = has m.first.value k && has m.second.value k

abbrev pub has_joined : Joined → Test
has_joined j k = behind j.first_front (has j.first.value) k || behind j.second_front (has j.second.value) k

-- some source has the position
abbrev pub has_any : List Source → Test
has_any sources k = list_any (λ s. has s k) sources

-- all sources have it
abbrev pub has_all : List Source → Test
has_all sources k = list_all (λ s. has s k) sources

-- ---- what the tree of each shape has

pub has_Empty : has source.Empty ≡ (λ k. false)
has_Empty = ap has (sym source.rolls-Empty) ∙ fold-roll-Source Test Test Test Test has_step joined_step met_step tested_step Source-F.Empty

pub has_Tested : (t : Tested) → has (source.Tested t) ≡ has_tested t
has_Tested t =
    ap has (sym (source.rolls-Tested t)) ∙ fold-roll-Source Test Test Test Test has_step joined_step met_step tested_step (Source-F.Tested t)
    ∙ fold_out-Tested Test Test Test Test has_step joined_step met_step tested_step t

pub has_Met : (m : Met) → has (source.Met m) ≡ has_met m
has_Met m =
    ap has (sym (source.rolls-Met m)) ∙ fold-roll-Source Test Test Test Test has_step joined_step met_step tested_step (Source-F.Met m)
    ∙ fold_out-Met Test Test Test Test has_step joined_step met_step tested_step m

pub has_Joined : (j : Joined) → has (source.Joined j) ≡ has_joined j
has_Joined j =
    ap has (sym (source.rolls-Joined j)) ∙ fold-roll-Source Test Test Test Test has_step joined_step met_step tested_step (Source-F.Joined j)
    ∙ fold_out-Joined Test Test Test Test has_step joined_step met_step tested_step j
