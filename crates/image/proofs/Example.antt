-- A worked example of the walk: 9 ends in field 1, so two levels of blocks, and under each one or two ends in field 2.
-- Assumes nothing.
use mathlib.Core.Path.{◌≡◌, refl}
use mathlib.Core.List.{[], ◌∷◌}
use Prim.Native.Nat.{ℕ}
use Rattle.model.specs.Rules.{Tree, names, stop, loc}
use Rattle.cells.specs.Text.{width}
use Rattle.std.specs.Prelude.{None}
use Rattle.lookup.specs.Walk.{led_to, through}
use Rattle.blocks.specs.Blocks.{pow8, least_from, depth, blocks_up, each_of, level, lay, own_blocks, under_blocks, entry, end_at_place, link_at_place, chain_blocks, below_blocks, blocks_text}
use Rattle.image.specs.Walk.{rank_in, seek_blocks, walk_blocks}

one : ℕ → Tree ℕ
one p = loc 255 (names p) stop

two : Tree ℕ
two = loc 16 (names 1) (loc 255 (names 2) stop)

many : Tree ℕ
many = loc 10 (one 0) (loc 20 two (loc 30 (one 0) (loc 40 (one 3) (loc 50 (one 0) (loc 60 (one 0) (loc 70 (one 0) (loc 80 (one 0) (loc 90 two stop))))))))

here : walk_blocks (blocks_text many) (15 ∷ 17 ∷ []) ≡ led_to 2 3
unfolding one two many pow8 least_from depth blocks_up width each_of level lay own_blocks under_blocks entry end_at_place link_at_place chain_blocks below_blocks blocks_text rank_in seek_blocks through walk_blocks
here = refl

there : walk_blocks (blocks_text many) (90 ∷ 16 ∷ []) ≡ led_to 1 3
unfolding one two many pow8 least_from depth blocks_up width each_of level lay own_blocks under_blocks entry end_at_place link_at_place chain_blocks below_blocks blocks_text rank_in seek_blocks through walk_blocks
there = refl

lost : walk_blocks (blocks_text many) (91 ∷ 16 ∷ []) ≡ None
unfolding one two many pow8 least_from depth blocks_up width each_of level lay own_blocks under_blocks entry end_at_place link_at_place chain_blocks below_blocks blocks_text rank_in seek_blocks through walk_blocks
lost = refl
