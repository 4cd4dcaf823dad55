-- Worked examples of the definitions: a chain of one block, and one of 9 ends, which takes two levels. Each holds by computation.
-- Assumes nothing.
use Rattle.std.specs.Prelude.{◌≡◌, refl, [], ◌∷◌, ℕ, take, drop}
use Rattle.model.specs.Rules.{Tree, names, stop, loc}
use Rattle.cells.specs.Text.{width}
use Rattle.blocks.specs.Blocks.{top_end, pow8, least_from, depth, blocks_up, each_of, level, lay, own_blocks, under_blocks, blocks, entry, end_at_place, link_at_place, chain_blocks, below_blocks, blocks_text, block_reads}

-- two ends of the last field, with the places 5 and 6 below them: 8 ends, of which six are unused, and 8 links
one_block : blocks_text (loc 7 (names 5) (loc 255 (names 6) stop)) ≡ 7 ∷ 255 ∷ top_end ∷ top_end ∷ top_end ∷ top_end ∷ top_end ∷ top_end ∷ 2147483653 ∷ 2147483654 ∷ 0 ∷ 0 ∷ 0 ∷ 0 ∷ 0 ∷ 0 ∷ []
unfolding pow8 least_from depth blocks_up width each_of level lay own_blocks under_blocks entry end_at_place link_at_place chain_blocks below_blocks blocks_text
one_block = refl

-- 9 ends in field 1; below each one end in field 2, which names the place given, but for the second, which has two ends
one : ℕ → Tree ℕ
one p = loc 255 (names p) stop

two : Tree ℕ
two = loc 16 (names 15) (loc 255 (names 30) stop)

many : Tree ℕ
many = loc 10 (one 0) (loc 20 two (loc 30 (one 0) (loc 40 (one 45) (loc 50 (one 0) (loc 60 (one 0) (loc 70 (one 0) (loc 80 (one 0) (loc 90 (one 15) stop))))))))

-- ceil(9 / 8) = 2 blocks of ends, one above them, and one for each chain below: 12
twelve : blocks many ≡ 12
unfolding one two many pow8 least_from depth blocks_up width own_blocks under_blocks
twelve = refl

-- the root: the last end of block 1, and of block 2, whose last end is unused; and the links to these blocks
root : take 16 (blocks_text many) ≡ 80 ∷ top_end ∷ top_end ∷ top_end ∷ top_end ∷ top_end ∷ top_end ∷ top_end ∷ 1 ∷ 2 ∷ 0 ∷ 0 ∷ 0 ∷ 0 ∷ 0 ∷ 0 ∷ []
unfolding one two many pow8 least_from depth blocks_up width each_of level lay own_blocks under_blocks entry end_at_place link_at_place chain_blocks below_blocks blocks_text
root = refl

-- block 2: the ninth end, and the link down to block 11
last : take 16 (drop 32 (blocks_text many)) ≡ 90 ∷ top_end ∷ top_end ∷ top_end ∷ top_end ∷ top_end ∷ top_end ∷ top_end ∷ 2147483659 ∷ 0 ∷ 0 ∷ 0 ∷ 0 ∷ 0 ∷ 0 ∷ 0 ∷ []
unfolding one two many pow8 least_from depth blocks_up width each_of level lay own_blocks under_blocks entry end_at_place link_at_place chain_blocks below_blocks blocks_text
last = refl

-- a walk reads two blocks in field 1 and one in field 2
three : block_reads many (15 ∷ 17 ∷ []) ≡ 3
unfolding one two many pow8 least_from depth width
three = refl
