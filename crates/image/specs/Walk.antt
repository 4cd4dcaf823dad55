-- The walk of an image's blocks, whatever the words hold: block k is the words 16 k to 16 k + 15, 8 ends and then 8 links.
-- Assumes nothing: these are definitions.
use Rattle.std.specs.Prelude.{cond, List, ℕ, zero, suc, ◌+◌, ◌-◌, ◌*◌, ltb, leb, length, get_or, Option, None}
use Rattle.blocks.specs.Blocks.{down_mark}
use Rattle.lookup.specs.declared.Walked.{Walked}
use Rattle.lookup.specs.Walk.{led_to, through}

-- one where e is below v
abbrev pub is_below : ℕ → ℕ → ℕ
is_below e v = cond (ltb e v) 1 0

-- how many of h 0, .., h (n - 1) are below v: they are counted, and no order of them is asked
abbrev pub rank : ℕ → ℕ → (ℕ → ℕ) → ℕ
rank zero v h = 0
rank (suc n) v h = is_below (h 0) v + rank n v (λ i. h (suc i))

-- how many ends of block k are below v, and the link behind as many
unfoldable pub rank_in : List ℕ → ℕ → ℕ → ℕ
rank_in blocks k v = rank 8 v (λ j. get_or blocks (16 * k + j) 0)

abbrev pub link_in : List ℕ → ℕ → ℕ → ℕ
link_in blocks k j = get_or blocks (16 * k + (8 + j)) 0

-- One field with the value v, at block k, where r blocks of the field were read and n more may be. The block is read, and the link behind the ends below the value leads to a block of the same field or, with the mark, down. The walk is lost at "a link outside the image", at "a block whose ends are all below the value", "or after 8 blocks of one field".
unfoldable pub seek_blocks : List ℕ → ℕ → ℕ → ℕ → ℕ → Option Walked
seek_blocks blocks v zero k r = None
seek_blocks blocks v (suc n) k r =
    let j = rank_in blocks k v in
    let link = link_in blocks k j in
    cond (leb (16 * k + 16) (length blocks))
    (cond (ltb j 8)
    (cond (ltb link down_mark) (seek_blocks blocks v n link (r + 1)) (led_to (link - down_mark) (r + 1)))
    None)
    None

-- The walk of the fields whose values are left, from block k on, where r blocks were read before: in each at most 8 blocks.
abbrev pub through_blocks : List ℕ → List ℕ → ℕ → ℕ → Option Walked
through_blocks blocks = through (λ k v. seek_blocks blocks v 8 k 0)

-- the walk of the blocks for the values, one for each field, from block 0 on: where it comes to, and the "blocks read"
unfoldable pub walk_blocks : List ℕ → List ℕ → Option Walked
walk_blocks blocks vs = through_blocks blocks vs 0 0
