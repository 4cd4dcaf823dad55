-- The frozen image of a tree: blocks of 16 words, 8 ends and then 8 links, level by level, root first.
-- Assumes nothing: these are definitions.
use Rattle.std.specs.Prelude.{cond, List, [], ◌∷◌, ℕ, zero, suc, ◌+◌, ◌*◌, ◌/◌, ltb, leb}
use Rattle.model.specs.Rules.{Tree, names, stop, loc}
use Rattle.cells.specs.Text.{width}

-- an unused end, which is below no value; and a link down, to the next field's chain or to a rule's place
abbrev pub top_end : ℕ
top_end = 4294967295

abbrev pub down_mark : ℕ
down_mark = 2147483648

-- 8 ^ n
unfoldable pub pow8 : ℕ → ℕ
pow8 zero = 1
pow8 (suc n) = 8 * pow8 n

-- from n on, the least number d with m ≤ 8 × 8 ^ d, looked for f times
unfoldable pub least_from : ℕ → ℕ → ℕ → ℕ
least_from m zero n = n
least_from m (suc f) n = cond (leb m (8 * pow8 n)) n (least_from m f (suc n))

-- how many levels of blocks stand above the blocks of the m ends
unfoldable pub depth : ℕ → ℕ
depth m = least_from m m 0

-- "the least L of at least 1 with 8^L not below m"
abbrev pub levels : ℕ → ℕ
levels m = suc (depth m)

-- "The m ends under one location stand in ceil(m / 8) blocks of 8"
abbrev pub parts : ℕ → ℕ
parts m = (m + 7) / 8

-- the blocks of m ends with d levels above them
unfoldable pub blocks_up : ℕ → ℕ → ℕ
blocks_up zero m = parts m
blocks_up (suc d) m = blocks_up d (parts m) + parts m

-- f 0, f 1, .., f (n - 1), and then the words r
unfoldable pub each_of : ℕ → (ℕ → ℕ) → List ℕ → List ℕ
each_of zero f r = r
each_of (suc n) f r = f 0 ∷ each_of n (λ i. f (suc i)) r

-- n blocks side by side, where f gives the ends and g the links, by their place; and then the words r
unfoldable pub level : ℕ → (ℕ → ℕ) → (ℕ → ℕ) → List ℕ → List ℕ
level zero f g r = r
level (suc n) f g r = each_of 8 f (each_of 8 g (level n (λ i. f (8 + i)) (λ i. g (8 + i)) r))

-- the links to n blocks from block b on, and 0 behind them
abbrev pub links_to : ℕ → ℕ → ℕ → ℕ
links_to n b i = cond (ltb i n) (b + i) 0

-- The blocks of m ends with d levels above them, from block a on, and then r: "with blocks of 8 links above them, and so on until one is left". The end of a link is the last end of its block.
unfoldable pub lay : ℕ → ℕ → ℕ → (ℕ → ℕ) → (ℕ → ℕ) → List ℕ → List ℕ
lay zero a m f g r = level (parts m) f g r
lay (suc d) a m f g r = lay d a (parts m) (λ i. f (8 * i + 7)) (links_to (parts m) (a + blocks_up d (parts m))) (level (parts m) f g r)

-- the blocks of a chain itself, and the blocks of all that is under it
unfoldable pub own_blocks : Tree ℕ → ℕ
own_blocks (names b) = 0
own_blocks stop = 0
own_blocks (loc e u t) = blocks_up (depth (width t + 1)) (width t + 1)

unfoldable pub under_blocks : Tree ℕ → ℕ
under_blocks (names b) = 0
under_blocks stop = 0
under_blocks (loc e u t) = own_blocks u + under_blocks u + under_blocks t

-- THE NUMBER OF BLOCKS of a tree
abbrev pub blocks : Tree ℕ → ℕ
blocks t = own_blocks t + under_blocks t

-- where a walk of a tree that is laid from block b on begins; where no field is left, what is named
unfoldable pub entry : Tree ℕ → ℕ → ℕ
entry (names x) b = x
entry stop b = b
entry (loc e u t) b = b

-- the ends of a chain, by their place
unfoldable pub end_at_place : Tree ℕ → ℕ → ℕ
end_at_place (names x) i = top_end
end_at_place stop i = top_end
end_at_place (loc e u t) zero = e
end_at_place (loc e u t) (suc i) = end_at_place t i

-- the links down of a chain, where what is below it is laid from block b on
unfoldable pub link_at_place : Tree ℕ → ℕ → ℕ → ℕ
link_at_place (names x) b i = 0
link_at_place stop b i = 0
link_at_place (loc e u t) b zero = down_mark + entry u b
link_at_place (loc e u t) b (suc i) = link_at_place t (b + blocks u) i

-- the blocks of a chain that is laid from block a on, with what is below it from block b on; and then r
unfoldable pub chain_blocks : Tree ℕ → ℕ → ℕ → List ℕ → List ℕ
chain_blocks (names x) a b r = r
chain_blocks stop a b r = r
chain_blocks (loc e u t) a b r = lay (depth (width t + 1)) a (width t + 1) (end_at_place (loc e u t)) (link_at_place (loc e u t) b) r

-- all that is below a chain, laid from block b on: lowest end first; and then r
unfoldable pub below_blocks : Tree ℕ → ℕ → List ℕ → List ℕ
below_blocks (names x) b r = r
below_blocks stop b r = r
below_blocks (loc e u t) b r = chain_blocks u b (b + own_blocks u) (below_blocks u (b + own_blocks u) (below_blocks t (b + blocks u) r))

-- THE BLOCKS of a tree, from block a on; and then r
abbrev pub tree_blocks : Tree ℕ → ℕ → List ℕ → List ℕ
tree_blocks t a r = chain_blocks t a (a + own_blocks t) (below_blocks t (a + own_blocks t) r)

unfoldable pub blocks_text : Tree ℕ → List ℕ
blocks_text t = tree_blocks t 0 []

-- The blocks that a walk reads below a chain, and in all: in each field as many as the chain has levels.
abbrev pub height : Tree ℕ → ℕ
height (names b) = 0
height stop = 0
height (loc e u t) = levels (width t + 1)

abbrev pub reads_below : Tree ℕ → List ℕ → ℕ
reads_below (names b) vs = 0
reads_below stop vs = 0
reads_below (loc e u t) [] = 0
reads_below (loc e u t) (v ∷ vs) = cond (ltb e v) (reads_below t (v ∷ vs)) (height u + reads_below u vs)

abbrev pub block_reads : Tree ℕ → List ℕ → ℕ
block_reads t vs = height t + reads_below t vs
