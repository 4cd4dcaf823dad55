-- The words of the blocks of a tree: how many there are, and what stands behind them.
-- Assumes nothing.
use mathlib.Core.Path.{◌≡◌, refl}
use mathlib.Core.List.{List, []}
use Prim.Native.Nat.{ℕ, ◌+◌, ◌*◌, ◌≤◌}
use native.Mathlib.Omega.{arith}
use lib.ListN.{length, drop}
use lib.Seq.{drop-drop}
use Rattle.model.specs.Rules.{Tree, names, stop, loc}
use Rattle.cells.specs.Text.{width}
use Rattle.blocks.specs.Blocks.{depth, own_blocks, under_blocks, blocks, end_at_place, link_at_place, chain_blocks, below_blocks, blocks_text}
use Rattle.blocks.proofs.Levels.{lay_past, lay_length}

-- THE WORDS: what stands behind a chain's blocks, and behind all that is below it; and how many there are
pub chain_past : (t : Tree ℕ) (a b : ℕ) (r : List ℕ) → drop (16 * own_blocks t) (chain_blocks t a b r) ≡ r
unfolding own_blocks chain_blocks
chain_past (names x) a b r = refl
chain_past stop a b r = refl
chain_past (loc e u t) a b r = lay_past (depth (width t + 1)) a (width t + 1) (end_at_place (loc e u t)) (link_at_place (loc e u t) b) r

pub chain_length : (t : Tree ℕ) (a b : ℕ) (r : List ℕ) → length (chain_blocks t a b r) ≡ 16 * own_blocks t + length r
unfolding own_blocks chain_blocks
chain_length (names x) a b r = omega arith
chain_length stop a b r = omega arith
chain_length (loc e u t) a b r = lay_length (depth (width t + 1)) a (width t + 1) (end_at_place (loc e u t)) (link_at_place (loc e u t) b) r

pub belows_past : (t : Tree ℕ) (b : ℕ) (r : List ℕ) → drop (16 * under_blocks t) (below_blocks t b r) ≡ r
unfolding below_blocks under_blocks
belows_past (names x) b r = refl
belows_past stop b r = refl
belows_past (loc e u t) b r =
    let s = below_blocks t (b + blocks u) r in
    let k = below_blocks u (b + own_blocks u) s in
    let z : 16 * (own_blocks u + under_blocks u + under_blocks t) ≡ 16 * own_blocks u + (16 * under_blocks u + 16 * under_blocks t) = omega arith in
    rw (z, ← drop-drop (16 * under_blocks u + 16 * under_blocks t) (16 * own_blocks u) (chain_blocks u b (b + own_blocks u) k), chain_past u b (b + own_blocks u) k, ← drop-drop (16 * under_blocks t) (16 * under_blocks u) k, belows_past u (b + own_blocks u) s)
    (belows_past t (b + blocks u) r)

pub belows_length : (t : Tree ℕ) (b : ℕ) (r : List ℕ) → length (below_blocks t b r) ≡ 16 * under_blocks t + length r
unfolding below_blocks under_blocks
belows_length (names x) b r = omega arith
belows_length stop b r = omega arith
belows_length (loc e u t) b r =
    let s = below_blocks t (b + blocks u) r in
    let k = below_blocks u (b + own_blocks u) s in
    omega (arith, chain_length u b (b + own_blocks u) k, belows_length u (b + own_blocks u) s, belows_length t (b + blocks u) r)

-- THE LENGTH of an image: 16 words for each block
pub image_length : (t : Tree ℕ) → length (blocks_text t) ≡ 16 * blocks t
unfolding blocks_text
image_length t = omega (arith, chain_length t 0 (0 + own_blocks t) (below_blocks t (0 + own_blocks t) []), belows_length t (0 + own_blocks t) [])

-- in every chain each end is at most those behind it, and at most the greatest value
unfoldable pub Sorted : Tree ℕ → Type 0
Sorted (names x) = Unit {0}
Sorted stop = Unit {0}
Sorted (loc e u t) = ((i : ℕ) → e ≤ end_at_place t i) × Sorted u × Sorted t
