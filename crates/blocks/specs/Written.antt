-- What the functions that write blocks leave in the words.
-- Assumes nothing: these are definitions.
use Rattle.std.specs.Prelude.{◌≡◌, cond, List, ℕ, ◌+◌, ◌*◌, ◌/◌, ◌%◌, ◌≤◌, ltb, length, get_or, set, take, drop}
use Rattle.model.specs.Rules.{Tree, names, stop, loc}
use Rattle.blocks.specs.Blocks.{top_end, depth, parts, level, lay, links_to, blocks, tree_blocks}

-- where the end of place j of a level that stands from block b on is, and its link
abbrev pub end_place : ℕ → ℕ → ℕ
end_place b j = 16 * (b + j / 8) + j % 8

abbrev pub link_place : ℕ → ℕ → ℕ
link_place b j = 16 * (b + j / 8) + (8 + j % 8)

-- the words with an end and a link written there
abbrev pub entered : List ℕ → ℕ → ℕ → ℕ → ℕ → List ℕ
entered w b j e l = set (set w (end_place b j) e) (link_place b j) l

-- the ends of a list, and behind them the unused ones
abbrev pub padded : List ℕ → ℕ → ℕ → ℕ
padded es m i = cond (ltb i m) (get_or es i 0) top_end

-- the words are left as a level of n blocks from block b on, and all others are as they were
pub record Level (w₀ w : List ℕ) (b n : ℕ) (f g : ℕ → ℕ) : Type 0 where
  pub long : length w ≡ length w₀
  pub before : take (16 * b) w ≡ take (16 * b) w₀
  pub is : drop (16 * b) w ≡ level n f g (drop (16 * (b + n)) w₀)

-- a level of m blocks stands from block b on, before the words r, and behind its blocks its ends are unused
pub record Under (w : List ℕ) (b m : ℕ) (f g : ℕ → ℕ) (r : List ℕ) : Type 0 where
  pub is : drop (16 * b) w ≡ level m f g r
  pub pads : (i : ℕ) → 8 * m ≤ i → f i ≡ top_end

-- the words are left with the level of n blocks that leads to these
abbrev pub Links : List ℕ → List ℕ → ℕ → ℕ → ℕ → ℕ → Type 0
Links w₀ w b n from m = (f g : ℕ → ℕ) (r : List ℕ) → Under w₀ from m f g r → Level w₀ w b n (λ i. f (8 * i + 7)) (links_to m from)

-- the words are left as all levels of k ends from block a on, over the lowest, which stood from block b on
pub record Laid (w₀ w : List ℕ) (a b k : ℕ) (f g : ℕ → ℕ) (r : List ℕ) : Type 0 where
  pub before : take (16 * a) w ≡ take (16 * a) w₀
  pub is : drop (16 * a) w ≡ lay (depth k) a k f g r

abbrev pub Raised : List ℕ → List ℕ → ℕ → ℕ → ℕ → Type 0
Raised w₀ w a b k = (f g : ℕ → ℕ) (r : List ℕ) → Under w₀ b (parts k) f g r → Laid w₀ w a b k f g r

-- the words have room for the blocks of a tree from block a on
pub record Roomy (w : List ℕ) (a : ℕ) (t : Tree ℕ) : Type 0 where
  pub fits : 16 * (a + blocks t) ≤ length w
  pub few : a + blocks t ≤ 16777216

-- all places that a tree names fit behind a mark
unfoldable pub Named : Tree ℕ → Type 0
Named (names x) = x ≤ 65535
Named stop = Unit {0}
Named (loc e u t) = Named u × Named t

-- THE BLOCKS of a tree are written from block a on, and all other words are as they were
pub record Written (w₀ w : List ℕ) (a past : ℕ) (t : Tree ℕ) : Type 0 where
  pub next : past ≡ a + blocks t
  pub before : take (16 * a) w ≡ take (16 * a) w₀
  pub is : drop (16 * a) w ≡ tree_blocks t a (drop (16 * (a + blocks t)) w₀)
