-- What `build::build` and `drop` ask of the words that they are lent.
-- Assumes nothing: these are definitions.
use Rattle.std.specs.Prelude.{◌≡◌, List, ℕ, ◌-◌, ◌≤◌, ◌<◌, length, take, drop}
use Rattle.model.specs.Rules.{Tree, names, stop, loc, cells}
use Rattle.rows.specs.Rows.{tree_at, Scratch}
use Rattle.cells.specs.Text.{part}

-- t is a tree over d fields: a chain in each field, and what it names, of any kind, where none is left
unfoldable pub Deep : {B : Type 0} → Tree B → ℕ → Type 0
Deep (names b) d = d ≡ 0
Deep stop d = 0 < d
Deep (loc e u t) d = (0 < d) × Deep u (d - 1) × Deep t d

-- the words are the part of some tree over d fields, one at least
pub record Planted (ws : List ℕ) (c d : ℕ) : Type 0 where
  pub some : 0 < d
  pub t : Tree ℕ
  pub deep : Deep t d
  pub fits : cells t ≤ c
  pub most : c ≤ 65536
  pub is : ws ≡ part c t

-- the words are rules up to base, and then the part of no tree, with room for the tree of those at the first n places of sets, and scratch enough beside
pub record Plantable (ws : List ℕ) (base c : ℕ) (sets : List ℕ) (n fields : ℕ) (ends : List ℕ) : Type 0 where
  pub inside : base ≤ length ws
  pub bare : drop base ws ≡ part c stop
  pub most : c ≤ 65536
  pub room : cells (tree_at (take base ws) 0 fields (take n sets)) ≤ c
  pub scratch : Scratch n fields sets ends
  pub depth : fields ≤ 62
