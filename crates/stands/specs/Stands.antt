-- What the inner functions say of the words from a cell on: whether they are the text of a tree, or the run of a chain. (The promise of `compare::part_is` cites none of this, but `same` and the part of a store that `cells` defines.)
-- Assumes nothing: these are definitions.
use Rattle.std.specs.Prelude.{◌≡◌, Bool, true, false, ◌&&◌, List, [], ◌∷◌, ℕ, ◌+◌, ◌*◌, ◌≤◌, ltb, eqb, length, drop, Option, Some, None}
use Rattle.model.specs.Lists.{same}
use Rattle.model.specs.Rules.{Tree, cells}
use Rattle.cells.specs.Text.{cell_word, only_down, first, tree_text}
use Rattle.cells.specs.declared.Below.{Below}
use Rattle.stands.specs.declared.Stands.{Stands}

-- the words are two links and c cells
pub record Room (ws : List ℕ) (c : ℕ) : Type 0 where
  pub size : length ws ≡ 2 + 8 * c
  pub most : c ≤ 65536

-- the words from cell k on
abbrev pub from : List ℕ → ℕ → List ℕ
from ws k = drop (2 + 8 * k) ws

-- what a comparison answers, where its test is b: the cell behind the last one that was compared, and what a cell above it says
abbrev pub answer : Bool → ℕ → Below → Option Stands
answer true past low = Some (record { past = past; says = low })
answer false past low = None

-- the text of the tree t stands in the words from cell k on
unfoldable pub told : List ℕ → ℕ → ℕ → Tree ℕ → Option Stands
told ws c k t = answer (same (from ws k) (tree_text c t k (from ws (k + cells t)))) (k + cells t) (first c t k)

-- the first two words of cell k: its end and its next; and the other six: what is below it, and zeros
unfoldable pub head_is : List ℕ → ℕ → ℕ → ℕ → Bool
head_is ws k e n = eqb (cell_word ws k 0) e && eqb (cell_word ws k 1) n

unfoldable pub rest_is : List ℕ → ℕ → Below → Bool
rest_is ws k b =
    eqb (cell_word ws k 2) b.down && (eqb (cell_word ws k 3) b.side && (eqb (cell_word ws k 4) 0 && (eqb (cell_word ws k 5) 0 && (eqb (cell_word ws k 6) 0 && eqb (cell_word ws k 7) 0))))

-- The run of the ends es, lowest first, as a chain has them, stands from cell k on: the highest in cell k. Its last cell, or c where there is none:
unfoldable pub before : ℕ → ℕ → List ℕ → ℕ
before c k [] = c
before c k (e ∷ es) = k + length es

-- the first two words of each of its cells are right, and it ends within the c cells
unfoldable pub heads_are : List ℕ → ℕ → ℕ → List ℕ → Bool
heads_are ws c k [] = true
heads_are ws c k (e ∷ es) = heads_are ws c k es && (ltb (k + length es) c && head_is ws (k + length es) e (before c k es))

unfoldable pub told_run : List ℕ → ℕ → ℕ → List ℕ → Option Stands
told_run ws c k es = answer (heads_are ws c k es) (k + length es) (only_down (before c k es))
