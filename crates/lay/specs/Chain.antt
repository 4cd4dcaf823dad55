-- The cells of a chain, by the links of a store's words, whatever they hold.
-- Assumes nothing: these are definitions.
use Rattle.std.specs.Prelude.{cond, List, [], ◌∷◌, ℕ, zero, suc, ltb}
use Rattle.cells.specs.Text.{cell_word}

-- the cells of the chain at cell k, at most n of them: each leads to the next
unfoldable pub cells_on : List ℕ → ℕ → ℕ → ℕ → List ℕ
cells_on part c zero k = []
cells_on part c (suc n) k = cond (ltb k c) (k ∷ cells_on part c n (cell_word part k 1)) []
