-- The tree that the words of a store give by their links, whatever they hold. The words are the part of a store from its two links on.
-- Assumes nothing: these are definitions.
use Rattle.std.specs.Prelude.{cond, List, map, ℕ, zero, suc, ◌%◌, ltb, eqb}
use Rattle.model.specs.Rules.{Tree, names, stop, loc}
use Rattle.cells.specs.Text.{cell_word}
use Rattle.search.specs.Search.{first}

-- the chain at cell k, over at most n cells, with f of what is below each
unfoldable pub chain_in : List ℕ → ℕ → (ℕ → Tree ℕ) → ℕ → ℕ → Tree ℕ
chain_in part c f zero k = stop
chain_in part c f (suc n) k = cond (ltb k c) (loc (cell_word part k 0) (f (cell_word part k 2)) (chain_in part c f n (cell_word part k 1))) stop

-- The tree at cell k with so many fields left: in each chain at most c cells. Where no field is left, k is the place that is named, the word of the rows at which a rule's row is to begin.
unfoldable pub tree_in : List ℕ → ℕ → ℕ → ℕ → Tree ℕ
tree_in part c zero k = names k
tree_in part c (suc left) k = chain_in part c (λ d. tree_in part c left d) c k

-- 1 for a place, 0 for others
abbrev pub is_place : ℕ → ℕ → ℕ
is_place place k = cond (eqb k place) 1 0

-- the first record whose walk of the tree at cell k finds a place
unfoldable pub record_in : ℕ → List ℕ → ℕ → ℕ → ℕ → List ℕ
record_in place part c left k = first 0 (is_place place) 0 (tree_in part c left k)

-- the values as they are written, as words: one that is no word has been cut
abbrev pub cut : List ℕ → List ℕ
cut vs = map (λ v. v % 4294967296) vs
