-- The tree in cells: what the words of a store hold from the two links on, which are the last words of its front. Word 0 of this part is the first cell of the free chain, word 1 is the cell where a walk begins, and cell k is the words 2 + 8 k to 9 + 8 k: the end, the next cell of its chain, what is below it and beside that, and four zeros. "No cell" is c, the number of cells.
-- Assumes nothing: these are definitions.
use Rattle.std.specs.Prelude.{List, [], ◌∷◌, ℕ, zero, suc, ◌+◌, ◌-◌, ◌*◌, get_or}
use Rattle.model.specs.Rules.{Tree, names, stop, loc, cells}
use Rattle.cells.specs.declared.Below.{Below}

-- where word f of cell k stands
abbrev pub at : ℕ → ℕ → ℕ
at k f = 2 + 8 * k + f

-- word f of cell k
abbrev pub cell_word : List ℕ → ℕ → ℕ → ℕ
cell_word ws k f = get_or ws (at k f) 0

-- what cell k says is below it
abbrev pub below_at : List ℕ → ℕ → Below
below_at ws k = record { down = cell_word ws k 2; side = cell_word ws k 3 }

-- what is below a cell where nothing stands beside that
abbrev pub only_down : ℕ → Below
only_down d = record { down = d; side = 0 }

-- a cell with an end, a next cell and what is below it; and then the words r
abbrev pub cell : ℕ → ℕ → Below → List ℕ → List ℕ
cell e n b r = e ∷ n ∷ b.down ∷ b.side ∷ 0 ∷ 0 ∷ 0 ∷ 0 ∷ r

-- n free cells from cell k on: each leads to the one behind it
unfoldable pub frees : ℕ → ℕ → List ℕ
frees k zero = []
frees k (suc n) = cell 0 (k + 1) (only_down 0) (frees (k + 1) n)

-- The ends of a chain's cells and what is below each, highest end first: `snoc s e d` has the end e, with d below it, behind the run s.
pub data Run : Type 0 where
  nil : Run
  snoc : Run → ℕ → Below → Run

unfoldable pub len : Run → ℕ
len nil = 0
len (snoc s e d) = len s + 1

-- the last cell of a run that begins at cell a: the one with the lowest end, where a walk of the chain begins
unfoldable pub low : ℕ → Run → ℕ → ℕ
low c nil a = c
low c (snoc s e d) a = a + len s

-- the text of a run that begins at cell a, and then the words r: each cell's next is the cell before it, which has the next higher end
unfoldable pub row : ℕ → Run → ℕ → List ℕ → List ℕ
row c nil a r = r
row c (snoc s e d) a r = row c s a (cell e (low c s a) d r)

-- the cells of a chain itself, and the cells of all that is under it
unfoldable pub width : Tree ℕ → ℕ
width (names b) = 0
width stop = 0
width (loc e u t) = width t + 1

unfoldable pub under : Tree ℕ → ℕ
under (names b) = 0
under stop = 0
under (loc e u t) = under t + (width u + under u)

-- what a cell says is below it, where that is a tree that is laid from cell a on: the cell where a walk of it begins; where no field is left, what the tree names
unfoldable pub first : ℕ → Tree ℕ → ℕ → Below
first c (names b) a = only_down b
first c stop a = only_down c
first c (loc e u t) a = only_down (a + width t)

-- the run of a chain, where what is below it is laid from cell b on: below the highest end first
unfoldable pub marks : ℕ → Tree ℕ → ℕ → Run
marks c (names x) b = nil
marks c stop b = nil
marks c (loc e u t) b = snoc (marks c t b) e (first c u (b + under t))

-- the text of all that is below a chain, laid from cell b on, and then r: each chain's run, and then what is below that
unfoldable pub belows : ℕ → Tree ℕ → ℕ → List ℕ → List ℕ
belows c (names x) b r = r
belows c stop b r = r
belows c (loc e u t) b r =
    belows c t b (row c (marks c u (b + under t + width u)) (b + under t) (belows c u (b + under t + width u) r))

-- the text of a tree that is laid from cell a on, and then r: a chain's cells stand side by side, its highest end first, and then what is below each of them, in the same order
abbrev pub tree_text : ℕ → Tree ℕ → ℕ → List ℕ → List ℕ
tree_text c t a r = row c (marks c t (a + width t)) a (belows c t (a + width t) r)

-- THE PART: the two links, the tree from cell 0 on, and then the free chain with all other cells
unfoldable pub part : ℕ → Tree ℕ → List ℕ
part c t = cells t ∷ (first c t 0).down ∷ tree_text c t 0 (frees (cells t) (c - cells t))
