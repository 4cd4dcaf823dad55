-- What an inner function of the image check says.
-- Assumes nothing: these are definitions.
use Rattle.std.specs.Prelude.{Bool, ◌&&◌, List, ℕ, leb, length, drop}
use Rattle.model.specs.Lists.{same}
use Rattle.model.specs.Rules.{Tree, cells}
use Rattle.model.specs.Table.{Kind, front}
use Rattle.rows.specs.Rows.{tree_at}
use Rattle.table.specs.Rows.{places}
use Rattle.layout.specs.Store.{rows_of}
use Rattle.layout.specs.Inner.{table_stands}
use Rattle.blocks.specs.Blocks.{blocks_text}

-- the tree of n rules of the rows that words hold
abbrev pub tree_of_rows : Kind → ℕ → List ℕ → Tree ℕ
tree_of_rows k n ws = tree_at (rows_of k ws) 0 (length k.tops) (places k.width n)

-- the rows are those of a table of n rules within the limits, what stands behind the front is the blocks of their tree, and that takes no more cells than a store can have
unfoldable pub image_body : Kind → ℕ → List ℕ → Bool
image_body k n ws = table_stands k n (rows_of k ws) && (same (drop (front k) ws) (blocks_text (tree_of_rows k n ws)) && leb (cells (tree_of_rows k n ws)) 65536)
