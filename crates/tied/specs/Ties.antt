-- What the words of a store that passes the check give by their links, in terms of the table that they hold. proofs/Places.antt proves it.
-- Assumes nothing.
use Rattle.std.specs.Prelude.{◌≡◌, true, List, ℕ, ◌*◌, ◌≤◌, length, get_or}
use Rattle.model.specs.Rules.{Tree}
use Rattle.model.specs.Table.{Kind, Shaped, Rule, tree_of}
use Rattle.table.specs.Rows.{placed}
use Rattle.cells.specs.Text.{part}
use Rattle.layout.specs.Named.{stored}
use Rattle.layout.specs.Store.{cells_in, part_of, table_of, passes}
use Rattle.search.specs.Search.{most, first}
use Rattle.search.specs.Links.{tree_in, is_place, record_in}

-- the cell of field 1 at which every walk begins: the second link
abbrev pub begin_in : Kind → List ℕ → ℕ
begin_in k ws = get_or (part_of k (cells_in ws) ws) 1 0

-- the tree that the words give by their links
abbrev pub tree_by : Kind → List ℕ → Tree ℕ
tree_by k ws = tree_in (part_of k (cells_in ws) ws) (cells_in ws) (length k.tops) (begin_in k ws)

-- g says of the table's rules, by their rows, what `is_place` says of where these begin
abbrev pub SaysAlike : Kind → List ℕ → ℕ → (Rule → ℕ) → Type 0
SaysAlike k ws place g = (i : ℕ) → i ≤ length (table_of k ws).rules → is_place place (k.width * i) ≡ g (placed k (table_of k ws) i)

pub record Ties : Type 0 where
  -- the words with the cells are those of the table's tree, with where a rule's row begins in the place of the rule
  pub cells : (k : Kind) → Shaped k → (ws : List ℕ) → passes k ws ≡ true → part_of k (cells_in ws) ws ≡ part (cells_in ws) (stored k (table_of k ws))
  -- so the links give that tree
  pub tree : (k : Kind) → Shaped k → (ws : List ℕ) → passes k ws ≡ true → tree_by k ws ≡ stored k (table_of k ws)
  -- and a search of it for a place tells what a search of the table's tree for the rule there does
  pub found : (k : Kind) → Shaped k → (ws : List ℕ) → passes k ws ≡ true → (place : ℕ) (g : Rule → ℕ) → SaysAlike k ws place g → most 0 (is_place place) (tree_by k ws) ≡ most 0 g (tree_of k (table_of k ws))
  pub written : (k : Kind) → Shaped k → (ws : List ℕ) → passes k ws ≡ true → (place : ℕ) (g : Rule → ℕ) → SaysAlike k ws place g → record_in place (part_of k (cells_in ws) ws) (cells_in ws) (length k.tops) (begin_in k ws) ≡ first 0 g 0 (tree_of k (table_of k ws))
