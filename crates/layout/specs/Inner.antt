-- What the inner functions of a store say, of which the promises of its calls say nothing.
-- Assumes nothing: these are definitions.
use Rattle.std.specs.Prelude.{◌≡◌, Bool, true, cond, ◌&&◌, List, ◌++◌, ℕ, ◌+◌, ◌≤◌, eqb, length, take, drop}
use Rattle.model.specs.Lists.{same}
use Rattle.model.specs.Rules.{stop}
use Rattle.model.specs.Table.{Kind, Rule, Table, row_words, rising_from, all_right}
use Rattle.rows.specs.Rows.{tree_at}
use Rattle.cells.specs.Text.{part}
use Rattle.table.specs.Rows.{rule_in, rows_text, table_in, places, Rowed}
use Rattle.layout.specs.Store.{size, head_text, rows_of, part_of, zero_rule}

-- the rows are those of the table of n rules that they hold, and its numbers and ranges are within the limits
abbrev pub table_stands : Kind → ℕ → List ℕ → Bool
table_stands k n rows = same rows (rows_text k (table_in k n rows)) && (rising_from 0 (table_in k n rows).rules && all_right k (table_in k n rows).rules)

-- the rows are those of a table of n rules within the limits
pub record TableHeld (k : Kind) (n : ℕ) (rows : List ℕ) : Type 0 where
  pub rowed : Rowed k n rows
  pub text : rows ≡ rows_text k (table_in k n rows)
  pub rising : rising_from 0 (table_in k n rows).rules ≡ true
  pub right : all_right k (table_in k n rows).rules ≡ true

-- what stands behind the head is a table of n rules, its tree, and the free chain
unfoldable pub body_stands : Kind → ℕ → ℕ → List ℕ → Bool
body_stands k c n ws = table_stands k n (rows_of k ws) && same (part_of k c ws) (part c (tree_at (rows_of k ws) 0 (length k.tops) (places k.width n)))

-- what stands before the two links of a store: its head and its rows
unfoldable pub front_text : Kind → ℕ → Table → List ℕ
front_text k c t = head_text k c (length t.rules) ++ rows_text k t

-- the words are enough for c cells, which are all free
pub record Bare (k : Kind) (ws : List ℕ) (c : ℕ) : Type 0 where
  pub most : c ≤ 65536
  pub long : size k c ≤ length ws
  pub free : part_of k c ws ≡ part c stop

-- the words with the tree of the n rules of their rows in their cells, and all else as it was
unfoldable pub planted : Kind → ℕ → ℕ → List ℕ → List ℕ
planted k c n ws = take (k.head + row_words k) ws ++ (part c (tree_at (rows_of k ws) 0 (length k.tops) (places k.width n)) ++ drop (size k c) ws)

-- what is read of words where a search answered a and found the row that begins at p
abbrev pub rule_found : Kind → List ℕ → ℕ → ℕ → Rule
rule_found k ws a p = cond (eqb a 0) (rule_in (length k.tops) (rows_of k ws) p) (zero_rule k)
