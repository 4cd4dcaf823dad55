-- The tree that a store's cells hold, and a tree with other names in it.
-- Assumes nothing: these are definitions.
use Rattle.std.specs.Prelude.{ℕ, length}
use Rattle.model.specs.Rules.{Tree, names, stop, loc}
use Rattle.model.specs.Table.{Kind, Table}
use Rattle.rows.specs.Rows.{tree_at}
use Rattle.table.specs.Rows.{rows_text, places}

-- the same tree with h of each name in its place: the locations and their ends stay
abbrev pub rename : {A B : Type 0} → (A → B) → Tree A → Tree B
rename h (names a) = names (h a)
rename h stop = stop
rename h (loc e u t) = loc e (rename h u) (rename h t)

-- The tree in the cells of a store that holds the table t: that of all places of its rows, over every field. Where the table's own tree names a rule, this one names the word at which the rule's row begins.
unfoldable pub stored : Kind → Table → Tree ℕ
stored k t = tree_at (rows_text k t) 0 (length k.tops) (places k.width (length t.rules))
