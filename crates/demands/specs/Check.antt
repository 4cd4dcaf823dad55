-- THE STORE CHECK in plain facts: it "says yes exactly when the words hold a table within these limits, its tree, and every other cell on the free chain once". `passes` of layout/specs/Store.antt compares the words with the text that they should be, which also says in which cell each location stands. Who does not want to know that finds here what follows by the links alone.
-- `Check` is what is claimed, of any kind of store; proofs/Check.antt proves it. Assumes nothing.
use Rattle.std.specs.Prelude.{◌≡◌, ◌⊎◌, true, List, [], ◌∷◌, ◌++◌, map, ℕ, ◌+◌, ◌≤◌, ◌<◌, length, get_or, take}
use Rattle.model.specs.Lists.{In, Rising}
use Rattle.model.specs.Rules.{Tree, names, stop, loc}
use Rattle.model.specs.Table.{Kind, Rule, Table, number_of, tree_of, cells_of, within}
use Rattle.table.specs.Rows.{rule_in}
use Rattle.layout.specs.Store.{size, text, cells_in, rows_of, table_of, cells_gives}
use Rattle.demands.specs.Calls.{Passes, rules_in, field_count, low_at, high_at, top_at, FullPorts, PortsOnly}
use Rattle.demands.specs.Links.{free_link, walk_link, end_at, next_at, down_at}

-- following `next` and `down` from cell j gives this tree: a location's end, the tree under it and the rest of its chain; what is below a location of the last field is where the row of its rule begins among the rows, the default's at 0
abbrev pub TreeFrom : Kind → List ℕ → ℕ → Tree Rule → Type 0
TreeFrom k ws j (names r) = rule_in (field_count k) (rows_of k ws) j ≡ r
TreeFrom k ws j stop = j ≡ cells_in ws
TreeFrom k ws j (loc e u t) = (j < cells_in ws) × (end_at k ws j ≡ e) × TreeFrom k ws (down_at k ws j) u × TreeFrom k ws (next_at k ws j) t

-- the cells on that way
abbrev pub cells_from : Kind → List ℕ → ℕ → Tree Rule → List ℕ
cells_from k ws j (names r) = []
cells_from k ws j stop = []
cells_from k ws j (loc e u t) = j ∷ (cells_from k ws (down_at k ws j) u ++ cells_from k ws (next_at k ws j) t)

-- following `next` alone from cell j gives these cells, up to "no cell"
abbrev pub ChainFrom : Kind → List ℕ → ℕ → List ℕ → Type 0
ChainFrom k ws j [] = j ≡ cells_in ws
ChainFrom k ws j (x ∷ xs) = (x ≡ j) × (j < cells_in ws) × ChainFrom k ws (next_at k ws j) xs

-- the cells of the tree of the words' table
abbrev pub cells_used : Kind → List ℕ → List ℕ
cells_used k ws = cells_from k ws (walk_link k ws) (tree_of k (table_of k ws))

pub record SoundStore (k : Kind) (ws : List ℕ) : Type 0 where
  -- "A store of c cells (5 to 65,536) takes 1,024 + 8 × c words"; by P4 "The least c becomes 6", by P9 "a new store takes 8,192 + 8 × c words"
  pub least : field_count k ≤ cells_in ws
  pub most : cells_in ws ≤ 65536
  pub long : size k (cells_in ws) ≤ length ws
  -- word 2 names the kind
  pub marked : get_or ws 2 0 ≡ k.mark
  -- "a table within these limits": "At most 64 rules besides the default, kept by rising number", by P9 512 in a large store, numbers of at most 65,534, right ranges
  pub few : length (rules_in k ws) ≤ k.most
  pub rising : Rising (map number_of (rules_in k ws))
  pub numbers : (r : Rule) → In r (rules_in k ws) → r.number ≤ 65534
  pub ranges : (r : Rule) → In r (rules_in k ws) → (i : ℕ) → i < field_count k → (low_at r i ≤ high_at r i) × (high_at r i ≤ top_at k i)
  -- P4, "the store check asks this too": a rule whose port ranges aren't both full asks for 0 to 0 in field 6
  pub ports : (r : Rule) → In r (rules_in k ws) → PortsOnly k r ⊎ FullPorts k r
  -- "its tree"
  pub planted : TreeFrom k ws (walk_link k ws) (tree_of k (table_of k ws))
  -- "and every other cell on the free chain once": each cell is one of the tree's or one of the free chain's, and these are c in all, so none comes twice
  pub free : List ℕ
  pub chained : ChainFrom k ws (free_link k ws) free
  pub every : (j : ℕ) → j < cells_in ws → In j (cells_used k ws ++ free)
  pub once : length (cells_used k ws ++ free) ≡ cells_in ws
  -- "Cells in use, as the tree defines them, and cells on the free chain add up to c."
  pub all : cells_gives k ws + length free ≡ cells_in ws

pub record Check (k : Kind) : Type 0 where
  pub sound : (ws : List ℕ) → Passes k ws → SoundStore k ws
  -- "exactly when": words that pass begin with the text of their table, and every table within the limits, whose tree takes at most c cells, has such a text, which passes whatever stands behind it and gives the table back
  pub only : (ws : List ℕ) → Passes k ws → take (size k (cells_in ws)) ws ≡ text k (cells_in ws) (table_of k ws)
  pub every : (c : ℕ) (t : Table) (rest : List ℕ) → field_count k ≤ c → c ≤ 65536 → within k t ≡ true → cells_of k t ≤ c
      → Passes k (text k c t ++ rest) × (cells_in (text k c t ++ rest) ≡ c) × (table_of k (text k c t ++ rest) ≡ t)
