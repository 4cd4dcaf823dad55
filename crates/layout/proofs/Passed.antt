-- What follows for a store that passes the check: its rows hold its table, its tree stands in its part, and how many cells that takes.
-- Assumes nothing.
use mathlib.Core.Path.{◌≡◌, sym, ap, ap₂, ◌∙◌}
use mathlib.Core.Bool.{true}
use mathlib.Core.List.{List, []}
use Prim.Native.Nat.{ℕ, ◌+◌, ◌-◌, ◌*◌, ◌≤◌}
use native.Mathlib.Omega.{arith}
use lib.ListN.{length, get_or, take, drop}
use lib.Seq.{get_or-take, get_or-drop}
use borrow.Author.Tests.{le-leb}
use Rattle.model.specs.Rules.{Tree, cells}
use Rattle.model.specs.Table.{Kind, Shaped, row_words, Table, within, cells_of}
use Rattle.rows.specs.Rows.{tree_at}
use Rattle.cells.specs.Text.{part, frees, width, marks, belows}
use Rattle.cells.specs.Planted.{Planted}
use Rattle.cells.proofs.Text.{deep_tree, row_length, marks_len, belows_length, frees_length, cells_sum}
use Rattle.table.specs.Rows.{rows_text, places}
use Rattle.layout.specs.Named.{stored}
use Rattle.layout.specs.Store.{cells_in, rows_of, part_of, table_of, passes}
use Rattle.layout.specs.Inner.{TableHeld}
use Rattle.layout.proofs.Bridge.{stored_cells}
use Rattle.layout.proofs.Parts.{rows_long, part_long, rows_slice, part_slice}
use Rattle.layout.proofs.Sound.{Sound, sound, Roomy, roomy, count_is}

-- words that are the part of a tree have room for it
pub part_fits : (ws : List ℕ) (c : ℕ) (t : Tree ℕ) → ws ≡ part c t → length ws ≡ 2 + 8 * c → cells t ≤ c
unfolding part
part_fits ws c t h l =
    let b = 0 + width t in
    let r = frees (cells t) (c - cells t) in
    omega (arith, ap length h, cells_sum t, row_length c (marks c t b) 0 (belows c t b r), marks_len c t b, belows_length c t b r, frees_length (cells t) (c - cells t))

-- the cells of the rows of a table within the limits
pub rows_cells : (k : Kind) (sh : Shaped k) (n : ℕ) (rows : List ℕ) (t : Table) → n ≡ length t.rules → rows ≡ rows_text k t → within k t ≡ true → cells (tree_at rows 0 (length k.tops) (places k.width n)) ≡ cells_of k t
unfolding stored
rows_cells k sh n rows t en er w = ap₂ (λ m xs. cells (tree_at xs 0 (length k.tops) (places k.width m))) en er ∙ stored_cells k sh t w

-- A STORE THAT PASSES
module _ (k : Kind) (sh : Shaped k) (ws : List ℕ) (s : Sound k ws) where
  pub sound_room : Roomy k (cells_in ws) ws
  sound_room = roomy k (cells_in ws) ws s.room

  pub sound_within : within k (table_of k ws) ≡ true
  sound_within = rw (le-leb (length (table_of k ws).rules) k.most (omega (arith, count_is k sh ws, s.few)), s.rising) s.right

  sound_fits : cells (tree_at (rows_of k ws) 0 (length k.tops) (places k.width (get_or ws 1 0))) ≤ cells_in ws
  sound_fits = part_fits (part_of k (cells_in ws) ws) (cells_in ws) (tree_at (rows_of k ws) 0 (length k.tops) (places k.width (get_or ws 1 0))) s.tree (part_long k ws (cells_in ws) sound_room.long)

  -- its tree stands in its part
  pub sound_planted : (E : ℕ) → E ≡ k.head + row_words k → Planted (take (E + (2 + 8 * cells_in ws) - E) (drop E ws)) (cells_in ws) (length k.tops)
  sound_planted E f = record {
    t = tree_at (rows_of k ws) 0 (length k.tops) (places k.width (get_or ws 1 0));
    some = sh.some;
    deep = deep_tree (rows_of k ws) 0 (length k.tops) (places k.width (get_or ws 1 0));
    fits = sound_fits;
    most = sound_room.most;
    is = part_slice k ws E f (cells_in ws) ∙ s.tree;
  }

  -- its cells, and the word that names them
  pub sound_cells : cells (tree_at (rows_of k ws) 0 (length k.tops) (places k.width (get_or ws 1 0))) ≡ cells_of k (table_of k ws)
  sound_cells = rows_cells k sh (get_or ws 1 0) (rows_of k ws) (table_of k ws) (sym (count_is k sh ws)) s.rows sound_within

  pub sound_most : cells_of k (table_of k ws) ≤ cells_in ws
  sound_most = omega (arith, sound_cells, sound_fits)

  pub sound_free : get_or ws (k.head + row_words k) 0 ≡ cells_of k (table_of k ws)
  unfolding part
  sound_free =
      let z : k.head + row_words k + 0 ≡ k.head + row_words k = omega arith in
      sym (get_or-drop (k.head + row_words k) ws 0 0 ∙ ap (λ i. get_or ws i 0) z)
      ∙ sym (get_or-take (2 + 8 * cells_in ws) (drop (k.head + row_words k) ws) 0 0 (omega arith))
      ∙ ap (λ xs. get_or xs 0 0) s.tree
      ∙ sound_cells

-- the rows of a store that passes hold its table
pub held : (k : Kind) (sh : Shaped k) (ws : List ℕ) (E : ℕ) → E ≡ k.head + row_words k → passes k ws ≡ true → TableHeld k (get_or ws 1 0) (take (E - k.head) (drop k.head ws))
held k sh ws E f h =
    let o = sound k sh ws h in
    rw (rows_slice k ws E f) (record {
      rowed = record { shaped = sh; fit = o.few; whole = rows_long k ws _ (sound_room k sh ws o).long };
      text = o.rows;
      rising = o.rising;
      right = o.right;
    })

-- a table of the default alone is within the limits
pub fresh_within : (k : Kind) (a : ℕ) → within k (record { action = a; rules = [] }) ≡ true
fresh_within k a = rw (le-leb 0 k.most (omega arith))
