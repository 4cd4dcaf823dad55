-- What stands behind the head of a store, by the two tests that look at it.
-- Assumes nothing.
use mathlib.Core.Path.{◌≡◌, ap, ap₂, ◌∙◌}
use mathlib.Core.Bool.{Bool, true, false, not}
use mathlib.Core.List.{List}
use Prim.Native.Nat.{ℕ}
use lib.ListN.{length}
use Rattle.model.specs.Lists.{same}
use Rattle.model.specs.Table.{Kind}
use Rattle.rows.specs.Rows.{tree_at}
use Rattle.cells.specs.Text.{part}
use Rattle.table.specs.Rows.{places}
use Rattle.layout.specs.Store.{rows_of, part_of}
use Rattle.layout.specs.Inner.{table_stands, body_stands}
use Rattle.layout.proofs.Parts.{first_fails}
use borrow.Author.Tests.{not-false}

module _ (k : Kind) (ws : List ℕ) (c n : ℕ) (rows : List ℕ) (q : rows ≡ rows_of k ws) (b : Bool) (e : b ≡ table_stands k n rows) where
  pub body_wrong : not b ≡ true → false ≡ body_stands k c n ws
  unfolding body_stands
  body_wrong t = first_fails _ (e ∙ ap (table_stands k n) q) t

  pub body_right : not b ≡ false → (xs : List ℕ) → xs ≡ part_of k c ws → (d : Bool) → d ≡ same xs (part c (tree_at rows 0 (length k.tops) (places k.width n))) → d ≡ body_stands k c n ws
  unfolding body_stands
  body_right t xs p d g = rw (← (e ∙ ap (table_stands k n) q), not-false b t) (g ∙ ap₂ (λ x y. same x (part c (tree_at y 0 (length k.tops) (places k.width n)))) p q)
