-- The rows of a table that has the default alone.
-- Assumes nothing.
use mathlib.Core.Path.{◌≡◌, sym, ◌∙◌}
use mathlib.Core.List.{[]}
use Prim.Native.Nat.{ℕ, zero, suc, ◌+◌, ◌*◌, ◌<◌}
use native.Mathlib.Omega.{arith}
use borrow.Author.Tests.{lt-ltb, le-ltb}
use Rattle.model.specs.Lists.{up_to}
use Rattle.model.specs.Table.{Kind, row_words}
use Rattle.model.proofs.UpTo.{length_up_to, get_d_up_to}
use Rattle.model.proofs.Grid.{row_ends, grid_is}
use Rattle.table.specs.Rows.{row_word, placed, rows_text, fresh_word}
use Rattle.table.proofs.Laws.{row_none}

pub fresh_rows : (k : Kind) (a : ℕ) → up_to (row_words k) (fresh_word k a) ≡ rows_text k (record { action = a; rules = [] })
unfolding rows_text placed
fresh_rows k a = grid_is 0 (up_to (row_words k) (fresh_word k a)) k.width (suc k.most) (λ p. row_word (placed k (record { action = a; rules = [] }) p)) (length_up_to _ _) (λ p j u v.
    get_d_up_to (row_words k) (fresh_word k a) (k.width * p + j) 0 (omega (arith, row_ends k.width p (suc k.most) u)) ∙ go p j v)
  where
    go : (p j : ℕ) → j < k.width → fresh_word k a (k.width * p + j) ≡ row_word (placed k (record { action = a; rules = [] }) p) j
    go zero j v = let w : k.width * 0 + j ≡ j = omega arith in rw (w, lt-ltb j k.width v)
    go (suc p) j v = rw (le-ltb (k.width * suc p + j) k.width (omega arith)) (sym (row_none j))
