-- What is decided of the rows of a store is what its table is answered, and a store that fails the check is refused.
-- Assumes nothing.
use Rattle.std.specs.Prelude.{Result, IfOk}
use Rattle.refusal.specs.declared.Refusal.{Refusal}
use Rattle.refusal.specs.Refusals.{answer_of}
use mathlib.Core.Path.{◌≡◌}
use mathlib.Core.Bool.{true, false}
use mathlib.Core.List.{List}
use Prim.Native.Nat.{ℕ, ◌+◌, ◌-◌}
use lib.ListN.{get_or, take, drop}
use Rattle.model.specs.Table.{Kind, row_words, Rule, insert_answer, delete_answer}
use Rattle.table.specs.Rows.{table_in, ahead}
use Rattle.layout.specs.Store.{cells_in, table_of, passes, insert_says, delete_says}
use Rattle.layout.proofs.Parts.{rows_slice}

-- THE ROWS AS A SLICE: what is decided of them is decided of the table
module _ (k : Kind) (ws : List ℕ) (E : ℕ) (f : E ≡ k.head + row_words k) (h : passes k ws ≡ true) where
  pub insert_says_lem : (r : Rule) (v : ℕ) (d : Result ℕ Refusal)
      → (answer_of d ≡ insert_answer k (cells_in ws) (table_in k (get_or ws 1 0) (take (E - k.head) (drop k.head ws))) r) × IfOk d (λ p. p ≡ ahead v (table_in k (get_or ws 1 0) (take (E - k.head) (drop k.head ws))).rules)
      → (answer_of d ≡ insert_says k ws r) × IfOk d (λ p. p ≡ ahead v (table_of k ws).rules)
  insert_says_lem r v d q = let g = rw (rows_slice k ws E f) at q in (rw h g.0, g.1)

  pub delete_says_lem : (v : ℕ) (d : Result ℕ Refusal)
      → (answer_of d ≡ delete_answer (table_in k (get_or ws 1 0) (take (E - k.head) (drop k.head ws))) v) × IfOk d (λ p. p ≡ ahead v (table_in k (get_or ws 1 0) (take (E - k.head) (drop k.head ws))).rules)
      → (answer_of d ≡ delete_says k ws v) × IfOk d (λ p. p ≡ ahead v (table_of k ws).rules)
  delete_says_lem v d q = let g = rw (rows_slice k ws E f) at q in (rw h g.0, g.1)

-- a store that fails the check
pub insert_9 : (k : Kind) (ws : List ℕ) (r : Rule) → passes k ws ≡ false → 9 ≡ insert_says k ws r
insert_9 k ws r h = rw h

pub delete_9 : (k : Kind) (ws : List ℕ) (n : ℕ) → passes k ws ≡ false → 9 ≡ delete_says k ws n
delete_9 k ws n h = rw h
