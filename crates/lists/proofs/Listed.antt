-- What a list of edits answers, by what is decided of it.
-- Assumes nothing.
use mathlib.Core.Path.{◌≡◌, sym, ◌∙◌}
use mathlib.Core.Bool.{Bool, true, false}
use mathlib.Core.List.{List}
use Prim.Native.Nat.{ℕ, ◌+◌, ◌-◌, ◌≤◌, ◌<◌}
use native.Mathlib.Omega.{arith}
use lib.Dec.{ltb, eqb}
use lib.ListN.{length, get_or, take, drop}
use borrow.Author.Tests.{eq-eqb, ne_eqb, lt-ltb, le-ltb}
use Rattle.model.specs.Table.{Kind, Shaped, row_words}
use Rattle.table.specs.Rows.{table_in}
use Rattle.layout.specs.Store.{cells_in, passes}
use Rattle.layout.proofs.Parts.{rows_slice}
use Rattle.layout.proofs.Sound.{Roomy, sound}
use Rattle.layout.proofs.Passed.{sound_room}
use Rattle.series.specs.declared.Listed.{Listed}
use Rattle.series.specs.Edits.{Edit, listed, first_refusal, list_says, edits_from}
use Rattle.series.proofs.Taken.{Accepted, edits_length}

module _ (k : Kind) (ws : List ℕ) (f s n : ℕ) (xs : List ℕ) where
  abbrev es : List Edit
  es = edits_from f s n xs 0

  pub none_15 : n ≡ 0 → listed 15 0 ≡ list_says k ws (edits_from f s n xs 0)
  unfolding list_says
  none_15 z = rw (eq-eqb (length es) 0 (edits_length f s n xs 0 ∙ z))

  pub many_15 : (n ≡ 0 → ⊥) → 32 < n → listed 15 0 ≡ list_says k ws (edits_from f s n xs 0)
  unfolding list_says
  many_15 z h = rw (ne_eqb (length es) 0 (λ q. z (sym (edits_length f s n xs 0) ∙ q)), lt-ltb 32 (length es) (omega (arith, edits_length f s n xs 0)))

  module _ (z : n ≡ 0 → ⊥) (h : n ≤ 32) where
    some : eqb (length es) 0 ≡ false
    some = ne_eqb (length es) 0 (λ q. z (sym (edits_length f s n xs 0) ∙ q))

    few : ltb 32 (length es) ≡ false
    few = le-ltb 32 (length es) (omega (arith, edits_length f s n xs 0))

    pub list_9 : passes k ws ≡ false → listed 9 1 ≡ list_says k ws (edits_from f s n xs 0)
    unfolding list_says
    list_9 p = rw (some, few, p)

    -- the rows as a slice
    pub list_says_lem : (E : ℕ) → E ≡ k.head + row_words k → passes k ws ≡ true → (r : Listed) → r ≡ first_refusal k (cells_in ws) 0 (table_in k (get_or ws 1 0) (take (E - k.head) (drop k.head ws))) (edits_from f s n xs 0) → r ≡ list_says k ws (edits_from f s n xs 0)
    unfolding list_says
    list_says_lem E e p r q = rw (some, few, p) (rw (rows_slice k ws E e) at q)

-- the words of a store that passes the check
pub passed_room : (k : Kind) → Shaped k → (ws : List ℕ) {h : Bool} → h ≡ passes k ws → h ≡ true → Roomy k (cells_in ws) ws
passed_room k sh ws e h = sound_room k sh ws (sound k sh ws (sym e ∙ h))

-- the code's count is the list's length
pub accepted_few : (k : Kind) (ws : List ℕ) (f s n : ℕ) (xs : List ℕ) → Accepted k ws (edits_from f s n xs 0) → n ≤ 32
accepted_few k ws f s n xs a = omega (arith, edits_length f s n xs 0, a.long)
