-- What the edits leave, by what they answer; and what an answer 0 says of the table before and after.
-- Assumes nothing.
use mathlib.Core.Path.{◌≡◌, sym, ◌∙◌}
use mathlib.Core.Bool.{true}
use mathlib.Core.List.{List}
use Prim.Native.Nat.{ℕ, ◌+◌, ◌-◌, ◌≤◌, ◌<◌}
use native.Mathlib.Omega.{arith}
use lib.Dec.{ltb}
use lib.ListN.{length, get_or}
use Rattle.model.specs.Table.{Kind, Shaped, Rule, cells_of, within, stands, with_rule, without}
use Rattle.model.proofs.Tests.{by_test}
use Rattle.model.proofs.Edits.{Taken, taken, length_added, length_removed, insert_within, delete_within, delete_fewer}
use Rattle.table.specs.Rows.{ahead, no_rule}
use Rattle.table.proofs.Edits.{at_stands}
use Rattle.table.proofs.Place.{ahead_all}
use Rattle.layout.specs.Store.{cells_in, table_of, passes, holding, insert_says, insert_words, delete_says, delete_words}
use Rattle.layout.proofs.Sound.{sound, count_is}
use Rattle.layout.proofs.Passed.{sound_within, sound_most}
use Rattle.plant.proofs.Left.{done, kept}

-- THE WORDS: what an answer 0 leaves, and what a refusal does
module _ (k : Kind) (sh : Shaped k) (ws : List ℕ) (r : Rule) where
  pub insert_done : (new : List ℕ) → 0 ≡ insert_says k ws r → new ≡ holding k (cells_in ws) (with_rule r (table_of k ws)) ws → new ≡ insert_words k ws r
  insert_done = done (insert_says k ws r) (holding k (cells_in ws) (with_rule r (table_of k ws)) ws) ws

  pub insert_kept : (b : ℕ) → b ≡ insert_says k ws r → (b ≡ 0 → ⊥) → ws ≡ insert_words k ws r
  insert_kept = kept (insert_says k ws r) (holding k (cells_in ws) (with_rule r (table_of k ws)) ws) ws

module _ (k : Kind) (sh : Shaped k) (ws : List ℕ) (n : ℕ) where
  pub delete_done : (new : List ℕ) → 0 ≡ delete_says k ws n → new ≡ holding k (cells_in ws) (without n (table_of k ws)) ws → new ≡ delete_words k ws n
  delete_done = done (delete_says k ws n) (holding k (cells_in ws) (without n (table_of k ws)) ws) ws

  pub delete_kept : (b : ℕ) → b ≡ delete_says k ws n → (b ≡ 0 → ⊥) → ws ≡ delete_words k ws n
  delete_kept = kept (delete_says k ws n) (holding k (cells_in ws) (without n (table_of k ws)) ws) ws

-- what the answer 0 of an insert says
pub inserted : (k : Kind) (sh : Shaped k) (ws : List ℕ) (r : Rule) → 0 ≡ insert_says k ws r → (passes k ws ≡ true) × Taken k (cells_in ws) (table_of k ws) r
inserted k sh ws r e = by_test (passes k ws)
    (λ h. (h, taken k (cells_in ws) (table_of k ws) r (sym (e ∙ rw h))))
    (λ h. absurd (let z : 0 ≡ 9 = e ∙ rw h in omega arith))

-- what the answer 0 of a delete says
pub deleted : (k : Kind) (sh : Shaped k) (ws : List ℕ) (n : ℕ) → 0 ≡ delete_says k ws n → (passes k ws ≡ true) × (stands n (table_of k ws).rules ≡ true)
deleted k sh ws n e = by_test (passes k ws)
    (λ h. by_test (ltb 65534 n)
    (λ l. absurd (let z : 0 ≡ 1 = e ∙ rw (h, l) in omega arith))
    (λ l. by_test (stands n (table_of k ws).rules) (λ s. (h, s)) (λ s. absurd (let z : 0 ≡ 4 = e ∙ rw (h, l, s) in omega arith))))
    (λ h. absurd (let z : 0 ≡ 9 = e ∙ rw h in omega arith))

-- AN INSERT THAT IS DONE: the table has room, and the new table is within the limits and fits
module _ (k : Kind) (sh : Shaped k) (ws : List ℕ) (r : Rule) (e : 0 ≡ insert_says k ws r) where
  pub insert_room : get_or ws 1 0 < k.most
  insert_room = omega (arith, count_is k sh ws, (inserted k sh ws r e).1.room)

  pub insert_place : (p v : ℕ) → p ≡ ahead v (table_of k ws).rules → p ≤ get_or ws 1 0
  insert_place p v f = omega (arith, count_is k sh ws, ahead_all v (table_of k ws).rules)

  pub insert_count : get_or ws 1 0 + 1 ≡ length (with_rule r (table_of k ws)).rules
  insert_count = omega (arith, count_is k sh ws, length_added r (table_of k ws).rules)

  pub insert_right : within k (with_rule r (table_of k ws)) ≡ true
  insert_right =
      let h = (inserted k sh ws r e).0 in
      insert_within k (cells_in ws) (table_of k ws) r (sound_within k sh ws (sound k sh ws h)) (sym (e ∙ rw h))

  pub insert_cells : cells_of k (with_rule r (table_of k ws)) ≤ cells_in ws
  insert_cells = (inserted k sh ws r e).1.cells

-- A DELETE THAT IS DONE
module _ (k : Kind) (sh : Shaped k) (ws : List ℕ) (n : ℕ) (e : 0 ≡ delete_says k ws n) where
  pub delete_place : (p : ℕ) → p ≡ ahead n (table_of k ws).rules → p < get_or ws 1 0
  delete_place p f =
      let d = deleted k sh ws n e in
      omega (arith, (at_stands n no_rule 0 (table_of k ws).rules (sound k sh ws d.0).rising d.1).0, count_is k sh ws)

  pub delete_count : get_or ws 1 0 - 1 ≡ length (without n (table_of k ws)).rules
  delete_count =
      let d = deleted k sh ws n e in
      omega (arith, count_is k sh ws, length_removed 0 n (table_of k ws).rules (sound k sh ws d.0).rising d.1)

  pub delete_right : within k (without n (table_of k ws)) ≡ true
  delete_right = delete_within k n (table_of k ws) (sound_within k sh ws (sound k sh ws (deleted k sh ws n e).0))

  pub delete_cells : cells_of k (without n (table_of k ws)) ≤ cells_in ws
  delete_cells = omega (arith, delete_fewer k n (table_of k ws), sound_most k sh ws (sound k sh ws (deleted k sh ws n e).0))
