-- Which words a start leaves, and an edit by its answer; and that the front of a store stays when its cells are emptied.
-- Assumes nothing.
use mathlib.Core.Path.{◌≡◌, sym, ap, ap₂, ◌∙◌}
use mathlib.Core.Bool.{true, false}
use mathlib.Core.List.{List, [], ◌++◌}
use Prim.Native.Nat.{ℕ, ◌+◌}
use native.Mathlib.Omega.{arith}
use lib.ListN.{take}
use lib.Seq.{take-add}
use borrow.Rule.Slice.PartMut.{put_mid, take_put}
use borrow.Author.Tests.{eq-eqb, ne_eqb}
use Rattle.model.specs.Table.{Kind, Shaped, row_words}
use Rattle.layout.specs.Store.{head_text, cells_in, table_of, room_for, passes, holding, unless, start_answer, start_words}
use Rattle.layout.specs.Inner.{front_text}
use Rattle.layout.proofs.Parts.{head_of}
use Rattle.layout.proofs.Sound.{sound, count_is}
use Rattle.layout.proofs.Passed.{sound_room}

-- START
module _ (k : Kind) (ws : List ℕ) (c a : ℕ) where
  pub start_refused : room_for k c ws ≡ false → (8 ≡ start_answer k ws c) × (ws ≡ start_words k ws c a)
  start_refused h = (rw h, rw h)

  pub start_done : room_for k c ws ≡ true → (new : List ℕ) → new ≡ holding k c (record { action = a; rules = [] }) ws → (0 ≡ start_answer k ws c) × (new ≡ start_words k ws c a)
  start_done h new e = (rw h, rw h e)

-- THE WORDS: what an answer 0 leaves, and what a refusal does
pub done : (a : ℕ) (h ws new : List ℕ) → 0 ≡ a → new ≡ h → new ≡ unless a h ws
done a h ws new e q = rw (eq-eqb a 0 (sym e)) q

pub kept : (a : ℕ) (h ws : List ℕ) (b : ℕ) → b ≡ a → (b ≡ 0 → ⊥) → ws ≡ unless a h ws
kept a h ws b e n = rw (ne_eqb a 0 (λ z. n (e ∙ z)))

-- THE FRONT of a store that passes is that of its table, and stays when its cells are emptied
module _ (k : Kind) (sh : Shaped k) (ws : List ℕ) (h : passes k ws ≡ true) where
  front_of : take (k.head + row_words k) ws ≡ front_text k (cells_in ws) (table_of k ws)
  unfolding front_text
  front_of =
      let o = sound k sh ws h in
      let l = (sound_room k sh ws o).long in
      take-add k.head (row_words k) ws ∙ ap₂ ◌++◌ (head_of k sh ws (omega (arith, l)) o.marked o.zeros ∙ ap (head_text k (cells_in ws)) (sym (count_is k sh ws))) o.rows

  pub front_stays : (E m : ℕ) (p : List ℕ) → E ≡ k.head + row_words k → take E (put_mid E m ws p) ≡ front_text k (cells_in ws) (table_of k ws)
  front_stays E m p f = take_put E m ws p (omega (arith, (sound_room k sh ws (sound k sh ws h)).long)) ∙ (ap (λ i. take i ws) f ∙ front_of)
