-- What a list of edits leaves, by what it answers.
-- Assumes nothing.
use mathlib.Core.Path.{◌≡◌, refl, sym, ap, ◌∙◌}
use mathlib.Core.Bool.{true}
use mathlib.Core.List.{List}
use Prim.Native.Nat.{ℕ, ◌+◌, ◌-◌, ◌*◌, ◌≤◌}
use native.Mathlib.Omega.{arith}
use lib.ListN.{length, take, drop}
use borrow.Rule.Slice.PartMut.{put_mid}
use Rattle.model.specs.Rules.{stop}
use Rattle.model.specs.Table.{Kind, Shaped, Table, cells_of, row_words, within}
use Rattle.cells.specs.Text.{part}
use Rattle.cells.specs.Planted.{Planted}
use Rattle.layout.specs.Store.{cells_in, table_of, holding}
use Rattle.series.specs.Edits.{Edit, edited_all, list_says, list_words}
use Rattle.layout.proofs.Sound.{Roomy, Sound, sound}
use Rattle.layout.proofs.Passed.{sound_room, sound_within, sound_most, sound_planted}
use Rattle.plant.proofs.Planting.{still_long}
use Rattle.plant.proofs.Left.{done, kept, front_stays}
use Rattle.series.specs.declared.Listed.{Listed}
use Rattle.series.proofs.Taken.{Accepted, accepted, all_right, all_fits}
use Rattle.lists.specs.Inner.{Fronts}

-- THE WORDS: what is left where it is done, and where it is refused
module _ (k : Kind) (ws : List ℕ) (es : List Edit) where
  pub list_done : (new : List ℕ) → (list_says k ws es).answer ≡ 0 → new ≡ holding k (cells_in ws) (edited_all (table_of k ws) es) ws → new ≡ list_words k ws es
  unfolding list_words
  list_done new z = done (list_says k ws es).answer (holding k (cells_in ws) (edited_all (table_of k ws) es) ws) ws new (sym z)

  pub list_kept : ((list_says k ws es).answer ≡ 0 → ⊥) → ws ≡ list_words k ws es
  unfolding list_words
  list_kept = kept (list_says k ws es).answer (holding k (cells_in ws) (edited_all (table_of k ws) es) ws) ws _ refl

-- A LIST THAT IS DONE, where r is what it answers and E the code's end of the rows
module _ (k : Kind) (sh : Shaped k) (ws : List ℕ) (es : List Edit) {r : Listed} (e : r ≡ list_says k ws es) (z : r.answer ≡ 0) where
  pub taken_all : Accepted k ws es
  taken_all = accepted k ws es (sym (ap (λ r. r.answer) e) ∙ z)

  o : Sound k ws
  o = sound k sh ws taken_all.passed

  pub room : Roomy k (cells_in ws) ws
  room = sound_room k sh ws o

  abbrev pub after : Table
  after = edited_all (table_of k ws) es

  pub right_after : within k (edited_all (table_of k ws) es) ≡ true
  right_after = all_right k (cells_in ws) (table_of k ws) es (sound_within k sh ws o) taken_all.taken

  pub fits_after : cells_of k (edited_all (table_of k ws) es) ≤ cells_in ws
  fits_after = all_fits k (cells_in ws) (table_of k ws) es (sound_most k sh ws o) taken_all.taken

  module _ (E : ℕ) (f : E ≡ k.head + row_words k) where
    pub tree_stands : Planted (take (E + (2 + 8 * cells_in ws) - E) (drop E ws)) (cells_in ws) (length k.tops)
    tree_stands = sound_planted k sh ws o E f

    -- with its cells emptied
    pub front_emptied : (m : ℕ) (p : List ℕ) → Fronts k (cells_in ws) (table_of k ws) es (take E (put_mid E m ws p))
    front_emptied m p = record { right = sound_within k sh ws o; text = front_stays k sh ws taken_all.passed E m p f; taken = taken_all.taken }

    pub emptied_long : (p : List ℕ) → p ≡ part (cells_in ws) stop → length (put_mid E (E + (2 + 8 * cells_in ws) - E) ws p) ≡ length ws
    emptied_long p d = still_long (cells_in ws) E ws p (omega (arith, f, room.long)) room.most d
