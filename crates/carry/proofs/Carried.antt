-- What a carry answers, by the tests that lead to it; and what stands in the words where the answer is 0.
-- Assumes nothing.
use mathlib.Core.Path.{ap, ◌≡◌, refl, sym, ◌∙◌}
use mathlib.Core.Bool.{true, false}
use mathlib.Core.List.{List, [], ◌∷◌, ◌++◌}
use Prim.Native.Nat.{ℕ, ◌+◌, ◌-◌, ◌*◌, ◌≤◌, ◌<◌}
use native.Mathlib.Omega.{arith}
use lib.Dec.{ltb}
use lib.ListN.{length, get_or, take, drop}
use borrow.Author.Tests.{lt-ltb, le-ltb, ltb-false, le-leb}
use borrow.Rule.Slice.PartMut.{put_mid}
use Rattle.model.specs.Rules.{stop, cells}
use Rattle.model.specs.Table.{Kind, Rule, Table, Shaped, row_words, cells_of, within, all_right}
use Rattle.model.proofs.Tests.{by_test}
use Rattle.rows.specs.Rows.{tree_at}
use Rattle.cells.specs.Text.{part}
use Rattle.table.specs.declared.shape.Shape.{Shape}
use Rattle.table.specs.Rows.{kind_of, rows_text, places}
use Rattle.layout.specs.Inner.{front_text, Bare, planted}
use Rattle.layout.specs.Store.{rows_of, table_of, room_for, passes, holding, carry_says, carry_words}
use Rattle.layout.proofs.Parts.{rows_slice}
use Rattle.layout.proofs.Sound.{Roomy, roomy, Sound, sound, count_is}
use Rattle.layout.proofs.Passed.{sound_free}
use Rattle.plant.proofs.Planting.{ready_bare, ready_room, done_words}
use Rattle.plant.proofs.Left.{done, kept}

module _ (o s : Kind) (from ws : List ℕ) (c : ℕ) where
  pub carry_9 : passes o from ≡ false → 9 ≡ carry_says o s from ws c
  carry_9 h = rw h

  module _ (h : passes o from ≡ true) where
    pub carry_8 : room_for s c ws ≡ false → 8 ≡ carry_says o s from ws c
    carry_8 r = rw (h, r)

    -- the cells in use are named by the first of the two links: E is the code's end of the rows
    module _ (sh : Shaped o) (q : o.tops ≡ s.tops) (r : room_for s c ws ≡ true) (E : ℕ) (f : E ≡ o.head + row_words o) where
      in_use : get_or from E 0 ≡ cells_of s (table_of o from)
      in_use = rw (f, ← q) (sound_free o sh from (sound o sh from h))

      pub carry_6 : c < get_or from E 0 → 6 ≡ carry_says o s from ws c
      carry_6 l = rw (h, r, lt-ltb c (cells_of s (table_of o from)) (omega (arith, in_use)))

      pub carry_0 : get_or from E 0 ≤ c → 0 ≡ carry_says o s from ws c
      carry_0 l = rw (h, r, le-ltb c (cells_of s (table_of o from)) (omega (arith, in_use)))

  -- THE WORDS: what an answer 0 leaves, and what a refusal does
  pub carry_done : (new : List ℕ) → 0 ≡ carry_says o s from ws c → new ≡ holding s c (table_of o from) ws → new ≡ carry_words o s from ws c
  carry_done = done (carry_says o s from ws c) (holding s c (table_of o from) ws) ws

  pub carry_kept : (b : ℕ) → b ≡ carry_says o s from ws c → (b ≡ 0 → ⊥) → ws ≡ carry_words o s from ws c
  carry_kept = kept (carry_says o s from ws c) (holding s c (table_of o from) ws) ws

-- what the answer 0 says: the old store passes, there is room, and the table fits
pub record Goes (o s : Kind) (from ws : List ℕ) (c : ℕ) : Type 0 where
  pub old : Sound o from
  pub room : Roomy s c ws
  pub cells : cells_of s (table_of o from) ≤ c

pub goes : (o s : Kind) (sh : Shaped o) (from ws : List ℕ) (c : ℕ) → 0 ≡ carry_says o s from ws c → Goes o s from ws c
goes o s sh from ws c e = by_test (passes o from)
    (λ h. by_test (room_for s c ws)
    (λ r. by_test (ltb c (cells_of s (table_of o from)))
    (λ l. absurd (let z : 0 ≡ 6 = e ∙ rw (h, r, l) in omega arith))
    (λ l. record { old = sound o sh from h; room = roomy s c ws r; cells = ltb-false c _ l }))
    (λ r. absurd (let z : 0 ≡ 8 = e ∙ rw (h, r) in omega arith)))
    (λ h. absurd (let z : 0 ≡ 9 = e ∙ rw h in omega arith))

-- A TABLE WITHIN THE OLD KIND'S LIMITS is within the new one's, which takes as many rules or more
right_same : (o s : Kind) → o.tops ≡ s.tops → o.ports ≡ s.ports → (rs : List Rule) → all_right o rs ≡ all_right s rs
right_same o s q p [] = refl
right_same o s q p (r ∷ rs) = rw (right_same o s q p rs, p, q)

carried_within : (o s : Kind) (from : List ℕ) → o.tops ≡ s.tops → Shaped o → Shaped s → o.most ≤ s.most → Sound o from → within s (table_of o from) ≡ true
carried_within o s from q sh th more d =
    let t = table_of o from in
    let p : o.ports ≡ s.ports = omega (arith, sh.last, th.last, ap length q) in
    rw (le-leb (length t.rules) s.most (omega (arith, count_is o sh from, d.few)), d.rising) (sym (right_same o s q p t.rules) ∙ d.right)

-- THE WORDS THAT ARE WRITTEN where the answer is 0: E is the code's end of the old rows, F that of the new ones, p the emptied part, and x the front, which is right for every table whose rows were lent
module _ (o s : Kind) (sh : Shaped o) (th : Shaped s) (q : o.tops ≡ s.tops) (wide : o.width ≡ s.width) (more : o.most ≤ s.most) (from ws : List ℕ) (c : ℕ) (e : 0 ≡ carry_says o s from ws c) (E F : ℕ) (d : E ≡ o.head + row_words o) (f : F ≡ s.head + row_words s) (p x : List ℕ) (b : p ≡ part c stop) (w : (old : Kind) (t : Table) → old.tops ≡ s.tops → old.width ≡ s.width → get_or from 1 0 ≡ length t.rules → get_or from 1 0 ≤ old.most → take (E - o.head) (drop o.head from) ≡ rows_text old t → x ≡ front_text s c t) where
  v : Goes o s from ws c
  v = goes o s sh from ws c e

  count : get_or from 1 0 ≡ length (table_of o from).rules
  count = sym (count_is o sh from)

  front_is : x ≡ front_text s c (table_of o from)
  front_is = w o (table_of o from) q wide count v.old.few (rows_slice o from E d ∙ v.old.rows)

  right : within s (table_of o from) ≡ true
  right = carried_within o s from q sh th more v.old

  pub carried_bare : Bare s (x ++ drop F (put_mid F (F + (2 + 8 * c) - F) ws p)) c
  carried_bare = ready_bare s th c F f ws p x v.room.most v.room.long b (table_of o from) front_is

  pub carried_room : cells (tree_at (rows_of s (x ++ drop F (put_mid F (F + (2 + 8 * c) - F) ws p))) 0 (length s.tops) (places s.width (get_or from 1 0))) ≤ c
  carried_room = ready_room s th c F f ws p x v.room.most v.room.long b (table_of o from) front_is (get_or from 1 0) count right v.cells

  pub carried_words : planted s c (get_or from 1 0) (x ++ drop F (put_mid F (F + (2 + 8 * c) - F) ws p)) ≡ holding s c (table_of o from) ws
  carried_words = done_words s th c F f ws p x v.room.most v.room.long b (table_of o from) front_is (get_or from 1 0) count right
