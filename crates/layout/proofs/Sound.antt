-- What passing the check says, part by part, and that the parts make it.
-- Assumes nothing.
use mathlib.Core.Path.{◌≡◌, sym, ap, ap₂, ◌∙◌}
use mathlib.Core.Bool.{Bool, true, false, not}
use mathlib.Core.List.{List, [], ◌++◌}
use Prim.Native.Nat.{ℕ, ◌+◌, ◌-◌, ◌≤◌, ◌<◌}
use native.Mathlib.Omega.{arith}
use lib.Dec.{leb}
use lib.ListN.{length, get_or, take, drop, replicate, length-take, length-drop, length-replicate, get_or-replicate}
use lib.Seq.{ext_get_or, get_or-take, get_or-drop}
use borrow.Author.Tests.{leb-true, le-leb, not-true}
use Rattle.model.specs.Lists.{same}
use Rattle.model.specs.Table.{Kind, Shaped, front, within, rising_from, all_right}
use Rattle.model.proofs.Tests.{by_test, never, and_left, and_right, and_both, same_test}
use Rattle.model.proofs.UpTo.{same_true, true_same}
use Rattle.rows.specs.Rows.{tree_at}
use Rattle.cells.specs.Text.{part}
use Rattle.table.specs.Rows.{rows_text, places, Tells, Zeros}
use Rattle.table.proofs.Laws.{rules_length, said_yes, said_no}
use Rattle.layout.specs.Named.{stored}
use Rattle.table.proofs.Edits.{rows_long as rows_are_long}
use Rattle.layout.specs.Store.{size, head_text, text, cells_in, rows_of, part_of, table_of, room_for, passes}
use Rattle.layout.specs.Inner.{table_stands, body_stands}
use Rattle.layout.proofs.Parts.{head_length, split_equal, in_three, rows_long, head_of, of_head}

-- the parts of a store that passes
pub record Sound (k : Kind) (ws : List ℕ) : Type 0 where
  pub room : room_for k (cells_in ws) ws ≡ true
  pub few : get_or ws 1 0 ≤ k.most
  pub marked : get_or ws 2 0 ≡ k.mark
  pub zeros : take (k.head - 3) (drop 3 ws) ≡ replicate (k.head - 3) 0
  pub rows : rows_of k ws ≡ rows_text k (table_of k ws)
  pub rising : rising_from 0 (table_of k ws).rules ≡ true
  pub right : all_right k (table_of k ws).rules ≡ true
  pub tree : part_of k (cells_in ws) ws ≡ part (cells_in ws) (tree_at (rows_of k ws) 0 (length k.tops) (places k.width (get_or ws 1 0)))

-- the limits of c, and the length
pub record Roomy (k : Kind) (c : ℕ) (ws : List ℕ) : Type 0 where
  pub least : length k.tops ≤ c
  pub most : c ≤ 65536
  pub long : size k c ≤ length ws

pub roomy : (k : Kind) (c : ℕ) (ws : List ℕ) → room_for k c ws ≡ true → Roomy k c ws
roomy k c ws h =
    let t = and_right (leb (length k.tops) c) _ h in
    record {
      least = leb-true (length k.tops) c (and_left (leb (length k.tops) c) _ h);
      most = leb-true c 65536 (and_left (leb c 65536) _ t);
      long = leb-true (size k c) (length ws) (and_right (leb c 65536) _ t);
    }

pub room_is : (k : Kind) (c : ℕ) (ws : List ℕ) → Roomy k c ws → room_for k c ws ≡ true
room_is k c ws r = rw (le-leb (length k.tops) c r.least, le-leb c 65536 r.most, le-leb (size k c) (length ws) r.long)

module _ (k : Kind) (s : Shaped k) (ws : List ℕ) where
  -- the number of rules that the words name
  pub count_is : length (table_of k ws).rules ≡ get_or ws 1 0
  count_is = rules_length k (get_or ws 1 0) (rows_of k ws)

  pub sound : passes k ws ≡ true → Sound k ws
  unfolding passes text stored
  sound h =
      let c = cells_in ws in
      let t = table_of k ws in
      let room = and_left (room_for k c ws) _ h in
      let long = (roomy k c ws room).long in
      let g = and_right (room_for k c ws) _ h in
      let w = and_left (within k t) _ g in
      let v = and_right (leb (length t.rules) k.most) _ w in
      let e = sym (in_three k ws c) ∙ same_true (take (size k c) ws) (text k c t) (and_right (within k t) _ g) in
      let a = split_equal (take k.head ws) (head_text k c (length t.rules)) (rows_of k ws ++ part_of k c ws) (rows_text k t ++ part c (stored k t)) (front_long ws long ∙ sym (head_length k s c (length t.rules) [])) e in
      let b = split_equal (rows_of k ws) (rows_text k t) (part_of k c ws) (part c (stored k t)) (rows_long k ws c long ∙ sym (rows_are_long k t)) a.1 in
      record {
        room = room;
        few = omega (arith, count_is, leb-true (length t.rules) k.most (and_left (leb (length t.rules) k.most) _ w));
        marked = (of_head k s ws (omega (arith, long)) c (length t.rules) a.0).0;
        zeros = (of_head k s ws (omega (arith, long)) c (length t.rules) a.0).1;
        rows = b.0;
        rising = and_left (rising_from 0 t.rules) _ v;
        right = and_right (rising_from 0 t.rules) _ v;
        tree = b.1 ∙ ap₂ (λ rows m. part c (tree_at rows 0 (length k.tops) (places k.width m))) (sym b.0) count_is;
      }
    where
      front_long : (ws : List ℕ) → size k (cells_in ws) ≤ length ws → length (take k.head ws) ≡ k.head
      front_long ws l = simp length-take (omega arith)

  pub sound_passes : Sound k ws → passes k ws ≡ true
  unfolding passes text stored
  sound_passes o =
      let c = cells_in ws in
      let t = table_of k ws in
      let long = (roomy k c ws o.room).long in
      let w : within k t ≡ true = rw (le-leb (length t.rules) k.most (omega (arith, count_is, o.few)), o.rising) o.right in
      let e : take (size k c) ws ≡ text k c t = in_three k ws c ∙ ap₂ ◌++◌ (head_of k s ws (omega (arith, long)) o.marked o.zeros ∙ ap (head_text k c) (sym count_is)) (ap₂ ◌++◌ o.rows (o.tree ∙ ap₂ (λ rows m. part c (tree_at rows 0 (length k.tops) (places k.width m))) o.rows (sym count_is))) in
      and_both (room_for k c ws) _ o.room (and_both (within k t) _ w (true_same (take (size k c) ws) (text k c t) e))

  -- the answer no
  pub unsound : (Sound k ws → ⊥) → false ≡ passes k ws
  unsound h = by_test (passes k ws) (λ t. absurd (h (sound t))) (λ t. sym t)

-- the words of a head behind the first three are zeros
module _ (k : Kind) (s : Shaped k) (ws : List ℕ) (long : k.head ≤ length ws) where
  pub zeros_are : Zeros ws 3 k.head → take (k.head - 3) (drop 3 ws) ≡ replicate (k.head - 3) 0
  zeros_are z =
      let y : length (take (k.head - 3) (drop 3 ws)) ≡ k.head - 3 = simp (length-take, length-drop) (omega (arith, long, s.three)) in
      ext_get_or 0 (take (k.head - 3) (drop 3 ws)) (replicate (k.head - 3) 0) (y ∙ sym (length-replicate (k.head - 3) 0))
      (λ i h. get_or-take (k.head - 3) (drop 3 ws) i 0 (omega (arith, y)) ∙ (get_or-drop 3 ws i 0 ∙ (z (3 + i) (omega arith) (omega (arith, y)) ∙ sym (get_or-replicate (k.head - 3) i 0 0 (omega (arith, y))))))

  pub are_zeros : take (k.head - 3) (drop 3 ws) ≡ replicate (k.head - 3) 0 → Zeros ws 3 k.head
  are_zeros e i a b =
      let y : 3 + (i - 3) ≡ i = omega arith in
      ap (λ j. get_or ws j 0) (sym y) ∙ (sym (get_or-drop 3 ws (i - 3) 0) ∙ (sym (get_or-take (k.head - 3) (drop 3 ws) (i - 3) 0 (omega arith)) ∙ (ap (λ xs. get_or xs (i - 3) 0) e ∙ get_or-replicate (k.head - 3) (i - 3) 0 0 (omega arith))))

-- the tests of the check, in its order
module _ (k : Kind) (s : Shaped k) (ws : List ℕ) where
  pub check_short : length ws < front k → false ≡ passes k ws
  check_short h = unsound k s ws (λ o. omega (arith, (roomy k (cells_in ws) ws o.room).long))

  pub check_room : {b : Bool} → b ≡ room_for k (cells_in ws) ws → not b ≡ true → false ≡ passes k ws
  check_room {b} e t = unsound k s ws (λ o. never (sym (e ∙ o.room) ∙ not-true b t))

  pub check_mark : (get_or ws 2 0 ≡ k.mark → ⊥) → false ≡ passes k ws
  check_mark h = unsound k s ws (λ o. h o.marked)

  pub check_few : k.most < get_or ws 1 0 → false ≡ passes k ws
  check_few h = unsound k s ws (λ o. omega (arith, o.few))

  module _ (room : room_for k (cells_in ws) ws ≡ true) where
    long : k.head ≤ length ws
    long = omega (arith, (roomy k (cells_in ws) ws room).long)

    pub check_zeros : (b : Bool) → Tells b (Zeros ws 3 k.head) → not b ≡ true → false ≡ passes k ws
    check_zeros b e t = unsound k s ws (λ o. said_no b e t (are_zeros k s ws long o.zeros))

    -- what stands behind the head
    pub check_body : (a : Bool) {d : Bool} → get_or ws 1 0 ≤ k.most → get_or ws 2 0 ≡ k.mark → Tells a (Zeros ws 3 k.head) → not a ≡ false
        → d ≡ body_stands k (cells_in ws) (get_or ws 1 0) ws → d ≡ passes k ws
    unfolding body_stands
    check_body a {d} few mark ea ta ed =
        let T = table_stands k (get_or ws 1 0) (rows_of k ws) in
        let S = same (rows_of k ws) (rows_text k (table_of k ws)) in
        same_test d (passes k ws)
        (λ t.
        let w = and_left T _ (sym ed ∙ t) in
        let v = and_right S _ w in
        sound_passes k s ws (record {
          room = room;
          few = few;
          marked = mark;
          zeros = zeros_are k s ws long (said_yes a ea ta);
          rows = same_true _ _ (and_left S _ w);
          rising = and_left (rising_from 0 (table_of k ws).rules) _ v;
          right = and_right (rising_from 0 (table_of k ws).rules) _ v;
          tree = same_true _ _ (and_right T _ (sym ed ∙ t));
        }))
        (λ t.
        let o = sound k s ws t in
        ed ∙ and_both T _ (and_both S _ (true_same _ _ o.rows) (and_both (rising_from 0 (table_of k ws).rules) _ o.rising o.right)) (true_same _ _ o.tree))
