-- Request P9's carrying in plain facts holds: what is left is the text of the old store's table.
-- Assumes nothing.
use mathlib.Core.Path.{◌≡◌, refl, sym, ap, ◌∙◌}
use mathlib.Core.Bool.{Bool, true, false, cond}
use mathlib.Core.List.{List}
use Prim.Native.Nat.{ℕ, ◌≤◌, ◌<◌}
use native.Mathlib.Omega.{arith}
use lib.Dec.{ltb}
use lib.ListN.{take}
use borrow.Author.Tests.{ltb-true, ltb-false}
use Rattle.model.specs.Table.{Table, cells_of}
use Rattle.model.specs.Ipv4.{ipv4, large, is_large, kind_in, ipv4_shaped}
use Rattle.layout.specs.Store.{size, table_of, room_for, holding, start_words}
use Rattle.layout.proofs.Sound.{Roomy, roomy}
use Rattle.demands.specs.Calls.{Passes, NoRoom}
use Rattle.demands.specs.Demand1.{Refuses, done}
use Rattle.demands.specs.Demand3.{History, words_left, SameRules}
use Rattle.demands.specs.Carry.{answer_to, carried_to, Carried, Past, started, edited, carried, Carry}
use Rattle.demands.proofs.Room.{no_room, room_there}
use Rattle.demands.proofs.Held.{Leaves, right, checked_0, done_leaves, leaves, start_leaves}
use Rattle.demands.proofs.KindNamed.{shaped_in, by_pass, pass_in, within_large}
use Rattle.demands.proofs.Demand1.{line, on_line, check_line, spares}
use Rattle.demands.proofs.Demand3.{change_on, stays, same_table, twins, same_front}
use Rattle.demands.proofs.Frozen.{same_over, same_over_packet}

module _ (old ws : List ℕ) (c : ℕ) where
  abbrev t : Table
  t = table_of (kind_in old) old

  lines : Refuses 9 (Passes (kind_in old) old → ⊥) (Refuses 8 (NoRoom large c ws) (Refuses 6 (c < cells_of large t) done)) (answer_to old ws c)
  lines = check_line (kind_in old) old _
      (on_line (room_for large c ws) 8 _ (no_room large c ws) (room_there large c ws)
      (line (ltb c (cells_of large t)) 6 0 (ltb-true c (cells_of large t)) (λ f p. omega (arith, ltb-false c (cells_of large t) f)) refl))

  -- AN ACCEPTED CARRYING: there is room, and the tree fits
  room : answer_to old ws c ≡ 0 → Roomy large c ws × (cells_of large t ≤ c)
  room h = go (room_for large c ws) (ltb c (cells_of large t)) refl refl (checked_0 (kind_in old) (shaped_in old) old _ h).1
    where
      go : (x y : Bool) → room_for large c ws ≡ x → ltb c (cells_of large t) ≡ y → ◌≡◌ {A = ℕ} (cond x (cond y 6 0) 8) 0 → Roomy large c ws × (cells_of large t ≤ c)
      go true true e f z = absurd (omega arith)
      go true false e f z = (roomy large c ws e, omega (arith, ltb-false c (cells_of large t) f))
      go false y e f z = absurd (omega arith)

  module _ (h : answer_to old ws c ≡ 0) where
    old_passes : Passes (kind_in old) old
    old_passes = (checked_0 (kind_in old) (shaped_in old) old _ h).0

    pub left : Leaves large ws (carried_to old ws c) c t
    left =
        let r = room h in
        rw (done_leaves (answer_to old ws c) (holding large c t ws) ws h)
        (leaves large (ipv4_shaped true) ws c t r.0 (within_large (is_large old) t (right (kind_in old) (shaped_in old) old old_passes)) r.1)

    here : is_large (carried_to old ws c) ≡ true
    here = by_pass true (carried_to old ws c) left.pass

    pub new_passes : Passes (kind_in (carried_to old ws c)) (carried_to old ws c)
    new_passes = pass_in true (carried_to old ws c) left.pass

    table : table_of (kind_in (carried_to old ws c)) (carried_to old ws c) ≡ t
    table = ap (λ (b : Bool). table_of (ipv4 b) (carried_to old ws c)) here ∙ left.table

    is_carried : Carried old c (carried_to old ws c)
    is_carried =
        record {
          kind = ap ipv4 here;
          passes = new_passes;
          cells = left.cells_left;
          rules = ap (λ (x : Table). x.rules) table;
          default = ap (λ (x : Table). x.action) table;
          twins = twins old (carried_to old ws c) old_passes new_passes (sym table);
          over = same_over old (carried_to old ws c) old_passes new_passes (sym table);
          over_packet = same_over_packet old (carried_to old ws c) old_passes new_passes (sym table);
        }

    words : (g : History) → SameRules (words_left g) old → g.large ≡ true → g.cells ≡ c → take (size large c) (words_left g) ≡ take (size large c) (carried_to old ws c)
    words g e l n =
        let z = stays g in
        let q = same_table (words_left g) old z.0 old_passes e ∙ sym table in
        same_front (words_left g) (carried_to old ws c) z.0 new_passes q true true c c (z.1 ∙ l) here (z.2 ∙ n) left.cells_left refl refl

-- HOW A STORE CAME TO BE
past_passes : (ws : List ℕ) → Past ws → Passes (kind_in ws) ws
past_passes ws (started b lent c a h) = pass_in b (start_words (ipv4 b) lent c a) (start_leaves (ipv4 b) (ipv4_shaped b) lent c a h).pass
past_passes ws (edited {old} p e) = (change_on old e (past_passes old p)).0
past_passes ws (carried {old} p lent c h) = new_passes old lent c h

pub carry : Carry
carry =
    record {
      answer = lines;
      spares = λ old ws c. spares large c (answer_to old ws c) _ ws (λ h. (_, left old ws c h));
      leaves = is_carried;
      same_words = words;
      past_passes = past_passes;
      past_alike = λ ws vs p q e. let g = past_passes ws p in let h = past_passes vs q in twins ws vs g h (same_table ws vs g h e);
    }
