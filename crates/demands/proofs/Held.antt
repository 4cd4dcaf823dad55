-- Words that hold a store: the text of a table passes the check and gives the table back; words that pass are the text of their table; and an accepted start, insert, delete or list of edits leaves such a text, with the same words behind it.
-- Assumes nothing.
use mathlib.Core.Path.{◌≡◌, refl, sym, ap, ap₂, ◌∙◌}
use mathlib.Core.Bool.{Bool, true, false, cond}
use mathlib.Core.List.{List, [], ◌++◌, append_assoc}
use Prim.Native.Nat.{ℕ, ◌≤◌}
use native.Mathlib.Omega.{arith}
use lib.ListN.{length, get_or, take, drop, length-append, length-drop}
use lib.Seq.{take_at, drop_at}
use borrow.Author.Tests.{le-leb, eq-eqb, ne_eqb}
use Rattle.model.specs.Lists.{same}
use Rattle.model.specs.Table.{Kind, Rule, Table, Shaped, row_words, within, with_rule, without, cells_of, insert_answer, delete_answer}
use Rattle.model.proofs.Tests.{and_left, and_right, and_both}
use Rattle.model.proofs.UpTo.{same_true, true_same}
use Rattle.model.proofs.Edits.{taken, insert_within, delete_within, delete_fewer}
use Rattle.model.proofs.Decide.{default_cells}
use Rattle.cells.specs.Text.{part}
use Rattle.cells.proofs.Text.{part_length}
use Rattle.table.specs.Rows.{rows_text, table_in}
use Rattle.table.proofs.Edits.{rows_long}
use Rattle.layout.specs.Named.{stored}
use Rattle.layout.specs.Store.{size, head_text, text, cells_in, rows_of, table_of, room_for, passes, holding, unless, checked, start_answer, start_words, insert_says, insert_words, delete_says, delete_words, cells_gives}
use Rattle.series.specs.Edits.{Edit, edited_all, list_says, list_words}
use Rattle.series.proofs.Taken.{accepted, all_right, all_fits}
use Rattle.layout.proofs.Words.{round_trip}
use Rattle.layout.proofs.Bridge.{stored_cells}
use Rattle.layout.proofs.Parts.{head_length}
use Rattle.layout.proofs.Sound.{Roomy, roomy, room_is, sound}
use Rattle.layout.proofs.Passed.{sound_most}

-- a refusal keeps the words, and an answer 0 leaves the new ones
pub refused_keeps : (a : ℕ) (new ws : List ℕ) → (a ≡ 0 → ⊥) → unless a new ws ≡ ws
refused_keeps a new ws h = rw (ne_eqb a 0 h)

pub done_leaves : (a : ℕ) (new ws : List ℕ) → a ≡ 0 → unless a new ws ≡ new
done_leaves a new ws h = rw (eq-eqb a 0 h)

-- WHAT AN EDIT LEAVES: a store of c cells that holds t and passes, and the words behind it as they were
pub record Leaves (k : Kind) (ws after : List ℕ) (c : ℕ) (t : Table) : Type 0 where
  pub pass : passes k after ≡ true
  pub table : table_of k after ≡ t
  pub cells_left : cells_in after ≡ c
  pub behind : drop (size k c) after ≡ drop (size k c) ws
  pub long : length after ≡ length ws

module _ (k : Kind) (s : Shaped k) where
  -- THE ROWS OF A TABLE behind a head, whatever stands behind them
  module _ (c : ℕ) (t : Table) (behind : List ℕ) where
    pub rows_in : rows_of k (head_text k c (length t.rules) ++ (rows_text k t ++ behind)) ≡ rows_text k t
    rows_in =
        ap (take (row_words k)) (drop_at (head_text k c (length t.rules)) (rows_text k t ++ behind) k.head (head_length k s c (length t.rules) []))
        ∙ take_at (rows_text k t) behind (row_words k) (rows_long k t)

    count_in : get_or (head_text k c (length t.rules) ++ (rows_text k t ++ behind)) 1 0 ≡ length t.rules
    unfolding head_text
    count_in = refl

    pub held_in : within k t ≡ true → table_of k (head_text k c (length t.rules) ++ (rows_text k t ++ behind)) ≡ t
    held_in w = ap₂ (table_in k) count_in rows_in ∙ round_trip k s t w

  -- THE TEXT OF A TABLE within the limits, whose tree has room in c cells
  module _ (c : ℕ) (t : Table) (w : within k t ≡ true) where
    text_length : cells_of k t ≤ c → length (text k c t) ≡ size k c
    unfolding text
    text_length fit = simp length-append (omega (arith, head_length k s c (length t.rules) [], rows_long k t, part_length c (stored k t) (omega (arith, stored_cells k s t w))))

    -- and what stands behind it
    module _ (rest : List ℕ) where
      in_three : text k c t ++ rest ≡ head_text k c (length t.rules) ++ (rows_text k t ++ (part c (stored k t) ++ rest))
      unfolding text
      in_three = simp append_assoc

      pub cells_in_lem : cells_in (text k c t ++ rest) ≡ c
      unfolding text head_text
      cells_in_lem = refl

      pub table_in_lem : table_of k (text k c t ++ rest) ≡ t
      table_in_lem = ap (table_of k) in_three ∙ held_in c t (part c (stored k t) ++ rest) w

  -- words that name c cells, hold the table t within the limits, and begin with its text
  passes_of : (ws : List ℕ) (c : ℕ) (t : Table) → cells_in ws ≡ c → table_of k ws ≡ t → Roomy k c ws → within k t ≡ true → take (size k c) ws ≡ text k c t → passes k ws ≡ true
  unfolding passes
  passes_of ws c t e h r w f =
      and_both (room_for k (cells_in ws) ws) _ (ap (λ n. room_for k n ws) e ∙ room_is k c ws r)
      (and_both (within k (table_of k ws)) _ (ap (within k) h ∙ w)
      (true_same (take (size k (cells_in ws)) ws) (text k (cells_in ws) (table_of k ws)) (ap (λ n. take (size k n) ws) e ∙ f ∙ ap₂ (text k) (sym e) (sym h))))

  -- so the text of a table within the limits passes, whatever stands behind it
  pub text_passes : (c : ℕ) (t : Table) (rest : List ℕ) → length k.tops ≤ c → c ≤ 65536 → within k t ≡ true → cells_of k t ≤ c → passes k (text k c t ++ rest) ≡ true
  text_passes c t rest a b w fit =
      let n = text_length c t w fit in
      passes_of (text k c t ++ rest) c t (cells_in_lem c t w rest) (table_in_lem c t w rest) (record { least = a; most = b; long = simp length-append (omega arith) }) w (take_at (text k c t) rest (size k c) n)

  -- WORDS THAT PASS
  module _ (ws : List ℕ) (h : passes k ws ≡ true) where
    behind_room : (room_for k (cells_in ws) ws ≡ true) × (within k (table_of k ws) ≡ true) × (same (take (size k (cells_in ws)) ws) (text k (cells_in ws) (table_of k ws)) ≡ true)
    unfolding passes
    behind_room =
        let c = cells_in ws in
        let t = table_of k ws in
        let g = and_right (room_for k c ws) _ h in
        (and_left (room_for k c ws) _ h, and_left (within k t) _ g, and_right (within k t) _ g)

    pub room : Roomy k (cells_in ws) ws
    room = roomy k (cells_in ws) ws behind_room.0

    pub right : within k (table_of k ws) ≡ true
    right = behind_room.1

    pub begins_with : take (size k (cells_in ws)) ws ≡ text k (cells_in ws) (table_of k ws)
    begins_with = same_true _ _ behind_room.2

    pub fits : cells_of k (table_of k ws) ≤ cells_in ws
    fits = sound_most k s ws (sound k s ws h)

  -- AN ACCEPTED START, INSERT AND DELETE
  pub leaves : (ws : List ℕ) (c : ℕ) (t : Table) → Roomy k c ws → within k t ≡ true → cells_of k t ≤ c → Leaves k ws (holding k c t ws) c t
  leaves ws c t r w fit =
      let rest = drop (size k c) ws in
      let n = text_length c t w fit in
      record {
        pass = text_passes c t rest r.least r.most w fit;
        table = table_in_lem c t w rest;
        cells_left = cells_in_lem c t w rest;
        behind = drop_at (text k c t) rest (size k c) n;
        long = simp (length-append, length-drop) (omega (arith, r.long));
      }

  pub in_use : (ws : List ℕ) (t : Table) → passes k ws ≡ true → table_of k ws ≡ t → cells_gives k ws ≡ cells_of k t
  in_use ws t h e = rw h (ap (cells_of k) e)

  pub checked_0 : (ws : List ℕ) (a : ℕ) → checked k ws a ≡ 0 → (passes k ws ≡ true) × (a ≡ 0)
  checked_0 ws a h = go (passes k ws) h
    where
      go : (b : Bool) → cond b a 9 ≡ 0 → (b ≡ true) × (a ≡ 0)
      go true e = (refl, e)
      go false e = absurd (omega arith)

  start_room : (ws : List ℕ) (c : ℕ) → start_answer k ws c ≡ 0 → Roomy k c ws
  start_room ws c h = roomy k c ws (go (room_for k c ws) h)
    where
      go : (b : Bool) → ◌≡◌ {A = ℕ} (cond b 0 8) 0 → b ≡ true
      go true e = refl
      go false e = absurd (omega arith)

  pub start_leaves : (ws : List ℕ) (c a : ℕ) → start_answer k ws c ≡ 0 → Leaves k ws (start_words k ws c a) c (record { action = a; rules = [] })
  start_leaves ws c a h =
      let r = start_room ws c h in
      rw (done_leaves (start_answer k ws c) (holding k c (record { action = a; rules = [] }) ws) ws h)
      (leaves ws c (record { action = a; rules = [] }) r (rw (le-leb 0 k.most (omega arith))) (omega (arith, default_cells k a, r.least)))

  pub insert_leaves : (ws : List ℕ) (r : Rule) → insert_says k ws r ≡ 0 → Leaves k ws (insert_words k ws r) (cells_in ws) (with_rule r (table_of k ws))
  insert_leaves ws r h =
      let c = cells_in ws in
      let t = table_of k ws in
      let z = checked_0 ws (insert_answer k c t r) h in
      rw (done_leaves (insert_says k ws r) (holding k c (with_rule r t) ws) ws h)
      (leaves ws c (with_rule r t) (room ws z.0) (insert_within k c t r (right ws z.0) z.1) (taken k c t r z.1).cells)

  pub delete_leaves : (ws : List ℕ) (n : ℕ) → delete_says k ws n ≡ 0 → Leaves k ws (delete_words k ws n) (cells_in ws) (without n (table_of k ws))
  delete_leaves ws n h =
      let c = cells_in ws in
      let t = table_of k ws in
      let p = (checked_0 ws (delete_answer t n) h).0 in
      rw (done_leaves (delete_says k ws n) (holding k c (without n t) ws) ws h)
      (leaves ws c (without n t) (room ws p) (delete_within k n t (right ws p)) (omega (arith, delete_fewer k n t, fits ws p)))

  -- AN ACCEPTED LIST OF EDITS
  pub list_leaves : (ws : List ℕ) (es : List Edit) → (list_says k ws es).answer ≡ 0 → Leaves k ws (list_words k ws es) (cells_in ws) (edited_all (table_of k ws) es)
  unfolding list_words
  list_leaves ws es h =
      let c = cells_in ws in
      let t = table_of k ws in
      let a = accepted k ws es h in
      rw (done_leaves (list_says k ws es).answer (holding k c (edited_all t es) ws) ws h)
      (leaves ws c (edited_all t es) (room ws a.passed) (all_right k c t es (right ws a.passed) a.taken) (all_fits k c t es (fits ws a.passed) a.taken))
