-- The words of an image: they give their table back, whatever stands behind them; what a freeze answers and leaves; and the image check says yes of just the images of stores that pass.
-- Assumes nothing.
use mathlib.Core.Path.{◌≡◌, refl, sym, ap, ◌∙◌}
use mathlib.Core.Bool.{Bool, true, false, cond}
use mathlib.Core.Logic.{◌≢◌}
use mathlib.Core.List.{List, [], ◌∷◌, ◌++◌, append_assoc, append-nil}
use Prim.Native.Nat.{ℕ, ◌+◌, ◌*◌, ◌≤◌, ◌<◌}
use native.Mathlib.Omega.{arith}
use lib.Dec.{leb}
use lib.ListN.{length, take, drop, drop_of_length-le, length-append, length-drop}
use lib.Seq.{take_at, drop_at}
use borrow.Author.Tests.{leb-true, leb-false, le-leb}
use Rattle.model.specs.Table.{Kind, Table, Shaped, front, within, cells_of}
use Rattle.model.proofs.Tests.{by_test, never, and_left, and_right, and_both}
use Rattle.model.proofs.UpTo.{same_true, true_same}
use Rattle.table.specs.Rows.{rows_text}
use Rattle.layout.specs.Named.{stored}
use Rattle.layout.specs.Store.{head_text, text, cells_in, table_of, passes, cells_gives}
use Rattle.layout.proofs.Bridge.{stored_cells}
use Rattle.blocks.specs.Blocks.{blocks_text}
use Rattle.blocks.proofs.Sums.{blocks_cells}
use Rattle.frozen.specs.Frozen.{image_size, image_text, total_says, total_gives, freeze_says, freeze_words, image_passes, image_says}
use Rattle.frozen.proofs.Laws.{image_size_lem}
use Rattle.demands.specs.Calls.{Passes}
use Rattle.demands.specs.Demand1.{Refuses, refuses, done}
use Rattle.demands.proofs.Demand1.{on_line, check_line}
use Rattle.demands.proofs.Held.{held_in, table_in_lem, text_passes, room, right, fits, in_use, refused_keeps, done_leaves, checked_0}

module _ (k : Kind) (s : Shaped k) where
  -- THE TABLE of an image
  pub image_parts : (t : Table) (rest : List ℕ) → image_text k t ++ rest ≡ head_text k 0 (length t.rules) ++ (rows_text k t ++ (0 ∷ 0 ∷ (blocks_text (stored k t) ++ rest)))
  unfolding image_text
  image_parts t rest = simp append_assoc

  pub image_table : (t : Table) (rest : List ℕ) → within k t ≡ true → table_of k (image_text k t ++ rest) ≡ t
  image_table t rest w = ap (table_of k) (image_parts t rest) ∙ held_in k s 0 t (0 ∷ 0 ∷ (blocks_text (stored k t) ++ rest)) w

  -- it has 0 in the place of a store's number of cells
  no_cells : (t : Table) → cells_in (image_text k t) ≡ 0
  unfolding image_text head_text
  no_cells t = refl

  -- THE TOTAL
  module _ (ws : List ℕ) where
    pub total_zeros : total_says k ws ≢ 0 → total_gives k ws ≡ 0
    total_zeros n = go (passes k ws) n
      where
        go : (b : Bool) → (◌≡◌ {A = ℕ} (cond b 0 9) 0 → ⊥) → cond b (image_size k (table_of k ws)) 0 ≡ 0
        go true n = absurd (n refl)
        go false n = refl

    pub total_is : Passes k ws → total_gives k ws ≡ image_size k (table_of k ws)
    total_is h = rw h

    pub total_exact : Passes k ws → length (image_text k (table_of k ws)) ≡ total_gives k ws
    total_exact h = image_size_lem k s (table_of k ws) ∙ sym (total_is h)

    pub total_most : Passes k ws → total_gives k ws ≤ front k + 16 * cells_gives k ws
    total_most h =
        let t = table_of k ws in
        omega (arith, total_is h, blocks_cells (stored k t), stored_cells k s t (right k s ws h), in_use k s ws t h refl)

  -- FREEZING
  module _ (ws slice : List ℕ) where
    abbrev N : ℕ
    N = image_size k (table_of k ws)

    pub freeze_lines : Refuses 9 (Passes k ws → ⊥) (Refuses 8 (length slice < total_gives k ws) done) (freeze_says k ws slice)
    freeze_lines = by_test (passes k ws)
        (λ h. rw (total_is ws h) (check_line k ws _ (on_line (leb N (length slice)) 8 0 (leb-false N (length slice)) (λ t l. omega (arith, leb-true N (length slice) t)) refl)))
        (λ h. rw h (refuses (λ p. never (sym p)) refl))

    pub freeze_keeps : freeze_says k ws slice ≢ 0 → freeze_words k ws slice ≡ slice
    freeze_keeps n = refused_keeps (freeze_says k ws slice) _ slice n

    module _ (a : freeze_says k ws slice ≡ 0) where
      froze_it : Passes k ws × (N ≤ length slice)
      froze_it = let z = checked_0 k s ws _ a in (z.0, by_test (leb N (length slice)) (leb-true N (length slice)) (λ e. absurd (let y : ◌≡◌ {A = ℕ} 8 0 = rw e at z.1 in omega arith)))

      pub froze_words : freeze_words k ws slice ≡ image_text k (table_of k ws) ++ drop (total_gives k ws) slice
      froze_words = done_leaves (freeze_says k ws slice) _ slice a ∙ ap (λ n. image_text k (table_of k ws) ++ drop n slice) (sym (total_is ws froze_it.0))

      pub froze_image : take (total_gives k ws) (freeze_words k ws slice) ≡ image_text k (table_of k ws)
      froze_image = ap (take (total_gives k ws)) froze_words ∙ take_at (image_text k (table_of k ws)) _ (total_gives k ws) (total_exact ws froze_it.0)

      pub froze_behind : drop (total_gives k ws) (freeze_words k ws slice) ≡ drop (total_gives k ws) slice
      froze_behind = ap (drop (total_gives k ws)) froze_words ∙ drop_at (image_text k (table_of k ws)) _ (total_gives k ws) (total_exact ws froze_it.0)

      pub froze_long : length (freeze_words k ws slice) ≡ length slice
      froze_long = ap length froze_words ∙ simp (length-append, length-drop) (omega (arith, froze_it.1, total_is ws froze_it.0, total_exact ws froze_it.0))

    pub froze_whole : Passes k ws → length slice ≡ total_gives k ws → freeze_words k ws slice ≡ image_text k (table_of k ws)
    froze_whole h l =
        let t = total_is ws h in
        let a : freeze_says k ws slice ≡ 0 = rw (h, le-leb N (length slice) (omega arith)) in
        froze_words a ∙ ap (λ r. image_text k (table_of k ws) ++ r) (drop_of_length-le slice {i = total_gives k ws} (omega arith)) ∙ append-nil (image_text k (table_of k ws))

  -- THE IMAGE CHECK
  abbrev Of : List ℕ → Type 0
  Of image = (ws : List ℕ) × Passes k ws × (image ≡ image_text k (table_of k ws))

  module _ (image : List ℕ) where
    abbrev T : Table
    T = table_of k image

    -- a table that a store of 65,536 cells holds
    passes_of : image_passes k image ≡ true → Of image
    unfolding image_passes
    passes_of h =
        let w = and_left (within k T) _ h in
        let g = and_right (within k T) _ h in
        let c = leb-true (cells_of k T) 65536 (and_left (leb (cells_of k T) 65536) _ g) in
        let e = same_true image (image_text k T) (and_right (leb (cells_of k T) 65536) _ g) in
        (text k 65536 T ++ [], text_passes k s 65536 T [] (omega (arith, s.ends, s.narrow)) (omega arith) w c, e ∙ ap (image_text k) (sym (table_in_lem k s 65536 T w [])))

    of_passes : Of image → image_passes k image ≡ true
    unfolding image_passes
    of_passes (ws, h, e) =
        let t = table_of k ws in
        let w = right k s ws h in
        let q : T ≡ t = ap (table_of k) (e ∙ sym (append-nil (image_text k t))) ∙ image_table t [] w in
        rw q (and_both (within k t) _ w (and_both (leb (cells_of k t) 65536) _ (le-leb (cells_of k t) 65536 (omega (arith, fits k s ws h, (room k s ws h).most))) (true_same image (image_text k t) e)))

    pub not_store : Of image → Passes k image → ⊥
    not_store (ws, h, e) p = omega (arith, (room k s image p).least, s.some, ap cells_in e, no_cells (table_of k ws))

    pub check_lines : Refuses 9 (Of image → ⊥) done (image_says k image)
    check_lines = on_line (image_passes k image) 9 0 (λ f o. never (sym (of_passes o) ∙ f)) (λ t n. n (passes_of t)) refl

    pub check_0 : image_says k image ≡ 0 → Of image
    check_0 e = by_test (image_passes k image) passes_of (λ f. absurd (let y : ◌≡◌ {A = ℕ} 9 0 = rw f at e in omega arith))

    pub 0-check : Of image → image_says k image ≡ 0
    0-check o = rw (of_passes o)
