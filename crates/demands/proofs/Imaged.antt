-- The lookups over the image of a store that passes: the store's rule and action, and the blocks that its rules say, which are few.
-- Assumes nothing.
use mathlib.Core.Path.{◌≡◌, refl, sym, ap, ◌∙◌}
use mathlib.Core.Bool.{true}
use mathlib.Core.List.{List, [], ◌∷◌, ◌++◌}
use Prim.Native.Nat.{ℕ, zero, suc, ◌+◌, ◌*◌, ◌≤◌, ◌^◌}
use native.Mathlib.Omega.{arith}
use native.Mathlib.Nat.{zero-add, pow-succ', mul-le-mul_left}
use lib.ListN.{length, get_or, drop, length-append}
use lib.Seq.{drop_at, drop-drop}
use Rattle.model.specs.Lists.{sum, up_to}
use Rattle.model.specs.Table.{Kind, Rule, Table, Shaped, row_words, front, fields_from, fields, every_rule, within, cells_of, winner_of, packet_right}
use Rattle.table.specs.Rows.{rows_text}
use Rattle.table.proofs.Edits.{rows_long}
use Rattle.layout.specs.Named.{stored}
use Rattle.layout.specs.Store.{head_text, rows_of}
use Rattle.layout.proofs.Parts.{head_length}
use Rattle.blocks.specs.Blocks.{pow8, depth, levels, blocks_text}
use Rattle.blocks.specs.Sums.{blocks_each}
use Rattle.blocks.proofs.Levels.{depth_enough, depth_least}
use Rattle.frozen.specs.Frozen.{image_text}
use Rattle.frozen.proofs.Laws.{image_size_lem}
use Rattle.lookup.specs.declared.Found.{Found}
use Rattle.image.specs.Image.{image_lookup}
use Rattle.image.proofs.Steps.{right_in}
use Rattle.image.proofs.Tree.{Words}
use Rattle.image.proofs.Table.{Images, blocks_most, image_finds}
use Rattle.demands.specs.Calls.{field_count}
use Rattle.demands.specs.Frozen.{Levels, BlocksRead}
use Rattle.demands.proofs.Held.{rows_in}
use Rattle.demands.proofs.Left.{left, ends_left, left_rising, from_left, to_left}
use Rattle.demands.proofs.Images.{image_parts}

-- THE LEVELS of m ends
pow8_is : (n : ℕ) → pow8 n ≡ 8 ^ n
unfolding pow8
pow8_is zero = refl
pow8_is (suc n) = rw (pow8_is n, pow-succ' 8 n)

up_is : (n : ℕ) → 8 * pow8 n ≡ 8 ^ suc n
up_is n = rw (pow8_is n, pow-succ' 8 n)

levels_least : (m j : ℕ) → 1 ≤ j → m ≤ 8 ^ j → levels m ≤ j
levels_least m zero p h = absurd (omega arith)
levels_least m (suc j) p h = omega (arith, depth_least m j (rw (up_is j) h))

pub levels_are : (m : ℕ) → Levels m (levels m)
levels_are m = record { some = omega arith; enough = rw (← up_is (depth m)) (depth_enough m); least = levels_least m }

-- THE BLOCKS READ in plain words
sum_left : (vs ts : List ℕ) (i : ℕ) (rs : List Rule) → sum (blocks_each (fields_from i ts) vs rs) ≡ sum (up_to (length ts) (λ j. levels (length (ends_left vs ts i rs j))))
unfolding up_to
sum_left vs [] i rs = refl
sum_left vs (t ∷ ts) i rs = ap (λ n. levels (length (ends_left vs (t ∷ ts) i rs 0)) + n) (sum_left vs ts (suc i) (left vs i t rs))

pub blocks_read : (k : Kind) (vs : List ℕ) (rs : List Rule) → BlocksRead k rs vs (sum (blocks_each (fields k) vs rs))
blocks_read k vs rs =
    record {
      ends = ends_left vs k.tops 0 rs;
      listed = λ i l e. (λ m. simp zero-add at (from_left vs k.tops 0 rs i e m), λ h. to_left vs k.tops 0 rs i e l (simp zero-add h));
      distinct = λ i l. left_rising vs k.tops 0 rs i;
      blocks = λ i. levels (length (ends_left vs k.tops 0 rs i));
      levels = λ i l. levels_are (length (ends_left vs k.tops 0 rs i));
      summed = sum_left vs k.tops 0 rs;
    }

-- what the rules of a table say of a packet's values, with the blocks of its image
abbrev pub frozen_of : Kind → Table → List ℕ → Found
frozen_of k t vs = record { answer = 0; rule = (winner_of k t vs).number; action = (winner_of k t vs).action; reads = sum (blocks_each (fields k) vs (every_rule k t)) }

-- A TABLE within the limits of its kind, whose tops are words
module _ (k : Kind) (s : Shaped k) (small : Words k.tops) (t : Table) (right : within k t ≡ true) where
  -- its image, with any words behind it
  module _ (rest : List ℕ) where
    behind_front : drop (front k) (image_text k t ++ rest) ≡ blocks_text (stored k t) ++ rest
    behind_front =
        let R = row_words k in
        let W = image_text k t ++ rest in
        let b = blocks_text (stored k t) ++ rest in
        sym (drop-drop 2 (k.head + R) W)
        ∙ ap (drop 2) (sym (drop-drop R k.head W)
        ∙ ap (λ w. drop R (drop k.head w)) (image_parts k s t rest)
        ∙ ap (drop R) (drop_at (head_text k 0 (length t.rules)) (rows_text k t ++ (0 ∷ 0 ∷ b)) k.head (head_length k s 0 (length t.rules) []))
        ∙ drop_at (rows_text k t) (0 ∷ 0 ∷ b) R (rows_long k t))

    count_is : get_or (image_text k t ++ rest) 1 0 ≡ length t.rules
    unfolding image_text head_text
    count_is = refl

    mark_is : get_or (image_text k t ++ rest) 2 0 ≡ k.mark
    unfolding image_text head_text
    mark_is = refl

    images : Images k t (image_text k t ++ rest)
    images =
        record {
          long = simp length-append (omega (arith, image_size_lem k s t));
          count = count_is;
          marked = mark_is;
          rows = ap (rows_of k) (image_parts k s t rest) ∙ rows_in k s 0 t (0 ∷ 0 ∷ (blocks_text (stored k t) ++ rest));
          behind = rest;
          tree = behind_front;
        }

    pub image_gives : cells_of k t ≤ 65536 → (vs : List ℕ) → packet_right k vs ≡ true → image_lookup k (image_text k t ++ rest) vs ≡ frozen_of k t vs
    image_gives c vs v = right_in k (image_text k t ++ rest) vs v ∙ image_finds k s small t right vs v c (image_text k t ++ rest) images

  -- THE BOUND
  pub few_blocks : (vs : List ℕ) → packet_right k vs ≡ true → (L : ℕ) → 1 ≤ L → 2 * length t.rules + 1 ≤ 8 ^ L → (frozen_of k t vs).reads ≤ field_count k * L
  few_blocks vs v L p h = omega (arith, blocks_most k s small t right vs v, mul-le-mul_left (field_count k) (levels_least (2 * length t.rules + 1) L p h))
