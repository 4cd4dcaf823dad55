-- The walk of one field over the blocks of a chain: after one block of each level it follows the link of the first end that is not below the value.
-- Assumes nothing.
use mathlib.Core.Path.{◌≡◌, sym, ap, ◌∙◌}
use mathlib.Core.Bool.{cond}
use mathlib.Core.List.{List}
use Prim.Native.Nat.{ℕ, zero, suc, ◌+◌, ◌-◌, ◌*◌, ◌/◌, ◌≤◌, ◌<◌}
use native.Mathlib.Omega.{arith}
use lib.Dec.{ltb}
use lib.ListN.{length, get_or, drop, length-drop}
use lib.Seq.{get_or-drop, drop-drop}
use borrow.Author.Tests.{le-leb, lt-ltb, le-ltb}
use Rattle.blocks.specs.Blocks.{down_mark, pow8, parts, blocks_up, level, links_to, lay}
use Rattle.blocks.proofs.Levels.{level_length, end_word, link_word, lay_past}
use Rattle.lookup.specs.declared.Walked.{Walked}
use Rattle.lookup.specs.Walk.{led_to}
use Rattle.std.specs.Prelude.{Option}
use Rattle.image.specs.Walk.{rank, rank_in, link_in, seek_blocks}

-- A RISING ROW OF ENDS, of which q are below the value
pub record Splits (f : ℕ → ℕ) (v q : ℕ) : Type 0 where
  pub passed : (i : ℕ) → i < q → f i < v
  pub kept : (i : ℕ) → q ≤ i → v ≤ f i

-- of n ends, of which the first q are below v, the count is q
rank_is : (n : ℕ) (f : ℕ → ℕ) (v q : ℕ) → q ≤ n → ((i : ℕ) → i < q → f i < v) → ((i : ℕ) → q ≤ i → i < n → v ≤ f i) → rank n v f ≡ q
rank_is zero f v q h p k = omega arith
rank_is (suc n) f v zero h p k = rw (le-ltb (f 0) v (k 0 (omega arith) (omega arith))) (omega (arith, rank_is n (λ i. f (suc i)) v 0 (omega arith) (λ i l. absurd (omega arith)) (λ i l b. k (suc i) (omega arith) (omega arith))))
rank_is (suc n) f v (suc q) h p k = rw (lt-ltb (f 0) v (p 0 (omega arith))) (omega (arith, rank_is n (λ i. f (suc i)) v q (omega arith) (λ i l. p (suc i) (omega arith)) (λ i l b. k (suc i) (omega arith) (omega arith))))

-- where a link leads, with n more blocks to read
abbrev pub follow : List ℕ → ℕ → ℕ → ℕ → ℕ → Option Walked
follow w v n l r = cond (ltb l down_mark) (seek_blocks w v n l r) (led_to (l - down_mark) r)

-- ONE BLOCK of a level that stands from block b on
module _ (w : List ℕ) (b n : ℕ) (f g : ℕ → ℕ) (s : List ℕ) (o : drop (16 * b) w ≡ level n f g s) where
  word_at : (x : ℕ) → get_or w (16 * b + x) 0 ≡ get_or (level n f g s) x 0
  word_at x = sym (get_or-drop (16 * b) w x 0) ∙ ap (λ l. get_or l x 0) o

  inside : (i : ℕ) → i < n → 16 * (b + i) + 16 ≤ length w
  inside i h = omega (arith, length-drop (16 * b) w, ap length o, level_length s n f g)

  block_rank : (v q i : ℕ) → Splits f v q → i < n → 8 * i ≤ q → q < 8 * i + 8 → rank_in w (b + i) v ≡ q - 8 * i
  unfolding rank_in
  block_rank v q i c h l u =
      rank_is 8 (λ j. get_or w (16 * (b + i) + j) 0) v (q - 8 * i) (omega arith)
      (λ j k. rw (at_end j (omega arith)) (c.passed (8 * i + j) (omega arith)))
      (λ j k m. rw (at_end j m) (c.kept (8 * i + j) (omega arith)))
    where
      at_end : (j : ℕ) → j < 8 → get_or w (16 * (b + i) + j) 0 ≡ f (8 * i + j)
      at_end j k = let z : 16 * (b + i) + j ≡ 16 * b + (16 * i + j) = omega arith in rw z (word_at (16 * i + j) ∙ end_word s n i j f g h k)

  block_step : (v q i e r : ℕ) → Splits f v q → i < n → 8 * i ≤ q → q < 8 * i + 8 → seek_blocks w v (suc e) (b + i) r ≡ follow w v e (g q) (r + 1)
  unfolding seek_blocks
  block_step v q i e r c h l u =
      let k = block_rank v q i c h l u in
      let z : 16 * (b + i) + (8 + (q - 8 * i)) ≡ 16 * b + (16 * i + (8 + (q - 8 * i))) = omega arith in
      let y : 8 * i + (q - 8 * i) ≡ q = omega arith in
      let x : link_in w (b + i) (q - 8 * i) ≡ g q = rw z (word_at _ ∙ rw y at (link_word s n i (q - 8 * i) f g h (omega arith))) in
      simp (le-leb _ (length w) (inside i h), k, lt-ltb (q - 8 * i) 8 (omega arith), x)

-- ALL LEVELS: after one block of each, the walk follows the link of the first end that is not below the value
pub seek_lay : (w : List ℕ) (v d a m : ℕ) (f g : ℕ → ℕ) (s : List ℕ) (q e r : ℕ) → a + blocks_up d m ≤ down_mark → drop (16 * a) w ≡ lay d a m f g s
    → m ≤ 8 * pow8 d → q < m → Splits f v q → seek_blocks w v (suc d + e) a r ≡ follow w v e (g q) (r + suc d)
unfolding lay pow8 blocks_up
seek_lay w v zero a m f g s q e r low o h l c =
    let z : a + 0 ≡ a = omega arith in
    let y : 1 + e ≡ suc e = omega arith in
    rw y (rw z at (block_step w a (parts m) f g s o v q 0 e r c (omega arith) (omega arith) (omega arith)))
seek_lay w v (suc d) a m f g s q e r low o h l c =
    let f' : ℕ → ℕ = λ i. f (8 * i + 7) in
    let n = parts m in
    let b = a + blocks_up d n in
    let t = level n f g s in
    let c' : Splits f' v (q / 8) = record { passed = λ i k. c.passed (8 * i + 7) (omega arith); kept = λ i k. c.kept (8 * i + 7) (omega arith) } in
    let y : 16 * b ≡ 16 * a + 16 * blocks_up d n = omega arith in
    let o' : drop (16 * b) w ≡ t = rw (y, ← drop-drop (16 * blocks_up d n) (16 * a) w, o) (lay_past d a n f' (links_to n b) t) in
    let z : suc (suc d) + e ≡ suc d + suc e = omega arith in
    let x : r + suc (suc d) ≡ r + suc d + 1 = omega arith in
    rw (z, x)
    (seek_lay w v d a n f' (links_to n b) t (q / 8) (suc e) r (omega arith) o (omega arith) (omega arith) c'
    ∙ simp (lt-ltb (q / 8) n (omega arith), lt-ltb (b + q / 8) down_mark (omega arith))
    (block_step w b n f g s o' v q (q / 8) e (r + suc d) c (omega arith) (omega arith) (omega arith)))
