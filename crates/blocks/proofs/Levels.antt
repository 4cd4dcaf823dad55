-- The levels of blocks: how many there are, and how many words they take.
-- Assumes nothing.
use mathlib.Core.Path.{◌≡◌, refl, sym, ap, ◌∙◌}
use mathlib.Core.Bool.{Bool, true, false, cond}
use mathlib.Core.List.{List}
use Prim.Native.Nat.{ℕ, zero, suc, ◌+◌, ◌*◌, ◌≤◌, ◌<◌}
use native.Mathlib.Omega.{arith}
use lib.Dec.{ltb, leb}
use lib.ListN.{length, get_or, drop}
use lib.Seq.{get_or-drop, drop-drop}
use borrow.Author.Tests.{ltb-true, ltb-false, leb-true, leb-false}
use Rattle.blocks.specs.Blocks.{pow8, least_from, depth, levels, parts, blocks_up, each_of, level, links_to, lay}

-- THE NUMBER OF LEVELS
grows : (n : ℕ) → n < pow8 n
unfolding pow8
grows zero = omega arith
grows (suc n) = omega (arith, grows n)

pow8_zero : pow8 0 ≡ 1
unfolding pow8
pow8_zero = refl

pow8_suc : (n : ℕ) → pow8 (suc n) ≡ 8 * pow8 n
unfolding pow8
pow8_suc n = refl

pow8_rises : (n k : ℕ) → n ≤ k → pow8 n ≤ pow8 k
unfolding pow8
pow8_rises zero zero l = omega arith
pow8_rises zero (suc k) l = omega (arith, pow8_rises zero k (omega arith))
pow8_rises (suc n) zero l = absurd (omega arith)
pow8_rises (suc n) (suc k) l = omega (arith, pow8_rises n k (omega arith))

module _ (m : ℕ) where
  enough_from : (f n : ℕ) → m ≤ 8 * pow8 (n + f) → m ≤ 8 * pow8 (least_from m f n)
  unfolding least_from
  enough_from zero n h = let z : n + 0 ≡ n = omega arith in rw z at h
  enough_from (suc f) n h = let z : n + suc f ≡ suc n + f = omega arith in go (enough_from f (suc n) (rw z at h)) (leb m (8 * pow8 n)) refl
    where
      go : m ≤ 8 * pow8 (least_from m f (suc n)) → (b : Bool) → leb m (8 * pow8 n) ≡ b → m ≤ 8 * pow8 (cond b n (least_from m f (suc n)))
      go ih true q = leb-true _ _ q
      go ih false q = ih

  least_from_lem : (f n k : ℕ) → n ≤ k → m ≤ 8 * pow8 k → least_from m f n ≤ k
  unfolding least_from
  least_from_lem zero n k l h = l
  least_from_lem (suc f) n k l h = go (λ g. least_from_lem f (suc n) k g h) (leb m (8 * pow8 n)) refl (ltb n k) refl
    where
      go : (suc n ≤ k → least_from m f (suc n) ≤ k) → (b : Bool) → leb m (8 * pow8 n) ≡ b → (c : Bool) → ltb n k ≡ c → cond b n (least_from m f (suc n)) ≤ k
      go ih true q c p = l
      go ih false q true p = ih (omega (arith, ltb-true n k p))
      go ih false q false p = absurd (omega (arith, leb-false m (8 * pow8 n) q, pow8_rises k n (ltb-false n k p)))

  pub depth_enough : m ≤ 8 * pow8 (depth m)
  unfolding depth
  depth_enough = enough_from m 0 (omega (arith, grows (0 + m)))

  pub depth_least : (k : ℕ) → m ≤ 8 * pow8 k → depth m ≤ k
  unfolding depth
  depth_least k h = least_from_lem m 0 k (omega arith) h

pub levels_rise : (m n : ℕ) → m ≤ n → levels m ≤ levels n
levels_rise m n h = omega (arith, depth_least m (depth n) (omega (arith, depth_enough n)))

-- d levels are needed for m ends
abbrev Tall : ℕ → ℕ → Type 0
Tall zero m = Unit {0}
Tall (suc d) m = 8 * pow8 d < m

depth_tall : (m d : ℕ) → depth m ≡ d → Tall d m
depth_tall m zero e = tt
depth_tall m (suc d) e = go (leb m (8 * pow8 d)) refl
  where
    go : (b : Bool) → leb m (8 * pow8 d) ≡ b → 8 * pow8 d < m
    go true q = absurd (omega (arith, depth_least m d (leb-true _ _ q)))
    go false q = leb-false m _ q

-- so their blocks are no more than the ends
size_small : (d m : ℕ) → Tall d m → blocks_up d m ≤ m
unfolding blocks_up pow8
size_small zero m h = omega arith
size_small (suc zero) m h = omega arith
size_small (suc (suc d)) m h = omega (arith, size_small (suc d) (parts m) (omega arith), pow8_rises 0 d (omega arith))

pub few_blocks : (m : ℕ) → blocks_up (depth m) m ≤ m
few_blocks m = size_small (depth m) m (depth_tall m (depth m) refl)

pub three : (m : ℕ) → m ≤ 129 → levels m ≤ 3
unfolding pow8
three m h = omega (arith, depth_least m 2 (omega arith))

pub four : (m : ℕ) → m ≤ 1025 → levels m ≤ 4
unfolding pow8
four m h = omega (arith, depth_least m 3 (omega arith))

-- one level more for eight times as many ends
pub depth_low : (m : ℕ) → m ≤ 8 → depth m ≡ 0
unfolding pow8
depth_low m h = omega (arith, depth_least m 0 (omega arith))

pub depth_step : (m : ℕ) → 8 < m → depth m ≡ suc (depth (parts m))
depth_step m h = go (depth m) refl
  where
    up : depth m ≤ suc (depth (parts m))
    up = depth_least m (suc (depth (parts m))) (more (depth_enough (parts m)))
      where
        more : parts m ≤ 8 * pow8 (depth (parts m)) → m ≤ 8 * pow8 (suc (depth (parts m)))
        more l = rw (pow8_suc (depth (parts m))) (omega arith)

    go : (d : ℕ) → depth m ≡ d → depth m ≡ suc (depth (parts m))
    go zero e = absurd (omega (arith, rw (e, pow8_zero) at (depth_enough m)))
    go (suc d) e = omega (arith, up, depth_least (parts m) d (omega (arith, rw (e, pow8_suc) at (depth_enough m))))

-- THE WORDS of a run, of a level, and of all levels
run_length : (n : ℕ) (f : ℕ → ℕ) (r : List ℕ) → length (each_of n f r) ≡ n + length r
unfolding each_of
run_length zero f r = omega arith
run_length (suc n) f r = omega (arith, run_length n (λ i. f (suc i)) r)

run_past : (n : ℕ) (f : ℕ → ℕ) (r : List ℕ) → drop n (each_of n f r) ≡ r
unfolding each_of
run_past zero f r = refl
run_past (suc n) f r = run_past n (λ i. f (suc i)) r

run_word : (n : ℕ) (f : ℕ → ℕ) (r : List ℕ) (j : ℕ) → j < n → get_or (each_of n f r) j 0 ≡ f j
unfolding each_of
run_word zero f r j h = absurd (omega arith)
run_word (suc n) f r zero h = refl
run_word (suc n) f r (suc j) h = run_word n (λ i. f (suc i)) r j (omega arith)

-- a block: its ends, its links, and what is behind it
module _ (f g : ℕ → ℕ) (r : List ℕ) where
  block_past : drop 16 (each_of 8 f (each_of 8 g r)) ≡ r
  block_past = sym (drop-drop 8 8 (each_of 8 f (each_of 8 g r))) ∙ ap (drop 8) (run_past 8 f (each_of 8 g r)) ∙ run_past 8 g r

  block_link_lem : (j : ℕ) → j < 8 → get_or (each_of 8 f (each_of 8 g r)) (8 + j) 0 ≡ g j
  block_link_lem j h = sym (get_or-drop 8 (each_of 8 f (each_of 8 g r)) j 0) ∙ ap (λ x. get_or x j 0) (run_past 8 f (each_of 8 g r)) ∙ run_word 8 g r j h

module _ (r : List ℕ) where
  pub level_length : (n : ℕ) (f g : ℕ → ℕ) → length (level n f g r) ≡ 16 * n + length r
  unfolding level
  level_length zero f g = omega arith
  level_length (suc n) f g =
      let s = level n (λ i. f (8 + i)) (λ i. g (8 + i)) r in
      omega (arith, level_length n (λ i. f (8 + i)) (λ i. g (8 + i)), run_length 8 f (each_of 8 g s), run_length 8 g s)

  pub level_past : (n : ℕ) (f g : ℕ → ℕ) → drop (16 * n) (level n f g r) ≡ r
  unfolding level
  level_past zero f g = refl
  level_past (suc n) f g =
      let s = level n (λ i. f (8 + i)) (λ i. g (8 + i)) r in
      let z : 16 * suc n ≡ 16 + 16 * n = omega arith in
      rw (z, ← drop-drop (16 * n) 16 (each_of 8 f (each_of 8 g s)), block_past f g s) (level_past n (λ i. f (8 + i)) (λ i. g (8 + i)))

  -- the word with the end, or the link, of a place of block i
  pub end_word : (n i j : ℕ) (f g : ℕ → ℕ) → i < n → j < 8 → get_or (level n f g r) (16 * i + j) 0 ≡ f (8 * i + j)
  unfolding level
  end_word zero i j f g h l = absurd (omega arith)
  end_word (suc n) zero j f g h l =
      let s = level n (λ i. f (8 + i)) (λ i. g (8 + i)) r in
      let z : 16 * 0 + j ≡ j = omega arith in
      rw z (run_word 8 f (each_of 8 g s) j l)
  end_word (suc n) (suc i) j f g h l =
      let s = level n (λ i. f (8 + i)) (λ i. g (8 + i)) r in
      let z : 16 * suc i + j ≡ 16 + (16 * i + j) = omega arith in
      let y : 8 + (8 * i + j) ≡ 8 * suc i + j = omega arith in
      rw (z, ← y, ← get_or-drop 16 (each_of 8 f (each_of 8 g s)) (16 * i + j) 0, block_past f g s) (end_word n i j (λ x. f (8 + x)) (λ x. g (8 + x)) (omega arith) l)

  pub link_word : (n i j : ℕ) (f g : ℕ → ℕ) → i < n → j < 8 → get_or (level n f g r) (16 * i + (8 + j)) 0 ≡ g (8 * i + j)
  unfolding level
  link_word zero i j f g h l = absurd (omega arith)
  link_word (suc n) zero j f g h l =
      let s = level n (λ i. f (8 + i)) (λ i. g (8 + i)) r in
      let z : 16 * 0 + (8 + j) ≡ 8 + j = omega arith in
      let y : 8 * 0 + j ≡ j = omega arith in
      rw (z, y) (block_link_lem f g s j l)
  link_word (suc n) (suc i) j f g h l =
      let s = level n (λ i. f (8 + i)) (λ i. g (8 + i)) r in
      let z : 16 * suc i + (8 + j) ≡ 16 + (16 * i + (8 + j)) = omega arith in
      let y : 8 + (8 * i + j) ≡ 8 * suc i + j = omega arith in
      rw (z, ← y, ← get_or-drop 16 (each_of 8 f (each_of 8 g s)) (16 * i + (8 + j)) 0, block_past f g s) (link_word n i j (λ x. f (8 + x)) (λ x. g (8 + x)) (omega arith) l)

pub lay_past : (d a m : ℕ) (f g : ℕ → ℕ) (r : List ℕ) → drop (16 * blocks_up d m) (lay d a m f g r) ≡ r
unfolding lay blocks_up
lay_past zero a m f g r = level_past r (parts m) f g
lay_past (suc d) a m f g r =
    let f' : ℕ → ℕ = λ i. f (8 * i + 7) in
    let g' : ℕ → ℕ = links_to (parts m) (a + blocks_up d (parts m)) in
    let s = level (parts m) f g r in
    let z : 16 * (blocks_up d (parts m) + parts m) ≡ 16 * blocks_up d (parts m) + 16 * parts m = omega arith in
    rw (z, ← drop-drop (16 * parts m) (16 * blocks_up d (parts m)) (lay d a (parts m) f' g' s), lay_past d a (parts m) f' g' s)
    (level_past r (parts m) f g)

pub lay_length : (d a m : ℕ) (f g : ℕ → ℕ) (r : List ℕ) → length (lay d a m f g r) ≡ 16 * blocks_up d m + length r
unfolding lay blocks_up
lay_length zero a m f g r = level_length r (parts m) f g
lay_length (suc d) a m f g r =
    let s = level (parts m) f g r in
    omega (arith, level_length r (parts m) f g, lay_length d a (parts m) (λ i. f (8 * i + 7)) (links_to (parts m) (a + blocks_up d (parts m))) s)

-- the ends all have their place
pub size_holds : (d m : ℕ) → m ≤ 8 * blocks_up d m
unfolding blocks_up
size_holds zero m = omega arith
size_holds (suc d) m = omega arith
