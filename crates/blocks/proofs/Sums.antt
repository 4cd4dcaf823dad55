-- The image of a tree of rules: its ends rise, its blocks are a sum over the rules' ends, and the blocks that a lookup reads are a sum over the fields.
-- Assumes nothing.
use mathlib.Core.Path.{◌≡◌, refl, ap, ap₂, ◌∙◌}
use mathlib.Core.Logic.{inl, inr}
use mathlib.Core.Bool.{Bool, true, false, cond}
use mathlib.Core.List.{List, [], ◌∷◌, map}
use Prim.Native.Nat.{ℕ, zero, suc, ◌+◌, ◌*◌, ◌≤◌}
use native.Mathlib.Omega.{arith}
use lib.Dec.{ltb}
use lib.ListN.{length}
use borrow.Author.Tests.{ltb-true}
use Rattle.model.specs.Lists.{In, Rising, keep, sum}
use Rattle.model.specs.Rules.{Field, covers, holds, ends, Tree, names, stop, loc, chain, tree, cells, values}
use Rattle.model.proofs.Keep.{from_keep, keep_same, length_keep}
use Rattle.model.proofs.Ends.{End, from_ends, ends_rising, length_ends_zero}
use Rattle.model.proofs.Bound.{Lowest}
use Rattle.model.proofs.Walk.{next, covers_next, reach, high_in_lem, still_in, still_holds}
use Rattle.cells.specs.Text.{width}
use Rattle.blocks.specs.Blocks.{top_end, depth, least_from, levels, blocks_up, own_blocks, under_blocks, blocks, end_at_place, height, reads_below, block_reads}
use Rattle.blocks.specs.Sums.{blocks_each, blocks_for, blocks_sum}
use Rattle.blocks.proofs.Levels.{levels_rise, few_blocks}
use Rattle.blocks.proofs.Words.{Sorted}

-- A CHAIN of ends
module _ (u : ℕ → Tree ℕ) where
  pub chain_width : (es : List ℕ) → width (chain u es) ≡ length es
  unfolding width
  chain_width [] = refl
  chain_width (e ∷ es) = omega (arith, chain_width es)

  ends_above : (x : ℕ) (es : List ℕ) → ((y : ℕ) → In y es → x ≤ y) → x ≤ top_end → (i : ℕ) → x ≤ end_at_place (chain u es) i
  unfolding end_at_place
  ends_above x [] h t i = t
  ends_above x (e ∷ es) h t zero = h e (inl refl)
  ends_above x (e ∷ es) h t (suc i) = ends_above x es (λ y m. h y (inr m)) t i

  chain_sorted : (es : List ℕ) → Rising es → ((y : ℕ) → In y es → y ≤ top_end) → ((e : ℕ) → Sorted (u e)) → Sorted (chain u es)
  unfolding Sorted
  chain_sorted [] r t h = tt
  chain_sorted (e ∷ es) r t h = (ends_above e es (λ y m. omega (arith, r.0 y m)) (t e (inl refl)), h e, chain_sorted es r.1 (λ y m. t y (inr m)) h)

  pub chain_own : (es : List ℕ) → own_blocks (chain u es) ≡ blocks_for (length es)
  unfolding own_blocks depth least_from blocks_up
  chain_own [] = refl
  chain_own (e ∷ es) = let z : width (chain u es) + 1 ≡ suc (length es) = omega (arith, chain_width es) in rw z

  chain_under : (h : ℕ → ℕ) → ((e : ℕ) → blocks (u e) ≡ h e) → (es : List ℕ) → under_blocks (chain u es) ≡ sum (map h es)
  unfolding under_blocks
  chain_under h k [] = refl
  chain_under h k (e ∷ es) = omega (arith, k e, chain_under h k es)

  chain_reads : (v : ℕ) (vs : List ℕ) (es : List ℕ) (x : ℕ) → In x es → v ≤ x → reads_below (chain u es) (v ∷ vs) ≡ block_reads (u (next v es)) vs
  chain_reads v vs [] x m h = absurd m
  chain_reads v vs (e ∷ es) x m h = go (λ n. chain_reads v vs es x n h) (ltb e v) refl m
    where
      go : (In x es → reads_below (chain u es) (v ∷ vs) ≡ block_reads (u (next v es)) vs) → (b : Bool) → ltb e v ≡ b → In x (e ∷ es)
          → cond b (reads_below (chain u es) (v ∷ vs)) (height (u e) + reads_below (u e) vs) ≡ block_reads (u (cond b (next v es) e)) vs
      go ih true t (inl q) = absurd (omega (arith, ltb-true e v t))
      go ih true t (inr n) = ih n
      go ih false t n = refl

  chain_height : (es : List ℕ) (x : ℕ) → In x es → height (chain u es) ≡ levels (length es)
  chain_height [] x m = absurd m
  chain_height (e ∷ es) x m = let z : width (chain u es) + 1 ≡ suc (length es) = omega (arith, chain_width es) in rw z

-- every end of the rules in the fields is a word
abbrev pub Ranges : {P A : Type 0} → List (Field P A) → List A → Type 0
Ranges [] rs = Unit {0}
Ranges {P} {A} (f ∷ fs) rs = ((r : A) → In r rs → (f.low r ≤ top_end) × (f.high r ≤ top_end)) × Ranges fs rs

ranges_keep : {P A : Type 0} (fs : List (Field P A)) (p : A → Bool) (rs : List A) → Ranges fs rs → Ranges fs (keep p rs)
ranges_keep [] p rs h = tt
ranges_keep (f ∷ fs) p rs h = (λ r m. h.0 r (from_keep p rs r m).0, ranges_keep fs p rs h.1)

module _ {P A : Type 0} (g : List A → ℕ) where
  pub tree_sorted : (fs : List (Field P A)) (rs : List A) → Ranges fs rs → Sorted (tree g fs rs)
  unfolding Sorted
  tree_sorted [] rs h = tt
  tree_sorted (f ∷ fs) rs h =
      chain_sorted (λ e. tree g fs (keep (covers f e) rs)) (ends f rs) (ends_rising f rs) (λ y m. in_words y (from_ends f rs y m))
      (λ e. tree_sorted fs (keep (covers f e) rs) (ranges_keep fs (covers f e) rs h.1))
    where
      in_words : (y : ℕ) → (r : A) × In r rs × End f r y → y ≤ top_end
      in_words y (r, m, inl q) = omega (arith, h.0 r m)
      in_words y (r, m, inr q) = omega (arith, h.0 r m)

  -- THE BLOCKS of a tree of rules
  pub tree_blocks_lem : (fs : List (Field P A)) (rs : List A) → blocks (tree g fs rs) ≡ blocks_sum fs rs
  unfolding own_blocks under_blocks
  tree_blocks_lem [] rs = refl
  tree_blocks_lem (f ∷ fs) rs =
      ap₂ ◌+◌
      (chain_own (λ e. tree g fs (keep (covers f e) rs)) (ends f rs))
      (chain_under (λ e. tree g fs (keep (covers f e) rs)) (λ e. blocks_sum fs (keep (covers f e) rs)) (λ e. tree_blocks_lem fs (keep (covers f e) rs)) (ends f rs))

  -- THE BLOCKS READ, where some rule holds the packet
  pub tree_reads : (p : P) (fs : List (Field P A)) (rs : List A) (d : A) → In d rs → holds fs p d ≡ true → block_reads (tree g fs rs) (values fs p) ≡ sum (blocks_each fs p rs)
  tree_reads p [] rs d m h = refl
  tree_reads p (f ∷ fs) rs d m h =
      let v = f.value p in
      let u : ℕ → Tree ℕ = λ e. tree g fs (keep (covers f e) rs) in
      let i = high_in_lem p f fs rs d m h in
      let k = keep_same (covers f (next v (ends f rs))) (covers f v) rs (covers_next f v rs d m (reach p f fs rs d m h)) in
      ap₂ ◌+◌
      (chain_height u (ends f rs) (f.high d) i)
      (chain_reads u v (values fs p) (ends f rs) (f.high d) i (reach p f fs rs d m h)
      ∙ ap (λ (l : List A). block_reads (tree g fs l) (values fs p)) k
      ∙ tree_reads p fs (keep (covers f v) rs) d (still_in p f fs rs d m h) (still_holds p f fs rs d m h))

-- THE BOUND: "With n rules that is at most the number of fields times the least L for 2 × n + 1"
pub each_bound : {P A : Type 0} (fs : List (Field P A)) (p : P) (n : ℕ) (rs : List A) → length rs ≤ n + 1 → (d : A) → In d rs → holds fs p d ≡ true → Lowest fs d
    → sum (blocks_each fs p rs) ≤ length fs * levels (2 * n + 1)
each_bound [] p n rs h d m t z = omega arith
each_bound (f ∷ fs) p n rs h d m t z =
    omega (
      arith,
      levels_rise (length (ends f rs)) (2 * n + 1) (omega (arith, length_ends_zero f rs d m z.0)),
      each_bound fs p n (keep (covers f (f.value p)) rs) (omega (arith, length_keep (covers f (f.value p)) rs)) d (still_in p f fs rs d m t) (still_holds p f fs rs d m t) z.1,
    )

-- no tree has more blocks than cells
pub blocks_cells : (t : Tree ℕ) → own_blocks t ≤ width t × under_blocks t + width t ≤ cells t
unfolding own_blocks under_blocks width
blocks_cells (names b) = (omega arith, omega arith)
blocks_cells stop = (omega arith, omega arith)
blocks_cells (loc e u t) = (few_blocks (width t + 1), omega (arith, blocks_cells u, blocks_cells t))
