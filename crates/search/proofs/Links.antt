-- The cells of a chain, one by one, in the tree that words give by their links.
-- Assumes nothing.
use mathlib.Core.Path.{◌≡◌, refl}
use mathlib.Core.List.{List}
use Prim.Native.Nat.{ℕ, zero, suc, ◌-◌, ◌≤◌, ◌<◌}
use native.Mathlib.Omega.{arith}
use borrow.Author.Tests.{lt-ltb, le-ltb}
use Rattle.model.specs.Rules.{Tree, stop, loc}
use Rattle.cells.specs.Text.{cell_word}
use Rattle.search.specs.Links.{chain_in, tree_in}

module _ (ws : List ℕ) (c : ℕ) (f : ℕ → Tree ℕ) where
  pub chain_next : (m n k : ℕ) → m ≡ suc n → k < c → chain_in ws c f m k ≡ loc (cell_word ws k 0) (f (cell_word ws k 2)) (chain_in ws c f n (cell_word ws k 1))
  unfolding chain_in
  chain_next m n k q h = rw (q, lt-ltb k c h)

  pub chain_out : (m k : ℕ) → c ≤ k → chain_in ws c f m k ≡ stop
  unfolding chain_in
  chain_out zero k h = refl
  chain_out (suc m) k h = rw (le-ltb k c h)

  pub chain_spent : (m k : ℕ) → m ≡ 0 → chain_in ws c f m k ≡ stop
  unfolding chain_in
  chain_spent m k q = rw q

pub tree_chain : (ws : List ℕ) (c left k : ℕ) → 0 < left → tree_in ws c left k ≡ chain_in ws c (λ d. tree_in ws c (left - 1) d) c k
unfolding tree_in
tree_chain ws c zero k h = absurd (omega arith)
tree_chain ws c (suc left) k h = let z : suc left - 1 ≡ left = omega arith in rw z
