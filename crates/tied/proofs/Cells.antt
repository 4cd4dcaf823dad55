-- Over cells that hold a tree, the tree that the words give by their links is that tree.
-- Assumes nothing.
use mathlib.Core.Path.{◌≡◌, ◌∙◌}
use mathlib.Core.List.{List}
use Prim.Native.Nat.{ℕ, ◌+◌, ◌-◌, ◌≤◌, ◌<◌}
use native.Mathlib.Omega.{arith}
use lib.ListN.{get_or}
use Rattle.model.specs.Rules.{Tree, names, stop, loc, cells}
use Rattle.cells.specs.Text.{width, under, first, part}
use Rattle.cells.specs.Planted.{Deep}
use Rattle.cells.proofs.Text.{cells_sum}
use Rattle.cells.proofs.From.{Stands, here, next_here, down_here, rest_stands, under_stands, part_stands}
use Rattle.search.specs.Links.{chain_in, tree_in}
use Rattle.search.proofs.Links.{chain_next, chain_out, tree_chain}

module _ (w : List ℕ) (c : ℕ) where
  -- where no field is left, a tree is what it names; else it is a chain
  under_is : (u : Tree ℕ) (d a b : ℕ) → Deep u d → Stands 2 w c u a b → (0 < d → chain_in w c (λ x. tree_in w c (d - 1) x) c (first c u a).down ≡ u) → tree_in w c d (first c u a).down ≡ u
  unfolding Deep tree_in first
  under_is (names x) d a b h o f = rw h
  under_is stop d a b h o f = tree_chain w c d _ h ∙ f h
  under_is (loc e u t) d a b h o f = tree_chain w c d _ h.0 ∙ f h.0

  -- a chain, of which at most n cells are looked at, by its cells and by what is below each
  chain_is : (t : Tree ℕ) (d a b : ℕ) → Deep t d → Stands 2 w c t a b → 0 < d → (n : ℕ) → width t ≤ n → chain_in w c (λ x. tree_in w c (d - 1) x) n (first c t a).down ≡ t
  unfolding Deep first width
  chain_is (names x) d a b h o p n l = absurd (omega arith)
  chain_is stop d a b h o p n l = chain_out w c (λ x. tree_in w c (d - 1) x) n c (omega arith)
  chain_is (loc e u t) d a b h o p n l =
      let s = under_stands 2 w c o in
      let y = b + under t in
      chain_next w c (λ x. tree_in w c (d - 1) x) n (n - 1) (a + width t) (omega arith) (omega (arith, o.wide))
      ∙ rw (
        here 2 w c o 0,
        next_here 2 w c o h.2 p,
        down_here 2 w c o,
        under_is u (d - 1) y (y + width u) h.1 s (λ q. chain_is u (d - 1) y (y + width u) h.1 s q c (omega (arith, s.wide))),
        chain_is t d a b h.2 (rest_stands 2 w c o) p (n - 1) (omega arith),
      )

-- THE TREE of a part that holds one
pub part_tree : (c : ℕ) (t : Tree ℕ) → cells t ≤ c → (d : ℕ) → Deep t d → tree_in (part c t) c d (get_or (part c t) 1 0) ≡ t
unfolding part
part_tree c t h d q =
    let o = part_stands c t h in
    under_is (part c t) c t d 0 (0 + width t) q o (λ p. chain_is (part c t) c t d 0 (0 + width t) q o p c (omega (arith, cells_sum t)))
