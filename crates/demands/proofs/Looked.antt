-- A lookup in a store of a kind: 9 at once, and what is left to the walk.
-- Assumes nothing.
use mathlib.Core.Path.{◌≡◌}
use mathlib.Core.Bool.{true, false}
use mathlib.Core.List.{List}
use Prim.Native.Nat.{ℕ}
use lib.Dec.{eqb}
use lib.ListN.{get_or}
use borrow.Author.Tests.{eq-eqb}
use Rattle.model.specs.Table.{Kind}
use Rattle.model.proofs.Tests.{by_test}
use Rattle.layout.specs.Store.{cells_in, room_for}
use Rattle.lookup.specs.Walk.{walk_of, refused, part_in, found_in, lookup_in}

module _ (k : Kind) (ws vs : List ℕ) where
  -- c is outside its limits, or the words are too few for it
  pub roomless_9 : room_for k (cells_in ws) ws ≡ false → lookup_in k ws vs ≡ refused 9
  unfolding lookup_in
  roomless_9 e = by_test (eqb (get_or ws 2 0) k.mark) (λ m. simp (m, e)) (λ m. simp m)

  -- the words name the kind and are enough: the walk says
  pub walk_says : get_or ws 2 0 ≡ k.mark → room_for k (cells_in ws) ws ≡ true → lookup_in k ws vs ≡ found_in k ws (walk_of (part_in k ws) (cells_in ws) vs)
  unfolding lookup_in
  walk_says m e = simp (eq-eqb _ _ m, e)
