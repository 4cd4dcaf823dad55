-- Whether the words are enough for c cells, in plain facts.
-- Assumes nothing.
use mathlib.Core.Path.{◌≡◌, refl}
use mathlib.Core.Logic.{inl, inr}
use mathlib.Core.Bool.{Bool, true, false, ◌&&◌}
use mathlib.Core.List.{List}
use Prim.Native.Nat.{ℕ}
use native.Mathlib.Omega.{arith}
use lib.Dec.{leb}
use lib.ListN.{length}
use borrow.Author.Tests.{leb-false}
use Rattle.model.specs.Table.{Kind}
use Rattle.layout.specs.Store.{size, room_for}
use Rattle.layout.proofs.Sound.{roomy}
use Rattle.demands.specs.Calls.{field_count, NoRoom}

module _ (k : Kind) (c : ℕ) (ws : List ℕ) where
  pub no_room : room_for k c ws ≡ false → NoRoom k c ws
  no_room h = go (leb (field_count k) c) refl (leb c 65536) refl h
    where
      go : (a : Bool) → leb (field_count k) c ≡ a → (b : Bool) → leb c 65536 ≡ b → (a && (b && leb (size k c) (length ws))) ≡ false → NoRoom k c ws
      go false p b q e = inl (leb-false (field_count k) c p)
      go true p false q e = inr (inl (leb-false c 65536 q))
      go true p true q e = inr (inr (leb-false (size k c) (length ws) e))

  pub room_there : room_for k c ws ≡ true → NoRoom k c ws → ⊥
  room_there h (inl x) = omega (arith, (roomy k c ws h).least)
  room_there h (inr (inl x)) = omega (arith, (roomy k c ws h).most)
  room_there h (inr (inr x)) = omega (arith, (roomy k c ws h).long)
