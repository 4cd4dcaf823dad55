-- Rows of a width, one behind the other: what stands at a word of them, and a list that is made of them.
-- Assumes nothing.
use mathlib.Core.Path.{◌≡◌, refl, sym, ap₂, ◌∙◌}
use mathlib.Core.List.{List, [], ◌∷◌, ◌++◌}
use Prim.Native.Nat.{ℕ, zero, suc, ◌+◌, ◌*◌, ◌≤◌, ◌<◌}
use native.Mathlib.Nat.{mul-le-mul_right}
use native.Mathlib.Omega.{arith}
use lib.ListN.{length, get_or, take, drop, length-append, length-drop, get_or-append, take-append-drop}
use lib.Seq.{get_or-append-add, get_or-take, get_or-drop, length-take-le}
use Rattle.model.specs.Lists.{up_to, grid}
use Rattle.model.proofs.UpTo.{length_up_to, get_d_up_to, up_to_is}

-- a row of those before a place ends at or before that place's row
pub row_ends : (w p n : ℕ) → p < n → w * p + w ≤ w * n
row_ends w p n h = omega (arith, mul-le-mul_right w h)

-- a row begins no later than those behind it
pub row_starts : (w p n : ℕ) → p ≤ n → w * p ≤ w * n
row_starts w p n h = omega (arith, mul-le-mul_right w h)

module _ {A : Type 0} where
  pub length_grid : (w n : ℕ) (f : ℕ → ℕ → A) → length (grid w n f) ≡ w * n
  unfolding grid
  length_grid w zero f = omega arith
  length_grid w (suc n) f = simp length-append (omega (arith, length_up_to w (f 0), length_grid w n (λ p. f (suc p))))

  pub get_d_grid : (w n : ℕ) (f : ℕ → ℕ → A) (p j : ℕ) (d : A) → p < n → j < w → get_or (grid w n f) (w * p + j) d ≡ f p j
  unfolding grid
  get_d_grid w zero f p j d h l = absurd (omega arith)
  get_d_grid w (suc n) f zero j d h l =
      let z : w * 0 + j ≡ j = omega arith in
      rw z (get_or-append (up_to w (f 0)) (grid w n (λ p. f (suc p))) d j (omega (arith, length_up_to w (f 0))) ∙ get_d_up_to w (f 0) j d l)
  get_d_grid w (suc n) f (suc p) j d h l =
      let z : w * suc p + j ≡ length (up_to w (f 0)) + (w * p + j) = omega (arith, length_up_to w (f 0)) in
      rw z (get_or-append-add (up_to w (f 0)) (grid w n (λ p. f (suc p))) (w * p + j) d ∙ get_d_grid w n (λ p. f (suc p)) p j d (omega arith) l)

  -- a list is made of what stands in its rows
  pub grid_is : (d : A) (xs : List A) (w n : ℕ) (f : ℕ → ℕ → A) → length xs ≡ w * n → ((p j : ℕ) → p < n → j < w → get_or xs (w * p + j) d ≡ f p j) → xs ≡ grid w n f
  unfolding grid
  grid_is d [] w zero f l h = refl
  grid_is d (x ∷ xs) w zero f l h = absurd (omega arith)
  grid_is d xs w (suc n) f l h =
      let a = up_to_is d (take w xs) w (f 0) (length-take-le w xs (omega arith)) (λ j v. let z : w * 0 + j ≡ j = omega arith in get_or-take w xs j d v ∙ rw z at (h 0 j (omega arith) v)) in
      let b = grid_is d (drop w xs) w n (λ p. f (suc p)) (simp length-drop (omega arith)) (λ p j u v. let z : w * suc p + j ≡ w + (w * p + j) = omega arith in get_or-drop w xs (w * p + j) d ∙ rw z at (h (suc p) j (omega arith) v)) in
      sym (take-append-drop w xs) ∙ ap₂ ◌++◌ a b
