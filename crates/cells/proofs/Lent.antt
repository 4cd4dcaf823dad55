-- The words as rules up to a word b, and the part with the links and the cells from there on: what the part is that is lent, and what the words are once it is back.
-- Assumes nothing.
use mathlib.Core.Path.{◌≡◌, sym, ap, ◌∙◌}
use mathlib.Core.List.{List, [], ◌++◌, append-nil}
use Prim.Native.Nat.{ℕ, ◌+◌, ◌-◌, ◌*◌, ◌≤◌}
use native.Mathlib.Nat.{add-zero}
use native.Mathlib.Omega.{arith}
use lib.ListN.{length, get_or, take, drop, set, length-drop, drop_of_length-le, take-append-drop}
use lib.Seq.{take_all, drop_at, length-take-le, take-set-le, drop-set-add, get_or-drop}
use borrow.Rule.Slice.PartMut.{mid_of, post_of, put_mid, take_put}
use Rattle.cells.specs.Text.{at, cell_word}
use Rattle.cells.specs.declared.Below.{Below}
use Rattle.cells.specs.States.{first_free, Lays, Hangs, Laid}

module _ (b : ℕ) (ws : List ℕ) (h : b ≤ length ws) where
  pub lent : mid_of b (length ws - b) ws ≡ drop b ws
  lent = take_all (length ws - b) (drop b ws) (omega (arith, length-drop b ws))

  none_behind : post_of b (length ws - b) ws ≡ []
  none_behind = drop_of_length-le (drop b ws) {i = length ws - b} (omega (arith, length-drop b ws))

  pub back_take : (p : List ℕ) → take b (put_mid b (length ws - b) ws p) ≡ take b ws
  back_take p = take_put b (length ws - b) ws p h

  pub back_drop : (p : List ℕ) → drop b (put_mid b (length ws - b) ws p) ≡ p
  back_drop p = drop_at (take b ws) (p ++ post_of b (length ws - b) ws) b (length-take-le b ws h) ∙ rw none_behind (append-nil p)

  -- a run is laid in the part
  pub laid_back : {p es : List ℕ} {r c : ℕ} → Lays (mid_of b (length ws - b) ws) p r c es → Laid b ws (put_mid b (length ws - b) ws p) r c es
  laid_back {p} l = record { lays = rw (back_drop p) (rw lent at l); kept = back_take p }

-- a word of the part is written, and what is below a cell of it
pub put_drop : (b : ℕ) (ws : List ℕ) (i j v : ℕ) → i ≡ b + j → drop b (set ws i v) ≡ set (drop b ws) j v
put_drop b ws i j v e = rw e (drop-set-add b ws j v)

pub put_take : (b : ℕ) (ws : List ℕ) (i v : ℕ) → b ≤ i → take b (set ws i v) ≡ take b ws
put_take b ws i v h = take-set-le b ws i v h

pub hangs_at : (b : ℕ) (ws : List ℕ) (i j k : ℕ) (x : Below) → i ≡ b + at k 2 → j ≡ b + at k 3 → Hangs b ws (set (set ws i x.down) j x.side) k x
hangs_at b ws i j k x e f = record {
  hangs = put_drop b (set ws i x.down) j (at k 3) x.side f ∙ ap (λ l. set l (at k 3) x.side) (put_drop b ws i (at k 2) x.down e);
  kept = put_take b (set ws i x.down) j x.side (omega arith) ∙ put_take b ws i x.down (omega arith);
}

-- the end of a cell of the part, and its first word
pub end_at_lem : (b : ℕ) (ws : List ℕ) (k : ℕ) → get_or ws (b + (2 + 8 * k)) 0 ≡ cell_word (drop b ws) k 0
end_at_lem b ws k = rw add-zero (sym (get_or-drop b ws (2 + 8 * k) 0))

pub first_at : (b : ℕ) (ws : List ℕ) → get_or ws b 0 ≡ first_free (drop b ws)
first_at b ws = rw add-zero at (sym (get_or-drop b ws 0 0))

-- the words are the rules and the part
pub whole : (b : ℕ) (ws : List ℕ) {x y : List ℕ} → take b ws ≡ x → drop b ws ≡ y → ws ≡ x ++ y
whole b ws e f = sym (take-append-drop b ws) ∙ rw (e, f)
