-- What stands in words from a cell on, where cell 0 begins at word z of them: a chain's run from cell a on, and all that is below it from cell b on. What the cell of its lowest location says, what stands then of the rest of the chain and below that location, and the free chain cell by cell. For whoever walks the cells by their links, in the part itself (z is 2) or in the words around it.
-- Assumes nothing.
use mathlib.Core.Path.{◌≡◌, refl, sym, ap, ◌∙◌}
use mathlib.Core.List.{List, ◌++◌}
use Prim.Native.Nat.{ℕ, suc, ◌+◌, ◌-◌, ◌*◌, ◌≤◌, ◌<◌}
use native.Mathlib.Nat.{add-zero}
use native.Mathlib.Omega.{arith}
use lib.ListN.{get_or, drop}
use lib.Seq.{get_or-drop, drop-drop}
use Rattle.model.specs.Rules.{Tree, names, stop, loc, cells}
use Rattle.cells.specs.Text.{cell, frees, Run, nil, snoc, len, low, row, width, under, first, marks, belows, tree_text, part}
use Rattle.cells.specs.Planted.{Deep}
use Rattle.cells.proofs.Text.{marks_len, cells_sum}

-- what stands behind a run, and behind all that is below a chain
pub past_row : (c : ℕ) (s : Run) (a : ℕ) (r : List ℕ) → drop (8 * len s) (row c s a r) ≡ r
unfolding row len
past_row c nil a r = refl
past_row c (snoc s e d) a r =
    let l = cell e (low c s a) d r in
    let z : 8 * (len s + 1) ≡ 8 * len s + 8 = omega arith in
    rw (z, ← drop-drop 8 (8 * len s) (row c s a l), past_row c s a l)

pub past_belows : (c : ℕ) (t : Tree ℕ) (b : ℕ) (r : List ℕ) → drop (8 * under t) (belows c t b r) ≡ r
unfolding belows under
past_belows c (names x) b r = refl
past_belows c stop b r = refl
past_belows c (loc e u t) b r =
    let y = b + under t in
    let z = y + width u in
    let s = marks c u z in
    let l = row c s y (belows c u z r) in
    let n : 8 * (under t + (width u + under u)) ≡ 8 * under t + (8 * len s + 8 * under u) = omega (arith, marks_len c u z) in
    rw (n, ← drop-drop (8 * len s + 8 * under u) (8 * under t) (belows c t b l), past_belows c t b l, ← drop-drop (8 * under u) (8 * len s) l, past_row c s y (belows c u z r)) (past_belows c u z r)

-- where a walk of a chain begins is the last cell of its run
pub low_first : (c : ℕ) (t : Tree ℕ) (a b d : ℕ) → Deep t d → 0 < d → low c (marks c t b) a ≡ (first c t a).down
unfolding marks low first Deep
low_first c (names x) a b d h p = absurd (omega arith)
low_first c stop a b d h p = refl
low_first c (loc e u t) a b d h p = ap (λ k. a + k) (marks_len c t b)

module _ (z : ℕ) (w : List ℕ) (c : ℕ) where
  -- the chain t stands in the cells from a on, and what is below it from b on; r and s are what stands behind the two
  pub record Stands (t : Tree ℕ) (a b : ℕ) : Type 0 where
    pub r : List ℕ
    pub s : List ℕ
    pub run : drop (z + 8 * a) w ≡ row c (marks c t b) a r
    pub below : drop (z + 8 * b) w ≡ belows c t b s
    pub wide : a + width t ≤ c
    pub deep : b + under t ≤ c

  -- the words behind a run
  behind_run : (s : Run) (a b : ℕ) (r : List ℕ) → drop (z + 8 * a) w ≡ row c s a r → b ≡ a + len s → drop (z + 8 * b) w ≡ r
  behind_run s a b r h e =
      let n : z + 8 * b ≡ z + 8 * a + 8 * len s = omega arith in
      rw (n, ← drop-drop (8 * len s) (z + 8 * a) w, h) (past_row c s a r)

  module _ {e : ℕ} {u t : Tree ℕ} {a b : ℕ} (o : Stands (loc e u t) a b) where
    -- word f of the cell of the lowest location: its end, its next and what is below it
    pub here : (f : ℕ) → get_or w (z + 8 * (a + width t) + f) 0 ≡ get_or (cell e (low c (marks c t b) a) (first c u (b + under t)) o.r) f 0
    unfolding marks row
    here f =
        let h = behind_run (marks c t b) a (a + width t) _ o.run (rw (marks_len c t b)) in
        sym (get_or-drop (z + 8 * (a + width t)) w f 0) ∙ ap (λ l. get_or l f 0) h

    pub end_here : get_or w (z + 8 * (a + width t)) 0 ≡ e
    end_here = rw add-zero at (here 0)

    pub next_here : {d : ℕ} → Deep t d → 0 < d → get_or w (z + 8 * (a + width t) + 1) 0 ≡ (first c t a).down
    next_here {d} h p = here 1 ∙ low_first c t a b d h p

    pub down_here : get_or w (z + 8 * (a + width t) + 2) 0 ≡ (first c u (b + under t)).down
    down_here = here 2

    -- the rest of the chain, and the chain below the lowest location
    pub rest_stands : Stands t a b
    unfolding marks row belows width under
    rest_stands = record { r = _; s = _; run = o.run; below = o.below; wide = omega (arith, o.wide); deep = omega (arith, o.deep) }

    pub under_stands : Stands u (b + under t) (b + under t + width u)
    unfolding belows under
    under_stands =
        let y = b + under t in
        let x = y + width u in
        let m = marks c u x in
        let n : z + 8 * y ≡ z + 8 * b + 8 * under t = omega arith in
        let h : drop (z + 8 * y) w ≡ row c m y (belows c u x o.s) = rw (n, ← drop-drop (8 * under t) (z + 8 * b) w, o.below) (past_belows c t b (row c m y (belows c u x o.s))) in
        record { r = _; s = o.s; run = h; below = behind_run m y x _ h (rw (marks_len c u x)); wide = omega (arith, o.deep); deep = omega (arith, o.deep) }

  -- the text of a tree from cell 0 on
  module _ (t : Tree ℕ) (r : List ℕ) (h : drop z w ≡ tree_text c t 0 r) where
    from_0 : drop (z + 8 * 0) w ≡ tree_text c t 0 r
    from_0 = let n : z + 8 * 0 ≡ z = omega arith in rw n h

    below_0 : drop (z + 8 * (0 + width t)) w ≡ belows c t (0 + width t) r
    below_0 = behind_run (marks c t (0 + width t)) 0 (0 + width t) _ from_0 (rw (marks_len c t (0 + width t)))

    pub text_stands : cells t ≤ c → Stands t 0 (0 + width t)
    text_stands l = record { r = _; s = r; run = from_0; below = below_0; wide = omega (arith, cells_sum t); deep = omega (arith, cells_sum t) }

    pub text_behind : drop (z + 8 * cells t) w ≡ r
    text_behind =
        let n : z + 8 * cells t ≡ z + 8 * (0 + width t) + 8 * under t = omega (arith, cells_sum t) in
        rw (n, ← drop-drop (8 * under t) (z + 8 * (0 + width t)) w, below_0) (past_belows c t (0 + width t) r)

  -- the first cell of the free chain, and the others
  module _ (k n : ℕ) (r : List ℕ) (h : drop (z + 8 * k) w ≡ frees k (suc n) ++ r) where
    pub free_next : get_or w (z + 8 * k + 1) 0 ≡ k + 1
    unfolding frees
    free_next = sym (get_or-drop (z + 8 * k) w 1 0) ∙ ap (λ l. get_or l 1 0) h

    pub free_rest : drop (z + 8 * (k + 1)) w ≡ frees (k + 1) n ++ r
    unfolding frees
    free_rest = let y : z + 8 * (k + 1) ≡ z + 8 * k + 8 = omega arith in rw (y, ← drop-drop 8 (z + 8 * k) w) (ap (drop 8) h)

-- the tree of a part
pub part_stands : (c : ℕ) (t : Tree ℕ) → cells t ≤ c → Stands 2 (part c t) c t 0 (0 + width t)
unfolding part
part_stands c t l = text_stands 2 (part c t) c t (frees (cells t) (c - cells t)) refl l
