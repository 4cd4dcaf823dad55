-- Between the part of a tree, all its words, and what freeing finds and leaves.
-- Assumes nothing.
use mathlib.Core.Path.{◌≡◌, refl, ap, ◌∙◌}
use mathlib.Core.List.{List, [], ◌∷◌}
use Prim.Native.Nat.{ℕ, ◌+◌, ◌-◌, ◌≤◌, ◌<◌}
use native.Mathlib.Omega.{arith}
use lib.ListN.{length, get_or, set}
use Rattle.model.specs.Rules.{Tree, names, stop, loc, cells}
use Rattle.cells.specs.Text.{only_down, frees, row, width, under, first, marks, belows, part}
use Rattle.cells.specs.Planted.{Deep, Planted}
use Rattle.cells.specs.States.{State, TreeHeld}
use Rattle.cells.proofs.Text.{cells_sum, part_length}

-- a link says all of where a chain is
top_only : (c : ℕ) (t : Tree ℕ) (a d : ℕ) → Deep t d → 0 < d → only_down (first c t a).down ≡ first c t a
unfolding first Deep
top_only c (names x) a d h p = absurd (omega arith)
top_only c stop a d h p = refl
top_only c (loc e u t) a d h p = refl

-- the tree of a part stands from cell 0 on
pub part_held : {ws : List ℕ} {c d : ℕ} (p : Planted ws c d) → TreeHeld ws (only_down (get_or ws 1 0)) c 0 (c - cells p.t) ((first c p.t 0).down ∷ []) p.t
unfolding part
part_held {ws} {c} {d} p =
    let t = p.t in
    let e = p.is in
    let z : 0 + width t + under t ≡ cells t = omega (arith, cells_sum t) in
    record { top = ap (λ k. only_down (get_or k 1 0)) e ∙ top_only c t 0 d p.deep p.some; state = rw z (record { is = e; len = refl; tot = ap length e ∙ part_length c t p.fits; most = p.most }) }

-- once it is dropped and the link says "no cell"
pub part_dropped : {ws : List ℕ} {c f : ℕ} (t : Tree ℕ) → cells t ≤ c → State ws c 0 0 (f ∷ []) (frees 0 (width t + under t + (c - cells t))) → set ws 1 c ≡ part c stop
unfolding part row belows marks width first
part_dropped {ws} {c} {f} t l s =
    let z : width t + under t + (c - cells t) ≡ c - 0 = omega (arith, cells_sum t) in
    ap (λ k. set k 1 c) (rw z at s.is)
