-- Between the part of a tree, all its words, and what building finds and leaves.
-- Assumes nothing.
use mathlib.Core.Path.{◌≡◌, refl, ap, ◌∙◌}
use mathlib.Core.List.{List, [], ◌∷◌}
use Prim.Native.Nat.{ℕ, ◌+◌, ◌-◌, ◌≤◌}
use native.Mathlib.Omega.{arith}
use lib.ListN.{length, set}
use Rattle.model.specs.Rules.{Tree, stop, cells}
use Rattle.cells.specs.Text.{frees, row, width, under, first, marks, belows, part}
use Rattle.cells.specs.declared.Below.{Below}
use Rattle.cells.specs.States.{State, TreeHeld}
use Rattle.cells.proofs.Text.{cells_sum, part_length}

-- the part of no tree has room for any tree of no more cells
pub part_spare : {ws : List ℕ} {c : ℕ} (t : Tree ℕ) → ws ≡ part c stop → cells t ≤ c → c ≤ 65536 → State ws c 0 0 (c ∷ []) (frees 0 (width t + under t + (c - cells t)))
unfolding part row belows marks width first
part_spare {ws} {c} t e l m =
    let z : width t + under t + (c - cells t) ≡ c - 0 = omega (arith, cells_sum t) in
    rw z (record { is = e; len = refl; tot = ap length e ∙ part_length c stop (omega arith); most = m })

-- once it is built and the link leads to it
pub part_planted : {ws : List ℕ} {h : Below} {c : ℕ} {t : Tree ℕ} → TreeHeld ws h c 0 (c - cells t) (c ∷ []) t → set ws 1 h.down ≡ part c t
unfolding part
part_planted {ws} {h} {c} {t} b =
    let z : 0 + width t + under t ≡ cells t = omega (arith, cells_sum t) in
    ap (λ k. set k 1 h.down) (rw z at b.state).is ∙ rw b.top
