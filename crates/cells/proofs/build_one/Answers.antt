-- `cells::build_one` leaves a run of one end, in the first free cell of the part.
-- Assumes nothing.
use Prim.Native.Nat.{ℕ, ◌-◌, ◌<◌, ◌≤◌}
use mathlib.Core.Path.{refl}
use mathlib.Core.List.{List, [], ◌∷◌}
use native.Mathlib.Omega.{arith}
use lib.ListN.{length, drop, length-set}
use borrow.Rule.Slice.PartMut.{mid_of}
use Rattle.cells.specs.Text.{at, only_down}
use Rattle.cells.specs.States.{first_free, Spare}
use Rattle.cells.proofs.Runs.{took}
use Rattle.cells.proofs.Lent.{lent, back_drop, laid_back}
use Rattle.cells.proofs.Lay.{laying, lay_room, lay_built, laid, wrote_end}
use Rattle.cells.proofs.build_one.Goals as goal

-- the words of the part, as they are lent
abbrev part_of : ℕ → List ℕ → List ℕ
part_of b ws = mid_of b (length ws - b) ws

-- there is a cell for the end
room : (b : ℕ) (ws : List ℕ) {c : ℕ} (e : ℕ) → b ≤ length ws → Spare (drop b ws) c 1 → at (first_free (part_of b ws)) 3 < length (part_of b ws)
room b ws e h r = lay_room (laying (e ∷ []) {n = r.more} (rw (← lent b ws h) at r.state)) [] e refl

pub take_cell-k-requires : goal.take_cell-k-requires
take_cell-k-requires c = omega (arith, room c.args.base c.args.words.now c.args.end c.requires.0 c.requires.1)

pub write_cell-requires : goal.write_cell-requires
write_cell-requires c = rw (c.take_cell-k.ensures.1, c.take_cell-k.ensures.0) (simp length-set (room c.args.base c.args.words.now c.args.end c.requires.0 c.requires.1))

pub returns : goal.returns
returns c =
    let a = c.args in
    let e = a.end in
    let l = a.words.now in (
      laid_back a.base l c.requires.0 {p = c.write_cell.new.words} (λ x n q s. rw (c.write_cell.ensures, c.take_cell-k.ensures.1, c.take_cell-k.ensures.0) (laid (lay_built (laying (e ∷ []) s) [] e refl) refl)),
      rw (back_drop a.base l c.requires.0 c.write_cell.new.words, c.write_cell.ensures, c.take_cell-k.ensures.1, c.take_cell-k.ensures.0)
          (wrote_end (took (part_of a.base l)) (first_free (part_of a.base l)) e a.c (only_down 0) (simp length-set (room a.base l e c.requires.0 c.requires.1))),
    )
