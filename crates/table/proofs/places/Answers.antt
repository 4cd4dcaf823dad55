-- `table::places` meets its contract: an invariant.
-- Assumes nothing.
use Prim.Native.Nat.{suc, ◌*◌}
use mathlib.Core.Path.{◌≡◌}
use native.Mathlib.Omega.{arith}
use native.Mathlib.Numerals.{add-one}
use Rattle.model.proofs.UpTo.{fill_start, fill_step}
use Rattle.table.proofs.Laws.{places_end}
use Rattle.table.proofs.places.Goals as goal

pub loop-i-init : goal.loop-i-init
loop-i-init c = fill_start _

pub loop-i-preserved : goal.loop-i-preserved
loop-i-preserved c =
    let l = c.loop-i in
    let a = c.args in
    rw (c.row_start.ensures.0, add-one l.i) (rw (add-one l.i) at (fill_step (λ j. a.width * suc j) l.out l.i l.invariant (omega arith)))

pub returns : goal.returns
returns c =
    let l = c.loop-i in
    let a = c.args in
    let z : l.i ≡ a.n = omega arith in
    let long = l.auto.out in
    places_end a.width a.n l.out (omega arith) (rw z at l.invariant)
