-- `front::take_rule` meets its contract: the rows behind the rule move down, and one rule less is named.
-- Assumes nothing.
use mathlib.Core.Path.{refl}
use Prim.Native.Nat.{◌+◌}
use native.Mathlib.Omega.{arith}
use Rattle.model.proofs.Grid.{row_starts}
use Rattle.table.specs.Rows.{kind_of}
use Rattle.front.proofs.Front.{mid_long, take_front}
use Rattle.front.proofs.take_rule.Goals as goal

pub slice_bounds-take_out-end : goal.slice_bounds-take_out-end
slice_bounds-take_out-end c =
    let a = c.args in
    omega (arith, c.requires.0, c.requires.1, c.row_start.ensures.0, row_starts a.shape.now.width (a.n + 1) (a.shape.now.most + 1) (omega (arith, c.requires.1)))

pub take_out-requires : goal.take_out-requires
take_out-requires c =
    let a = c.args in
    let l = mid_long a.shape.now.head c.row_start.result _ a.front.now refl (omega (arith, c.requires.0, c.row_start.ensures.0, row_starts a.shape.now.width (a.n + 1) (a.shape.now.most + 1) (omega (arith, c.requires.1)))) in
    omega (arith, l, c.row_start.ensures.0, c.row_start-at.ensures.0, row_starts a.shape.now.width (a.place + 1) (a.n + 1) (omega (arith, c.requires.2)))

pub returns : goal.returns
returns c =
    λ k x t w count place there e.
    let a = c.args in
    take_front (kind_of a.shape.now) c.args.shape.now.shaped k a.n x t a.front.now w count a.place place there e c.requires.1 c.requires.2 _ _ _ c.row_start-at.ensures.0 c.row_start.ensures.0 refl _ c.take_out.ensures
