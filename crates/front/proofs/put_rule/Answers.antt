-- `front::put_rule` meets its contract: the rows from the rule's place on move up, its row is written, and one rule more is named.
-- Assumes nothing.
use mathlib.Core.Path.{refl}
use Prim.Native.Nat.{◌+◌}
use native.Mathlib.Omega.{arith}
use Rattle.model.proofs.Grid.{row_ends, row_starts}
use Rattle.table.specs.Rows.{kind_of}
use Rattle.front.proofs.Front.{mid_long, put_front}
use Rattle.front.proofs.put_rule.Goals as goal

pub slice_bounds-put-end : goal.slice_bounds-put-end
slice_bounds-put-end c =
    let a = c.args in
    omega (arith, c.requires.0, c.requires.1, c.row_start.ensures.0, row_starts a.shape.now.width (a.n + 2) (a.shape.now.most + 1) (omega (arith, c.requires.1)))

pub put-requires : goal.put-requires
put-requires c =
    let a = c.args in
    let l = mid_long a.shape.now.head c.row_start.result _ a.front.now refl (omega (arith, c.requires.0, c.row_start.ensures.0, row_starts a.shape.now.width (a.n + 2) (a.shape.now.most + 1) (omega (arith, c.requires.1)))) in
    omega (arith, l, c.row_start.ensures.0, c.row_start-at.ensures.0, row_ends a.shape.now.width (a.place + 1) (a.n + 2) (omega (arith, c.requires.2)))

pub returns : goal.returns
returns c =
    λ k t w count place len e.
    let a = c.args in
    put_front (kind_of a.shape.now) c.args.shape.now.shaped k a.n t a.front.now a.row.now w count a.place place len e c.requires.1 c.requires.2 _ _ _ c.row_start-at.ensures.0 c.row_start.ensures.0 refl _ c.put.ensures
