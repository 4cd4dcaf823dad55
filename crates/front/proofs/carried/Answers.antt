-- `front::carried` meets its contract: the head, and then the rows that are lent, with zeros behind them.
-- Assumes nothing.
use native.Mathlib.Omega.{arith}
use mathlib.Core.Path.{sym}
use lib.Seq.{length-take-le}
use Rattle.table.specs.Rows.{kind_of}
use Rattle.front.proofs.Front.{carried_front}
use Rattle.front.proofs.carried.Goals as goal

pub slice_bounds-write_head-end-2 : goal.slice_bounds-write_head-end-2
slice_bounds-write_head-end-2 c = sym (length-take-le c.args.shape.now.head c.args.front.now (omega (arith, c.requires)))

pub write_head-requires : goal.write_head-requires
write_head-requires c = omega (arith, length-take-le c.args.shape.now.head c.args.front.now (omega (arith, c.requires)), c.args.shape.now.shaped.three)

pub returns : goal.returns
returns c =
    let a = c.args in
    carried_front (kind_of a.shape.now) c.args.shape.now.shaped a.c a.n a.front.now _ a.rows.now _ _ c.requires c.write_head.ensures c.copy.auto.out c.copy.ensures
