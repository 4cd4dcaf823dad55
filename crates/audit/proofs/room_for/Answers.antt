-- `audit::room_for` meets its contract: its tests in their order.
-- Assumes nothing.
use mathlib.Core.Path.{◌≡◌, ap}
use Prim.Native.Nat.{◌+◌, ◌*◌}
use lib.Dec.{leb}
use lib.ListN.{length}
use Rattle.table.specs.Rows.{kind_of}
use Rattle.layout.specs.Store.{size}
use native.Mathlib.Omega.{arith}
use borrow.Author.Tests.{lt-leb, le-leb}
use Rattle.audit.proofs.room_for.Goals as goal

pub returns-then-c-shape : goal.returns-then-c-shape
returns-then-c-shape c = simp (lt-leb _ _ c.if-c-shape.true)

pub returns-then-c-gt65536 : goal.returns-then-c-gt65536
returns-then-c-gt65536 c = simp (le-leb _ _ c.if-c-shape.false, lt-leb _ _ c.if-c-gt65536.true)

pub returns : goal.returns
returns c =
    let a = c.args in
    let k = kind_of a.shape.now in
    let z : c.rows_end.result + (2 + 8 * a.c) ≡ size k a.c = omega (arith, c.rows_end.ensures.0) in
    simp (le-leb _ _ c.if-c-shape.false, le-leb _ _ c.if-c-gt65536.false) (ap (λ m. leb m (length a.words.now)) z)
