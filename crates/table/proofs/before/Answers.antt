-- `table::before` meets its contract. The invariant: no rule behind place p is ahead of the number.
-- Assumes nothing.
use Prim.Native.Nat.{◌+◌, ◌-◌}
use mathlib.Core.Path.{◌≡◌, sym}
use native.Mathlib.Omega.{arith}
use Rattle.table.specs.Rows.{table_in}
use Rattle.table.proofs.Laws.{rules_length}
use Rattle.table.proofs.Place.{ahead_all, none_here, all_here}
use Rattle.table.proofs.before.Goals as goal

pub loop-p-init : goal.loop-p-init
loop-p-init c =
    let a = c.args in
    λ k e. omega (arith, ahead_all a.x (table_in k a.n a.rows.now).rules, rules_length k a.n a.rows.now)

pub returns-then-number-x : goal.returns-then-number-x
returns-then-number-x c =
    let l = c.loop-p in
    let a = c.args in
    let z : l.p - 1 + 1 ≡ l.p = omega (arith, c.loop-p-test.true) in
    (λ k e up. omega (arith, l.invariant k e, z, all_here k a.n a.rows.now l.p _ _ (omega (arith, c.loop-p-test.true)) l.auto.p (rw (z, sym e) at c.row_start.ensures.0) (rw c.of-table.ensures at c.number.ensures) a.x up c.if-number-x.true), omega (arith, z, l.auto.p))

pub loop-p-preserved : goal.loop-p-preserved
loop-p-preserved c =
    let l = c.loop-p in
    let a = c.args in
    let z : l.p - 1 + 1 ≡ l.p = omega (arith, c.loop-p-test.true) in
    λ k e. none_here k a.n a.rows.now l.p _ _ (omega (arith, c.loop-p-test.true)) l.auto.p (rw (z, sym e) at c.row_start.ensures.0) (rw c.of-table.ensures at c.number.ensures) a.x c.if-number-x.false

pub returns : goal.returns
returns c = (λ k e up. omega (arith, c.loop-p.invariant k e), omega arith)
