-- `count::count_chain` meets its contract.
-- Assumes nothing.
use mathlib.Core.Path.{◌∙◌}
use native.Mathlib.Omega.{arith}
use Prim.Native.Nat.{◌+◌, ◌-◌}
use lib.ListN.{take}
use Rattle.rows.proofs.Coming.{coming_under}
use Rattle.count.proofs.Counted.{none, last, only, counted_start, counted_end, counted_full, counted_on}
use Rattle.count.proofs.+count_chain.Goals as goal
use Rattle.count.proofs.+count_chain.Goals.{then-room-eq0-via-then-room-eq0, then-room-eq0-via-else-room-eq0+then-left-eq1}

pub returns-then-left-eq0 : goal.returns-then-left-eq0
returns-then-left-eq0 t c = let a = c.args in omega (arith, none a.rows.now (take a.n a.sets.now) a.field a.left c.if-left-eq0.true)

pub returns-then-room-eq0 : goal.returns-then-room-eq0
returns-then-room-eq0 t c =
    let a = c.args in
    let z = only a.rows.now (take a.n a.sets.now) a.field a.left c.if-left-eq0.false (c.flat.ensures c.if-flat.true) in
    elim c.then-room-eq0.branch [
      | then-room-eq0-via-then-room-eq0 w ↦ omega (arith, z, w.if-room-eq0.true)
      | then-room-eq0-via-else-room-eq0+then-left-eq1 w ↦ omega (arith, z, none a.rows.now (take a.n a.sets.now) (a.field + 1) (a.left - 1) (omega (arith, w.if-left-eq1.true)))
    ]

pub returns-then-flat : goal.returns-then-flat
returns-then-flat t c =
    let a = c.args in
    omega (arith, c.count_chain.ensures, only a.rows.now (take a.n a.sets.now) a.field a.left c.if-left-eq0.false (c.flat.ensures c.if-flat.true))

pub returns-then-left-eq1-2 : goal.returns-then-left-eq1-2
returns-then-left-eq1-2 t c = let a = c.args in omega (arith, c.min.ensures, c.ends_of-many.ensures.1, last a.rows.now (take a.n a.sets.now) a.field a.left c.if-left-eq1-2.true)

pub loop-i-init : goal.loop-i-init
loop-i-init t c = counted_start c.requires.0 (omega (arith, c.if-left-eq0.false)) _ _ c.ends_of-many.auto.ends c.ends_of-many.ensures

pub returns-then-room-count : goal.returns-then-room-count
returns-then-room-count t c = counted_full c.loop-i.invariant c.if-left-eq0.false c.loop-i-test.true c.if-room-count.true

pub count_chain-below-requires : goal.count_chain-below-requires
count_chain-below-requires t c =
    let l = c.loop-i in
    let scratch = coming_under l.invariant.coming c.loop-i-test.true _ c.narrow-m.auto.sets c.narrow-m.ensures c.requires.0 (omega (arith, c.if-left-eq0.false)) l.auto.sets (l.auto.ends ∙ c.ends_of-many.auto.ends) in
    (omega (arith, c.if-left-eq0.false), (scratch, omega (arith, c.if-left-eq0.false, c.requires.1), omega (arith, c.requires.2)))

pub loop-i-preserved : goal.loop-i-preserved
loop-i-preserved t c =
    let b = c.count_chain-below in
    counted_on c.loop-i.invariant c.if-left-eq0.false c.loop-i-test.true _ c.narrow-m.auto.sets c.narrow-m.ensures _ _ c.if-room-count.false b.ensures b.auto.sets b.auto.ends

pub returns : goal.returns
returns t c = counted_end c.loop-i.invariant c.if-left-eq0.false c.loop-i-test.false
