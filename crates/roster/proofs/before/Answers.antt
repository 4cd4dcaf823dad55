-- `roster::before` meets its contract. The invariant: no rule behind place p of the set is ahead of the number.
-- Assumes nothing.
use Prim.Native.Nat.{◌-◌}
use native.Mathlib.Omega.{arith}
use Rattle.roster.proofs.Sets.{all_ahead, some_ahead, none_ahead}
use Rattle.roster.proofs.before.Goals as goal

pub loop-p-init : goal.loop-p-init
loop-p-init c k t h = all_ahead k _ _ _ t h _ 0

pub returns-then-word-x : goal.returns-then-word-x
returns-then-word-x c =
    let l = c.loop-p in
    (omega arith, λ k t h. omega (arith, l.invariant k t h, some_ahead k _ _ _ t h c.args.x (l.p - 1) (omega arith) (omega (arith, rw c.from.ensures at c.word.ensures, c.if-word-x.true))))

pub loop-p-preserved : goal.loop-p-preserved
loop-p-preserved c k t h = none_ahead k _ _ _ t h c.args.x (c.loop-p.p - 1) (omega arith) (omega (arith, rw c.from.ensures at c.word.ensures, c.if-word-x.false))

pub returns : goal.returns
returns c = (omega arith, λ k t h. omega (arith, c.loop-p-test.false, c.loop-p.invariant k t h))
