-- `freeze::put_front` meets its contract. The invariant: the words passed are written. Assumes nothing.
use mathlib.Core.Path.{refl}
use Prim.Native.Nat.{◌-◌}
use native.Mathlib.Omega.{arith}
use borrow.Author.Rules.{rules}
use lib.ListN.{length-set}
use Rattle.freeze.proofs.Front.{fronted_start, fronted_on, fronted_done}
use Rattle.freeze.proofs.put_front.Goals as goal

pub loop-i-init : goal.loop-i-init
loop-i-init c = fronted_start c.args.front.now c.args.words.now c.requires.0 c.requires.1

pub loop-i-preserved : goal.loop-i-preserved
loop-i-preserved c = fronted_on _ _ _ c.loop-i.invariant c.loop-i-test.true

pub bounds-front-n-2 : goal.bounds-front-n-2
bounds-front-n-2 c = simp length-set (omega arith)

pub shape_of-front : goal.shape_of-front
shape_of-front c = simp (length-set, length-set) (omega arith)

pub returns : goal.returns
returns c = fronted_done _ _ _ c.loop-i.invariant (search rules) _ refl
