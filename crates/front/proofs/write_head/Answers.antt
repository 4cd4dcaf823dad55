-- `front::write_head` meets its contract. The invariant: the words up to word i are written.
-- Assumes nothing.
use Prim.Native.Nat.{ℕ, ◌-◌, ◌<◌}
use mathlib.Core.Path.{◌≡◌, refl, sym, ◌∙◌}
use mathlib.Core.List.{List}
use borrow.Author.Rules.{rules}
use native.Mathlib.Omega.{arith}
use lib.ListN.{length, set, length-set}
use Rattle.front.proofs.Front.{head_start, head_on, head_end}
use Rattle.front.proofs.write_head.Goals as goal

thrice : (hs : List ℕ) (c n m : ℕ) → length (set (set (set hs 0 c) 1 n) 2 m) ≡ length hs
thrice hs c n m = length-set (set (set hs 0 c) 1 n) 2 m ∙ (length-set (set hs 0 c) 1 n ∙ length-set hs 0 c)

pub bounds-head-1 : goal.bounds-head-1
bounds-head-1 c = let a = c.args in omega (arith, c.requires, length-set a.head.now 0 a.c)

pub bounds-head-2 : goal.bounds-head-2
bounds-head-2 c = let a = c.args in omega (arith, c.requires, length-set (set a.head.now 0 a.c) 1 a.n, length-set a.head.now 0 a.c)

pub loop-i-init : goal.loop-i-init
loop-i-init c =
    let a = c.args in
    let e = thrice a.head.now a.c a.n a.mark in
    (omega arith, omega (arith, e, c.requires), refl, head_start _ _ _ a.head.now c.requires)

pub offset_bounds-head-i : goal.offset_bounds-head-i
offset_bounds-head-i c = let l = c.loop-i in let a = c.args in let e = thrice a.head.now a.c a.n a.mark in search rules

pub loop-i-preserved : goal.loop-i-preserved
loop-i-preserved c =
    let l = c.loop-i in
    let a = c.args in
    let t : l.i < length l.head = omega (arith, c.loop-i-test.true, l.invariant.2, thrice a.head.now a.c a.n a.mark) in
    let e = length-set l.head l.i 0 in
    (search rules, omega (arith, e, t), e ∙ l.invariant.2, head_on _ _ _ l.head l.i l.invariant.0 t l.invariant.3)

pub shape_of-head : goal.shape_of-head
shape_of-head c = let l = c.loop-i in let a = c.args in l.invariant.2 ∙ thrice a.head.now a.c a.n a.mark

pub returns : goal.returns
returns c =
    let l = c.loop-i in
    let a = c.args in
    head_end _ _ _ l.head l.i _ (omega (arith, l.invariant.1, c.loop-i-test.false, l.invariant.2, thrice a.head.now a.c a.n a.mark)) (sym (l.invariant.2 ∙ thrice a.head.now a.c a.n a.mark)) l.invariant.3
