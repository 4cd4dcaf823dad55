-- `image::seek` meets its contract. The invariant: with 8 less the blocks read still to read, the walk from here says what the whole walk of the field says.
-- Assumes nothing.
use borrow.Author.Rules.{rules}
use mathlib.Core.Path.{sym, ◌∙◌}
use Prim.Native.Nat.{◌-◌}
use native.Mathlib.Nat.{sub-zero}
use native.Mathlib.Omega.{arith}
use Rattle.image.proofs.Steps.{rank_halves, all_eight, not_eight, seek_out, seek_spent, seek_all, seek_down, seek_next}
use Rattle.image.proofs.seek.Goals as goal

pub loop-reads-init : goal.loop-reads-init
loop-reads-init c = (omega arith, simp sub-zero)

-- lost: a link outside
pub returns-then-blocks-k : goal.returns-then-blocks-k
returns-then-blocks-k c = sym (c.loop-reads.invariant.1 ∙ seek_out _ _ _ _ _ (search rules))

-- lost: all ends are below the value
pub returns-then-low-high-eq4 : goal.returns-then-low-high-eq4
returns-then-low-high-eq4 c =
    let l = c.loop-reads in
    let a = c.args in
    let j = rank_halves a.blocks.now l.k a.value _ _ c.rank-low.ensures.0 c.rank-high.ensures.0 in
    sym (l.invariant.1 ∙ seek_all _ _ _ (7 - l.reads) _ _ _ (omega arith) (omega arith) j (all_eight _ _ c.if-low-high-eq4.true))

pub bounds-blocks-at : goal.bounds-blocks-at
bounds-blocks-at c = omega (arith, not_eight _ _ c.rank-low.ensures.1 c.rank-high.ensures.1 c.if-low-high-eq4.false)

-- down
pub returns-then-link-ge2147483648 : goal.returns-then-link-ge2147483648
returns-then-link-ge2147483648 c =
    let l = c.loop-reads in
    let a = c.args in
    let j = rank_halves a.blocks.now l.k a.value _ _ c.rank-low.ensures.0 c.rank-high.ensures.0 in
    sym (l.invariant.1 ∙ seek_down _ _ _ (7 - l.reads) _ _ _ (omega arith) (omega arith) j (not_eight _ _ c.rank-low.ensures.1 c.rank-high.ensures.1 c.if-low-high-eq4.false) (search rules))

-- the next block
pub loop-reads-preserved : goal.loop-reads-preserved
loop-reads-preserved c =
    let l = c.loop-reads in
    let a = c.args in
    let j = rank_halves a.blocks.now l.k a.value _ _ c.rank-low.ensures.0 c.rank-high.ensures.0 in
    (omega arith, l.invariant.1 ∙ seek_next _ _ _ _ _ _ _ (omega arith) (omega arith) j (not_eight _ _ c.rank-low.ensures.1 c.rank-high.ensures.1 c.if-low-high-eq4.false) (search rules))

-- lost: 8 blocks were read
pub returns : goal.returns
returns c = sym (c.loop-reads.invariant.1 ∙ seek_spent _ _ _ _ _ (omega arith))
