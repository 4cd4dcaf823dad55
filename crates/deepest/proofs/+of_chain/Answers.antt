-- `deepest::of_chain` meets its contract.
-- Assumes nothing.
use Rattle.std.proofs.Common.{rules, None}
use mathlib.Core.Path.{◌≡◌, refl, ◌∙◌}
use native.Mathlib.Omega.{arith}
use Rattle.rows.proofs.Coming.{coming_under}
use Rattle.deepest.proofs.Steps.{leaf_met, leaf_not, flat_met, flat_not, last_none, last_not, last_met, going_start, going_end, going_asks, going_above, going_better, going_worse}
use Rattle.deepest.proofs.+of_chain.Goals as goal
use Rattle.deepest.proofs.+of_chain.Goals.{then-many-eq0-via-then-many-eq0, then-many-eq0-via-else-many-eq0+then-own-goal}

pub returns-then-goal-above : goal.returns-then-goal-above
returns-then-goal-above t c = leaf_met _ _ _ _ _ _ _ c.if-left-eq0.true c.requires.5 c.if-goal-above.true

pub returns-else-goal-above : goal.returns-else-goal-above
returns-else-goal-above t c = leaf_not _ _ _ _ _ _ _ c.if-left-eq0.true c.if-goal-above.false

pub returns-in_err-most : goal.returns-in_err-most
returns-in_err-most t c =
    let m = rw c.in_err-most.was at c.of_chain.ensures in
    rw c.from_residual.ensures (flat_not _ _ _ _ _ c.if-left-eq0.false (c.flat.ensures c.if-flat.true) c.requires.4 _ _ m)

pub returns-then-flat : goal.returns-then-flat
returns-then-flat t c = flat_met _ _ _ _ _ c.if-left-eq0.false (c.flat.ensures c.if-flat.true) c.requires.4 _ _ c.in_ok-most.ensures (omega (arith, c.requires.5, c.if-left-eq0.false))

pub returns-then-many-eq0 : goal.returns-then-many-eq0
returns-then-many-eq0 t c = elim c.then-many-eq0.branch [
  | then-many-eq0-via-then-many-eq0 w ↦ last_none _ _ _ _ _ c.if-left-eq0.false c.if-left-eq1.true _ c.ends_of-many.ensures.1 _ w.if-many-eq0.true c.requires.4
  | then-many-eq0-via-else-many-eq0+then-own-goal w ↦ last_not _ _ _ _ _ c.if-left-eq0.false c.if-left-eq1.true _ c.ends_of-many.ensures.1 _ c.levels.ensures.0 w.if-many-eq0.false _ w.if-own-goal.true
]

pub returns-then-left-eq1 : goal.returns-then-left-eq1
returns-then-left-eq1 t c = last_met _ _ _ _ _ c.if-left-eq0.false c.if-left-eq1.true _ c.ends_of-many.ensures.1 _ c.levels.ensures.0 c.if-many-eq0.false _ (c.requires.5 ∙ c.if-left-eq1.true) c.if-own-goal.false

pub loop-i-init : goal.loop-i-init
loop-i-init t c = going_start c.requires.0 (omega (arith, c.if-left-eq0.false)) c.requires.4 _ _ c.ends_of-many.auto.ends c.ends_of-many.ensures

pub low_at-low-requires : goal.low_at-low-requires
low_at-low-requires t c = let g = c.loop-i.invariant in (omega (arith, g.coming.here, c.loop-i-test.true), going_above g c.if-left-eq0.false c.loop-i-test.true)

pub of_chain-below-requires : goal.of_chain-below-requires
of_chain-below-requires t c =
    let l = c.loop-i in
    let g = l.invariant in
    let p = c.requires in
    let scratch = coming_under g.coming c.loop-i-test.true _ c.narrow-m.auto.sets c.narrow-m.ensures p.0 (omega (arith, c.if-left-eq0.false)) l.auto.sets (l.auto.ends ∙ c.ends_of-many.auto.ends) in
    (omega (arith, c.if-left-eq0.false), (scratch, omega (arith, c.narrow-m.ensures.0, p.1), omega (arith, c.if-left-eq0.false, p.2), omega (arith, c.if-left-eq0.false, p.3, c.levels.ensures.1), going_asks g c.if-left-eq0.false c.unwrap_or.ensures p.4, omega (arith, l.auto.out, p.5, c.if-left-eq0.false)))

pub loop-i-preserved-in-Some : goal.loop-i-preserved-in-Some
loop-i-preserved-in-Some t c =
    let b = c.of_chain-below in
    going_better c.loop-i.invariant c.if-left-eq0.false c.loop-i-test.true _ c.narrow-m.auto.sets c.narrow-m.ensures _ _ _ c.unwrap_or.ensures c.low_at-low.ensures b.auto.sets b.auto.ends c.in-Some.ensures (omega (arith, c.loop-i.auto.out, c.requires.5, c.if-left-eq0.false))

pub loop-i-preserved : goal.loop-i-preserved
loop-i-preserved t c =
    let b = c.of_chain-below in
    let z : b.result ≡ None = search rules in
    let m = rw z at b.ensures in
    going_worse c.loop-i.invariant c.if-left-eq0.false c.loop-i-test.true _ c.narrow-m.auto.sets c.narrow-m.ensures _ _ _ c.unwrap_or.ensures c.low_at-low.ensures b.auto.sets b.auto.ends m

pub returns : goal.returns
returns t c = going_end c.loop-i.invariant c.if-left-eq0.false c.args.above refl c.levels.ensures.0 c.ends_of-many.ensures.1 c.loop-i-test.false
