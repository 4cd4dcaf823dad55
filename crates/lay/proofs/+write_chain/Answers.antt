-- `lay::write_chain` meets its contract: the number of fields left falls with each call. The loop's invariant is `Turn`.
-- Assumes nothing.
use mathlib.Core.Path.{◌≡◌, ap, ◌∙◌}
use mathlib.Core.Logic.{inl}
use Prim.Native.Nat.{◌+◌}
use native.Mathlib.Omega.{arith}
use native.Mathlib.Nat.{pos_of_ne-zero}
use lib.ListN.{length}
use Rattle.std.specs.Iterator.Adapters.{enumerate_source, enumerate_count}
use Rattle.blocks.specs.Blocks.{depth, blocks_up}
use Rattle.lay.specs.Chain.{cells_on}
use Rattle.lay.proofs.Turns.{cells_most, written_none, chain_fits, turn_start, turn_cell, turn_in, turn_room, turn_low, turn_named, place_small, turn_on, turn_above, turn_done}
use Rattle.lay.proofs.+write_chain.Goals as goal

pub returns-then-left-eq0 : goal.returns-then-left-eq0
returns-then-left-eq0 t c = written_none _ _ _ _ _ _ c.if-left-eq0.true

pub clear-requires : goal.clear-requires
clear-requires t c =
    let h = c.at-chain in
    omega (arith, chain_fits _ _ _ _ _ _ (pos_of_ne-zero c.if-left-eq0.false) (h.ensures.1 ∙ c.chain_length.ensures.0) c.requires.3, h.result.total, h.ensures.0)

pub past-b-requires : goal.past-b-requires
past-b-requires t c =
    let h = c.at-chain in
    omega (arith, chain_fits _ _ _ _ _ _ (pos_of_ne-zero c.if-left-eq0.false) (h.ensures.1 ∙ c.chain_length.ensures.0) c.requires.3, h.result.total, h.ensures.0)

pub loop-i-init : goal.loop-i-init
loop-i-init t c =
    let h = c.at-chain in
    let m = h.result.ends in
    let e = c.chain_at.ensures in
    let i = c.enumerate-i-items.ensures in
    let r = c.into_iter-i-iterator.result in
    let s = enumerate_source r in
    let all : cells_on s.part.now s.c s.left s.next ≡ cells_on c.args.part.now c.args.c c.args.c c.args.k = rw (c.into_iter-i-iterator.ensures.into_iter_gives, i.source, e.0, e.1, e.2, e.3) in
    let none : enumerate_count r ≡ 0 = rw c.into_iter-i-iterator.ensures.into_iter_gives i.count in (
      (tt, tt, inl (omega (arith, none, ap length all, cells_most c.args.part.now c.args.c c.args.c c.args.k))),
      tt,
      rw (none, all)
          (turn_start _ _ _ _ _ _ (pos_of_ne-zero c.if-left-eq0.false) (h.ensures.1 ∙ c.chain_length.ensures.0) c.requires.3 c.requires.4 h.result.size (h.result.total ∙ ap (λ x. x + blocks_up (depth m) m) h.ensures.0) c.past-b.ensures c.clear.ensures),
    )

pub word_of-end-requires : goal.word_of-end-requires
word_of-end-requires t c = omega (arith, turn_cell _ _ _ _ _ _ c.loop-i.invariant.2 c.in-Some.ensures.steps.0)

pub word_of-down-requires : goal.word_of-down-requires
word_of-down-requires t c = omega (arith, turn_cell _ _ _ _ _ _ c.loop-i.invariant.2 c.in-Some.ensures.steps.0)

pub write_chain-past-requires : goal.write_chain-past-requires
write_chain-past-requires t c =
    let o = c.loop-i.invariant.2 in
    let h = c.in-Some.ensures.steps.0 in
    (omega (arith, o.some, c.decreases), (c.requires.0, c.requires.1, omega (arith, c.requires.2), rw c.word_of-down.ensures (turn_room _ _ _ _ _ _ o h), rw c.word_of-down.ensures (turn_named _ _ _ _ _ _ o h)))

pub down_to-link-requires : goal.down_to-link-requires
down_to-link-requires t c =
    let o = c.loop-i.invariant.2 in
    let h = c.in-Some.ensures.steps.0 in
    (turn_low _ _ _ _ _ _ o h, rw c.word_of-down.ensures (place_small _ _ _ _ (turn_named _ _ _ _ _ _ o h)))

pub put_entry-requires : goal.put_entry-requires
put_entry-requires t c =
    let s = c.in-Some.ensures.steps in
    omega (arith, turn_in _ _ _ _ _ _ c.loop-i.invariant.2 s.0, s.1, c.write_chain-past.auto.words)

pub loop-i-preserved : goal.loop-i-preserved
loop-i-preserved t c =
    let s = c.in-Some.ensures.steps in
    let g = c.in-Some.ensures.goes.on c.loop-i.invariant.1 in
    let d = c.word_of-down.ensures in
    (g.0, g.1, rw s.2 (turn_on _ _ _ _ _ _ c.loop-i.invariant.2 s.0 (rw s.1 at c.put_entry.ensures) c.write_chain-past.auto.words (rw d at c.write_chain-past.ensures) c.word_of-end.ensures (rw d at c.down_to-link.ensures)))

pub put_upper-requires : goal.put_upper-requires
put_upper-requires t c =
    let a = turn_above _ _ _ _ _ _ c.loop-i.invariant.2 in
    (omega (arith, a, c.at-chain.result.size), omega (arith, a, c.at-chain.result.size))

pub returns : goal.returns
returns t c = turn_done _ _ _ _ _ _ c.loop-i.invariant.2 c.in-None.ensures.steps.0.0 c.clear.ensures (rw c.at-chain.ensures.0 at c.put_upper.ensures)
