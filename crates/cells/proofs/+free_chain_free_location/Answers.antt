-- `cells::free_chain` and `cells::free_location` leave a chain, and what is below a location, as free cells. They call each other, and the number of fields left falls: the measures are twice that number, and one more for a chain. The loop's invariant is `Going`; its measure is the steps that are left of the walk up the chain.
-- Assumes nothing.
use mathlib.Core.Path.{refl}
use native.Mathlib.Omega.{arith}
use Rattle.cells.proofs.Free.{opens, open_lt, open_held, freed, freed_room, freed_less, going, rans, ran_all, free_none}
use Rattle.cells.proofs.+free_chain_free_location.Goals as goal

pub free_chain-loop-k-init : goal.free_chain-loop-k-init
free_chain-loop-k-init t c = λ x a n q t' e p h. rw e at (going p h c.requires.0)

pub free_chain-free_location-requires : goal.free_chain-free_location-requires
free_chain-free_location-requires t c =
    let r = c.requires.1 in
    let o = opens (c.loop-k.invariant _ r.a r.n r.q r.t refl r.deep r.held) c.requires.0 c.loop-k-test.true in
    (omega (arith, c.decreases), record { left = o.left; inside = open_lt o; held = record { a = _; n = _; q = _; t = _; deep = o.deep_u; held = open_held o } })

pub free_chain-word_of-k-requires : goal.free_chain-word_of-k-requires
free_chain-word_of-k-requires t c =
    let r = c.requires.1 in
    let o = opens (c.loop-k.invariant _ r.a r.n r.q r.t refl r.deep r.held) c.requires.0 c.loop-k-test.true in
    omega (arith, freed_room o _ (c.free_location.ensures _ _ _ _ o.deep_u (open_held o)))

pub free_chain-loop-k-smaller : goal.free_chain-loop-k-smaller
free_chain-loop-k-smaller t c =
    let r = c.requires.1 in
    let o = opens (c.loop-k.invariant _ r.a r.n r.q r.t refl r.deep r.held) c.requires.0 c.loop-k-test.true in
    rw c.word_of-k.ensures (freed_less o _ (c.free_location.ensures _ _ _ _ o.deep_u (open_held o)))

pub free_chain-loop-k-preserved : goal.free_chain-loop-k-preserved
free_chain-loop-k-preserved t c =
    λ x a n q t' e p h.
    let o = opens (c.loop-k.invariant x a n q t' e p h) c.requires.0 c.loop-k-test.true in
    rw c.word_of-k.ensures (freed o _ (c.free_location.ensures _ _ _ _ o.deep_u (open_held o)))

pub free_chain-give_run-requires : goal.free_chain-give_run-requires
free_chain-give_run-requires t c =
    let r = c.requires.1 in
    record { a = _; n = _; q = _; s = _; rows = (rans (c.loop-k.invariant _ r.a r.n r.q r.t refl r.deep r.held) c.requires.0 c.loop-k-test.false).rows }

pub free_chain-returns : goal.free_chain-returns
free_chain-returns t c =
    λ a n q t' p h.
    let o = rans (c.loop-k.invariant _ a n q t' refl p h) c.requires.0 c.loop-k-test.false in
    ran_all t' n o (c.give_run.ensures _ _ _ _ o.rows)

-- the last field
pub free_location-returns-then-fields-eq1 : goal.free_location-returns-then-fields-eq1
free_location-returns-then-fields-eq1 t c = λ a n q u p h. free_none p h (omega (arith, c.if-fields-eq1.true))

pub free_location-below_of-below-requires : goal.free_location-below_of-below-requires
free_location-below_of-below-requires t c = let l = c.requires in omega (arith, l.inside, l.held.held.state.tot)

pub free_location-overflow_sub-fields : goal.free_location-overflow_sub-fields
free_location-overflow_sub-fields t c = omega (arith, c.requires.left)

pub free_location-free_chain-requires : goal.free_location-free_chain-requires
free_location-free_chain-requires t c = (omega (arith, c.decreases, c.requires.left), (omega (arith, c.requires.left, c.if-fields-eq1.false), rw c.below_of-below.ensures c.requires.held))

pub free_location-returns : goal.free_location-returns
free_location-returns t c = λ a n q u p h. c.free_chain.ensures a n q u p (rw c.below_of-below.ensures h)
