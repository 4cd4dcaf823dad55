-- `verify::chain_is` and `verify::run_is` meet their contracts. They call each other, and the number of fields left falls: the measures are twice that number, and one more for a chain. The loop's invariant is `Looking`: the ends stand, the links of the first `i` of them, and what is below these, which ends before block `b`.
-- Assumes nothing.
use mathlib.Core.Path.{refl, ap}
use mathlib.Core.Bool.{not}
use native.Mathlib.Omega.{arith}
use Prim.Native.Nat.{ℕ}
use lib.ListN.{length}
use borrow.Rule.Slice.PartMut.{mid_len}
use Rattle.rows.proofs.Room.{set_fits, scratch_under}
use Rattle.levels.proofs.Chain.{looks_start, looks_done, looks_not, stands_none}
use Rattle.verify.proofs.Turns.{flat_no, flat_not, flat_no_link, flat_same, Turn, turn_not, turn_no, turn_on}
use Rattle.verify.proofs.+chain_is_run_is.Goals.{run_is-After-narrow-k}
use Rattle.verify.proofs.+chain_is_run_is.Goals as goal

-- CHAIN. No field is left:
pub chain_is-returns-then-left-eq0 : goal.chain_is-returns-then-left-eq0
chain_is-returns-then-left-eq0 t c = stands_none _ _ _ _ _ _ c.if-left-eq0.true c.requires.0 c.first_place-first.ensures

-- the one block differs
pub chain_is-returns-then-not-one_is : goal.chain_is-returns-then-not-one_is
chain_is-returns-then-not-one_is t c = flat_no c.args.words.now c.args.a c.if-left-eq0.false (c.flat.ensures c.if-flat.true) c.requires.1 c.one_is.result c.one_is.ensures (ap not c.if-not-one_is.true) c.requires.0

-- it stands, and what is below it differs
pub chain_is-returns-in_err-below : goal.chain_is-returns-in_err-below
chain_is-returns-in_err-below t c =
    rw c.from_residual.ensures
    (flat_not c.args.words.now c.args.a c.if-left-eq0.false (c.flat.ensures c.if-flat.true) c.requires.1 c.one_is.result c.one_is.ensures (ap not c.if-not-one_is.false) (rw c.in_err-below.was at c.chain_is.ensures))

-- only its link differs
pub chain_is-returns-then-not-down_is : goal.chain_is-returns-then-not-down_is
chain_is-returns-then-not-down_is t c = flat_no_link c.args.words.now c.args.a c.if-left-eq0.false (c.flat.ensures c.if-flat.true) c.requires.1 c.one_is.result c.one_is.ensures (ap not c.if-not-one_is.false) (rw c.in_ok-below.was at c.chain_is.ensures) c.down_is.ensures (ap not c.if-not-down_is.true)

pub chain_is-returns-then-flat : goal.chain_is-returns-then-flat
chain_is-returns-then-flat t c = flat_same c.args.words.now c.args.a c.if-left-eq0.false (c.flat.ensures c.if-flat.true) c.requires.1 c.one_is.result c.one_is.ensures (ap not c.if-not-one_is.false) (rw c.in_ok-below.was at c.chain_is.ensures) c.down_is.ensures (ap not c.if-not-down_is.false)

-- RUN. Its ends stand:
pub run_is-loop-i-init : goal.run_is-loop-i-init
run_is-loop-i-init t c =
    let h = c.in_ok-chain in
    let low = rw h.was at c.low_is.ensures in
    record {
      looks = rw (c.past-b.ensures, h.chain.size) (looks_start low.1 (λ z. omega (arith, c.requires.0)) c.requires.2);
      set_kept = refl;
      sets_long = refl;
      ends_long = refl;
    }

-- what is below an end has its scratch behind the set
pub run_is-chain_is-requires : goal.run_is-chain_is-requires
run_is-chain_is-requires t c =
    let s = c.requires.3 in
    let o = c.loop-i.invariant in
    let sets = c.narrow-k.new.sets in (
      omega (arith, c.decreases),
      (
        o.looks.fits,
        c.requires.2,
        scratch_under s c.requires.0 0 c.narrow-k.ensures.0 (omega (arith, c.narrow-k.ensures.0)) (omega (arith, set_fits s, o.sets_long, c.narrow-k.auto.sets, mid_len c.args.n (length sets) sets (omega arith))) (omega (arith, o.ends_long, c.low_is.auto.ends)),
        omega arith,
      ),
    )

-- a turn, and its three ends
turn_at : (t : ℕ) (c : run_is-After-narrow-k t) → Turn c.args.words.now c.args.rows.now c.args.sets.now c.loop-i.sets c.narrow-k.new.sets c.low_is.new.ends c.loop-i.ends c.args.n c.narrow-k.result c.args.field c.args.left c.args.a c.in_ok-chain.chain.ends c.in_ok-chain.chain.lowest.first c.loop-i.i c.loop-i.b
turn_at t c =
    let e = c.narrow-k.ensures in
    record {
      so_far = c.loop-i.invariant;
      e = _;
      is_end = c.end_at-e.ensures;
      narrows = record { few = e.0; kept = e.1; next = e.2 };
      long = c.narrow-k.auto.sets;
      fits = omega arith;
      inside = c.loop-i-test.true;
    }

pub run_is-returns-in_err-below : goal.run_is-returns-in_err-below
run_is-returns-in_err-below t c =
    let o = turn_at t (goal.at.run_is-returns-in_err-below t c).After-narrow-k in
    rw c.from_residual-in_err-below.ensures (turn_not o (rw c.in_err-below.was at c.chain_is.ensures))

pub run_is-returns-then-not-down_is : goal.run_is-returns-then-not-down_is
run_is-returns-then-not-down_is t c =
    let o = turn_at t (goal.at.run_is-returns-then-not-down_is t c).After-narrow-k in
    turn_no o (rw c.in_ok-below.was at c.chain_is.ensures) c.down_is.ensures (ap not c.if-not-down_is.true)

pub run_is-loop-i-preserved : goal.run_is-loop-i-preserved
run_is-loop-i-preserved t c =
    let o = turn_at t (goal.at.run_is-loop-i-preserved t c).After-narrow-k in
    turn_on o (rw c.in_ok-below.was at c.chain_is.ensures) c.down_is.ensures (ap not c.if-not-down_is.false) c.chain_is.new.sets (omega arith) c.chain_is.auto.ends

-- all ends are done
pub run_is-returns-then-not-upper_is : goal.run_is-returns-then-not-upper_is
run_is-returns-then-not-upper_is t c =
    let root = (rw c.in_ok-chain.was at c.low_is.ensures).0 in
    looks_not c.loop-i.invariant.looks c.loop-i-test.false c.upper_is.result (ap not c.if-not-upper_is.true) (rw root at c.upper_is.ensures)

pub run_is-returns : goal.run_is-returns
run_is-returns t c =
    let root = (rw c.in_ok-chain.was at c.low_is.ensures).0 in
    looks_done c.loop-i.invariant.looks c.loop-i-test.false c.upper_is.result (ap not c.if-not-upper_is.false) (rw root at c.upper_is.ensures)
