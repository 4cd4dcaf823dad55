-- `tally::place_of` meets its contract. The loop's invariant: none of the keys passed is the number's, and `free` is the first unused place among them.
-- Assumes nothing.
use Rattle.std.proofs.Common.{sym, arith}
use Rattle.tally.proofs.Places.{held_at, new_at, full_at}
use Rattle.tally.proofs.place_of.Goals as goal

pub returns-then-key-number : goal.returns-then-key-number
returns-then-key-number c =
    let l = c.loop-i in
    sym (held_at c.args.keys.now c.args.number l.i (omega arith) l.invariant.0 c.if-key-number.true c.if-key-gt65535.false)

pub returns-in-Some : goal.returns-in-Some
returns-in-Some c =
    let l = c.loop-i in
    sym (new_at c.args.keys.now c.args.number l.i (omega arith) l.invariant.0 _ _ c.in-Some.is l.invariant.1)

pub returns-in-None : goal.returns-in-None
returns-in-None c =
    let l = c.loop-i in
    sym (full_at c.args.keys.now c.args.number l.i (omega arith) l.invariant.0 _ c.in-None.is l.invariant.1)
