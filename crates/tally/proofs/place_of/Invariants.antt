-- `tally::place_of` meets its contract. The loop's invariant: none of the keys passed is the number's, and `free` is the first unused place among them.
-- Assumes nothing.
use Rattle.tally.specs.Tally.{keyed}
use Rattle.tally.proofs.Places.{NonePass, Free}
use Rattle.tally.proofs.place_of.Given as goal

abbrev pub invariant-loop-i : goal.invariant-loop-i
invariant-loop-i l = NonePass (keyed l.number) l.keys l.i × Free l.keys l.i l.free
