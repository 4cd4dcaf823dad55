-- `lookup::seek` meets its contract. The invariant: with c less the cells read still to read, the walk from here says what the whole walk of the field says.
-- Assumes nothing.
use Rattle.std.proofs.Common.{◌≡◌, ◌-◌}
use Rattle.lookup.specs.Walk.{seek_of}
use Rattle.lookup.proofs.seek.Given as goal

abbrev pub invariant-loop-reads : goal.invariant-loop-reads
invariant-loop-reads l = seek_of l.part l.c l.value l.c l.first 0 ≡ seek_of l.part l.c l.value (l.c - l.reads) l.k l.reads
