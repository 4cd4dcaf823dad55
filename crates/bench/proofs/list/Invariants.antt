-- No more bytes are used than there are.
-- Assumes nothing.
use Rattle.std.proofs.Common.{◌≤◌}
use Rattle.bench.proofs.list.Given as goal

abbrev pub invariant-loop-listed : goal.invariant-loop-listed
invariant-loop-listed g l = l.used ≤ 4096
