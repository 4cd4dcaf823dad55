-- `script::number` is safe: as many bytes are counted as are passed, and the number so far has 32 bits.
-- Assumes nothing.
use Rattle.std.proofs.Common.{◌≡◌, ◌+◌, ◌≤◌}
use Rattle.script.proofs.number.Given as goal

abbrev pub invariant-loop-b : goal.invariant-loop-b
invariant-loop-b l = (l.length ≡ l.b-index) × (l.before + l.part ≤ 4294967295)
