-- `script::hex` is safe: each pair of digits gives one byte at most, so that the pairs read lie within the line.
-- Assumes nothing.
use Rattle.std.proofs.Common.{◌≤◌}
use Rattle.script.proofs.hex.Given as goal

abbrev pub invariant-loop-high : goal.invariant-loop-high
invariant-loop-high l = (l.count ≤ l.high-index) × (l.count ≤ 128)
