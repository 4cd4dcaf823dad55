-- `script::numbers` ends: each turn takes a byte or a number off what is left of the line; and sixteen numbers at most are read.
-- Assumes nothing.
use Rattle.std.proofs.Common.{◌≤◌, length}
use Rattle.script.proofs.numbers.Given as goal

abbrev pub decreases-loop-rest : goal.decreases-loop-rest
decreases-loop-rest l = length l.rest

abbrev pub invariant-loop-rest : goal.invariant-loop-rest
invariant-loop-rest l = (l.count ≤ 16) × (length l.rest ≤ length l.initial.rest)
