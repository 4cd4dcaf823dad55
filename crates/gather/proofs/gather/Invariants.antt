-- The loop's invariant: the first i edits are laid out.
-- Assumes nothing.
use Rattle.std.proofs.Common.{◌≡◌}
use Rattle.gather.proofs.Laid.{reached}
use Rattle.gather.proofs.gather.Given as goal

abbrev pub invariant-loop-i : goal.invariant-loop-i
invariant-loop-i l = l.list ≡ reached l.edits l.i
