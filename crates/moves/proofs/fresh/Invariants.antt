-- `moves::fresh` meets its contract. The invariant: what was written is what the rows of the default alone have there.
-- Assumes nothing.
use Prim.Native.Nat.{◌-◌}
use mathlib.Core.Path.{◌≡◌}
use lib.ListN.{take}
use Rattle.model.specs.Lists.{up_to}
use Rattle.table.specs.Rows.{kind_of, fresh_word}
use Rattle.moves.proofs.fresh.Given as goal

abbrev pub invariant-loop-i : goal.invariant-loop-i
invariant-loop-i l = (take l.i l.out ≡ up_to l.i (fresh_word (kind_of l.shape) l.action))
