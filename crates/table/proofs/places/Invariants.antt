-- `table::places` meets its contract. The invariant: where the rows of i rules begin is written.
-- Assumes nothing.
use Prim.Native.Nat.{suc, ◌*◌}
use mathlib.Core.Path.{◌≡◌}
use lib.ListN.{take}
use Rattle.model.specs.Lists.{up_to}
use Rattle.table.proofs.places.Given as goal

abbrev pub invariant-loop-i : goal.invariant-loop-i
invariant-loop-i l = take l.i l.out ≡ up_to l.i (λ j. l.width * suc j)
