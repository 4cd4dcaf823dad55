-- `image::seek` meets its contract. The invariant: with 8 less the blocks read still to read, the walk from here says what the whole walk of the field says.
-- Assumes nothing.
use mathlib.Core.Path.{◌≡◌}
use Prim.Native.Nat.{◌-◌, ◌<◌}
use Rattle.image.specs.Walk.{seek_blocks}
use Rattle.image.proofs.seek.Given as goal

abbrev pub invariant-loop-reads : goal.invariant-loop-reads
invariant-loop-reads l = (l.k < 4294967296) × (seek_blocks l.blocks l.value 8 l.first 0 ≡ seek_blocks l.blocks l.value (8 - l.reads) l.k l.reads)
