-- The room for lines.
-- Assumes nothing: these are definitions.
use Rattle.std.specs.Prelude.{cond, ℕ, leb}

-- Lines are written 4,096 bytes at a time at most: of the bytes used, those that stay where a line of at most 105 bytes is to come. None stay once they are written.
abbrev pub staying : ℕ → ℕ
staying used = cond (leb used 3991) used 0
