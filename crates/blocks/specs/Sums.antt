-- The blocks of an image and the blocks that a lookup reads, said of the rules alone.
-- Assumes nothing: these are definitions.
use Rattle.std.specs.Prelude.{List, [], ◌∷◌, map, ℕ, ◌+◌, length}
use Rattle.model.specs.Lists.{keep, sum}
use Rattle.model.specs.Rules.{Field, covers, ends}
use Rattle.blocks.specs.Blocks.{depth, levels, blocks_up}

-- "for each field the least L of at least 1 with 8^L not below m", m the distinct ends of the rules that hold the earlier values
abbrev pub blocks_each : {P A : Type 0} → List (Field P A) → P → List A → List ℕ
blocks_each [] p rs = []
blocks_each (f ∷ fs) p rs = levels (length (ends f rs)) ∷ blocks_each fs p (keep (covers f (f.value p)) rs)

-- the blocks of m ends: ceil(m / 8), "with blocks of 8 links above them, and so on until one is left"
abbrev pub blocks_for : ℕ → ℕ
blocks_for m = blocks_up (depth m) m

-- the blocks of all chains
abbrev pub blocks_sum : {P A : Type 0} → List (Field P A) → List A → ℕ
blocks_sum [] rs = 0
blocks_sum (f ∷ fs) rs = blocks_for (length (ends f rs)) + sum (map (λ e. blocks_sum fs (keep (covers f e) rs)) (ends f rs))
