-- What the search over the rules says and leaves.
-- Assumes nothing: these are definitions.
use Rattle.std.specs.Prelude.{◌≡◌, cond, List, Option, Some, None, ℕ, zero, suc, ◌-◌, ◌<◌, leb, get_or}
use Rattle.model.specs.Rules.{Tree}
use Rattle.deepest.specs.Deepest.{greatest, first_greatest}

-- the least value of location i of a chain of these ends: one above the end before it
abbrev pub low_at : List ℕ → ℕ → ℕ
low_at es zero = 0
low_at es (suc i) = suc (get_or es i 0)

-- end i is above the one before it, where there is one
abbrev pub Above : List ℕ → ℕ → Type 0
Above es i = 0 < i → get_or es (i - 1) 0 < get_or es i 0

-- What is said of a tree of numbers against a goal: the greatest, where that is no less than the goal, and the first record that comes to it; else nothing, and what was there before
pub record Met (t : Tree ℕ) (l goal : ℕ) (r : Option ℕ) (before after : List ℕ) : Type 0 where
  pub says : r ≡ cond (leb goal (greatest t)) (Some (greatest t)) None
  pub written : after ≡ cond (leb goal (greatest t)) (first_greatest l t) before
