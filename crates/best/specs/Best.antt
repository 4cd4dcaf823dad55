-- How far the walks of a tree go that come to an end of the fields, and what a search for the first of the longest says and writes.
-- Assumes nothing: these are definitions.
use Rattle.std.specs.Prelude.{◌≡◌, cond, List, [], ◌∷◌, ℕ, zero, suc, ◌-◌, ltb, leb}
use Rattle.model.specs.Rules.{Tree, names, stop, loc}
use Rattle.search.specs.Search.{greater}
use Rattle.search.specs.Links.{cut}

-- one more, where there is something
abbrev pub up : ℕ → ℕ
up zero = zero
up (suc n) = suc (suc n)

-- the most locations that a walk looks at which comes to a name, and 1 for the name; 0 where no walk comes to one
unfoldable pub peak : {B : Type 0} → Tree B → ℕ
peak (names b) = 1
peak stop = 0
peak (loc e u t) = up (greater (peak u) (peak t))

-- the first record whose walk does, where l is the least value of the chain's first location
unfoldable pub summit : {B : Type 0} → ℕ → Tree B → List ℕ
summit l (names b) = []
summit l stop = []
summit l (loc e u t) = cond (leb (peak t) (peak u)) (l ∷ summit 0 u) (summit (suc e) t)

-- what a search of the tree says and leaves against a goal: one more than the peak, where that is no less than the goal, and the first record that comes so far; else the goal, and what was there before
pub record Climbed (t : Tree ℕ) (goal r : ℕ) (before after : List ℕ) : Type 0 where
  pub next : r ≡ cond (leb goal (peak t)) (suc (peak t)) goal
  pub written : after ≡ cond (leb goal (peak t)) (cut (summit 0 t)) before

-- what is asked of what is below location n: the goal without the n locations, and no less than 1
abbrev pub ask_of : ℕ → ℕ → ℕ
ask_of goal n = cond (ltb n goal) (goal - n) 1
