-- What a walk of a tree gathers, the most that any walk gathers, and the first record of values whose walk gathers it. Over a table's tree: whether a rule never wins, and the first record for which it does; the most cells that a lookup reads, and the first record for which it does.
-- Assumes nothing: these are definitions.
use Rattle.std.specs.Prelude.{◌≡◌, ◌⊎◌, Bool, cond, List, [], ◌∷◌, ℕ, suc, ◌+◌, ◌<◌, ltb, leb, eqb}
use Rattle.model.specs.Rules.{Tree, names, stop, loc}
use Rattle.model.specs.Table.{Kind, Rule, Table, tree_of}

-- "compared field by field from field 1": at the first value in which they differ, vs has the lesser
abbrev pub Less : List ℕ → List ℕ → Type 0
Less [] ws = ⊥
Less (v ∷ vs) [] = ⊥
Less (v ∷ vs) (w ∷ ws) = (v < w) ⊎ ((v ≡ w) × Less vs ws)

abbrev pub greater : ℕ → ℕ → ℕ
greater a b = cond (leb b a) a b

-- what a walk of the tree for the values gathers: w at each location that it looks at, and g of what it finds
unfoldable pub score : {B : Type 0} → ℕ → (B → ℕ) → Tree B → List ℕ → ℕ
score w g (names b) vs = g b
score w g stop vs = 0
score w g (loc e u t) [] = 0
score w g (loc e u t) (v ∷ vs) = w + cond (ltb e v) (score w g t (v ∷ vs)) (score w g u vs)

-- the most that a walk gathers
unfoldable pub most : {B : Type 0} → ℕ → (B → ℕ) → Tree B → ℕ
most w g (names b) = g b
most w g stop = 0
most w g (loc e u t) = w + greater (most w g u) (most w g t)

-- The first record that gathers it, where l is the least value of the chain's first location: in each field the least value of the first location under which it is gathered. A location's values begin one above the end before it.
unfoldable pub first : {B : Type 0} → ℕ → (B → ℕ) → ℕ → Tree B → List ℕ
first w g l (names b) = []
first w g l stop = []
first w g l (loc e u t) = cond (leb (most w g t) (most w g u)) (l ∷ first w g 0 u) (first w g (suc e) t)

-- RULES THAT NEVER WIN. 1 for the rule of number n, 0 for others:
abbrev pub wins : ℕ → Rule → ℕ
wins n r = cond (eqb r.number n) 1 0

-- no walk finds the rule of number n
abbrev pub dead_of : Kind → Table → ℕ → Bool
dead_of k t n = eqb (most 0 (wins n) (tree_of k t)) 0

-- the first record whose walk finds it, where there is one
abbrev pub first_won : Kind → Table → ℕ → List ℕ
first_won k t n = first 0 (wins n) 0 (tree_of k t)

-- WORST READS. Nothing is gathered of what is found:
abbrev pub nothing : Rule → ℕ
nothing r = 0

-- the most locations that a walk looks at, and the first record whose walk does
abbrev pub most_reads : Kind → Table → ℕ
most_reads k t = most 1 nothing (tree_of k t)

abbrev pub first_worst : Kind → Table → List ℕ
first_worst k t = first 1 nothing 0 (tree_of k t)
