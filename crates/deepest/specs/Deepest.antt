-- The blocks that the walks of a tree read: the most, and the first record of values whose walk reads so many. Over a table they are those of its image.
-- Assumes nothing: these are definitions.
use Rattle.std.specs.Prelude.{List, ℕ, ◌+◌}
use Rattle.model.specs.Rules.{Tree, names, stop, loc, tree}
use Rattle.model.specs.Table.{Kind, Table, fields, every_rule}
use Rattle.search.specs.Search.{most, first}
use Rattle.blocks.specs.Blocks.{height}

-- the tree with a number in the place of each name: the blocks that the walk to it reads, n of them in this chain and in those before it
unfoldable pub weigh : ℕ → Tree ℕ → Tree ℕ
weigh n (names b) = names n
weigh n stop = stop
weigh n (loc e u t) = loc e (weigh (n + height u) u) (weigh n t)

-- the same, with n in the chains before it
abbrev pub weighed : ℕ → Tree ℕ → Tree ℕ
weighed n t = weigh (n + height t) t

-- OF A TREE OF NUMBERS the greatest that a walk comes to, and the first record whose walk does, where l is the least value of the chain's first location
abbrev pub itself : ℕ → ℕ
itself n = n

abbrev pub greatest : Tree ℕ → ℕ
greatest t = most 0 itself t

abbrev pub first_greatest : ℕ → Tree ℕ → List ℕ
first_greatest l t = first 0 itself l t

-- OVER A TABLE: the tree of its rules. Blocks do not depend on what is named, so nothing is.
abbrev pub bare : Kind → Table → Tree ℕ
bare k t = tree (λ rs. 0) (fields k) (every_rule k t)

-- the most blocks that a walk reads, and the first record whose walk does
abbrev pub most_blocks : Kind → Table → ℕ
most_blocks k t = greatest (weighed 0 (bare k t))

abbrev pub first_deepest : Kind → Table → List ℕ
first_deepest k t = first_greatest 0 (weighed 0 (bare k t))
