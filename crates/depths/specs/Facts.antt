-- What the call for the most blocks says, in plain facts of the rules that an image holds: no tree, no search and no block stands in them. proofs/Facts.antt proves it.
-- Assumes nothing.
use Rattle.std.specs.Prelude.{◌≡◌, true, List, map, ℕ, ◌≤◌, ◌<◌}
use Rattle.model.specs.Lists.{sum}
use Rattle.model.specs.Table.{Kind, Table, Shaped, fields, every_rule, within}
use Rattle.layout.specs.Store.{table_of}
use Rattle.search.specs.Search.{Less}
use Rattle.search.specs.Facts.{InTops}
use Rattle.blocks.specs.Sums.{blocks_each}
use Rattle.deepest.specs.Deepest.{most_blocks, first_deepest}
use Rattle.frozen.specs.Frozen.{image_passes}
use Rattle.depths.specs.Depths.{image_worst}

-- "It reports blocks read: for each field the least L of at least 1 with 8^L not below m": the blocks for a record of values, by the rules of a table
abbrev pub blocks_of : Kind → Table → List ℕ → ℕ
blocks_of k t vs = sum (blocks_each (fields k) vs (every_rule k t))

-- of a table: the record is within the tops and reads the blocks, no record within the tops reads more, and every lesser one, "compared field by field from field 1", reads fewer
pub record Deepest (k : Kind) (t : Table) : Type 0 where
  pub within : InTops k (first_deepest k t)
  pub takes : blocks_of k t (first_deepest k t) ≡ most_blocks k t
  pub no_more : (vs : List ℕ) → InTops k vs → blocks_of k t vs ≤ most_blocks k t
  pub fewer : (vs : List ℕ) → InTops k vs → Less vs (first_deepest k t) → blocks_of k t vs < most_blocks k t

-- the same of the words of an image
pub record Told (k : Kind) (ws : List ℕ) : Type 0 where
  pub answer : (image_worst k ws).answer ≡ 0
  pub within : InTops k (image_worst k ws).value
  pub takes : blocks_of k (table_of k ws) (image_worst k ws).value ≡ (image_worst k ws).reads
  pub no_more : (vs : List ℕ) → InTops k vs → blocks_of k (table_of k ws) vs ≤ (image_worst k ws).reads
  pub fewer : (vs : List ℕ) → InTops k vs → Less vs (image_worst k ws).value → blocks_of k (table_of k ws) vs < (image_worst k ws).reads

-- words that fail the image check: 9, and zeros
pub record Refused (k : Kind) (ws : List ℕ) : Type 0 where
  pub answer : (image_worst k ws).answer ≡ 9
  pub reads : (image_worst k ws).reads ≡ 0
  pub value : (image_worst k ws).value ≡ map (λ t. 0) k.tops

pub record Depths : Type 0 where
  pub deepest : (k : Kind) → Shaped k → (t : Table) → within k t ≡ true → Deepest k t
  pub told : (k : Kind) → Shaped k → (ws : List ℕ) → image_passes k ws ≡ true → Told k ws
  pub refused : (k : Kind) (ws : List ℕ) → (image_passes k ws ≡ true → ⊥) → Refused k ws
