-- What the call for the worst reads says, in plain facts of the rules of a store: no tree and no search stands in them. proofs/Facts.antt proves it.
-- Assumes nothing.
use Rattle.std.specs.Prelude.{◌≡◌, true, List, map, ℕ, ◌≤◌, ◌<◌}
use Rattle.model.specs.Table.{Kind, Shaped, reads_of}
use Rattle.layout.specs.Store.{table_of, passes}
use Rattle.search.specs.Search.{Less}
use Rattle.search.specs.Facts.{InTops}
use Rattle.worst.specs.Worst.{worst_says}

-- a store that passes: the record is within the tops and takes the reads, no record within the tops takes more, and every lesser one, "compared field by field from field 1", takes fewer
pub record Told (k : Kind) (ws : List ℕ) : Type 0 where
  pub answer : (worst_says k ws).answer ≡ 0
  pub within : InTops k (worst_says k ws).value
  pub takes : reads_of k (table_of k ws) (worst_says k ws).value ≡ (worst_says k ws).reads
  pub no_more : (vs : List ℕ) → InTops k vs → reads_of k (table_of k ws) vs ≤ (worst_says k ws).reads
  pub fewer : (vs : List ℕ) → InTops k vs → Less vs (worst_says k ws).value → reads_of k (table_of k ws) vs < (worst_says k ws).reads

-- a store that fails: 9, and zeros
pub record Refused (k : Kind) (ws : List ℕ) : Type 0 where
  pub answer : (worst_says k ws).answer ≡ 9
  pub reads : (worst_says k ws).reads ≡ 0
  pub value : (worst_says k ws).value ≡ map (λ t. 0) k.tops

pub record Worsts : Type 0 where
  pub told : (k : Kind) → Shaped k → (ws : List ℕ) → passes k ws ≡ true → Told k ws
  pub refused : (k : Kind) (ws : List ℕ) → (passes k ws ≡ true → ⊥) → Refused k ws
