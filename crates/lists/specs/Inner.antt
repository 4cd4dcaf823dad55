-- What the functions that write a list of edits into a store say, of which the promise of the call says nothing.
-- Assumes nothing: these are definitions.
use Rattle.std.specs.Prelude.{◌≡◌, true, List, ℕ}
use Rattle.model.specs.Table.{Kind, Table, within}
use Rattle.layout.specs.Inner.{front_text}
use Rattle.series.specs.Edits.{Edit}
use Rattle.series.specs.Inner.{AllTaken}

-- the words are what stands before the two links of a store of c cells that holds the table t, in which each of the edits is accepted
pub record Fronts (k : Kind) (c : ℕ) (t : Table) (es : List Edit) (ws : List ℕ) : Type 0 where
  pub right : within k t ≡ true
  pub text : ws ≡ front_text k c t
  pub taken : AllTaken k c t es

-- they are so for some store
abbrev pub Fronted : Kind → List Edit → List ℕ → Type 0
Fronted k es ws = (c : ℕ) × ((t : Table) × Fronts k c t es ws)
