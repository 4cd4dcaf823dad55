-- What is claimed of the searches, over any kind of store and tables within its limits, in plain facts of the rules: no tree stands in them. proofs/Facts.antt proves it.
-- Assumes nothing.
use Rattle.std.specs.Prelude.{◌≡◌, ◌↔◌, true, false, List, ℕ, ◌≤◌, ◌<◌, length, get_or}
use Rattle.model.specs.Lists.{In}
use Rattle.model.specs.Table.{Kind, Rule, Table, every_rule, winner_of, reads_of, within}
use Rattle.search.specs.Search.{Less, dead_of, first_won, most_reads, first_worst}

-- a "record of values within the tops": one value for each field, and none above its top
pub record InTops (k : Kind) (vs : List ℕ) : Type 0 where
  pub each : length vs ≡ length k.tops
  pub low : (i : ℕ) → i < length k.tops → get_or vs i 0 ≤ get_or k.tops i 0

-- Q holds of no record of values within the tops
abbrev pub Never : Kind → (List ℕ → Type 0) → Type 0
Never k Q = (vs : List ℕ) → InTops k vs → Q vs → ⊥

-- v is the least record of values within the tops, "compared field by field from field 1", of which Q holds
pub record Least (k : Kind) (Q : List ℕ → Type 0) (v : List ℕ) : Type 0 where
  pub within : InTops k v
  pub holds : Q v
  pub least : (vs : List ℕ) → InTops k vs → Less vs v → Q vs → ⊥

-- Q says of values within the tops that the rule of number n is the winner for them, in whatever words
abbrev pub Means : Kind → Table → ℕ → (List ℕ → Type 0) → Type 0
Means k t n Q = (vs : List ℕ) → InTops k vs → ((winner_of k t vs).number ≡ n) ↔ Q vs

-- P6: "whether it is dead, which holds exactly when no record of values within the tops makes it the winner. For a live rule show the least such record"
pub record Won (k : Kind) (t : Table) (n : ℕ) (Q : List ℕ → Type 0) : Type 0 where
  pub dead : (dead_of k t n ≡ true) ↔ Never k Q
  pub live : dead_of k t n ≡ false → Least k Q (first_won k t n)

-- worst reads: the record is within the tops and takes them, no record takes more, and every lesser one takes fewer
pub record Worst (k : Kind) (t : Table) : Type 0 where
  pub within : InTops k (first_worst k t)
  pub takes : reads_of k t (first_worst k t) ≡ most_reads k t
  pub no_more : (vs : List ℕ) → InTops k vs → reads_of k t vs ≤ most_reads k t
  pub fewer : (vs : List ℕ) → InTops k vs → Less vs (first_worst k t) → reads_of k t vs < most_reads k t

pub record Searches : Type 1 where
  -- for any number, and any words for its winning
  pub won : (k : Kind) (t : Table) → within k t ≡ true → (n : ℕ) (Q : List ℕ → Type 0) → Means k t n Q → Won k t n Q
  -- of a rule of the table, or the default, its number wins exactly where it is itself the winner
  pub means : (k : Kind) (t : Table) → within k t ≡ true → (r : Rule) → In r (every_rule k t) → Means k t r.number (λ vs. winner_of k t vs ≡ r)
  pub worst : (k : Kind) (t : Table) → within k t ≡ true → Worst k t
