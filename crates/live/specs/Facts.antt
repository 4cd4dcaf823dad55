-- What the call for rules that never win says, in plain facts of the rules of a store: no tree and no search stands in them. proofs/Facts.antt proves it.
-- Assumes nothing.
use Rattle.std.specs.Prelude.{◌≡◌, ◌⊎◌, ◌↔◌, true, List, map, ℕ}
use Rattle.model.specs.Lists.{In}
use Rattle.model.specs.Table.{Kind, Rule, Shaped, every_rule, winner_of}
use Rattle.layout.specs.Store.{table_of, passes, read_says}
use Rattle.search.specs.Facts.{Never, Least, Means}
use Rattle.live.specs.Live.{dead_says}

-- what is said of the number n, where Q says of some values that its rule is the winner for them
pub record Lives (k : Kind) (ws : List ℕ) (n : ℕ) (Q : List ℕ → Type 0) : Type 0 where
  pub answer : (dead_says k ws n).answer ≡ 0
  pub one_of : ((dead_says k ws n).dead ≡ 0) ⊎ ((dead_says k ws n).dead ≡ 1)
  -- "whether it is dead, which holds exactly when no record of values within the tops makes it the winner"
  pub dead : ((dead_says k ws n).dead ≡ 1) ↔ Never k Q
  pub dead_value : (dead_says k ws n).dead ≡ 1 → (dead_says k ws n).value ≡ map (λ t. 0) k.tops
  -- "For a live rule show the least such record, compared field by field from field 1"
  pub live : ((dead_says k ws n).dead ≡ 0) ↔ Least k Q (dead_says k ws n).value

-- zeros with a refusal
pub record Refused (k : Kind) (ws : List ℕ) (n : ℕ) : Type 0 where
  pub dead : (dead_says k ws n).dead ≡ 0
  pub value : (dead_says k ws n).value ≡ map (λ t. 0) k.tops

pub record Alive : Type 1 where
  -- a number that is read, 65,535 for the default, and any words for its winning
  pub lives : (k : Kind) → Shaped k → (ws : List ℕ) (n : ℕ) → read_says k ws n ≡ 0 → (Q : List ℕ → Type 0) → Means k (table_of k ws) n Q → Lives k ws n Q
  -- a rule of a store that passes, or its default, by its own number: it is itself the winner
  pub of_rule : (k : Kind) → Shaped k → (ws : List ℕ) → passes k ws ≡ true → (r : Rule) → In r (every_rule k (table_of k ws)) → Lives k ws r.number (λ vs. winner_of k (table_of k ws) vs ≡ r)
  -- "Refusals: 9, 1, 4 as in reading, with the default under 65,535": it answers what reading does
  pub answer : (k : Kind) (ws : List ℕ) (n : ℕ) → (dead_says k ws n).answer ≡ read_says k ws n
  pub refused : (k : Kind) (ws : List ℕ) (n : ℕ) → (read_says k ws n ≡ 0 → ⊥) → Refused k ws n
