-- What is said of a rule that may never win, for any words.
-- Assumes nothing: these are definitions.
use Rattle.std.specs.Prelude.{◌≡◌, ◌≢◌, Bool, true, false, cond, Result, List, map, ℕ, ◌+◌, ◌*◌, eqb}
use Rattle.std.specs.Result.{result_unwrap_or}
use Rattle.model.specs.Table.{Kind, stands}
use Rattle.refusal.specs.declared.Refusal.{Refusal}
use Rattle.refusal.specs.Refusals.{answer_of}
use Rattle.table.specs.Rows.{ahead}
use Rattle.layout.specs.Store.{table_of, passes, read_says}
use Rattle.search.specs.Search.{dead_of, first_won}
use Rattle.live.specs.declared.Life.{Life}

-- an answer, whether the rule is dead, and a record of values
abbrev pub life : ℕ → ℕ → List ℕ → Life
life a d vs = record { answer = a; dead = d; value = vs }

-- what C is told where a search says whether the rule is dead, or why it did not look, and lent words then hold a record
abbrev pub fate : Result Bool Refusal → List ℕ → Life
fate r vs = life (answer_of r) (cond (result_unwrap_or r false) 1 0) vs

-- "Refusals: 9, 1, 4 as in reading, with the default under 65,535". Else 1 where the rule is dead; or 0 and the least record that makes it the winner. In place of a record that is not there stands `none`.
unfoldable pub life_of : Kind → List ℕ → ℕ → List ℕ → Life
life_of k ws n none =
    cond (eqb (read_says k ws n) 0)
    (cond (dead_of k (table_of k ws) n) (life 0 1 none) (life 0 0 (first_won k (table_of k ws) n)))
    (life (read_says k ws n) 0 none)

-- THE CALL: zeros in place of a record that is not there
abbrev pub dead_says : Kind → List ℕ → ℕ → Life
dead_says k ws n = life_of k ws n (map (λ t. 0) k.tops)

-- the store passes, and a rule of the number stands in it, or the number is the default's
pub record Standing (k : Kind) (ws : List ℕ) (n : ℕ) : Type 0 where
  pub pass : passes k ws ≡ true
  pub there : (n ≢ 65535) → stands n (table_of k ws).rules ≡ true

-- the row of a number that stands: 0 for the default's, and then by rising number
abbrev pub row_of : Kind → List ℕ → ℕ → ℕ
row_of k ws n = cond (eqb n 65535) 0 (ahead n (table_of k ws).rules + 1)

-- the word of the rows at which it begins
unfoldable pub place_of : Kind → List ℕ → ℕ → ℕ
place_of k ws n = k.width * row_of k ws n
