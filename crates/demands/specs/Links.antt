-- The words of a store by its cells and links, and why a lookup over any words answers 9.
-- Assumes nothing: these are definitions.
use Rattle.std.specs.Prelude.{◌≡◌, ◌⊎◌, ◌≢◌, List, [], ◌∷◌, ℕ, zero, suc, ◌+◌, ◌*◌, ◌≤◌, ◌<◌, get_or}
use Rattle.model.specs.Table.{Kind, row_words, front}
use Rattle.layout.specs.Store.{cells_in}
use Rattle.demands.specs.Calls.{NoRoom}

-- the last two words of the front: the first cell of the free chain, and the cell where a walk begins
abbrev pub free_link : Kind → List ℕ → ℕ
free_link k ws = get_or ws (k.head + row_words k) 0

abbrev pub walk_link : Kind → List ℕ → ℕ
walk_link k ws = get_or ws (k.head + row_words k + 1) 0

-- cell j takes 8 words, from word 1,024 + 8 j on where the front is 1,024 words: its end, the next cell of its chain, and what is below it; "no cell" is c
abbrev pub end_at : Kind → List ℕ → ℕ → ℕ
end_at k ws j = get_or ws (front k + 8 * j) 0

abbrev pub next_at : Kind → List ℕ → ℕ → ℕ
next_at k ws j = get_or ws (front k + 8 * j + 1) 0

abbrev pub down_at : Kind → List ℕ → ℕ → ℕ
down_at k ws j = get_or ws (front k + 8 * j + 2) 0

-- ONE FIELD of a walk, with the value v, from cell j on: n cells, each led to by the one before it, have ends below the value, and the last of them leads to m
abbrev pub EndsBelow : Kind → List ℕ → ℕ → ℕ → ℕ → ℕ → Type 0
EndsBelow k ws v zero j m = m ≡ j
EndsBelow k ws v (suc n) j m = (j < cells_in ws) × (end_at k ws j < v) × EndsBelow k ws v n (next_at k ws j) m

-- it leads down to d: behind fewer than c such cells comes one with an end at or above the value, and d stands below that
pub record LeadsDown (k : Kind) (ws : List ℕ) (v j d : ℕ) : Type 0 where
  pub passed : ℕ
  pub cell : ℕ
  pub few : passed < cells_in ws
  pub before : EndsBelow k ws v passed j cell
  pub inside : cell < cells_in ws
  pub reached : v ≤ end_at k ws cell
  pub leads : d ≡ down_at k ws cell

-- it leads nowhere
pub data LeadsNowhere (k : Kind) (ws : List ℕ) (v j : ℕ) : Type 0 where
  -- "at the first link outside the cells [..], at a chain that runs out", since that ends with the link "no cell"
  outside : (n m : ℕ) → n < cells_in ws → EndsBelow k ws v n j m → cells_in ws ≤ m → LeadsNowhere k ws v j
  -- "after c cells of one field without an end at or above the value"
  spent : (m : ℕ) → EndsBelow k ws v (cells_in ws) j m → LeadsNowhere k ws v j

-- p is a link "outside [..] the table": at word p of the rows begins neither the default's row nor that of a rule, of which there are as many as word 1 says, and at most as many as the kind takes
abbrev pub NoRow : Kind → List ℕ → ℕ → Type 0
NoRow k ws p = (i : ℕ) → i ≤ get_or ws 1 0 → i ≤ k.most → p ≢ k.width * i

-- THE WALK of all fields whose values are left, from cell j on, is lost: in the first of them, or further down, or where no field is left and j is to be a rule's row
pub data Astray (k : Kind) (ws : List ℕ) : List ℕ → ℕ → Type 0 where
  here : {v j : ℕ} {vs : List ℕ} → LeadsNowhere k ws v j → Astray k ws (v ∷ vs) j
  below : {v j d : ℕ} {vs : List ℕ} → LeadsDown k ws v j d → Astray k ws vs d → Astray k ws (v ∷ vs) j
  rowless : {j : ℕ} → NoRow k ws j → Astray k ws [] j

-- 9 "at once where the words name no c within its limits or are too few for it", or where word 2 names no kind; "then" where the walk is lost
abbrev pub Undecided : Kind → List ℕ → List ℕ → Type 0
Undecided k ws vs = NoRoom k (cells_in ws) ws ⊎ (get_or ws 2 0 ≢ k.mark) ⊎ Astray k ws vs (walk_link k ws)
