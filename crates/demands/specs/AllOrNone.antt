-- ALL EDITS OR NONE, request P10, in plain facts. "Take a list of up to 32 edits in order. Either all are done as if given singly, or nothing is, exactly when one of them would have been refused there; the answer then names its place and its number." What an edit given singly answers and leaves is said in Demand1.antt and Demand2.antt.
-- "After a refused list the table, cells in use and every lookup are as before, though cells may lie elsewhere": here every word is as before, so no cell lies elsewhere.
-- `AllOrNone` is what is claimed; proofs/AllOrNone.antt proves it. Assumes nothing.
use Rattle.std.specs.Prelude.{◌≡◌, ◌⊎◌, ◌≢◌, List, [], ◌∷◌, map, ℕ, suc, ◌≤◌, ◌<◌, length}
use Rattle.model.specs.Ipv4.{large, kind_in}
use Rattle.layout.specs.Store.{cells_in, insert_says, delete_says}
use Rattle.series.specs.declared.Listed.{Listed}
use Rattle.series.specs.Edits.{Edit, inserts, deletes, listed, list_says, list_words}
use Rattle.gather.specs.declared.Edit.{Edit as Given}
use Rattle.gather.specs.Gather.{rule_of}
use Rattle.demands.specs.Calls.{Passes, field_count}
use Rattle.demands.specs.Demand1.{Spares}
use Rattle.demands.specs.Demand3.{words_after, edit, run}

-- what an edit answers, given singly
abbrev pub answer_of : List ℕ → Edit → ℕ
answer_of ws (inserts r) = insert_says (kind_in ws) ws r
answer_of ws (deletes n) = delete_says (kind_in ws) ws n

-- the words after all edits of a list, each given singly to what those before it left
abbrev pub singly : List ℕ → List Edit → List ℕ
singly ws [] = ws
singly ws (e ∷ es) = singly (words_after ws e) es

-- each of them is accepted there
abbrev pub AllAccepted : List ℕ → List Edit → Type 0
AllAccepted ws [] = Unit {0}
AllAccepted ws (e ∷ es) = (answer_of ws e ≡ 0) × AllAccepted (words_after ws e) es

-- the first that "would have been refused there": "its place", counted from 1, "and its number"
pub data FirstRefused : List ℕ → List Edit → ℕ → ℕ → Type 0 where
  here : {ws : List ℕ} {e : Edit} {es : List Edit} {a : ℕ} → answer_of ws e ≡ a → a ≢ 0 → FirstRefused ws (e ∷ es) 1 a
  later : {ws : List ℕ} {e : Edit} {es : List Edit} {p a : ℕ} → answer_of ws e ≡ 0 → FirstRefused (words_after ws e) es p a → FirstRefused ws (e ∷ es) (suc p) a

-- "an empty or longer list"
abbrev pub WrongLength : List Edit → Type 0
WrongLength es = (length es ≡ 0) ⊎ (32 < length es)

-- WHAT BECOMES OF A LIST: the answer with its place, and the words that are left
pub data Outcome (ws : List ℕ) (es : List Edit) : Listed → List ℕ → Type 0 where
  -- "15 for an empty or longer list, first of all, with place 0"
  bad_list : WrongLength es → Outcome ws es (listed 15 0) ws
  -- "a store that fails the check gives 9 at place 1"
  fails : (WrongLength es → ⊥) → (Passes (kind_in ws) ws → ⊥) → Outcome ws es (listed 9 1) ws
  -- "or nothing is, exactly when one of them would have been refused there"
  refused : (WrongLength es → ⊥) → Passes (kind_in ws) ws → {p a : ℕ} → FirstRefused ws es p a → Outcome ws es (listed a p) ws
  -- "Either all are done as if given singly": 0 and place 0, and word for word what the edits leave one by one
  all_done : (WrongLength es → ⊥) → Passes (kind_in ws) ws → AllAccepted ws es → Outcome ws es (listed 0 0) (singly ws es)

pub record AllOrNone : Type 0 where
  -- for all words and all lists
  pub outcome : (ws : List ℕ) (es : List Edit) → Outcome ws es (list_says (kind_in ws) ws es) (list_words (kind_in ws) ws es)
  -- no two of these cases hold at once: where one edit is the first that is refused, not all are accepted, and it is the only one
  pub not_both : (ws : List ℕ) (es : List Edit) (p a : ℕ) → FirstRefused ws es p a → AllAccepted ws es → ⊥
  pub only_one : (ws : List ℕ) (es : List Edit) (p q a b : ℕ) → FirstRefused ws es p a → FirstRefused ws es q b → (p ≡ q) × (a ≡ b)
  -- the rule of an edit that a C caller lends, a struct with two arrays, always has six low and six high ends, as Demand1.antt asks of an insert
  pub all_ends : (g : Given) → (length (rule_of g).lows ≡ field_count large) × (length (rule_of g).highs ≡ field_count large)
  -- the place of a refused edit is one of the list's
  pub place : (ws : List ℕ) (es : List Edit) (p a : ℕ) → FirstRefused ws es p a → (1 ≤ p) × (p ≤ length es)
  -- a refusal changes no word, and words behind the store stay
  pub spares : (ws : List ℕ) (es : List Edit) → Spares (kind_in ws) (cells_in ws) (list_says (kind_in ws) ws es).answer ws (list_words (kind_in ws) ws es)
  -- "Demand 3 reads an accepted list as its edits"
  pub as_edits : (ws : List ℕ) (es : List Edit) → (list_says (kind_in ws) ws es).answer ≡ 0 → list_words (kind_in ws) ws es ≡ run ws (map edit es)
  -- a store that passes does so after every list, accepted or refused, and keeps its kind and its number of cells
  pub passes : (ws : List ℕ) (es : List Edit) → Passes (kind_in ws) ws → Passes (kind_in (list_words (kind_in ws) ws es)) (list_words (kind_in ws) ws es) × (kind_in (list_words (kind_in ws) ws es) ≡ kind_in ws) × (cells_in (list_words (kind_in ws) ws es) ≡ cells_in ws)
