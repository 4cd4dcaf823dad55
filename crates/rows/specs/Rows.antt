-- The rules as rows of a list of words, and the tree of the rules at some places of it. A place is the word at which a row begins.
-- Assumes nothing: these are definitions.
use Rattle.std.specs.Prelude.{◌≡◌, List, [], ◌∷◌, ℕ, zero, suc, ◌+◌, ◌-◌, ◌*◌, ◌≤◌, length, get_or}
use Rattle.model.specs.Lists.{keep}
use Rattle.model.specs.Rules.{Field, covers, ends, Tree, tree}

-- the row at place p, from word p on: its number, its action, and then the low and the high end of field 0, those of field 1, ..
abbrev pub number_in : List ℕ → ℕ → ℕ
number_in rules p = get_or rules p 0

abbrev pub action_in : List ℕ → ℕ → ℕ
action_in rules p = get_or rules (p + 1) 0

abbrev pub low_in : List ℕ → ℕ → ℕ → ℕ
low_in rules f p = get_or rules (p + (2 + 2 * f)) 0

abbrev pub high_in : List ℕ → ℕ → ℕ → ℕ
high_in rules f p = get_or rules (p + (3 + 2 * f)) 0

-- field f of a packet's values and of the rules at their places. Its top plays no part in the tree.
unfoldable pub field_at : List ℕ → ℕ → Field (List ℕ) ℕ
field_at rules f = record { top = 0; value = λ v. get_or v f 0; low = λ p. low_in rules f p; high = λ p. high_in rules f p }

-- n fields from f on
abbrev pub fields_at : List ℕ → ℕ → ℕ → List (Field (List ℕ) ℕ)
fields_at rules f zero = []
fields_at rules f (suc n) = field_at rules f ∷ fields_at rules (f + 1) n

abbrev pub first_of : List ℕ → ℕ
first_of ps = get_or ps 0 0

-- the tree of the rules at the places ps, over n fields from f on; a location of the last field names the first place
unfoldable pub tree_at : List ℕ → ℕ → ℕ → List ℕ → Tree ℕ
tree_at rules f n ps = tree first_of (fields_at rules f n) ps

-- what stands under the end e of the first of these fields
unfoldable pub under_at : List ℕ → ℕ → ℕ → List ℕ → ℕ → Tree ℕ
under_at rules f n ps e = tree_at rules (f + 1) (n - 1) (keep (covers (field_at rules f) e) ps)

-- the ranges of the rules at the places ps in field f give the end e alone, and all of these rules cover it
pub record Flat (rules : List ℕ) (f : ℕ) (ps : List ℕ) (e : ℕ) : Type 0 where
  pub one : ends (field_at rules f) ps ≡ e ∷ []
  pub all : keep (covers (field_at rules f) e) ps ≡ ps

-- scratch that is enough for the tree of n rules over d fields: for its sets, a set a field, and for the ends
pub record Scratch (n d : ℕ) (sets ends : List ℕ) : Type 0 where
  pub places : suc d * n ≤ length sets
  pub room : suc d * n ≤ length ends
