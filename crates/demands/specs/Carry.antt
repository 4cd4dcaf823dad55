-- CARRYING, request P9, in plain facts. "A call carries a table of either limit into a lent new store, started with a c of its own, after which every packet gets the same answer and reads." It is lent the old store to read only.
-- `Carry` is what is claimed; proofs/Carry.antt proves it. Assumes nothing.
use Rattle.std.specs.Prelude.{◌≡◌, Bool, true, List, ℕ, ◌<◌, take}
use Rattle.model.specs.Table.{cells_of}
use Rattle.model.specs.Ipv4.{ipv4, large, kind_in}
use Rattle.header.specs.declared.Packet.{Packet}
use Rattle.layout.specs.Store.{size, cells_in, table_of, start_answer, start_words, carry_says, carry_words}
use Rattle.image.specs.Image.{image_packet}
use Rattle.demands.specs.Calls.{Passes, rules_in, default_in, NoRoom}
use Rattle.demands.specs.Demand1.{Refuses, done, Spares}
use Rattle.demands.specs.Demand3.{Change, changed, History, words_left, SameRules, Twins}
use Rattle.demands.specs.Frozen.{image_of, lookup_over}

-- what the call answers where the table of the store old is to be carried into the words ws, as a store of c cells, and what it leaves in them
abbrev pub answer_to : List ℕ → List ℕ → ℕ → ℕ
answer_to old ws c = carry_says (kind_in old) large old ws c

abbrev pub carried_to : List ℕ → List ℕ → ℕ → List ℕ
carried_to old ws c = carry_words (kind_in old) large old ws c

-- an accepted carrying of the store old left the words after: a large store of c cells
pub record Carried (old : List ℕ) (c : ℕ) (after : List ℕ) : Type 0 where
  pub kind : kind_in after ≡ large
  pub passes : Passes (kind_in after) after
  pub cells : cells_in after ≡ c
  -- with the same rules by rising number, and the same default
  pub rules : rules_in (kind_in after) after ≡ rules_in (kind_in old) old
  pub default : default_in (kind_in after) after ≡ default_in (kind_in old) old
  -- "after which every packet gets the same answer and reads", the same tallies, and as many cells are in use
  pub twins : Twins old after
  -- and lookups over its image are those over the old one's
  pub over : (p : Packet) → lookup_over (image_of old) p ≡ lookup_over (image_of after) p
  pub over_packet : (bytes : List ℕ) → image_packet (image_of old) bytes ≡ image_packet (image_of after) bytes

-- HOW A STORE CAME TO BE: it was started, large or, before P9, small; edited, singly or by a list, accepted or refused; and carried
pub data Past : List ℕ → Type 0 where
  started : (b : Bool) (lent : List ℕ) (c a : ℕ) → start_answer (ipv4 b) lent c ≡ 0 → Past (start_words (ipv4 b) lent c a)
  edited : {old : List ℕ} → Past old → (e : Change) → Past (changed old e)
  carried : {old : List ℕ} → Past old → (lent : List ℕ) (c : ℕ) → answer_to old lent c ≡ 0 → Past (carried_to old lent c)

pub record Carry : Type 0 where
  -- "the carrying call gives 9 for the old store, 8 as for a start, then 6": the tree of its table has more than c locations
  pub answer : (old ws : List ℕ) (c : ℕ) → Refuses 9 (Passes (kind_in old) old → ⊥) (Refuses 8 (NoRoom large c ws) (Refuses 6 (c < cells_of large (table_of (kind_in old) old)) done)) (answer_to old ws c)
  -- a refusal changes no word, and words behind the new store stay
  pub spares : (old ws : List ℕ) (c : ℕ) → Spares large c (answer_to old ws c) ws (carried_to old ws c)
  pub leaves : (old ws : List ℕ) (c : ℕ) → answer_to old ws c ≡ 0 → Carried old c (carried_to old ws c)
  -- it is the store, word for word, that a start and any edits leave which come to the same rules and the same default in as many cells
  pub same_words : (old ws : List ℕ) (c : ℕ) → answer_to old ws c ≡ 0 → (g : History) → SameRules (words_left g) old → g.large ≡ true → g.cells ≡ c → take (size large c) (words_left g) ≡ take (size large c) (carried_to old ws c)
  -- DEMAND 3, carryings among the edits: every store that came to be so passes, and two with the same rules and the same default are not told apart
  pub past_passes : (ws : List ℕ) → Past ws → Passes (kind_in ws) ws
  pub past_alike : (ws vs : List ℕ) → Past ws → Past vs → SameRules ws vs → Twins ws vs
