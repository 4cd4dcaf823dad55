-- DEMAND 3. "Take two fresh stores and any two runs of edits, refused ones among them, that leave the same rules and the same default. Every packet then gets the same answer and the same count of reads from both, and both use the same number of cells. The count is, summed over the fields, one plus the distinct ends, as document 01 has them, below the packet's value, taken over the rules that hold its earlier values." By P4 "Demands 2 and 3 now read six fields".
-- `Demand3` is what is claimed; proofs/Demand3.antt proves it. Assumes nothing.
use Rattle.std.specs.Prelude.{◌≡◌, Bool, ◌⊎◌, ◌↔◌, List, [], ◌∷◌, ℕ, ◌+◌, ◌*◌, ◌≤◌, ◌<◌, length, take}
use Rattle.model.specs.Lists.{In, Same, Rising, sum, up_to}
use Rattle.model.specs.Table.{Kind, Rule}
use Rattle.model.specs.Ipv4.{ipv4, kind_in}
use Rattle.header.specs.declared.Packet.{Packet}
use Rattle.std.specs.Prelude.{Ok}
use Rattle.header.specs.Header.{header_of}
use Rattle.header.specs.Facts.{WithinTops}
use Rattle.series.specs.Edits.{Edit, inserts, deletes, list_words}
use Rattle.layout.specs.Store.{size, cells_in, start_answer, start_words, insert_words, delete_words, cells_says, cells_gives}
use Rattle.lookup.specs.Walk.{lookup_packet}
use Rattle.tally.specs.declared.Tallies.{Tallies}
use Rattle.tally.specs.Tally.{tally_answer, tallies_left}
use Rattle.demands.specs.Calls.{Passes, rules_in, default_in, every_in, field_count, value_at, low_at, high_at, HoldsFirst, values_in, Bytes, lookup}

-- the words that an edit leaves, accepted or refused
abbrev pub words_after : List ℕ → Edit → List ℕ
words_after ws (inserts r) = insert_words (kind_in ws) ws r
words_after ws (deletes n) = delete_words (kind_in ws) ws n

-- A CHANGE is an edit, or by P10 a list of edits; the words that it leaves, accepted or refused; a run of changes. "Demand 3 reads an accepted list as its edits": AllOrNone.antt says that it leaves what these leave.
pub data Change : Type 0 where
  edit : Edit → Change
  list : List Edit → Change

abbrev pub changed : List ℕ → Change → List ℕ
changed ws (edit e) = words_after ws e
changed ws (list es) = list_words (kind_in ws) ws es

abbrev pub run : List ℕ → List Change → List ℕ
run ws [] = ws
run ws (e ∷ es) = run (changed ws e) es

-- "a fresh store" and a run of edits on it
pub record History : Type 0 where
  -- a large store, as a start starts it, or a small one, from before P9
  pub large : Bool
  -- the words that the start was lent, whatever stood in them; the number of cells and the default's action that it was given
  pub lent : List ℕ
  pub cells : ℕ
  pub action : ℕ
  pub accepted : start_answer (ipv4 large) lent cells ≡ 0
  -- the edits, "refused ones among them", and lists of edits
  pub edits : List Change

-- the words that it leaves
abbrev pub words_left : History → List ℕ
words_left h = run (start_words (ipv4 h.large) h.lent h.cells h.action) h.edits

-- "that leave the same rules and the same default": the same set of rules, in whatever order they came
pub record SameRules (ws vs : List ℕ) : Type 0 where
  pub rules : Same (rules_in (kind_in ws) ws) (rules_in (kind_in vs) vs)
  pub default : default_in (kind_in ws) ws ≡ default_in (kind_in vs) vs

-- two stores that no call by values or by a packet tells apart, with as many cells in use
pub record Twins (ws vs : List ℕ) : Type 0 where
  -- the answer, the rule, the action and the count of reads
  pub by_values : (p : Packet) → lookup ws p ≡ lookup vs p
  pub by_packet : (bytes : List ℕ) → lookup_packet ws bytes ≡ lookup_packet vs bytes
  -- "demand 3 lends both lookups equal tallies": they answer the same, and leave the same record
  pub by_tally : (bytes : List ℕ) (t : Tallies) → tally_answer ws bytes t ≡ tally_answer vs bytes t
  pub same_tallies : (bytes : List ℕ) (t : Tallies) → tallies_left ws bytes t ≡ tallies_left vs bytes t
  pub cells_answer : cells_says (kind_in ws) ws ≡ cells_says (kind_in vs) vs
  pub cells : cells_gives (kind_in ws) ws ≡ cells_gives (kind_in vs) vs

-- "The ends of a rule in a field are its high end and, if its low end is above 0, the low end less 1."
abbrev pub EndOf : Rule → ℕ → ℕ → Type 0
EndOf r i e = (e ≡ high_at r i) ⊎ (e + 1 ≡ low_at r i)

-- e is, in field i, one of the "ends [..] below the packet's value, taken over the rules that hold its earlier values"
abbrev pub CountedEnd : List Rule → List ℕ → ℕ → ℕ → Type 0
CountedEnd rules vs i e = (e < value_at vs i) × ((r : Rule) × In r rules × HoldsFirst i vs r × EndOf r i e)

-- the count of reads for the values vs over these rules
pub record Reads (k : Kind) (rules : List Rule) (vs : List ℕ) (reads : ℕ) : Type 0 where
  -- for each field a list of these ends: all of them, nothing else, and each once, since the list rises
  pub ends : ℕ → List ℕ
  pub counted : (i : ℕ) → i < field_count k → (e : ℕ) → In e (ends i) ↔ CountedEnd rules vs i e
  pub distinct : (i : ℕ) → i < field_count k → Rising (ends i)
  -- "summed over the fields, one plus the distinct ends"
  pub summed : reads ≡ sum (up_to (field_count k) (λ i. 1 + length (ends i)))

pub record Demand3 : Type 0 where
  -- "Every packet then gets the same answer and the same count of reads from both, and both use the same number of cells", also where one store is small and the other large
  pub alike : (g h : History) → SameRules (words_left g) (words_left h) → Twins (words_left g) (words_left h)
  -- more than is asked: where the two are of one kind and have one number of cells, they are the same store, word for word
  pub same_words : (g h : History) → SameRules (words_left g) (words_left h) → g.large ≡ h.large → g.cells ≡ h.cells → take (size (ipv4 g.large) g.cells) (words_left g) ≡ take (size (ipv4 h.large) h.cells) (words_left h)
  -- "Every store left by an accepted start or edit passes", so that demand 2 and the count below hold of it; its kind and its number of cells are those of its start
  pub passes : (g : History) → Passes (kind_in (words_left g)) (words_left g) × (kind_in (words_left g) ≡ ipv4 g.large) × (cells_in (words_left g) ≡ g.cells)
  -- "The count is, ..", over the store's rules, "the default's ends included"
  pub count : (ws : List ℕ) → Passes (kind_in ws) ws → (p : Packet) → WithinTops p → Reads (kind_in ws) (every_in (kind_in ws) ws) (values_in p) (lookup ws p).reads
  pub count_packet : (ws : List ℕ) → Passes (kind_in ws) ws → (bytes : List ℕ) → Bytes bytes → (p : Packet) → header_of bytes ≡ Ok p → Reads (kind_in ws) (every_in (kind_in ws) ws) (values_in p) (lookup_packet ws bytes).reads
  -- with tallies, "its sum where neither is refused"
  pub count_tally : (ws : List ℕ) → Passes (kind_in ws) ws → (bytes : List ℕ) → Bytes bytes → (p : Packet) → header_of bytes ≡ Ok p → (t : Tallies) → (tally_answer ws bytes t).answer ≡ 0 → Reads (kind_in ws) (every_in (kind_in ws) ws) (values_in p) (tally_answer ws bytes t).reads
  -- "With n rules besides the default it is at most 2 × n + 1 in each field", and so in all: a bound for the sheet
  pub most_each : (ws : List ℕ) (h : Passes (kind_in ws) ws) (p : Packet) (t : WithinTops p) → (i : ℕ) → i < field_count (kind_in ws) → 1 + length ((count ws h p t).ends i) ≤ 2 * length (rules_in (kind_in ws) ws) + 1
  pub most : (ws : List ℕ) → Passes (kind_in ws) ws → (p : Packet) → WithinTops p → (lookup ws p).reads ≤ field_count (kind_in ws) * (2 * length (rules_in (kind_in ws) ws) + 1)
  -- and a tighter one: a rule that is kept adds at most one end in a field, and one that is dropped at most two, once
  pub tight : (ws : List ℕ) → Passes (kind_in ws) ws → (p : Packet) → WithinTops p → (lookup ws p).reads ≤ (field_count (kind_in ws) + 1) * length (rules_in (kind_in ws) ws) + field_count (kind_in ws)
  -- the same of a lookup by a packet, whatever its bytes
  pub tight_packet : (ws : List ℕ) → Passes (kind_in ws) ws → (bytes : List ℕ) → Bytes bytes → (lookup_packet ws bytes).reads ≤ (field_count (kind_in ws) + 1) * length (rules_in (kind_in ws) ws) + field_count (kind_in ws)
