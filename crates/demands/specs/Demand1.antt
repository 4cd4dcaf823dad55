-- DEMAND 1. "Every call ends and stays inside what it was lent, for all store words, packet bytes, rules and sizes. No call relies on its caller having looked. What it can't take it refuses by a number from the table; a refused edit changes no word of the store, a refused lookup gives rule 0, action 0 and 0 reads."
-- Where the first two sentences are shown: in the proof of each function. `rt check` refuses a function that may not end, or that may read or write outside of what it was lent, and no call of the C face has a `requires`. So what is said here of all words, bytes, rules and numbers is said of every call that a program can make.
-- Calls without a store have their own pages: 10, of a prefix, and 12, of a capture, are shown to be exact in prefix/specs/Facts.antt and capture/specs/Accepts.antt, and 11, of a scan, in Scan.antt. Clearing a tally record and the difference of two readings refuse nothing. What is refused where a rule's life or the worst packet of a table is asked for stands in Dead.antt and Worst.antt, where a table is carried in Carry.antt, and where a list of edits is given, 15 among them, in AllOrNone.antt; of images in Frozen.antt and Deepest.antt. The calls that write captures refuse with 12 and 8: `add_answer` and `begin_answer` of writing/specs/Writing.antt.
-- `Demand1` is what is claimed; proofs/Demand1.antt proves it. Assumes nothing.
use Rattle.std.specs.Prelude.{◌≡◌, ◌⊎◌, ◌≢◌, List, ℕ, ◌*◌, ◌≤◌, ◌<◌, length, drop}
use Rattle.model.specs.Lists.{In}
use Rattle.model.specs.Table.{Kind, Rule, with_rule, cells_of}
use Rattle.model.specs.Ipv4.{large, kind_in}
use Rattle.header.specs.declared.Packet.{Packet}
use Rattle.std.specs.Prelude.{Ok}
use Rattle.header.specs.Header.{total_length, header_of}
use Rattle.header.specs.Facts.{Faulty}
use Rattle.ipv4.specs.declared.Rule.{Rule as Given}
use Rattle.ipv4.specs.Rule.{given}
use Rattle.layout.specs.Store.{size, cells_in, table_of, start_answer, start_words, insert_says, insert_words, delete_says, delete_words, read_says, read_gives, place_says, place_gives, zero_rule, cells_says, cells_gives}
use Rattle.lookup.specs.declared.Found.{Found}
use Rattle.lookup.specs.Walk.{lookup_packet}
use Rattle.tally.specs.declared.Tallies.{Tallies}
use Rattle.tally.specs.Tally.{tally_answer, tallies_left}
use Rattle.demands.specs.Calls.{Passes, rules_in, field_count, low_at, high_at, top_at, FullPorts, PortsOnly, NoRoom, AboveTop, values_in, Bytes, lookup}
use Rattle.demands.specs.Links.{Undecided}
use Rattle.demands.specs.Tally.{NoPlace}

-- THE TABLE OF REFUSALS, "given exactly when", in an order: either P holds and the answer is n, or it does not and what follows says the answer. The last is 0, "done".
pub data Refuses (n : ℕ) (P : Type 0) (others : ℕ → Type 0) (answer : ℕ) : Type 0 where
  refuses : P → answer ≡ n → Refuses n P others answer
  goes_on : (P → ⊥) → others answer → Refuses n P others answer

abbrev pub done : ℕ → Type 0
done answer = answer ≡ 0

-- 2: "a low end above its high end, or a high end above the top"
abbrev pub WrongRange : Kind → Rule → Type 0
WrongRange k r = (i : ℕ) × (i < field_count k) × ((high_at r i < low_at r i) ⊎ (top_at k i < high_at r i))

-- "2 also for a narrow port range with anything but 0 to 0 in field 6"
abbrev pub WrongPorts : Kind → Rule → Type 0
WrongPorts k r = (FullPorts k r → ⊥) × (PortsOnly k r → ⊥)

-- 3, and 4 where it does not hold: "number already there"
abbrev pub There : Kind → ℕ → List ℕ → Type 0
There k n ws = (r : Rule) × In r (rules_in k ws) × (r.number ≡ n)

-- what holds of every start and edit of a store of c cells: it was lent the words before, and leaves the words after
pub record Spares (k : Kind) (c answer : ℕ) (before after : List ℕ) : Type 0 where
  -- "a refused edit changes no word of the store", nor any other
  pub unchanged : answer ≢ 0 → after ≡ before
  -- "Words behind those are never touched"
  pub behind : drop (size k c) after ≡ drop (size k c) before
  -- the slice keeps its length
  pub long : length after ≡ length before

-- "a refused lookup gives rule 0, action 0 and 0 reads"
pub record OnlyAnswer (f : Found) : Type 0 where
  pub rule : f.rule ≡ 0
  pub action : f.action ≡ 0
  pub reads : f.reads ≡ 0

pub record Demand1 : Type 0 where
  -- START a large store of c cells over the words ws, with a default of the action a
  pub start : (ws : List ℕ) (c : ℕ) → Refuses 8 (NoRoom large c ws) done (start_answer large ws c)
  pub start_spares : (ws : List ℕ) (c a : ℕ) → Spares large c (start_answer large ws c) ws (start_words large ws c a)
  -- INSERT the rule r: "Order for insert: 9, 1, 2, 3, 5, 6", and by P9 "5 at the store's own limit". A caller's rule, a struct with two arrays, always has six low and six high ends.
  pub all_ends : (g : Given) → (length (given g).lows ≡ field_count large) × (length (given g).highs ≡ field_count large)
  pub insert : (ws : List ℕ) (r : Rule) → length r.lows ≡ field_count (kind_in ws) → length r.highs ≡ field_count (kind_in ws)
      → Refuses 9 (Passes (kind_in ws) ws → ⊥)
      (Refuses 1 (65534 < r.number)
      (Refuses 2 (WrongRange (kind_in ws) r ⊎ WrongPorts (kind_in ws) r)
      (Refuses 3 (There (kind_in ws) r.number ws)
      (Refuses 5 ((kind_in ws).most ≤ length (rules_in (kind_in ws) ws))
      (Refuses 6 (cells_in ws < cells_of (kind_in ws) (with_rule r (table_of (kind_in ws) ws)))
      done)))))
      (insert_says (kind_in ws) ws r)
  pub insert_spares : (ws : List ℕ) (r : Rule) → Spares (kind_in ws) (cells_in ws) (insert_says (kind_in ws) ws r) ws (insert_words (kind_in ws) ws r)
  -- DELETE the rule of number n: "For delete and read: 9, 1, 4"
  pub delete : (ws : List ℕ) (n : ℕ) → Refuses 9 (Passes (kind_in ws) ws → ⊥) (Refuses 1 (65534 < n) (Refuses 4 (There (kind_in ws) n ws → ⊥) done)) (delete_says (kind_in ws) ws n)
  pub delete_spares : (ws : List ℕ) (n : ℕ) → Spares (kind_in ws) (cells_in ws) (delete_says (kind_in ws) ws n) ws (delete_words (kind_in ws) ws n)
  -- READ the rule of number n: "read gives the default under 65,535 instead of 1". It changes no word, as do the calls below: they are lent the words to read only.
  pub read : (ws : List ℕ) (n : ℕ) → n ≢ 65535 → Refuses 9 (Passes (kind_in ws) ws → ⊥) (Refuses 1 (65534 < n) (Refuses 4 (There (kind_in ws) n ws → ⊥) done)) (read_says (kind_in ws) ws n)
  pub read_default : (ws : List ℕ) → Refuses 9 (Passes (kind_in ws) ws → ⊥) done (read_says (kind_in ws) ws 65535)
  pub read_zeros : (ws : List ℕ) (n : ℕ) → read_says (kind_in ws) ws n ≢ 0 → read_gives (kind_in ws) ws n ≡ zero_rule (kind_in ws)
  -- THE RULE AT PLACE p, counted from 1: 9, then 4 where there are fewer rules
  pub rule_at_lem : (ws : List ℕ) (p : ℕ) → Refuses 9 (Passes (kind_in ws) ws → ⊥) (Refuses 4 ((p ≡ 0) ⊎ (length (rules_in (kind_in ws) ws) < p)) done) (place_says (kind_in ws) ws p)
  pub rule_at_zeros : (ws : List ℕ) (p : ℕ) → place_says (kind_in ws) ws p ≢ 0 → place_gives (kind_in ws) ws p ≡ zero_rule (kind_in ws)
  -- THE CELLS in use. (The check itself answers 0 where `Passes` holds, and else 9: `check_says` of reamstork/specs/Face.antt.)
  pub cells : (ws : List ℕ) → Refuses 9 (Passes (kind_in ws) ws → ⊥) done (cells_says (kind_in ws) ws)
  pub cells_zeros : (ws : List ℕ) → cells_says (kind_in ws) ws ≢ 0 → cells_gives (kind_in ws) ws ≡ 0
  -- LOOKUP BY VALUES: "7 or 11, then 9"; over words that pass it is never 9 (Demand 2)
  pub lookup_answer : (ws : List ℕ) (p : Packet) → Refuses 11 (AboveTop (kind_in ws) (values_in p)) (Refuses 9 (Undecided (kind_in ws) ws (values_in p)) done) (lookup ws p).answer
  pub lookup_zeros : (ws : List ℕ) (p : Packet) → (lookup ws p).answer ≢ 0 → OnlyAnswer (lookup ws p)
  -- LOOKUP BY A PACKET: 7 exactly when one of five of document 01's six conditions holds; then 14, "behind 7 and before 9", exactly when the sixth does, that the slice is shorter than the total length; otherwise the header gives values, and 9 is by these
  pub packet_answer : (ws bytes : List ℕ) → Bytes bytes
      → Refuses 7 (Faulty bytes)
      (Refuses 14 (length bytes < total_length bytes)
      (λ answer. (p : Packet) × (header_of bytes ≡ Ok p) × Refuses 9 (Undecided (kind_in ws) ws (values_in p)) done answer))
      (lookup_packet ws bytes).answer
  pub packet_zeros : (ws bytes : List ℕ) → (lookup_packet ws bytes).answer ≢ 0 → OnlyAnswer (lookup_packet ws bytes)
  -- "after c cells of one field", over any words: no lookup reads more than c cells for each field in all
  pub lookup_reads : (ws : List ℕ) (p : Packet) → (lookup ws p).reads ≤ field_count (kind_in ws) * cells_in ws
  pub packet_reads : (ws bytes : List ℕ) → (lookup_packet ws bytes).reads ≤ field_count (kind_in ws) * cells_in ws
  -- LOOKUP BY A PACKET WITH TALLIES: the refusals of the lookup by a packet, then "13 when a new number finds no place, after all others"
  pub tally_before : (ws bytes : List ℕ) (t : Tallies) → (lookup_packet ws bytes).answer ≢ 0 → tally_answer ws bytes t ≡ lookup_packet ws bytes
  pub tally_13 : (ws bytes : List ℕ) (t : Tallies) → (lookup_packet ws bytes).answer ≡ 0 → Refuses 13 (NoPlace (lookup_packet ws bytes).rule t) done (tally_answer ws bytes t).answer
  pub tally_zeros : (ws bytes : List ℕ) (t : Tallies) → (tally_answer ws bytes t).answer ≢ 0 → OnlyAnswer (tally_answer ws bytes t)
  -- "A refused lookup and a lookup by values add nothing": a lookup by values is lent no record
  pub tally_kept : (ws bytes : List ℕ) (t : Tallies) → (tally_answer ws bytes t).answer ≢ 0 → tallies_left ws bytes t ≡ t
