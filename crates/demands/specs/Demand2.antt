-- DEMAND 2. "In a store that the store check passes, a lookup names the rule with the least number among those whose five ranges all hold the packet's five values, the default rule included. Those values are what RFC 791, RFC 768 and RFC 9293 put in the header, with the port rule of document 01. An accepted insert adds that rule, an accepted delete takes it out, and every other rule stays." By P4 "Demands 2 and 3 now read six fields", and the port rule is also what field 6 says (Portless.antt).
-- `Demand2` is what is claimed; proofs/Demand2.antt proves it. Assumes nothing.
use Rattle.std.specs.Prelude.{◌≡◌, ◌⊎◌, ◌↔◌, ◌≢◌, List, [], ℕ, ◌≤◌, ◌<◌, length}
use Rattle.model.specs.Lists.{In}
use Rattle.model.specs.Table.{Kind, Rule, default_rule}
use Rattle.model.specs.Ipv4.{large, kind_in}
use Rattle.header.specs.declared.Packet.{Packet}
use Rattle.std.specs.Prelude.{Ok}
use Rattle.header.specs.Header.{header_of}
use Rattle.header.specs.Facts.{WithinTops}
use Rattle.ipv4.specs.declared.Rule.{Rule as Given}
use Rattle.ipv4.specs.Rule.{given}
use Rattle.layout.specs.Store.{cells_in, start_answer, start_words, insert_says, insert_words, delete_says, delete_words, read_says, read_gives, place_says, place_gives, cells_gives}
use Rattle.lookup.specs.declared.Found.{Found}
use Rattle.lookup.specs.Walk.{lookup_packet}
use Rattle.tally.specs.declared.Tallies.{Tallies}
use Rattle.tally.specs.Tally.{tally_answer}
use Rattle.demands.specs.Calls.{Passes, rules_in, default_in, every_in, field_count, HoldsAll, values_in, Bytes, lookup}

-- the lookup of the values vs in the words ws names the right rule
pub record Names (k : Kind) (ws vs : List ℕ) (found : Found) : Type 0 where
  pub answer : found.answer ≡ 0
  -- there is a rule, of the store's or the default, whose number and action the answer gives
  pub rule : Rule
  pub one_of : In rule (every_in k ws)
  pub number : found.rule ≡ rule.number
  pub action : found.action ≡ rule.action
  -- its ranges hold the packet's values
  pub holds : HoldsAll k vs rule
  -- and no rule that holds them has a lesser number
  pub least : (s : Rule) → In s (every_in k ws) → HoldsAll k vs s → rule.number ≤ s.number
  -- no other rule of the store has its number
  pub only : (s : Rule) → In s (every_in k ws) → s.number ≡ rule.number → s ≡ rule

-- an accepted edit left the words after: a store that passes, with just the rules that R says, and the default and the number of cells as they were
pub record Edited (k : Kind) (before after : List ℕ) (R : Rule → Type 0) : Type 0 where
  pub passes : Passes k after
  pub rules : (s : Rule) → In s (rules_in k after) ↔ R s
  pub default : default_in k after ≡ default_in k before
  pub cells : cells_in after ≡ cells_in before

-- an accepted start left the words after: a store of c cells that passes, with the default alone
pub record Fresh (k : Kind) (c a : ℕ) (after : List ℕ) : Type 0 where
  pub passes : Passes k after
  pub rules : rules_in k after ≡ []
  pub default : default_in k after ≡ a
  pub cells : cells_in after ≡ c

-- the rules of a store that passes by their places, from 1 on: each is one of them, by rising number, and none is left out
pub record Listed (k : Kind) (ws : List ℕ) : Type 0 where
  pub one_of : (p : ℕ) → place_says k ws p ≡ 0 → In (place_gives k ws p) (rules_in k ws)
  pub rising : (p q : ℕ) → place_says k ws p ≡ 0 → place_says k ws q ≡ 0 → p < q → (place_gives k ws p).number < (place_gives k ws q).number
  pub all : Passes k ws → (r : Rule) → In r (rules_in k ws) → (p : ℕ) × (place_says k ws p ≡ 0) × (place_gives k ws p ≡ r)

-- the arrays of a rule's struct have an end for each field
pub record AllEnds (k : Kind) (g : Given) : Type 0 where
  pub lows : length g.low ≡ field_count k
  pub highs : length g.high ≡ field_count k

pub record Demand2 : Type 0 where
  -- the lookup by values, none above its top
  pub by_values : (ws : List ℕ) → Passes (kind_in ws) ws → (p : Packet) → WithinTops p → Names (kind_in ws) ws (values_in p) (lookup ws p)
  -- the lookup by a packet whose header gives the values p: `header_of` of header/specs/Header.antt says where the RFCs put each. They are never above their tops.
  pub by_packet : (ws : List ℕ) → Passes (kind_in ws) ws → (bytes : List ℕ) → Bytes bytes → (p : Packet) → header_of bytes ≡ Ok p → WithinTops p × Names (kind_in ws) ws (values_in p) (lookup_packet ws bytes)
  -- the lookup with tallies, whatever the record holds: "Demand 2 excepts a lookup refused with 13"
  pub by_tally : (ws : List ℕ) → Passes (kind_in ws) ws → (bytes : List ℕ) → Bytes bytes → (p : Packet) → header_of bytes ≡ Ok p → (t : Tallies) → ((tally_answer ws bytes t).answer ≡ 13) ⊎ Names (kind_in ws) ws (values_in p) (tally_answer ws bytes t)
  -- "The default rule has number 65,535 and full ranges": it is always there
  pub default : (ws : List ℕ) → In (default_rule (kind_in ws) (default_in (kind_in ws) ws)) (every_in (kind_in ws) ws)
  -- "An accepted insert adds that rule, [..] and every other rule stays"
  pub insert : (ws : List ℕ) (r : Rule) → insert_says (kind_in ws) ws r ≡ 0 → Edited (kind_in ws) ws (insert_words (kind_in ws) ws r) (λ s. (s ≡ r) ⊎ In s (rules_in (kind_in ws) ws))
  -- "an accepted delete takes it out, and every other rule stays"
  pub delete : (ws : List ℕ) (n : ℕ) → delete_says (kind_in ws) ws n ≡ 0 → Edited (kind_in ws) ws (delete_words (kind_in ws) ws n) (λ s. In s (rules_in (kind_in ws) ws) × (s.number ≢ n))
  -- either leaves a store of the kind that it was, as a refused one does, which leaves every word
  pub insert_kind : (ws : List ℕ) (r : Rule) → kind_in (insert_words (kind_in ws) ws r) ≡ kind_in ws
  pub delete_kind : (ws : List ℕ) (n : ℕ) → kind_in (delete_words (kind_in ws) ws n) ≡ kind_in ws
  -- what all edits begin with
  pub start : (ws : List ℕ) (c a : ℕ) → start_answer large ws c ≡ 0 → Fresh large c a (start_words large ws c a)
  pub start_kind : (ws : List ℕ) (c a : ℕ) → start_answer large ws c ≡ 0 → kind_in (start_words large ws c a) ≡ large
  -- By P4 "the default alone takes 6 cells", one for each field. "Deleting never needs more cells than before."
  pub start_cells : (ws : List ℕ) (c a : ℕ) → start_answer large ws c ≡ 0 → cells_gives large (start_words large ws c a) ≡ field_count large
  pub delete_cells : (ws : List ℕ) (n : ℕ) → delete_says (kind_in ws) ws n ≡ 0 → cells_gives (kind_in ws) (delete_words (kind_in ws) ws n) ≤ cells_gives (kind_in ws) ws
  -- and a rule that is read is the store's rule of that number
  pub read : (ws : List ℕ) (n : ℕ) → read_says (kind_in ws) ws n ≡ 0 → In (read_gives (kind_in ws) ws n) (every_in (kind_in ws) ws) × ((read_gives (kind_in ws) ws n).number ≡ n)
  -- and place by place all rules are read
  pub rule_at_lem : (ws : List ℕ) → Listed (kind_in ws) ws
  -- A caller gets it as a struct with two arrays of six ends, of which the promise says what rule it is: no second such struct is the same rule
  pub read_one : (g h : Given) → AllEnds large g → AllEnds large h → given g ≡ given h → g ≡ h
