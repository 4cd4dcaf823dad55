-- RULES THAT NEVER WIN, request P6. "Tables grow for years and nobody dares to delete. For each rule say whether it is dead, which holds exactly when no record of values within the tops makes it the winner. For a live rule show the least such record, compared field by field from field 1. Records that no real header gives, such as ICMP with ports, count too."
-- What the call answers is `dead_says` of live/specs/Live.antt, by a search of the tree; here it is said by the store's rules alone.
-- `Dead` is what is claimed; proofs/Dead.antt proves it. Assumes nothing.
use Rattle.std.specs.Prelude.{◌≡◌, ◌⊎◌, ◌↔◌, ◌≢◌, List, [], ◌∷◌, ℕ, ◌≤◌, ◌<◌}
use Rattle.model.specs.Lists.{In}
use Rattle.model.specs.Table.{Kind, Rule}
use Rattle.model.specs.Ipv4.{kind_in}
use Rattle.header.specs.declared.Packet.{Packet}
use Rattle.header.specs.Facts.{WithinTops}
use Rattle.layout.specs.Store.{delete_says, delete_words}
use Rattle.search.specs.Facts.{Never, Least}
use Rattle.live.specs.Live.{dead_says}
use Rattle.lookup.specs.declared.Found.{Found}
use Rattle.lookup.specs.Walk.{lookup_values, lookup_packet}
use Rattle.demands.specs.Calls.{Passes, every_in, HoldsAll, Bytes, lookup}
use Rattle.demands.specs.Demand1.{Refuses, done, There}

-- the rule r of a store is the winner for the values vs: it holds them, and no rule that holds them has a lesser number
pub record Wins (k : Kind) (ws : List ℕ) (r : Rule) (vs : List ℕ) : Type 0 where
  pub holds : HoldsAll k vs r
  pub least : (s : Rule) → In s (every_in k ws) → HoldsAll k vs s → r.number ≤ s.number

-- a lookup names the rule r
abbrev pub NamesIt : Rule → Found → Type 0
NamesIt r f = (f.answer ≡ 0) × (f.rule ≡ r.number) × (f.action ≡ r.action)

-- no record of values
abbrev pub no_record : List ℕ
no_record = 0 ∷ 0 ∷ 0 ∷ 0 ∷ 0 ∷ 0 ∷ []

-- what is said of the rule r of a store. A record of values within the tops (`InTops`) has six values, none above its top; `Never` says that none of them makes r the winner, and `Least` that this one does and none that is lesser, compared field by field from field 1
pub record Said (ws : List ℕ) (r : Rule) : Type 0 where
  pub answer : (dead_says (kind_in ws) ws r.number).answer ≡ 0
  pub one_of : ((dead_says (kind_in ws) ws r.number).dead ≡ 0) ⊎ ((dead_says (kind_in ws) ws r.number).dead ≡ 1)
  pub dead : ((dead_says (kind_in ws) ws r.number).dead ≡ 1) ↔ Never (kind_in ws) (Wins (kind_in ws) ws r)
  pub dead_record : (dead_says (kind_in ws) ws r.number).dead ≡ 1 → (dead_says (kind_in ws) ws r.number).value ≡ no_record
  pub live : (dead_says (kind_in ws) ws r.number).dead ≡ 0 → Least (kind_in ws) (Wins (kind_in ws) ws r) (dead_says (kind_in ws) ws r.number).value
  -- so a lookup of the record names the rule
  pub named : (dead_says (kind_in ws) ws r.number).dead ≡ 0 → NamesIt r (lookup_values (kind_in ws) ws (dead_says (kind_in ws) ws r.number).value)

-- two answers are the same but for their reads
abbrev pub SameRule : Found → Found → Type 0
SameRule f g = (f.answer ≡ g.answer) × (f.rule ≡ g.rule) × (f.action ≡ g.action)

pub record Dead : Type 0 where
  -- "Refusals: 9, 1, 4 as in reading, with the default under 65,535"
  pub answer : (ws : List ℕ) (n : ℕ) → n ≢ 65535 → Refuses 9 (Passes (kind_in ws) ws → ⊥) (Refuses 1 (65534 < n) (Refuses 4 (There (kind_in ws) n ws → ⊥) done)) (dead_says (kind_in ws) ws n).answer
  pub answer_default : (ws : List ℕ) → Refuses 9 (Passes (kind_in ws) ws → ⊥) done (dead_says (kind_in ws) ws 65535).answer
  pub refused : (ws : List ℕ) (n : ℕ) → (dead_says (kind_in ws) ws n).answer ≢ 0 → ((dead_says (kind_in ws) ws n).dead ≡ 0) × ((dead_says (kind_in ws) ws n).value ≡ no_record)
  -- each rule of a store that passes, the default included
  pub said : (ws : List ℕ) → Passes (kind_in ws) ws → (r : Rule) → In r (every_in (kind_in ws) ws) → Said ws r
  -- "nobody dares to delete": a rule that is said to be dead can be deleted, and every lookup still names the same rule and action
  pub deleted : (ws : List ℕ) (n : ℕ) → (dead_says (kind_in ws) ws n).dead ≡ 1 → delete_says (kind_in ws) ws n ≡ 0 → (p : Packet) → WithinTops p → SameRule (lookup (delete_words (kind_in ws) ws n) p) (lookup ws p)
  pub deleted_packet : (ws : List ℕ) (n : ℕ) → (dead_says (kind_in ws) ws n).dead ≡ 1 → delete_says (kind_in ws) ws n ≡ 0 → (bytes : List ℕ) → Bytes bytes → SameRule (lookup_packet (delete_words (kind_in ws) ws n) bytes) (lookup_packet ws bytes)
