-- THE SCAN, "a lookup that runs through a lent list of rule records": "For the table of a store that passes the check, answer and action equal the store's lookup for every packet." What a scan answers is `scan_values` of scan/specs/Scan.antt.
-- `Scan` is what is claimed; proofs/Scan.antt proves it. Assumes nothing.
use Rattle.std.specs.Prelude.{◌≡◌, ◌⊎◌, List, ◌∷◌, ◌++◌, map, ℕ, ◌≤◌, ◌<◌}
use Rattle.model.specs.Lists.{In, Same}
use Rattle.model.specs.Table.{Kind, Rule}
use Rattle.model.specs.Ipv4.{large, kind_in}
use Rattle.header.specs.declared.Packet.{Packet}
use Rattle.std.specs.Prelude.{Ok}
use Rattle.header.specs.Header.{header_of}
use Rattle.header.specs.Facts.{WithinTops}
use Rattle.ipv4.specs.declared.Rule.{Rule as Given}
use Rattle.lookup.specs.declared.Found.{Found}
use Rattle.lookup.specs.Walk.{lookup_packet}
use Rattle.scan.specs.declared.Winner.{Winner}
use Rattle.scan.specs.Scan.{rules_of, no_winner, scan_values}
use Rattle.demands.specs.Calls.{Passes, rules_in, default_in, field_count, low_at, high_at, HoldsAll, AboveTop, values_in, lookup}

-- THE SCAN of a packet's record through a list of rule records, with "the default action handed to it"
abbrev pub scan : List Given → ℕ → Packet → Winner
scan records action p = scan_values records action p.destination p.source p.protocol p.destination_port p.source_port p.portless

-- the two say the same, but for the reads, of which a scan reports none
pub record Agree (found : Found) (winner : Winner) : Type 0 where
  pub answer : winner.answer ≡ found.answer
  pub rule : winner.rule ≡ found.rule
  pub action : winner.action ≡ found.action

-- the store's own table as records, by rising number
abbrev pub record_of : Rule → Given
record_of r = record { number = r.number; action = r.action; low = r.lows; high = r.highs }

abbrev pub records_of : Kind → List ℕ → List Given
records_of k ws = map record_of (rules_in k ws)

-- the rule r of a list decides: it holds the packet, and "the holder of least number" is it, since each holder in front of it has a greater number ("with equal numbers the earlier wins") and each behind it has no lesser one
pub record Decides (k : Kind) (rules : List Rule) (vs : List ℕ) (r : Rule) : Type 0 where
  pub front : List Rule
  pub behind : List Rule
  pub stands : rules ≡ front ++ (r ∷ behind)
  pub holds : HoldsAll k vs r
  pub before : (s : Rule) → In s front → HoldsAll k vs s → r.number < s.number
  pub after : (s : Rule) → In s behind → HoldsAll k vs s → r.number ≤ s.number

-- what a scan of values within the tops names: a rule of the list that decides; "with none it gives rule 65,535 and the default action handed to it"
abbrev pub NamesRule : Kind → List Rule → ℕ → List ℕ → Winner → Type 0
NamesRule k rules a vs w =
    ((r : Rule) × Decides k rules vs r × (w.rule ≡ r.number) × (w.action ≡ r.action))
    ⊎ (((r : Rule) → In r rules → HoldsAll k vs r → ⊥) × (w.rule ≡ 65535) × (w.action ≡ a))

pub record Scan : Type 0 where
  -- the theorem, for every list of records that are the store's rules, in whatever order and however often, and for every packet's record, within the tops or not
  pub agrees : (ws : List ℕ) → Passes (kind_in ws) ws → (records : List Given) → Same (rules_of records) (rules_in (kind_in ws) ws) → (p : Packet) → Agree (lookup ws p) (scan records (default_in (kind_in ws) ws) p)
  -- the same beside the lookup by a packet whose header gives the values p
  pub by_packet : (ws : List ℕ) → Passes (kind_in ws) ws → (records : List Given) → Same (rules_of records) (rules_in (kind_in ws) ws) → (bytes : List ℕ) (p : Packet) → header_of bytes ≡ Ok p
      → Agree (lookup_packet ws bytes) (scan records (default_in (kind_in ws) ws) p)
  -- the store's own table is such a list
  pub own : (ws : List ℕ) → Same (rules_of (records_of (kind_in ws) ws)) (rules_in (kind_in ws) ws)
  -- and for any list: what is named
  pub names : (records : List Given) (a : ℕ) (p : Packet) → WithinTops p → ((scan records a p).answer ≡ 0) × NamesRule large (rules_of records) a (values_in p) (scan records a p)
  -- "Refusals: 11 as before", and nothing else refuses
  pub above : (records : List Given) (a : ℕ) (p : Packet) → AboveTop large (values_in p) → scan records a p ≡ no_winner 11
  -- "A rule whose low end is above its high end holds nothing"
  pub crossed : (r : Rule) (i : ℕ) → i < field_count large → high_at r i < low_at r i → (vs : List ℕ) → HoldsAll large vs r → ⊥
