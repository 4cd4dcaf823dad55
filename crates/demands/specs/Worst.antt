-- THE WORST PACKET OF A TABLE, for the sheet of a timing analyst: 9, or the greatest count of reads that any record of values within the tops takes in this table, and the least record that takes it. Records that no real header gives, such as ICMP with ports, count too: the count is a bound for every packet, and the record need not be one that a packet can have.
-- What the call answers is `worst_says` of worst/specs/Worst.antt, by a search of the tree; here it is said by lookups alone.
-- `Worst` is what is claimed; proofs/Worst.antt proves it. Assumes nothing.
use Rattle.std.specs.Prelude.{◌≡◌, ◌≢◌, List, ℕ, ◌+◌, ◌*◌, ◌≤◌, ◌<◌, length}
use Rattle.model.specs.Ipv4.{kind_in}
use Rattle.search.specs.Search.{Less}
use Rattle.search.specs.Facts.{InTops}
use Rattle.worst.specs.Worst.{worst_says}
use Rattle.lookup.specs.Walk.{lookup_values, lookup_packet}
use Rattle.demands.specs.Calls.{Passes, rules_in, Bytes}
use Rattle.demands.specs.Demand1.{Refuses, done}
use Rattle.demands.specs.Dead.{no_record}

-- what is said of a store that passes. A record of values within the tops (`InTops`) has six values, none above its top
pub record Told (ws : List ℕ) : Type 0 where
  -- the record is within the tops, and a lookup of it takes the reads
  pub within : InTops (kind_in ws) (worst_says (kind_in ws) ws).value
  pub taken : ((lookup_values (kind_in ws) ws (worst_says (kind_in ws) ws).value).answer ≡ 0) × ((lookup_values (kind_in ws) ws (worst_says (kind_in ws) ws).value).reads ≡ (worst_says (kind_in ws) ws).reads)
  -- none takes more, and every lesser record, compared field by field from field 1, takes fewer
  pub no_more : (vs : List ℕ) → InTops (kind_in ws) vs → (lookup_values (kind_in ws) ws vs).reads ≤ (worst_says (kind_in ws) ws).reads
  pub fewer : (vs : List ℕ) → InTops (kind_in ws) vs → Less vs (worst_says (kind_in ws) ws).value → (lookup_values (kind_in ws) ws vs).reads < (worst_says (kind_in ws) ws).reads
  -- so no packet takes more, whatever its bytes
  pub no_packet : (bytes : List ℕ) → Bytes bytes → (lookup_packet ws bytes).reads ≤ (worst_says (kind_in ws) ws).reads
  -- it is within demand 3's bound for any table of as many rules
  pub tight : (worst_says (kind_in ws) ws).reads ≤ 7 * length (rules_in (kind_in ws) ws) + 6

pub record Worst : Type 0 where
  -- 9 exactly when the check fails, and then zeros
  pub answer : (ws : List ℕ) → Refuses 9 (Passes (kind_in ws) ws → ⊥) done (worst_says (kind_in ws) ws).answer
  pub refused : (ws : List ℕ) → (worst_says (kind_in ws) ws).answer ≢ 0 → ((worst_says (kind_in ws) ws).reads ≡ 0) × ((worst_says (kind_in ws) ws).value ≡ no_record)
  pub told : (ws : List ℕ) → Passes (kind_in ws) ws → Told ws
