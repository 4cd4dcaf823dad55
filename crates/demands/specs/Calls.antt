-- What the three demands speak of. A store's words are any list of numbers, and so are a packet's bytes. What start, insert, delete, check, read by number and by place, and cells answer and leave is defined in layout/specs/Store.antt, what a lookup answers in lookup/specs/Walk.antt, and what the lookup that counts answers and leaves in tally/specs/Tally.antt: the proof of each of these functions shows that its answer, and every word that it was lent, are what is said there.
-- What is said of stores is said of a kind of store. The library has two, of 64 and of 512 rules, and word 2 names which a store's words are: `kind_in` of model/specs/Ipv4.antt. Both have six fields: document 01 says five, and by P4 "Demands 2 and 3 now read six fields".
-- Assumes nothing: these are definitions.
use Rattle.std.specs.Prelude.{◌≡◌, ◌⊎◌, true, List, ℕ, ◌+◌, ◌≤◌, ◌<◌, length, get_or}
use Rattle.model.specs.Table.{Kind, Rule, every_rule}
use Rattle.model.specs.Ipv4.{kind_in}
use Rattle.header.specs.declared.Packet.{Packet}
use Rattle.layout.specs.Store.{size, table_of, passes}
use Rattle.lookup.specs.declared.Found.{Found}
use Rattle.lookup.specs.Walk.{lookup_values}
-- THE LIBRARY'S PACKETS. The values of a packet's record, in the order of the fields: destination address, source address, protocol, destination port, source port, and the mark of a packet without ports
pub use Rattle.header.specs.Header.{values_in}

-- "a store that the store check passes"
abbrev pub Passes : Kind → List ℕ → Type 0
Passes k ws = passes k ws ≡ true

-- the rules that the words hold, without the default; the default's action; and all rules, "the default rule included"
abbrev pub rules_in : Kind → List ℕ → List Rule
rules_in k ws = (table_of k ws).rules

abbrev pub default_in : Kind → List ℕ → ℕ
default_in k ws = (table_of k ws).action

abbrev pub every_in : Kind → List ℕ → List Rule
every_in k ws = every_rule k (table_of k ws)

-- how many fields a packet and a rule of the kind have
abbrev pub field_count : Kind → ℕ
field_count k = length k.tops

-- field i (from 0) of a packet's values and of a rule's ranges, and its top
abbrev pub value_at : List ℕ → ℕ → ℕ
value_at vs i = get_or vs i 0

abbrev pub low_at : Rule → ℕ → ℕ
low_at r i = get_or r.lows i 0

abbrev pub high_at : Rule → ℕ → ℕ
high_at r i = get_or r.highs i 0

abbrev pub top_at : Kind → ℕ → ℕ
top_at k i = get_or k.tops i 0

-- the rule's first n ranges hold the packet's first n values; and all of them do, "whose [..] ranges all hold the packet's [..] values"
abbrev pub HoldsFirst : ℕ → List ℕ → Rule → Type 0
HoldsFirst n vs r = (i : ℕ) → i < n → (low_at r i ≤ value_at vs i) × (value_at vs i ≤ high_at r i)

abbrev pub HoldsAll : Kind → List ℕ → Rule → Type 0
HoldsAll k = HoldsFirst (field_count k)

-- the rule's range in field i is from 0 to a number, which makes it full where that is the top
abbrev pub AsksTo : Rule → ℕ → ℕ → Type 0
AsksTo r i n = (low_at r i ≡ 0) × (high_at r i ≡ n)

-- its two port ranges are both full; and it asks for 0 to 0 in the field behind them, so for packets with ports alone
abbrev pub FullPorts : Kind → Rule → Type 0
FullPorts k r = AsksTo r k.ports (top_at k k.ports) × AsksTo r (k.ports + 1) (top_at k (k.ports + 1))

abbrev pub PortsOnly : Kind → Rule → Type 0
PortsOnly k r = AsksTo r (k.ports + 2) 0

-- "c outside 5 to 65,536, or slice too short"; by P4 "The least c becomes 6", one for each field
abbrev pub NoRoom : Kind → ℕ → List ℕ → Type 0
NoRoom k c ws = (c < field_count k) ⊎ (65536 < c) ⊎ (length ws < size k c)

-- "a value above its top"
abbrev pub AboveTop : Kind → List ℕ → Type 0
AboveTop k vs = (i : ℕ) × (i < field_count k) × (top_at k i < value_at vs i)

-- the bytes of a slice are bytes
abbrev pub Bytes : List ℕ → Type 0
Bytes bytes = (i : ℕ) → get_or bytes i 0 < 256

-- THE LOOKUP BY VALUES, of a packet's record. (The lookup by an IPv4 packet is `lookup_packet` of lookup/specs/Walk.antt.)
abbrev pub lookup : List ℕ → Packet → Found
lookup ws p = lookup_values (kind_in ws) ws (values_in p)
