-- PACKETS WITHOUT PORTS. "A rule for destination ports 0 to 1023 caught ICMP and a firmware transfer's later fragments, since document 01 gives both the port 0. Add field 6, top 1: 0 where the packet has ports, 1 where it is a later fragment or another protocol. A rule whose port ranges aren't both full must ask for 0 to 0 there; others choose."
-- `Portless` is what is claimed; proofs/Portless.antt proves it. Assumes nothing.
use Rattle.std.specs.Prelude.{◌≡◌, ◌↔◌, List, [], ◌∷◌, ◌++◌, ℕ}
use Rattle.model.specs.Lists.{In}
use Rattle.model.specs.Table.{Rule, Table}
use Rattle.model.specs.Ipv4.{kind_in}
use Rattle.header.specs.declared.Packet.{Packet}
use Rattle.std.specs.Prelude.{Ok}
use Rattle.header.specs.Header.{header_of}
use Rattle.header.specs.Facts.{Ported}
use Rattle.layout.specs.Store.{table_of}
use Rattle.lookup.specs.Walk.{lookup_packet}
use Rattle.demands.specs.Calls.{Passes, rules_in, HoldsAll, FullPorts, values_in, Bytes}

-- THE EXAMPLE. Rule 10 is for destination ports 0 to 1023, action 5; rule 20 for destinations 10.0.0.0 to 10.0.0.255 whatever the ports, of packets with and without them, action 6
abbrev pub low_ports : Rule
low_ports = record { number = 10; action = 5; lows = 0 ∷ 0 ∷ 0 ∷ 0 ∷ 0 ∷ 0 ∷ []; highs = 4294967295 ∷ 4294967295 ∷ 255 ∷ 1023 ∷ 65535 ∷ 0 ∷ [] }

abbrev pub yard : Rule
yard = record { number = 20; action = 6; lows = 167772160 ∷ 0 ∷ 0 ∷ 0 ∷ 0 ∷ 0 ∷ []; highs = 167772415 ∷ 4294967295 ∷ 255 ∷ 65535 ∷ 65535 ∷ 1 ∷ [] }

abbrev pub example : Table
example = record { action = 1; rules = low_ports ∷ yard ∷ [] }

-- 20 bytes of a header from 192.168.1.9 to 10.0.0.5, total length 28, and 8 bytes behind it; the fragment offset (in units of 8 bytes, here below 256) and the protocol are given
abbrev bytes_of : ℕ → ℕ → List ℕ → List ℕ
bytes_of offset protocol behind = (69 ∷ 0 ∷ 0 ∷ 28 ∷ 0 ∷ 1 ∷ 0 ∷ offset ∷ 64 ∷ protocol ∷ 0 ∷ 0 ∷ 192 ∷ 168 ∷ 1 ∷ 9 ∷ 10 ∷ 0 ∷ 0 ∷ 5 ∷ []) ++ behind

-- an ICMP echo request
abbrev pub echo : List ℕ
echo = bytes_of 0 1 (8 ∷ 0 ∷ 247 ∷ 255 ∷ 0 ∷ 0 ∷ 0 ∷ 0 ∷ [])

-- a firmware transfer: its first packet, UDP from port 40000 to port 69 (TFTP), and a later fragment of one
abbrev pub transfer : List ℕ
transfer = bytes_of 0 17 (156 ∷ 64 ∷ 0 ∷ 69 ∷ 0 ∷ 8 ∷ 0 ∷ 0 ∷ [])

abbrev pub later_fragment : List ℕ
later_fragment = bytes_of 185 17 (1 ∷ 2 ∷ 3 ∷ 4 ∷ 5 ∷ 6 ∷ 7 ∷ 8 ∷ [])

pub record Portless : Type 0 where
  -- "0 where the packet has ports": protocol 6 or 17 and fragment offset 0 (`Ported` of header/specs/Facts.antt)
  pub with_ports : (bytes : List ℕ) (p : Packet) → header_of bytes ≡ Ok p → (p.portless ≡ 0) ↔ Ported bytes
  -- "1 where it is a later fragment or another protocol"; both ports are 0 then
  pub without : (bytes : List ℕ) → Bytes bytes → (p : Packet) → header_of bytes ≡ Ok p → (Ported bytes → ⊥) → (p.portless ≡ 1) × (p.destination_port ≡ 0) × (p.source_port ≡ 0)
  -- in a store that passes, a rule whose port ranges aren't both full holds no packet without ports
  pub asked : (ws : List ℕ) → Passes (kind_in ws) ws → (r : Rule) → In r (rules_in (kind_in ws) ws) → (FullPorts (kind_in ws) r → ⊥) → (bytes : List ℕ) (p : Packet) → header_of bytes ≡ Ok p → HoldsAll (kind_in ws) (values_in p) r → Ported bytes
  -- in every store that passes and holds the example's table, the rule for ports 0 to 1023 decides for the transfer's packet to port 69, and for neither the echo nor the later fragment; these get the rule that asks 0 to 1
  pub decided : (ws : List ℕ) → Passes (kind_in ws) ws → table_of (kind_in ws) ws ≡ example
      → ((lookup_packet ws transfer).rule ≡ 10) × ((lookup_packet ws echo).rule ≡ 20) × ((lookup_packet ws later_fragment).rule ≡ 20)
