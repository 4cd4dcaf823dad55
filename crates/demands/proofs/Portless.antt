-- Packets without ports are told apart.
-- Assumes nothing.
use mathlib.Core.Path.{◌≡◌, refl, ap, ◌∙◌}
use mathlib.Core.Logic.{⊎_elim}
use mathlib.Core.List.{List}
use Prim.Native.Nat.{ℕ, ◌≤◌}
use native.Mathlib.Omega.{arith}
use Rattle.model.specs.Lists.{In}
use Rattle.model.specs.Table.{Rule, Table}
use Rattle.model.specs.Ipv4.{kind_in}
use Rattle.header.specs.declared.Packet.{Packet}
use Rattle.std.specs.Prelude.{Ok}
use Rattle.header.specs.Header.{has_ports, unreadable, packet_of, header_of}
use Rattle.header.specs.Facts.{Ported, WithinTops}
use Rattle.header.proofs.Facts.{within_tops_lem, portless_when, portless_ports}
use Rattle.layout.specs.Store.{table_of}
use Rattle.lookup.specs.declared.Found.{Found}
use Rattle.lookup.specs.Walk.{lookup_packet}
use Rattle.demands.specs.Calls.{Passes, rules_in, HoldsAll, PortsOnly, FullPorts, values_in, Bytes}
use Rattle.demands.specs.Portless.{example, echo, transfer, later_fragment, Portless}
use Rattle.demands.proofs.KindNamed.{shaped_in}
use Rattle.demands.proofs.Packets.{tops_right, readable_is}
use Rattle.demands.proofs.Decided.{found_of, lookup_is}
use Rattle.demands.proofs.Check.{check}

without : (bytes : List ℕ) → Bytes bytes → (p : Packet) → header_of bytes ≡ Ok p → (Ported bytes → ⊥) → (p.portless ≡ 1) × (p.destination_port ≡ 0) × (p.source_port ≡ 0)
without bytes b p e n =
    let z : p.portless ≡ 0 → ⊥ = λ q. n ((portless_when bytes p e).0 q) in
    let one : p.portless ≡ 1 = omega (arith, (within_tops_lem bytes p b e).portless_top, z) in
    let q = portless_ports bytes p e one in
    (one, q.0, q.1)

asked : (ws : List ℕ) → Passes (kind_in ws) ws → (r : Rule) → In r (rules_in (kind_in ws) ws) → (FullPorts (kind_in ws) r → ⊥) → (bytes : List ℕ) (p : Packet) → header_of bytes ≡ Ok p → HoldsAll (kind_in ws) (values_in p) r → Ported bytes
asked ws h r m n bytes p e a =
    ⊎_elim
    (λ (o : PortsOnly (kind_in ws) r). (portless_when bytes p e).0 (omega (arith, o.1, (a 5 (omega arith)).1)))
    (λ (f : FullPorts (kind_in ws) r). absurd (n f))
    (((check (kind_in ws) (shaped_in ws)).sound ws h).ports r m)

-- THE EXAMPLE
module _ (ws : List ℕ) (h : Passes (kind_in ws) ws) (t : table_of (kind_in ws) ws ≡ example) where
  found : (bytes : List ℕ) (p : Packet) → WithinTops p → header_of bytes ≡ Ok p → lookup_packet ws bytes ≡ found_of (kind_in ws) example (values_in p)
  found bytes p w e = readable_is ws bytes p e ∙ lookup_is (kind_in ws) (shaped_in ws) ws h (values_in p) (tops_right p w) ∙ ap (λ (x : Table). found_of (kind_in ws) x (values_in p)) t

  -- a packet from 192.168.1.9 to 10.0.0.5
  abbrev record_of : ℕ → ℕ → ℕ → ℕ → Packet
  record_of protocol to from mark = record { destination = 167772165; source = 3232235785; protocol = protocol; destination_port = to; source_port = from; portless = mark }

  pub decided : ((lookup_packet ws transfer).rule ≡ 10) × ((lookup_packet ws echo).rule ≡ 20) × ((lookup_packet ws later_fragment).rule ≡ 20)
  unfolding header_of unreadable packet_of has_ports
  decided = (
    ap (λ (f : Found). f.rule) (found transfer (record_of 17 69 40000 0) (within 17 69 40000 0 (omega arith) (omega arith) (omega arith) (omega arith)) refl),
    ap (λ (f : Found). f.rule) (found echo (record_of 1 0 0 1) (within 1 0 0 1 (omega arith) (omega arith) (omega arith) (omega arith)) refl),
    ap (λ (f : Found). f.rule) (found later_fragment (record_of 17 0 0 1) (within 17 0 0 1 (omega arith) (omega arith) (omega arith) (omega arith)) refl),
  )
    where
      within : (protocol to from mark : ℕ) → protocol ≤ 255 → to ≤ 65535 → from ≤ 65535 → mark ≤ 1 → WithinTops (record_of protocol to from mark)
      within protocol to from mark a b c d = record { destination_top = omega arith; source_top = omega arith; protocol_top = a; destination_port_top = b; source_port_top = c; portless_top = d }

pub portless : Portless
portless = record { with_ports = λ bytes p e. portless_when bytes p e; without = without; asked = asked; decided = decided }
