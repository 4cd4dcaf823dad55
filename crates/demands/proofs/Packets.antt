-- The library's packets: a record of six named numbers, whose values are right where they are within the tops; and the bytes of a packet, by what their header is.
-- Assumes nothing.
use mathlib.Core.Path.{◌≡◌, refl, sym}
use mathlib.Core.Bool.{true}
use mathlib.Core.List.{List}
use Prim.Native.Nat.{ℕ}
use borrow.Author.Tests.{le-leb}
use Rattle.model.specs.Table.{packet_right}
use Rattle.model.specs.Ipv4.{large}
use Rattle.header.specs.declared.Packet.{Packet}
use Rattle.std.specs.Prelude.{Result, Ok, Err}
use Rattle.refusal.specs.declared.Refusal.{Refusal}
use Rattle.refusal.specs.Refusals.{number_of}
use Rattle.header.specs.Header.{header_of}
use Rattle.header.specs.Facts.{WithinTops}
use Rattle.lookup.specs.Walk.{refused, lookup_packet}
use Rattle.lookup.proofs.Steps.{by_header as looked_up}
use Rattle.demands.specs.Calls.{values_in, lookup}

pub tops_right : (p : Packet) → WithinTops p → packet_right large (values_in p) ≡ true
tops_right p t = simp (le-leb _ _ t.destination_top, le-leb _ _ t.source_top, le-leb _ _ t.protocol_top, le-leb _ _ t.destination_port_top, le-leb _ _ t.source_port_top, le-leb _ _ t.portless_top)

-- THE LOOKUP BY A PACKET: the number of the header's refusal where it gives no values, and else the lookup of its values
pub refused_by : (ws bytes : List ℕ) (r : Refusal) → header_of bytes ≡ Err r → lookup_packet ws bytes ≡ refused (number_of r)
refused_by ws bytes r e = sym (looked_up ws bytes (Err r) (sym e))

pub readable_is : (ws bytes : List ℕ) (p : Packet) → header_of bytes ≡ Ok p → lookup_packet ws bytes ≡ lookup ws p
readable_is ws bytes p e = sym (looked_up ws bytes (Ok p) (sym e))

pub by_header : (X : Type 0) (bytes : List ℕ) → ((r : Refusal) → header_of bytes ≡ Err r → X) → ((p : Packet) → header_of bytes ≡ Ok p → X) → X
by_header X bytes u v = go (header_of bytes) refl
  where
    go : (h : Result Packet Refusal) → header_of bytes ≡ h → X
    go (Err r) e = u r e
    go (Ok p) e = v p e
