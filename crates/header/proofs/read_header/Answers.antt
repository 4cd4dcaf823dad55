-- `header::read_header` meets its contract: a test that holds is one of the conditions, and once all have failed the numbers read are the definition's. Assumes nothing.
use mathlib.Core.Path.{sym, ◌∙◌}
use mathlib.Core.Logic.{inl, inr}
use native.Mathlib.Omega.{arith}
use Rattle.header.proofs.Facts.{unreadable_when, cut_when, not_faulty}
use Rattle.header.proofs.Tests.{four, no_room, sound_read, packet_with, packet_without}
use Rattle.header.proofs.read_header.Goals as goal

pub returns-then-s-lt20 : goal.returns-then-s-lt20
returns-then-s-lt20 c = sym ((unreadable_when _).1 (inl c.if-s-lt20.true))

pub returns-then-s-ne4 : goal.returns-then-s-ne4
returns-then-s-ne4 c = sym ((unreadable_when _).1 (inr (inl c.if-s-ne4.true)))

pub returns-then-s-lt5 : goal.returns-then-s-lt5
returns-then-s-lt5 c = sym ((unreadable_when _).1 (inr (inr (inl c.if-s-lt5.true))))

-- the total length leaves no room
pub returns-then-total-behind : goal.returns-then-total-behind
returns-then-total-behind c = sym ((unreadable_when _).1 (no_room _ c.header_length-behind.ensures.0 c.total_length-total.ensures c.has_ports-ported.ensures c.ports_length.ensures.0 c.if-total-behind.true))

-- the slice is cut short
pub returns-then-s-total : goal.returns-then-s-total
returns-then-s-total c =
    let s = sound_read _ c.header_length-behind.ensures.0 c.total_length-total.ensures c.has_ports-ported.ensures c.ports_length.ensures.0 (omega arith) c.if-s-ne4.false c.if-s-lt5.false c.if-total-behind.false in
    sym ((cut_when _).1 (not_faulty _ s, omega (arith, c.total_length-total.ensures, c.if-s-total.true)))

-- the ports stand within the slice
pub half_at-requires : goal.half_at-requires
half_at-requires c = omega (arith, four _ c.header_length-behind.ensures.0 c.total_length-total.ensures c.has_ports-ported.ensures c.ports_length.ensures.0 c.if-ported.true, c.if-total-behind.false, c.if-s-total.false)

pub half_at-requires-then-ported : goal.half_at-requires-then-ported
half_at-requires-then-ported c = omega (arith, four _ c.header_length-behind.ensures.0 c.total_length-total.ensures c.has_ports-ported.ensures c.ports_length.ensures.0 c.if-ported.true, c.if-total-behind.false, c.if-s-total.false)

-- a packet with ports
pub returns-then-ported : goal.returns-then-ported
returns-then-ported c =
    packet_with _ (record { sound = sound_read _ c.header_length-behind.ensures.0 c.total_length-total.ensures c.has_ports-ported.ensures c.ports_length.ensures.0 (omega arith) c.if-s-ne4.false c.if-s-lt5.false c.if-total-behind.false; whole = omega (arith, c.total_length-total.ensures, c.if-s-total.false) }) (sym c.has_ports-ported.ensures ∙ c.if-ported.true)
    (simp (c.word_at-destination.ensures, c.word_at-source.ensures, c.from-protocol.ensures, c.half_at.ensures.0, c.half_at-then-ported.ensures.0, c.header_length-behind.ensures.0))

-- a packet without ports
pub returns : goal.returns
returns c =
    packet_without _ (record { sound = sound_read _ c.header_length-behind.ensures.0 c.total_length-total.ensures c.has_ports-ported.ensures c.ports_length.ensures.0 (omega arith) c.if-s-ne4.false c.if-s-lt5.false c.if-total-behind.false; whole = omega (arith, c.total_length-total.ensures, c.if-s-total.false) }) (sym c.has_ports-ported.ensures ∙ c.if-ported.false)
    (simp (c.word_at-destination.ensures, c.word_at-source.ensures, c.from-protocol.ensures))
