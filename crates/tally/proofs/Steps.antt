-- Counting what a lookup found, one law for each answer.
-- Assumes nothing.
use Rattle.std.proofs.Common.{◌≡◌, ℕ, ◌≤◌, List, length, sym, refl, ap, ◌∙◌, arith}
use Rattle.std.specs.Prelude.{◌≢◌, Result, Ok, Err}
use Rattle.refusal.specs.declared.Refusal.{Refusal}
use Rattle.refusal.specs.declared.Refusal.TheVariants.{NumberTooHigh, WrongRange, NumberTaken, NotThere, TableFull, TooFewCells, Unreadable, NoRoom, Damaged, NoPrefix, ValueTooHigh, NoCapture, TallyFull, Cut, ListLength}
use Rattle.refusal.specs.Refusals.{number_of}
use Rattle.header.specs.declared.Packet.{Packet}
use Rattle.header.specs.Header.{header_of}
use Rattle.header.proofs.Facts.{values_are}
use Rattle.lookup.specs.declared.Found.{Found}
use Rattle.lookup.specs.Walk.{lookup_header, lookup_packet}
use Rattle.tally.specs.declared.Tallies.{Tallies}
use Rattle.tally.specs.Tally.{found_tally, found_tallies, tally_answer, tallies_left}

-- a refusal's number is not 0, which means done
pub numbered : (r : Refusal) → number_of r ≢ 0
numbered NumberTooHigh = λ z. omega (arith, z)
numbered WrongRange = λ z. omega (arith, z)
numbered NumberTaken = λ z. omega (arith, z)
numbered NotThere = λ z. omega (arith, z)
numbered TableFull = λ z. omega (arith, z)
numbered TooFewCells = λ z. omega (arith, z)
numbered Unreadable = λ z. omega (arith, z)
numbered NoRoom = λ z. omega (arith, z)
numbered Damaged = λ z. omega (arith, z)
numbered NoPrefix = λ z. omega (arith, z)
numbered ValueTooHigh = λ z. omega (arith, z)
numbered NoCapture = λ z. omega (arith, z)
numbered TallyFull = λ z. omega (arith, z)
numbered Cut = λ z. omega (arith, z)
numbered ListLength = λ z. omega (arith, z)

-- f is what a lookup by the packet found, n the packet's total length
module _ (packet : List ℕ) (f : Found) (t : Tallies) where
  -- counting it answers g and leaves u
  abbrev pub Does : Found → Tallies → Type 0
  Does g u = (g ≡ found_tally f t) × (u ≡ found_tallies f packet t)

-- the lookup in a store's words
pub store_does : (packet : List ℕ) (f : Found) (t : Tallies) (words : List ℕ) → f ≡ lookup_packet words packet → (g : Found) (u : Tallies) → Does packet f t g u → (g ≡ tally_answer words packet t) × (u ≡ tallies_left words packet t)
unfolding tally_answer tallies_left
store_does packet f t words is g u d = rw (← is) d

-- values are of a header that is long enough to have a total length
pub long : (words packet : List ℕ) {f : Found} → f ≡ lookup_packet words packet → f.answer ≡ 0 → 20 ≤ length packet
unfolding lookup_packet
long words packet is e = by_header (header_of packet) refl (ap (λ (g : Found). g.answer) (sym is) ∙ e)
  where
    by_header : (h : Result Packet Refusal) → header_of packet ≡ h → (lookup_header words h).answer ≡ 0 → 20 ≤ length packet
    by_header (Ok p) q e = (values_are packet p q).0.sound.long
    by_header (Err r) q e = absurd (numbered r e)
