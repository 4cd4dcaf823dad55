-- The two kinds of store that the library is for: the IPv4 gateway's six fields with their tops, and two limits of rules.
-- Assumes nothing: these are definitions.
use Rattle.std.specs.Prelude.{Bool, true, false, cond, List, [], ◌∷◌, ◌≡◌, refl, ℕ, eqb, get_or}
use Rattle.std.proofs.Common.{arith}
use Rattle.model.specs.Table.{Kind, Shaped, front}

-- document 01, "Fields": destination address, source address, protocol, destination port, source port, each with its top; P4: "field 6, top 1: 0 where the packet has ports, 1 where it is a later fragment or another protocol".
-- "At most 64 rules besides the default"; P9: "Raise 64 to 512". A store that is not large is one from before P9: "Stores in battery-backed memory, all with P4's six fields, keep the old limit and size".
abbrev pub ipv4 : (large : Bool) → Kind
ipv4 large = record { tops = 4294967295 ∷ 4294967295 ∷ 255 ∷ 65535 ∷ 65535 ∷ 1 ∷ []; ports = 3; most = cond large 512 64; width = 15; head = cond large 495 47; mark = cond large 4 0 }

abbrev pub small : Kind
small = ipv4 false

-- what a start starts
abbrev pub large : Kind
large = ipv4 true

-- the kind of a store's words, or of an image's: word 2 names it. Where word 2 is neither 0 nor 4 it names none; then neither check passes, and no lookup begins its walk, since word 2 is not the mark of `small`.
abbrev pub is_large : List ℕ → Bool
is_large ws = eqb (get_or ws 2 0) 4

abbrev pub kind_in : List ℕ → Kind
kind_in ws = ipv4 (is_large ws)

pub ipv4_shaped : (b : Bool) → Shaped (ipv4 b)
ipv4_shaped true = record { some = omega arith; last = refl; ends = omega arith; narrow = omega arith; few = omega arith; three = omega arith; short = omega arith }
ipv4_shaped false = record { some = omega arith; last = refl; ends = omega arith; narrow = omega arith; few = omega arith; three = omega arith; short = omega arith }

-- "A store of c cells [..] takes 1,024 + 8 × c words": so many stand before the cells; "a new store takes 8,192 + 8 × c words"
pub small_front : front small ≡ 1024
small_front = refl

pub large_front : front large ≡ 8192
large_front = refl

-- each kind's mark is told from the other's
pub told : (b : Bool) → eqb (ipv4 b).mark 4 ≡ b
told true = refl
told false = refl
