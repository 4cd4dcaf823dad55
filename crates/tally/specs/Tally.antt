-- Tallies for each rule, request P1: what a lookup that counts answers, and what it leaves of the tally record that it was lent.
-- A record has 513 places, by P9, each with a key, a count of packets and a count of bytes. Its words may be any numbers.
-- Assumes nothing: these are definitions.
use Rattle.std.specs.Prelude.{ℕ, suc, ◌+◌, ◌-◌, ◌%◌, ◌^◌, Bool, cond, ◌&&◌, List, [], ◌∷◌, length, replicate, ◌==◌, nat_le, nat_lt, slice_index, slice_set}
use Rattle.header.specs.Header.{total_length}
use Rattle.lookup.specs.declared.Found.{Found}
use Rattle.lookup.specs.Walk.{refused, lookup_packet}
use Rattle.tally.specs.declared.Tallies.{Tallies}
use Rattle.tally.specs.declared.Place.{Place}
use Rattle.tally.specs.declared.Place.TheVariants.{Held, New, Full}

-- WHERE A NUMBER COUNTS. "There are 65 places, each unused or keyed by a rule number", and by P9 "tallies have 513 places": a rule's number is at most 65,535, the default's, and a key above that means unused
abbrev pub unused : ℕ → Bool
unused key = nat_lt 65535 key

abbrev pub keyed : ℕ → ℕ → Bool
keyed number key = key == number && nat_le key 65535

-- the place of the first key that passes the test; where none does, one past the last place
unfoldable pub first_place : (ℕ → Bool) → List ℕ → ℕ
first_place test [] = 0
first_place test (key ∷ keys) = cond (test key) 0 (suc (first_place test keys))

-- "a number held twice counts in the first, a number not yet held takes the first unused one"
unfoldable pub place_of : ℕ → List ℕ → Place
place_of number keys =
    let held = first_place (keyed number) keys in
    let free = first_place unused keys in
    cond (nat_lt held (length keys)) (Held held) (cond (nat_lt free (length keys)) (New free) Full)

-- WHAT IS ADDED. "Both are Counter32 as in RFC 2578: a tally starts again at zero after 4,294,967,295"
unfoldable pub plus : ℕ → ℕ → ℕ
plus count n = (count + n) % 2 ^ 32

abbrev pub added_at : ℕ → ℕ → List ℕ → List ℕ
added_at place n counts = slice_set counts place (plus (slice_index counts place) n)

-- "for the winning rule it adds one packet and the packet's total length in bytes. [..] Every other tally stays"
abbrev pub added_in : ℕ → ℕ → Tallies → Tallies
added_in place bytes t = record { key = t.key; packets = added_at place 1 t.packets; bytes = added_at place bytes t.bytes }

-- a number takes a place, "from zero"
abbrev pub begun_in : ℕ → ℕ → Tallies → Tallies
begun_in place number t = record { key = slice_set t.key place number; packets = slice_set t.packets place 0; bytes = slice_set t.bytes place 0 }

-- THE CASES of a place: what becomes of the record, and document 02's number, 13 "when a new number finds no place" or 0, done
abbrev pub tallies_with : Place → ℕ → ℕ → Tallies → Tallies
tallies_with (Held place) number bytes t = added_in place bytes t
tallies_with (New place) number bytes t = added_in place bytes (begun_in place number t)
tallies_with Full number bytes t = t

abbrev pub slot_answer : Place → ℕ
slot_answer (Held place) = 0
slot_answer (New place) = 0
slot_answer Full = 13

abbrev pub has_place : Place → Bool
has_place p = slot_answer p == 0

-- WHAT COUNTING MAKES of what a lookup by a packet found: the answer, "13 when a new number finds no place, after all others"; and the record that is left, as it was where the lookup is refused
abbrev pub found_tally : Found → Tallies → Found
found_tally f t =
    let p = place_of f.rule t.key in
    cond (f.answer == 0) (cond (has_place p) f (refused (slot_answer p))) f

abbrev pub found_tallies : Found → List ℕ → Tallies → Tallies
found_tallies f packet t = cond (f.answer == 0) (tallies_with (place_of f.rule t.key) f.rule (total_length packet) t) t

-- THE LOOKUP BY A PACKET THAT COUNTS, over a store's words: what it answers, and the record that it leaves
unfoldable pub tally_answer : List ℕ → List ℕ → Tallies → Found
tally_answer words packet t = found_tally (lookup_packet words packet) t

unfoldable pub tallies_left : List ℕ → List ℕ → Tallies → Tallies
tallies_left words packet t = found_tallies (lookup_packet words packet) packet t

-- a record of three arrays
abbrev pub tallies : List ℕ → List ℕ → List ℕ → Tallies
tallies key packets bytes = record { key = key; packets = packets; bytes = bytes }

-- A CLEAR RECORD: every place is unused, and every count is 0
abbrev pub cleared : Tallies
cleared = tallies (replicate 513 4294967295) (replicate 513 0) (replicate 513 0)

-- THE DIFFERENCE of two readings of a count, the later less the earlier, starting again at zero likewise
unfoldable pub difference : ℕ → ℕ → ℕ
difference earlier later = (later + (2 ^ 32 - earlier)) % 2 ^ 32
