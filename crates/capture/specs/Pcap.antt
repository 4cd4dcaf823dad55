-- The classic capture file: the pcap layout of the IETF draft, as document 01 reads it in "The bench program".
-- A byte past the end counts as 0.
-- Assumes nothing.
use Rattle.std.specs.Prelude.{ℕ, zero, suc, ◌+◌, Bool, cond, ◌&&◌, Option, Some, None, Result, Ok, Err, List, [], ◌∷◌, reverse, length, take, drop, ltb, leb, eqb, nat_eq}
use Rattle.std.specs.List.{starts_with}
use Rattle.octets.specs.declared.Order.{Order}
use Rattle.octets.specs.declared.Order.TheVariants.{Big, Little}
use Rattle.octets.specs.Octets.{half, word}
use Rattle.capture.specs.declared.End.{End}
use Rattle.capture.specs.declared.End.TheVariants.{Edge, Cut, TooLong}

-- ---- the file header: 24 bytes. Magic bytes at 0, major version at 4, minor at 6, reserved at 8 and 12, longest capture at 16, link type at 20

-- "the bytes A1 B2 C3 D4"
abbrev pub magic : List ℕ
magic = 0xA1 ∷ 0xB2 ∷ 0xC3 ∷ 0xD4 ∷ []

-- "The capture must begin with the bytes A1 B2 C3 D4, or the same in reverse"; "that order then holds for all its numbers"
unfoldable pub by_magic : List ℕ → Option Order
by_magic s = cond (starts_with nat_eq s magic) (Some Big) (cond (starts_with nat_eq s (reverse magic)) (Some Little) None)

-- "version 2.4; the whole link type number 101 (raw IP)"
unfoldable pub accepted : Order → List ℕ → Bool
accepted o s = eqb (half o s 4) 2 && (eqb (half o s 6) 4 && eqb (word o s 20) 101)

-- an order is kept if the header is accepted in it
abbrev pub if_accepted : List ℕ → Option Order → Option Order
if_accepted s (Some o) = cond (accepted o s) (Some o) None
if_accepted s None = None

-- the order in which a file is opened; "Otherwise, or with fewer than 24 bytes", refused
unfoldable pub opened : List ℕ → Option Order
opened s = cond (ltb (length s) 24) None (if_accepted s (by_magic s))

-- document 01's number for what opening answers
abbrev pub open_answer : Option Order → ℕ
open_answer (Some o) = 0
open_answer None = 12

-- ---- a record: a header of 16 bytes, with seconds at 0, parts of a second at 4, captured length at 8, original length at 12;
-- and then as many bytes as were captured

-- what comes next, by the bytes of a record header or as many of them as there are: a record of so many captured bytes, or how the records end
unfoldable pub next_of : Order → List ℕ → Result ℕ End
next_of o s =
    cond (eqb (length s) 0) (Err Edge)
    (cond (ltb (length s) 16) (Err Cut) (cond (ltb 16384 (word o s 8)) (Err TooLong) (Ok (word o s 8))))

-- ---- the whole capture

-- document 01's number for how the records end:
-- "0 (ended at a record's edge), 1 (record cut short) or 2 (a whole record header with a captured length above 16,384, [..])"
abbrev pub ending_of : End → ℕ
ending_of Edge = 0
ending_of Cut = 1
ending_of TooLong = 2

-- the records, each as its captured bytes, and the number for how they end
pub record Listing : Type 0 where
  pub rows : List (List ℕ)
  pub ending : ℕ

abbrev pub ended : ℕ → Listing
ended n = record { rows = []; ending = n }

-- a record in front of the others
abbrev pub listed : List ℕ → Listing → Listing
listed row l = record { rows = row ∷ l.rows; ending = l.ending }

-- the records of the bytes behind the file header, n of them at most. "A record that ends the list isn't listed."
unfoldable pub records_in : ℕ → Order → List ℕ → Listing
records_in zero o s = ended 0
records_in (suc n) o s =
    cond (eqb (length s) 0) (ended 0)
    (cond (ltb (length s) 16) (ended 1)
    (cond (ltb 16384 (word o s 8)) (ended 2)
    (cond (ltb (length s) (16 + word o s 8)) (ended 1)
    (listed (take (word o s 8) (drop 16 s)) (records_in n o (drop (16 + word o s 8) s))))))

-- all records: there are no more of them than bytes
unfoldable pub records : Order → List ℕ → Listing
records o s = records_in (length s) o s

-- what a record header leads to, with the bytes behind it: document 01's number where the list ends, and otherwise a record
-- if as many bytes can be read as were captured. `step` of `Steps` says that this is how `records` begins.
abbrev pub after : Order → List ℕ → Result ℕ End → Listing
after o rest (Err e) = ended (ending_of e)
after o rest (Ok n) = cond (leb n (length (take n rest))) (listed (take n rest) (records o (drop n rest))) (ended (ending_of Cut))

-- a capture that is refused, or its records
pub data Reading : Type 0 where
  no_capture : ℕ → Reading
  read : Listing → Reading

-- what the whole file is, by what opening it answers: behind its header stand the records
abbrev pub reading_by : List ℕ → Option Order → Reading
reading_by s (Some o) = read (records o (drop 24 s))
reading_by s None = no_capture (open_answer None)

unfoldable pub reading : List ℕ → Reading
reading s = reading_by s (opened s)
