-- What one turn of the loop reads, and that turn after turn it reads the records of the whole capture.
-- Assumes nothing.
use Rattle.std.specs.Prelude.{◌≡◌, refl, Bool, true, false, cond, Option, Result, Ok, Err, List, ◌++◌, ℕ, ◌≤◌, leb, length, take, drop}
use Rattle.std.specs.Io.KnownBytes.{Consumes}
use Rattle.std.proofs.Common.{◌∙◌}
use Rattle.octets.specs.declared.Order.{Order}
use Rattle.capture.specs.declared.End.{End}
use Rattle.capture.specs.declared.End.TheVariants.{Cut}
use Rattle.capture.specs.Pcap.{opened, next_of, ending_of, Listing, ended, listed, records, after}
use Rattle.capture.specs.Steps.{step}

-- What a record header leads to, where so many bytes of its data could be read: a record of so many bytes, or how the list ends, which has a number: "0 (ended at a record's edge), 1 (record cut short) or 2 (a whole record header with a captured length above 16,384, tested before the data is read)"
abbrev pub read_of : Result ℕ End → ℕ → Result ℕ End
read_of (Err e) got = Err e
read_of (Ok n) got = cond (leb n got) (Ok n) (Err Cut)

-- how many bytes of data are read behind it: as many as were captured, and none where there is no record or it is too long
abbrev pub wanted_of : Result ℕ End → ℕ
wanted_of (Err e) = 0
wanted_of (Ok n) = n

-- What opening a file reads: 24 bytes at most, which the input gave, where it is known what it gives. They say in which order it is opened, if it is.
pub record Opens (was is : Option (List ℕ)) (r : Option Order) : Type 0 where
  pub first : List ℕ
  pub told : r ≡ opened first
  pub few : length first ≤ 24
  pub given : Consumes was is first

-- What a turn reads: first bytes of a record header and then of its data, no more of these than are wanted. The input gave them one after the other, where it is known what it gives, and they stand in front of the two buffers.
pub record Reads (o : Order) (head bytes : List ℕ) (was is : Option (List ℕ)) (r : Result ℕ End) : Type 0 where
  pub first : ℕ
  pub behind : ℕ
  pub told : r ≡ read_of (next_of o (take first head)) behind
  pub few : behind ≤ wanted_of (next_of o (take first head))
  pub given : Consumes was is (take first head ++ take behind bytes)

-- THE LOOP'S TURN. Where reading gives the bytes s of a capture in their order, 16 for a header and then as many as are wanted for its data, what was read says how the records of s begin or end.
abbrev pub listing_by : Order → List ℕ → Result ℕ End → Listing
listing_by o s (Ok n) = listed (take n (drop 16 s)) (records o (drop n (drop 16 s)))
listing_by o s (Err e) = ended (ending_of e)

pub turn : (o : Order) (s : List ℕ) → records o s ≡ listing_by o s (read_of (next_of o (take 16 s)) (length (take (wanted_of (next_of o (take 16 s))) (drop 16 s))))
turn o s = step o s ∙ each (next_of o (take 16 s))
  where
    whole : (b : Bool) (n : ℕ) → cond b (listed (take n (drop 16 s)) (records o (drop n (drop 16 s)))) (ended (ending_of Cut)) ≡ listing_by o s (cond b (Ok n) (Err Cut))
    whole true n = refl
    whole false n = refl

    each : (m : Result ℕ End) → after o (drop 16 s) m ≡ listing_by o s (read_of m (length (take (wanted_of m) (drop 16 s))))
    each (Err e) = refl
    each (Ok n) = whole (leb n (length (take n (drop 16 s)))) n
