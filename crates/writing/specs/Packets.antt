-- The packets of a capture: its records as the reader of `capture` goes through them, each with the numbers of its header.
-- Assumes nothing.
use Prim.Native.Nat.{ℕ, zero, suc, ◌≤◌}
use Rattle.std.specs.Prelude.{◌≡◌, Bool, true, false, cond, Option, Some, None, Result, Ok, Err, leb, length, take, drop}
use Rattle.std.proofs.Math.Path.{refl, sym}
use Rattle.std.proofs.Common.{ap, ◌∙◌, arith, length-drop}
use mathlib.Core.List.{List, [], ◌∷◌, map}
use Rattle.octets.specs.declared.Order.{Order}
use Rattle.octets.specs.Octets.{word}
use Rattle.capture.specs.declared.End.{End}
use Rattle.capture.specs.declared.End.TheVariants.{Edge, Cut}
use Rattle.capture.specs.Pcap.{opened, open_answer, next_of, ending_of, Listing, ended, listed, records_in, records, after, Reading, no_capture, read, reading_by, reading}
use Rattle.capture.specs.Cases.{edge}
use Rattle.capture.specs.Steps.{step}

-- a record: seconds and parts of a second, the original length, and the bytes that were captured; the captured length is how many these are
pub record Packet : Type 0 where
  pub seconds : ℕ
  pub fraction : ℕ
  pub original : ℕ
  pub row : List ℕ

-- the packets, and how they end, as in a `Listing`
pub record Packets : Type 0 where
  pub packets : List Packet
  pub ending : ℕ

abbrev pub none : ℕ → Packets
none n = record { packets = []; ending = n }

-- a packet in front of the others
abbrev pub before : Packet → Packets → Packets
before p l = record { packets = p ∷ l.packets; ending = l.ending }

-- the packet at the front of some bytes, of which n were captured: seconds at 0, parts of a second at 4, original length at 12, the data at 16
abbrev pub front : Order → List ℕ → ℕ → Packet
front o s n = record { seconds = word o s 0; fraction = word o s 4; original = word o s 12; row = take n (drop 16 s) }

-- what the bytes s hold, by what comes next; `others` says it of the bytes behind a record
abbrev pub follow : Order → List ℕ → (List ℕ → Packets) → Result ℕ End → Packets
follow o s others (Err e) = none (ending_of e)
follow o s others (Ok n) = cond (leb n (length (take n (drop 16 s)))) (before (front o s n) (others (drop n (drop 16 s)))) (none (ending_of Cut))

-- the packets of the bytes behind the file header, n of them at most: a record header of at most 16 bytes by `next_of`, then its data, and then the same with what is left
unfoldable pub packets_in : ℕ → Order → List ℕ → Packets
packets_in zero o s = none 0
packets_in (suc n) o s = follow o s (packets_in n o) (next_of o (take 16 s))

-- all of them: there are no more than bytes
unfoldable pub packets_of : Order → List ℕ → Packets
packets_of o s = packets_in (length s) o s

-- a capture that is refused, or its packets
pub data Holding : Type 0 where
  refuses : ℕ → Holding
  holds : Packets → Holding

abbrev pub holding_by : List ℕ → Option Order → Holding
holding_by s (Some o) = holds (packets_of o (drop 24 s))
holding_by s None = refuses (open_answer None)

-- THE PACKETS OF A FILE, by what opening it answers
unfoldable pub holding : List ℕ → Holding
holding s = holding_by s (opened s)

-- ---- with the numbers of the headers left out, these are the records that `capture` says

abbrev pub plain : Packets → Listing
plain l = record { rows = map (λ (p : Packet). p.row) l.packets; ending = l.ending }

abbrev pub plainly : Holding → Reading
plainly (refuses n) = no_capture n
plainly (holds l) = read (plain l)

module _ (o : Order) where
  whole : (b : Bool) (p : Packet) (l : Packets) (m : Listing) → plain l ≡ m → plain (cond b (before p l) (none 1)) ≡ cond b (listed p.row m) (ended 1)
  whole true p l m e = ap (λ x. listed p.row x) e
  whole false p l m e = refl

  each : (s : List ℕ) (f : List ℕ → Packets) → ((n : ℕ) → plain (f (drop n (drop 16 s))) ≡ records o (drop n (drop 16 s))) → (m : Result ℕ End) → plain (follow o s f m) ≡ after o (drop 16 s) m
  each s f h (Err e) = refl
  each s f h (Ok n) = whole (leb n (length (take n (drop 16 s)))) (front o s n) (f (drop n (drop 16 s))) (records o (drop n (drop 16 s))) (h n)

  at_end : records o [] ≡ ended 0
  unfolding records_in records
  at_end = refl

  same_in : (n : ℕ) (s : List ℕ) → length s ≤ n → plain (packets_in n o s) ≡ records o s
  unfolding packets_in
  same_in zero [] h = sym at_end
  same_in zero (x ∷ s) h = absurd (omega arith)
  same_in (suc n) s h =
      each s (packets_in n o) (λ k. same_in n (drop k (drop 16 s)) (rw (length-drop, length-drop) (omega arith))) (next_of o (take 16 s)) ∙ sym (step o s)

  pub same_records : (s : List ℕ) → plain (packets_of o s) ≡ records o s
  unfolding packets_of
  same_records s = same_in (length s) s (omega arith)

pub same_reading : (s : List ℕ) → plainly (holding s) ≡ reading s
unfolding holding reading
same_reading s = pick (opened s)
  where
    pick : (m : Option Order) → plainly (holding_by s m) ≡ reading_by s m
    pick (Some o) = ap (λ l. read l) (same_records o (drop 24 s))
    pick None = refl

-- ---- turn by turn

module _ (o : Order) where
  -- what comes next decides by the packets of the bytes behind a record alone
  alike : (s : List ℕ) (f g : List ℕ → Packets) → ((n : ℕ) → f (drop n (drop 16 s)) ≡ g (drop n (drop 16 s))) → (m : Result ℕ End) → follow o s f m ≡ follow o s g m
  alike s f g h (Err e) = refl
  alike s f g h (Ok n) = rw (h n)

  at_edge : next_of o (take 16 []) ≡ Err Edge
  at_edge = sym (edge o [] refl)

  -- more turns than bytes change nothing
  enough : (m n : ℕ) (s : List ℕ) → length s ≤ m → length s ≤ n → packets_in m o s ≡ packets_in n o s
  unfolding packets_in
  enough zero zero s h k = refl
  enough zero (suc n) [] h k = rw at_edge
  enough (suc m) zero [] h k = rw at_edge
  enough zero (suc n) (x ∷ s) h k = absurd (omega arith)
  enough (suc m) zero (x ∷ s) h k = absurd (omega arith)
  enough (suc m) (suc n) s h k =
      alike s (packets_in m o) (packets_in n o) (λ i. enough m n (drop i (drop 16 s)) (rw (length-drop, length-drop) (omega arith)) (rw (length-drop, length-drop) (omega arith))) (next_of o (take 16 s))

  -- The packets of some bytes begin with what the first 16 of them decide, and go on with the rest.
  pub packets_step : (s : List ℕ) → packets_of o s ≡ follow o s (packets_of o) (next_of o (take 16 s))
  unfolding packets_of packets_in
  packets_step [] = rw at_edge
  packets_step (x ∷ s) =
      alike (x ∷ s) (packets_in (length s) o) (λ t. packets_in (length t) o t) (λ i. enough (length s) (length (drop i (drop 16 (x ∷ s)))) (drop i (drop 16 (x ∷ s))) (rw (length-drop, length-drop) (omega arith)) (omega arith)) (next_of o (take 16 (x ∷ s)))
