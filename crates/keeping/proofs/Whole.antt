-- What is kept of a whole capture, over the definitions of specs/Whole.antt: a turn of the loop, and that the written file gives the kept records back.
-- Assumes nothing.
use Rattle.std.specs.Prelude.{◌≡◌, Bool, cond, Result, Ok, Err, leb, take, drop}
use Rattle.std.proofs.Math.Path.{refl, ap}
use Rattle.std.proofs.Common.{◌∙◌, arith, lit<, get_or-take, get_or-drop}
use Rattle.std.proofs.Math.Bool.{true, false}
use mathlib.Core.List.{List, [], ◌∷◌, ◌++◌}
use Prim.Native.Nat.{ℕ, zero, suc, ◌+◌, ◌≤◌, ◌<◌}
use Rattle.std.proofs.Math.ListN.{length, length-take}
use Rattle.octets.specs.declared.Order.{Order}
use Rattle.octets.specs.declared.Order.TheVariants.{Big, Little}
use Rattle.octets.specs.Octets.{word}
use Rattle.capture.specs.declared.End.{End}
use Rattle.capture.specs.declared.End.TheVariants.{Cut}
use Rattle.capture.specs.Pcap.{next_of, ending_of}
use Rattle.listing.proofs.Records.{data_small}
use Rattle.listing.specs.Records.{read_of, wanted_of}
use Rattle.lookup.specs.Walk.{lookup_packet}
use Rattle.writing.specs.Writing.{file_header}
use Rattle.writing.specs.Packets.{Packet, Packets, none, before, front, follow, packets_in, packets_of, holds, holding, packets_step}
use Rattle.writing.specs.Back.{all_bytes, AllNumbers, AllShort, nil, cons}
use Rattle.writing.proofs.Back.{file_back}
use Rattle.keeping.specs.Keep.{gives, kept_bytes, chosen}
use Rattle.keeping.specs.Whole.{kept_all, kept_by, Bytes}

module _ (ws : List ℕ) (a : ℕ) (o : Order) (s : List ℕ) where
  head_word : (at : ℕ) → at + 3 < 16 → word o (take 16 s) at ≡ word o s at
  head_word at h =
      rw (get_or-take 16 s at 0 (omega arith), get_or-take 16 s (at + 1) 0 (omega arith), get_or-take 16 s (at + 2) 0 (omega arith), get_or-take 16 s (at + 2 + 1) 0 (omega arith))

  no_more : (e : ℕ) → all_bytes (chosen ws a (none e).packets) ≡ []
  unfolding all_bytes chosen
  no_more e = refl

  one_kept : (n : ℕ) (l : Packets) (g : Bool) → gives a (lookup_packet ws (take n (drop 16 s))) ≡ g → all_bytes (chosen ws a (before (front o s n) l).packets) ≡ kept_bytes ws a o (take 16 s) (take n (drop 16 s)) ++ all_bytes (chosen ws a l.packets)
  unfolding all_bytes chosen
  one_kept n l true e = rw (e, head_word 0 (lit< tt), head_word 4 (lit< tt), head_word 12 (lit< tt))
  one_kept n l false e = rw e

  each : (m : Result ℕ End) → all_bytes (chosen ws a (follow o s (packets_of o) m).packets) ≡ kept_by ws a o s (read_of m (length (take (wanted_of m) (drop 16 s))))
  unfolding kept_all
  each (Err e) = no_more (ending_of e)
  each (Ok n) = whole (leb n (length (take n (drop 16 s))))
    where
      whole : (b : Bool) → all_bytes (chosen ws a (cond b (before (front o s n) (packets_of o (drop n (drop 16 s)))) (none (ending_of Cut))).packets) ≡ kept_by ws a o s (cond b (Ok n) (Err Cut))
      whole true = one_kept n (packets_of o (drop n (drop 16 s))) _ refl
      whole false = no_more (ending_of Cut)

  -- THE LOOP'S TURN. Where reading gives the bytes s of a capture in their order, 16 for a header and then as many as are wanted for its data, what is written in a turn is how what is kept of s begins or ends.
  pub turn : kept_all ws a o s ≡ kept_by ws a o s (read_of (next_of o (take 16 s)) (length (take (wanted_of (next_of o (take 16 s))) (drop 16 s))))
  unfolding kept_all
  turn = ap (λ l. all_bytes (chosen ws a l.packets)) (packets_step o s) ∙ each (next_of o (take 16 s))

-- a number of four bytes has 32 bits
word_fits : (o : Order) (s : List ℕ) (at : ℕ) → Bytes s → word o s at < 4294967296
word_fits Big s at h = omega (arith, h at, h (at + 1), h (at + 2), h (at + 2 + 1))
word_fits Little s at h = omega (arith, h at, h (at + 1), h (at + 2), h (at + 2 + 1))

dropped : (n : ℕ) (s : List ℕ) → Bytes s → Bytes (drop n s)
dropped n s h i = rw get_or-drop (h (n + i))

module _ (o : Order) where
  -- the packets of a capture are short enough, and have numbers of 32 bits
  pub read_short : (n : ℕ) (s : List ℕ) → AllShort (packets_in n o s).packets
  unfolding packets_in
  read_short zero s = nil
  read_short (suc n) s = by_next (next_of o (take 16 s)) refl (λ k. read_short n (drop k (drop 16 s)))
    where
      whole : (k : ℕ) (b : Bool) → k ≤ 16384 → AllShort (packets_in n o (drop k (drop 16 s))).packets → AllShort (cond b (before (front o s k) (packets_in n o (drop k (drop 16 s)))) (none (ending_of Cut))).packets
      whole k true h x = let n : length (take k (drop 16 s)) ≤ 16384 = omega (arith, length-take k (drop 16 s)) in cons n x
      whole k false h x = nil

      by_next : (m : Result ℕ End) → m ≡ next_of o (take 16 s) → ((k : ℕ) → AllShort (packets_in n o (drop k (drop 16 s))).packets) → AllShort (follow o s (packets_in n o) m).packets
      by_next (Err z) e h = nil
      by_next (Ok k) e h = whole k (leb k (length (take k (drop 16 s)))) (data_small o (take 16 s) k e) (h k)

  pub read_numbers : (n : ℕ) (s : List ℕ) → Bytes s → AllNumbers (packets_in n o s).packets
  unfolding packets_in
  read_numbers zero s w = nil
  read_numbers (suc n) s w = by_next (next_of o (take 16 s)) (λ k. read_numbers n (drop k (drop 16 s)) (dropped k (drop 16 s) (dropped 16 s w)))
    where
      whole : (k : ℕ) (b : Bool) → AllNumbers (packets_in n o (drop k (drop 16 s))).packets → AllNumbers (cond b (before (front o s k) (packets_in n o (drop k (drop 16 s)))) (none (ending_of Cut))).packets
      whole k true x = cons (record { seconds = word_fits o s 0 w; fraction = word_fits o s 4 w; original = word_fits o s 12 w }) x
      whole k false x = nil

      by_next : (m : Result ℕ End) → ((k : ℕ) → AllNumbers (packets_in n o (drop k (drop 16 s))).packets) → AllNumbers (follow o s (packets_in n o) m).packets
      by_next (Err e) h = nil
      by_next (Ok k) h = whole k (leb k (length (take k (drop 16 s)))) (h k)

-- and so are those of them that are kept
module _ (ws : List ℕ) (a : ℕ) where
  chosen_short : (ps : List Packet) → AllShort ps → AllShort (chosen ws a ps)
  unfolding chosen
  chosen_short [] nil = nil
  chosen_short (p ∷ ps) (cons h x) = pick (gives a (lookup_packet ws p.row)) (chosen_short ps x)
    where
      pick : (b : Bool) → AllShort (chosen ws a ps) → AllShort (cond b (p ∷ chosen ws a ps) (chosen ws a ps))
      pick true y = cons h y
      pick false y = y

  chosen_numbers : (ps : List Packet) → AllNumbers ps → AllNumbers (chosen ws a ps)
  unfolding chosen
  chosen_numbers [] nil = nil
  chosen_numbers (p ∷ ps) (cons h x) = pick (gives a (lookup_packet ws p.row)) (chosen_numbers ps x)
    where
      pick : (b : Bool) → AllNumbers (chosen ws a ps) → AllNumbers (cond b (p ∷ chosen ws a ps) (chosen ws a ps))
      pick true y = cons h y
      pick false y = y

  -- THE WHOLE OUTPUT, a file header and what is kept of the bytes behind the header that was read, is a capture of exactly the packets that were kept, each with the numbers and the bytes that it was read with, in order, ended at an edge.
  pub kept_back : (o : Order) (s : List ℕ) → Bytes s → holding (file_header ++ kept_all ws a o s) ≡ holds (record { packets = chosen ws a (packets_of o s).packets; ending = 0 })
  unfolding kept_all packets_of
  kept_back o s w =
      let ps = (packets_in (length s) o s).packets in
      file_back (chosen ws a ps) (chosen_numbers ps (read_numbers o (length s) s w)) (chosen_short ps (read_short o (length s) s))
