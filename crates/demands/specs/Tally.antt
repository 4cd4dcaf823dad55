-- TALLIES, request P1, in plain facts. "A tally record is lent to the lookup and changed in place: for the winning rule it adds one packet and the packet's total length in bytes." What the lookup that counts answers and leaves is defined in tally/specs/Tally.antt; its refusals are in Demand1, and what demands 2 and 3 say of it in Demand2 and Demand3.
-- `Tallied` is what is claimed; proofs/Tally.antt proves it. Assumes nothing.
use Rattle.std.specs.Prelude.{◌≡◌, Bool, cond, ◌&&◌, ◌⊎◌, ◌≢◌, List, [], ◌∷◌, map, ℕ, suc, ◌+◌, ◌%◌, ◌≤◌, ◌<◌, ◌^◌, eqb, length, get_or, set}
use Rattle.model.specs.Lists.{In}
use Rattle.model.specs.Table.{Kind, Rule, number_of}
use Rattle.model.specs.Ipv4.{large, kind_in}
use Rattle.header.specs.Header.{total_length}
use Rattle.layout.specs.Store.{insert_says, insert_words, delete_says, delete_words}
use Rattle.lookup.specs.Walk.{lookup_packet}
use Rattle.tally.specs.declared.Tallies.{Tallies}
use Rattle.tally.specs.Tally.{tally_answer, tallies_left, cleared, difference}
use Rattle.demands.specs.Calls.{Passes, every_in}

-- the three numbers at a place
abbrev pub key_at : Tallies → ℕ → ℕ
key_at t i = get_or t.key i 0

abbrev pub packets_at : Tallies → ℕ → ℕ
packets_at t i = get_or t.packets i 0

abbrev pub bytes_at : Tallies → ℕ → ℕ
bytes_at t i = get_or t.bytes i 0

-- the place is "keyed by a rule number", this one; it is "unused", its key above 65,535
abbrev pub HoldsAt : ℕ → Tallies → ℕ → Type 0
HoldsAt n t i = (key_at t i ≤ 65535) × (key_at t i ≡ n)

abbrev pub UnusedAt : Tallies → ℕ → Type 0
UnusedAt t i = 65535 < key_at t i

-- it is the first of the record's places of which P holds
abbrev pub FirstAt : (ℕ → Type 0) → Tallies → ℕ → Type 0
FirstAt P t i = (i < length t.key) × P i × ((j : ℕ) → j < i → P j → ⊥)

abbrev pub Nowhere : (ℕ → Type 0) → Tallies → Type 0
Nowhere P t = (j : ℕ) → j < length t.key → P j → ⊥

-- "13 when a new number finds no place"
abbrev pub NoPlace : ℕ → Tallies → Type 0
NoPlace n t = Nowhere (HoldsAt n t) t × Nowhere (UnusedAt t) t

-- a record of m places: its three arrays. "There are 65 places", and by P9 513, one for each rule of a full table, and one for the default
pub record Places (m : ℕ) (t : Tallies) : Type 0 where
  pub keys : length t.key ≡ m
  pub packets : length t.packets ≡ m
  pub bytes : length t.bytes ≡ m

abbrev pub Whole : Tallies → Type 0
Whole = Places (suc large.most)

-- a packet of so many bytes was counted for the number n: t was lent, and u is left
pub record AddedTo (n total : ℕ) (t u : Tallies) : Type 0 where
  pub place : ℕ
  pub packets_before : ℕ
  pub bytes_before : ℕ
  -- "a number held twice counts in the first, a number not yet held takes the first unused one, from zero"
  pub from :
      (FirstAt (HoldsAt n t) t place × (packets_before ≡ packets_at t place) × (bytes_before ≡ bytes_at t place))
      ⊎ (Nowhere (HoldsAt n t) t × FirstAt (UnusedAt t) t place × (packets_before ≡ 0) × (bytes_before ≡ 0))
  -- "adds one packet and the packet's total length in bytes. [..] a tally starts again at zero after 4,294,967,295"
  pub key : key_at u place ≡ n
  pub packets : packets_at u place ≡ (packets_before + 1) % 4294967296
  pub bytes : bytes_at u place ≡ (bytes_before + total) % 4294967296
  -- "Every other tally stays"
  pub others : (j : ℕ) → j ≢ place → (key_at u j ≡ key_at t j) × (packets_at u j ≡ packets_at t j) × (bytes_at u j ≡ bytes_at t j)

-- BETWEEN TWO READINGS: lookups of packets, each in the words of some store; and "the crew's tool drops a tally", which makes a place unused by writing a key above 65,535
pub data Event : Type 0 where
  looks : (words packet : List ℕ) → Event
  drops : (place key : ℕ) → 65535 < key → Event

abbrev pub tallies_next : Tallies → Event → Tallies
tallies_next t (looks words packet) = tallies_left words packet t
tallies_next t (drops place key unused) = record { key = set t.key place key; packets = t.packets; bytes = t.bytes }

abbrev pub tallies_after : Tallies → List Event → Tallies
tallies_after t [] = t
tallies_after t (e ∷ es) = tallies_after (tallies_next t e) es

-- the number decides the packet, and the lookup is not refused
abbrev pub decides_for : ℕ → List ℕ → List ℕ → Tallies → Bool
decides_for n words packet t = eqb (tally_answer words packet t).answer 0 && eqb (tally_answer words packet t).rule n

-- what the events add to the tally of the number n: packets where each counts 1, bytes where each counts its total length
abbrev pub adds : (List ℕ → ℕ) → ℕ → Tallies → List Event → ℕ
adds weight n t [] = 0
adds weight n t (looks words packet ∷ es) = cond (decides_for n words packet t) (weight packet) 0 + adds weight n (tallies_left words packet t) es
adds weight n t (drops place key unused ∷ es) = adds weight n (tallies_next t (drops place key unused)) es

abbrev pub packets_added : ℕ → Tallies → List Event → ℕ
packets_added = adds (λ packet. 1)

abbrev pub bytes_added : ℕ → Tallies → List Event → ℕ
bytes_added = adds total_length

-- "and the tally wasn't dropped": no event drops the first place that holds the number
abbrev pub Undropped : ℕ → Tallies → List Event → Type 0
Undropped n t [] = Unit {0}
Undropped n t (looks words packet ∷ es) = Undropped n (tallies_next t (looks words packet)) es
Undropped n t (drops place key unused ∷ es) = (FirstAt (HoldsAt n t) t place → ⊥) × Undropped n (tallies_next t (drops place key unused)) es

-- a reader reads x of one of the two counts for the number n: what stands at the first place that holds it, and 0 where none does. (A count is a word, below 2^32.)
pub record ReadAs (count_at : Tallies → ℕ → ℕ) (n : ℕ) (t : Tallies) (x : ℕ) : Type 0 where
  pub found : ((i : ℕ) × FirstAt (HoldsAt n t) t i × (x ≡ count_at t i)) ⊎ (Nowhere (HoldsAt n t) t × (x ≡ 0))
  pub small : x < 2 ^ 32

-- A RECORD IS WELL KEPT beside a store: no number is held twice, and each is the number of a rule of the store, or the default's
pub record WellKept (k : Kind) (ws : List ℕ) (t : Tallies) : Type 0 where
  pub once : (i j : ℕ) → i < length t.key → j < length t.key → key_at t i ≤ 65535 → key_at t i ≡ key_at t j → i ≡ j
  pub ours : (i : ℕ) → i < length t.key → key_at t i ≤ 65535 → In (key_at t i) (map number_of (every_in k ws))

-- "the crew's tool drops a tally when its rule is deleted": each place of t that holds the number is unused in u, and every other has the key that it had
pub record Dropped (n : ℕ) (t u : Tallies) : Type 0 where
  pub long : length u.key ≡ length t.key
  pub gone : (i : ℕ) → i < length t.key → HoldsAt n t i → UnusedAt u i
  pub stays : (i : ℕ) → i < length t.key → (HoldsAt n t i → ⊥) → key_at u i ≡ key_at t i

pub record Tallied : Type 0 where
  -- a lookup that is not refused answers as the lookup by a packet does, and counts it for the rule that it names
  pub counts : (ws bytes : List ℕ) (t : Tallies) → Whole t → (tally_answer ws bytes t).answer ≡ 0
      → (tally_answer ws bytes t ≡ lookup_packet ws bytes) × AddedTo (lookup_packet ws bytes).rule (total_length bytes) t (tallies_left ws bytes t)
  -- a record keeps its size
  pub whole : (ws bytes : List ℕ) (t : Tallies) → Whole t → Whole (tallies_left ws bytes t)
  -- "A reader's difference of two readings is right if fewer than 2^32 were added between them and the tally wasn't dropped", whether the number was held at the first reading or not. (A rule's number is at most 65,535.)
  pub packets_right : (t : Tallies) → Whole t → (n : ℕ) → n ≤ 65535 → (es : List Event) → Undropped n t es → packets_added n t es < 2 ^ 32
      → (x y : ℕ) → ReadAs packets_at n t x → ReadAs packets_at n (tallies_after t es) y → difference x y ≡ packets_added n t es
  pub bytes_right : (t : Tallies) → Whole t → (n : ℕ) → n ≤ 65535 → (es : List Event) → Undropped n t es → bytes_added n t es < 2 ^ 32
      → (x y : ℕ) → ReadAs bytes_at n t x → ReadAs bytes_at n (tallies_after t es) y → difference x y ≡ bytes_added n t es
  -- and the place of a number that was held is still its own
  pub place_kept : (t : Tallies) (n i : ℕ) → FirstAt (HoldsAt n t) t i → (es : List Event) → Undropped n t es → FirstAt (HoldsAt n (tallies_after t es)) (tallies_after t es) i
  -- "A record that began clear, and from which the tally of each deleted rule is dropped, has room for a full table and its default" (include/reamstork.h): a clear record is well kept, lookups and accepted inserts keep it so, and so does an accepted delete after which the number's tally is dropped
  pub clear_kept : (ws : List ℕ) → WellKept (kind_in ws) ws cleared
  pub look_kept : (ws : List ℕ) → Passes (kind_in ws) ws → (bytes : List ℕ) (t : Tallies) → WellKept (kind_in ws) ws t → WellKept (kind_in ws) ws (tallies_left ws bytes t)
  pub insert_kept : (ws : List ℕ) (r : Rule) → insert_says (kind_in ws) ws r ≡ 0 → (t : Tallies) → WellKept (kind_in ws) ws t → WellKept (kind_in (insert_words (kind_in ws) ws r)) (insert_words (kind_in ws) ws r) t
  pub delete_kept : (ws : List ℕ) (n : ℕ) → delete_says (kind_in ws) ws n ≡ 0 → (t u : Tallies) → Dropped n t u → WellKept (kind_in ws) ws t → WellKept (kind_in (delete_words (kind_in ws) ws n)) (delete_words (kind_in ws) ws n) u
  -- and beside a store that passes, a well-kept record is never refused with 13
  pub room : (ws : List ℕ) → Passes (kind_in ws) ws → (t : Tallies) → Whole t → WellKept (kind_in ws) ws t → (bytes : List ℕ) → tally_answer ws bytes t ≡ lookup_packet ws bytes
