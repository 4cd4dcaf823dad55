-- THE FROZEN TABLE, request P8. "For the timing sheet I want a read-only image of a store's tree."
-- What the calls answer and leave is defined in frozen/specs/Frozen.antt and image/specs/Image.antt, by the words of an image (`image_text`) and by a walk of its blocks; here it is said by the store's rules and by its lookups.
-- `Frozen` is what is claimed; proofs/Frozen.antt proves it. Assumes nothing.
use Rattle.std.specs.Prelude.{◌≡◌, ◌↔◌, ◌≢◌, List, map, ◌++◌, ℕ, zero, suc, ◌+◌, ◌*◌, ◌≤◌, ◌<◌, ◌^◌, length, take, drop}
use Rattle.model.specs.Lists.{In, Rising, sum, up_to}
use Rattle.model.specs.Table.{Kind, Rule, front}
use Rattle.model.specs.Bench.{Row, rows}
use Rattle.model.specs.Ipv4.{large, kind_in}
use Rattle.header.specs.declared.Packet.{Packet}
use Rattle.std.specs.Prelude.{Ok}
use Rattle.header.specs.Header.{total_length, header_of}
use Rattle.header.specs.Facts.{WithinTops, Faulty}
use Rattle.layout.specs.Store.{size, table_of, cells_gives}
use Rattle.frozen.specs.Frozen.{image_text, total_says, total_gives, freeze_says, freeze_words, image_says}
use Rattle.lookup.specs.declared.Found.{Found}
use Rattle.lookup.specs.Walk.{lookup_packet}
use Rattle.tally.specs.declared.Tallies.{Tallies}
use Rattle.tally.specs.Tally.{tally_answer, tallies_left}
use Rattle.image.specs.Image.{image_lookup, image_packet, image_tally, image_tallies}
use Rattle.demands.specs.Calls.{Passes, rules_in, every_in, field_count, low_at, high_at, HoldsFirst, AboveTop, values_in, Bytes, lookup}
use Rattle.demands.specs.Blocks.{ImageUndecided}
use Rattle.demands.specs.Demand1.{Refuses, done, OnlyAnswer}
use Rattle.demands.specs.Demand3.{History, words_left, SameRules, EndOf}
use Rattle.demands.specs.Bench.{words_both, as_packet}
use Rattle.demands.specs.Dead.{SameRule}
use Rattle.demands.specs.Tally.{NoPlace}

-- THE IMAGE of a store, all its words, and how many they are to be
abbrev pub image_of : List ℕ → List ℕ
image_of ws = image_text (kind_in ws) (table_of (kind_in ws) ws)

abbrev pub total_of : List ℕ → ℕ
total_of ws = total_gives (kind_in ws) ws

-- an accepted freeze of the store ws: it was lent the words before, and leaves the words after
pub record Froze (ws before after : List ℕ) : Type 0 where
  -- the first words are the image
  pub image : take (total_of ws) after ≡ image_of ws
  -- "and words behind it stay"
  pub behind : drop (total_of ws) after ≡ drop (total_of ws) before
  pub long : length after ≡ length before

-- the words of "some passing store's image"
abbrev pub IsImage : List ℕ → Type 0
IsImage image = (ws : List ℕ) × Passes (kind_in ws) ws × (image ≡ image_of ws)

-- two stores whose images no call tells apart
pub record SameImages (ws vs : List ℕ) : Type 0 where
  pub image : image_of ws ≡ image_of vs
  pub total : (total_says (kind_in ws) ws ≡ total_says (kind_in vs) vs) × (total_of ws ≡ total_of vs)
  pub freeze : (slice : List ℕ) → (freeze_says (kind_in ws) ws slice ≡ freeze_says (kind_in vs) vs slice) × (freeze_words (kind_in ws) ws slice ≡ freeze_words (kind_in vs) vs slice)

-- THE BLOCKS. p is ceil(m / 8)
abbrev pub Eighths : ℕ → ℕ → Type 0
Eighths m p = (m ≤ 8 * p) × (8 * p < m + 8)

-- "The m ends under one location stand in ceil(m / 8) blocks of 8, with blocks of 8 links above them, and so on until one is left": these are n blocks in all
pub data Stacks : ℕ → ℕ → Type 0 where
  none : Stacks 0 0
  one : {m : ℕ} → 0 < m → m ≤ 8 → Stacks m 1
  more : {m p n : ℕ} → 8 < m → Eighths m p → Stacks p n → Stacks m (p + n)

-- a field i of some rules, R says which: under one location of the field before stand n blocks, with all that is below them, where Below says that of the next field
pub record UnderOne (R : Rule → Type 0) (i : ℕ) (Below : (Rule → Type 0) → ℕ → Type 0) (n : ℕ) : Type 0 where
  -- the ends of the rules in the field: all of them, nothing else, and each once, since the list rises
  pub ends : List ℕ
  pub listed : (e : ℕ) → In e ends ↔ ((r : Rule) × R r × EndOf r i e)
  pub distinct : Rising ends
  -- the blocks of these ends
  pub own : ℕ
  pub stacks : Stacks (length ends) own
  -- and under each end what the rules take that cover it
  pub under : ℕ → ℕ
  pub covering : (e : ℕ) → In e ends → Below (λ r. R r × (low_at r i ≤ e) × (e ≤ high_at r i)) (under e)
  pub summed : n ≡ own + sum (map under ends)

-- some rules take n blocks from field i on, where so many fields are left
abbrev pub Takes : ℕ → (Rule → Type 0) → ℕ → ℕ → Type 0
Takes zero R i n = n ≡ 0
Takes (suc left) R i n = UnderOne R i (λ S m. Takes left S (suc i) m) n

-- THE LOOKUP over an image, of a packet's record. (That by an IPv4 packet is `image_packet` of image/specs/Image.antt.)
abbrev pub lookup_over : List ℕ → Packet → Found
lookup_over image p = image_lookup (kind_in image) image (values_in p)

-- e is, in field i, one of the ends of the rules that hold the packet's earlier values
abbrev pub EndLeft : List Rule → List ℕ → ℕ → ℕ → Type 0
EndLeft rules vs i e = (r : Rule) × In r rules × HoldsFirst i vs r × EndOf r i e

-- "the least L of at least 1 with 8^L not below m"
pub record Levels (m L : ℕ) : Type 0 where
  pub some : 1 ≤ L
  pub enough : m ≤ 8 ^ L
  pub least : (j : ℕ) → 1 ≤ j → m ≤ 8 ^ j → L ≤ j

-- the count of blocks for the values vs over these rules: "blocks read: for each field the least L .."
pub record BlocksRead (k : Kind) (rules : List Rule) (vs : List ℕ) (reads : ℕ) : Type 0 where
  -- for each field a list of its ends: all of them, nothing else, and each once, since the list rises
  pub ends : ℕ → List ℕ
  pub listed : (i : ℕ) → i < field_count k → (e : ℕ) → In e (ends i) ↔ EndLeft rules vs i e
  pub distinct : (i : ℕ) → i < field_count k → Rising (ends i)
  -- and the blocks of these m ends that are read
  pub blocks : ℕ → ℕ
  pub levels : (i : ℕ) → i < field_count k → Levels (length (ends i)) (blocks i)
  pub summed : reads ≡ sum (up_to (field_count k) blocks)

-- what is said of the image of a store that passes, whatever words stand behind it
pub record Gives (ws image : List ℕ) : Type 0 where
  -- "A lookup over the image gives the store's rule and action for every packet"; a record with a value above its top gets 11 from both
  pub by_values : (p : Packet) → SameRule (lookup_over image p) (lookup ws p)
  pub answer : (p : Packet) → WithinTops p → (lookup_over image p).answer ≡ 0
  -- the same of a packet's bytes, the refusals 7 and 14 among them
  pub by_packet : (bytes : List ℕ) → SameRule (image_packet image bytes) (lookup_packet ws bytes)
  -- and with tallies, which are left the same
  pub by_tally : (bytes : List ℕ) (t : Tallies) → SameRule (image_tally image bytes t) (tally_answer ws bytes t)
  pub same_tallies : (bytes : List ℕ) (t : Tallies) → image_tallies image bytes t ≡ tallies_left ws bytes t
  -- "It reports blocks read", over the store's rules, "the default rule included"
  pub count : (p : Packet) → WithinTops p → BlocksRead (kind_in ws) (every_in (kind_in ws) ws) (values_in p) (lookup_over image p).reads
  pub count_packet : (bytes : List ℕ) → Bytes bytes → (p : Packet) → header_of bytes ≡ Ok p → BlocksRead (kind_in ws) (every_in (kind_in ws) ws) (values_in p) (image_packet image bytes).reads
  -- with tallies, where it is not refused
  pub count_tally : (bytes : List ℕ) → Bytes bytes → (p : Packet) → header_of bytes ≡ Ok p → (t : Tallies) → (image_tally image bytes t).answer ≡ 0 → BlocksRead (kind_in ws) (every_in (kind_in ws) ws) (values_in p) (image_tally image bytes t).reads
  -- "With n rules that is at most the number of fields times the least L for 2 × n + 1": so for every L that is enough, and for the least
  pub most : (p : Packet) (L : ℕ) → 1 ≤ L → 2 * length (rules_in (kind_in ws) ws) + 1 ≤ 8 ^ L → (lookup_over image p).reads ≤ field_count (kind_in ws) * L
  pub most_packet : (bytes : List ℕ) (L : ℕ) → 1 ≤ L → 2 * length (rules_in (kind_in ws) ws) + 1 ≤ 8 ^ L → (image_packet image bytes).reads ≤ field_count (kind_in ws) * L
  -- "so 18 for 64 rules and six fields", and by P9 "its bound 24 for 512 rules", which no store exceeds
  pub most_18 : length (rules_in (kind_in ws) ws) ≤ 64 → (p : Packet) → (lookup_over image p).reads ≤ 18
  pub most_18_packet : length (rules_in (kind_in ws) ws) ≤ 64 → (bytes : List ℕ) → (image_packet image bytes).reads ≤ 18
  pub most_24 : (p : Packet) → (lookup_over image p).reads ≤ 24
  pub most_24_packet : (bytes : List ℕ) → (image_packet image bytes).reads ≤ 24

-- what a lookup of a starred row over the bench table's image is to answer: the row's rule and action, and 6 blocks, one for each field, since no field has more than 8 ends
abbrev pub frozen_for : Row → Found
frozen_for r = record { answer = 0; rule = r.rule; action = r.action; reads = 6 }

-- the bench table of document 01, in a store of c cells over the words lent
pub record FrozenBench (lent : List ℕ) (c : ℕ) : Type 0 where
  pub lookups : map (λ r. lookup_over (image_of (words_both lent c)) (as_packet r.asked)) rows ≡ map frozen_for rows
  -- its 54 locations take 41 blocks
  pub total : total_of (words_both lent c) ≡ 8192 + 16 * 41

pub record Frozen : Type 0 where
  -- THE TOTAL: 9 exactly when the check fails, and then 0 words
  pub total_answer : (ws : List ℕ) → Refuses 9 (Passes (kind_in ws) ws → ⊥) done (total_says (kind_in ws) ws)
  pub total_zeros : (ws : List ℕ) → total_says (kind_in ws) ws ≢ 0 → total_of ws ≡ 0
  -- "A block takes 16 words, and 1,024 words in front hold the rules; the total is exact": of the store's rules, "the default rule included". By P9 the "front part becomes 8,192 words for a new store"
  pub total : (ws : List ℕ) → Passes (kind_in ws) ws → (n : ℕ) × Takes (field_count (kind_in ws)) (λ r. In r (every_in (kind_in ws) ws)) 0 n × (total_of ws ≡ front (kind_in ws) + 16 * n)
  -- no other n is so many
  pub total_one : (ws : List ℕ) (n m : ℕ) → Takes (field_count (kind_in ws)) (λ r. In r (every_in (kind_in ws) ws)) 0 n → Takes (field_count (kind_in ws)) (λ r. In r (every_in (kind_in ws) ws)) 0 m → n ≡ m
  pub total_exact : (ws : List ℕ) → Passes (kind_in ws) ws → length (image_of ws) ≡ total_of ws
  -- no image has more blocks than its store has cells in use: so much a slice may be lent for it without asking for the total
  pub total_most : (ws : List ℕ) → Passes (kind_in ws) ws → total_of ws ≤ front (kind_in ws) + 16 * cells_gives (kind_in ws) ws
  -- FREEZING "gives 9, then 8 exactly if the slice is shorter than the total"
  pub freeze : (ws slice : List ℕ) → Refuses 9 (Passes (kind_in ws) ws → ⊥) (Refuses 8 (length slice < total_of ws) done) (freeze_says (kind_in ws) ws slice)
  -- a refusal leaves every word
  pub freeze_refused : (ws slice : List ℕ) → freeze_says (kind_in ws) ws slice ≢ 0 → freeze_words (kind_in ws) ws slice ≡ slice
  pub froze : (ws slice : List ℕ) → freeze_says (kind_in ws) ws slice ≡ 0 → Froze ws slice (freeze_words (kind_in ws) ws slice)
  -- so over a slice of just the total the image is all that is left
  pub froze_whole : (ws slice : List ℕ) → Passes (kind_in ws) ws → length slice ≡ total_of ws → freeze_words (kind_in ws) ws slice ≡ image_of ws
  -- THE IMAGE CHECK "accepts exactly the words of some passing store's image, of its exact length", and says 9 of all others
  pub check : (image : List ℕ) → Refuses 9 (IsImage image → ⊥) done (image_says (kind_in image) image)
  pub check_accepts : (image : List ℕ) → (image_says (kind_in image) image ≡ 0) ↔ IsImage image
  -- no words are an image and a store that passes
  pub no_store : (image : List ℕ) → IsImage image → Passes (kind_in image) image → ⊥
  -- an image holds nothing of the past, and no number of cells: as demand 3 has it, two fresh stores and any two runs of edits that leave the same rules and the same default have the same image, bit for bit
  pub alike : (g h : History) → SameRules (words_left g) (words_left h) → g.large ≡ h.large → SameImages (words_left g) (words_left h)
  -- where the one is small and the other large, their images differ in the front, and no lookup tells them apart
  pub alike_lookup : (g h : History) → SameRules (words_left g) (words_left h) → (p : Packet) → lookup_over (image_of (words_left g)) p ≡ lookup_over (image_of (words_left h)) p
  pub alike_packet : (g h : History) → SameRules (words_left g) (words_left h) → (bytes : List ℕ) → image_packet (image_of (words_left g)) bytes ≡ image_packet (image_of (words_left h)) bytes
  -- LOOKUPS over the image of a store that passes, with any words behind it
  pub gives : (ws : List ℕ) → Passes (kind_in ws) ws → (rest : List ℕ) → Gives ws (image_of ws ++ rest)
  -- so over the slice that an accepted freeze left
  pub froze_gives : (ws slice : List ℕ) → freeze_says (kind_in ws) ws slice ≡ 0 → Gives ws (freeze_words (kind_in ws) ws slice)
  -- LOOKUPS over any words: "a lookup over the image gives 7, 14 or 11 as before, then 9". With values, 11 and 9; the reasons for 9 stand in Blocks.antt
  pub lookup_answer : (image : List ℕ) (p : Packet) → Refuses 11 (AboveTop (kind_in image) (values_in p)) (Refuses 9 (ImageUndecided (kind_in image) image (values_in p)) done) (lookup_over image p).answer
  pub lookup_zeros : (image : List ℕ) (p : Packet) → (lookup_over image p).answer ≢ 0 → OnlyAnswer (lookup_over image p)
  -- by a packet, as in demand 1; never 11, since its values are within the tops
  pub packet_answer : (image bytes : List ℕ) → Bytes bytes
      → Refuses 7 (Faulty bytes)
      (Refuses 14 (length bytes < total_length bytes)
      (λ answer. (p : Packet) × (header_of bytes ≡ Ok p) × Refuses 9 (ImageUndecided (kind_in image) image (values_in p)) done answer))
      (image_packet image bytes).answer
  pub packet_zeros : (image bytes : List ℕ) → (image_packet image bytes).answer ≢ 0 → OnlyAnswer (image_packet image bytes)
  -- "a lookup over other words ends": after at most 8 blocks for each field in all
  pub lookup_reads : (image : List ℕ) (p : Packet) → (lookup_over image p).reads ≤ 8 * field_count (kind_in image)
  pub packet_reads : (image bytes : List ℕ) → (image_packet image bytes).reads ≤ 8 * field_count (kind_in image)
  -- with tallies, then 13, "after all others", and a refusal counts nothing
  pub tally_before : (image bytes : List ℕ) (t : Tallies) → (image_packet image bytes).answer ≢ 0 → image_tally image bytes t ≡ image_packet image bytes
  pub tally_13 : (image bytes : List ℕ) (t : Tallies) → (image_packet image bytes).answer ≡ 0 → Refuses 13 (NoPlace (image_packet image bytes).rule t) done (image_tally image bytes t).answer
  pub tally_zeros : (image bytes : List ℕ) (t : Tallies) → (image_tally image bytes t).answer ≢ 0 → OnlyAnswer (image_tally image bytes t)
  pub tally_kept : (image bytes : List ℕ) (t : Tallies) → (image_tally image bytes t).answer ≢ 0 → image_tallies image bytes t ≡ t
  -- THE STARRED LIST of document 01 over its image
  pub bench : (lent : List ℕ) (c : ℕ) → 54 ≤ c → c ≤ 65536 → size large c ≤ length lent → FrozenBench lent c
