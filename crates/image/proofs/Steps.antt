-- The steps of a walk of the blocks and of a lookup over an image, as the code takes them: what the definitions say at each way on, and that a field reads no more than 8 blocks.
-- Assumes nothing.
use mathlib.Core.Path.{◌≡◌, refl, sym, ap, ◌∙◌}
use mathlib.Core.Bool.{Bool, true, false, cond}
use mathlib.Core.List.{List}
use Prim.Native.Nat.{ℕ, zero, suc, ◌+◌, ◌-◌, ◌*◌, ◌/◌, ◌≤◌, ◌<◌}
use native.Mathlib.Omega.{arith}
use mir.Val.{bool_byte}
use lib.Bits.{bit_and, and_le_l, and_le_r}
use lib.Dec.{ltb, leb, eqb}
use lib.ListN.{length, get_or, take, drop, length-drop}
use lib.Seq.{take_all}
use borrow.Author.Tests.{ltb-true, ltb-false, lt-ltb, le-ltb, le-leb, lt-leb, eq-eqb, ne_eqb}
use Rattle.model.specs.Table.{Kind, front, packet_right}
use Rattle.model.proofs.Tests.{by_test}
use Rattle.header.specs.declared.Packet.{Packet}
use Rattle.std.specs.Prelude.{Some, None, Result, Ok, Err}
use Rattle.refusal.specs.declared.Refusal.{Refusal}
use Rattle.header.specs.Header.{header_of}
use Rattle.header.proofs.Facts.{values_are}
use Rattle.lookup.specs.declared.Found.{Found}
use Rattle.lookup.specs.declared.Walked.{Walked}
use Rattle.blocks.specs.Blocks.{down_mark}
use Rattle.lookup.specs.Walk.{led_to, refused, found_in}
use Rattle.tally.specs.declared.Tallies.{Tallies}
use Rattle.tally.proofs.Steps.{numbered, Does}
use Rattle.image.specs.Walk.{is_below, rank, rank_in, link_in, seek_blocks, walk_blocks}
use Rattle.image.specs.Image.{image_in, image_lookup, image_header, image_packet, image_tally, image_tallies}

pub bit : (b : Bool) → (bool_byte b ≡ cond b 1 0) × (bool_byte b ≤ 1)
bit true = (refl, omega arith)
bit false = (refl, omega arith)

-- the sum of four tests is the count
pub rank_sum : (w : List ℕ) (at v a b c d : ℕ) → a ≡ is_below (get_or w at 0) v → b ≡ is_below (get_or w (at + 1) 0) v → c ≡ is_below (get_or w (at + 2) 0) v → d ≡ is_below (get_or w (at + 3) 0) v
    → a + b + c + d ≡ rank 4 v (λ j. get_or w (at + j) 0)
rank_sum w at v a b c d p q r s = let o : at + 0 ≡ at = omega arith in rw o (omega arith)

-- and that of the two halves of a block is the block's
pub rank_halves : (w : List ℕ) (k v low high : ℕ) → low ≡ rank 4 v (λ j. get_or w (16 * k + j) 0) → high ≡ rank 4 v (λ j. get_or w (16 * k + 4 + j) 0) → low + high ≡ rank_in w k v
unfolding rank_in
rank_halves w k v low high p q =
    let a : 16 * k + 4 + 0 ≡ 16 * k + 4 = omega arith in
    let b : 16 * k + 4 + 1 ≡ 16 * k + 5 = omega arith in
    let c : 16 * k + 4 + 2 ≡ 16 * k + 6 = omega arith in
    let d : 16 * k + 4 + 3 ≡ 16 * k + 7 = omega arith in
    omega (arith, p, rw (a, b, c, d) at q)

-- two numbers of at most 4 have 4 in common exactly where both are 4
pub all_eight : (low high : ℕ) → bit_and low high ≡ 4 → 8 ≤ low + high
all_eight low high e = omega (arith, and_le_l low high, and_le_r low high)

pub not_eight : (low high : ℕ) → low ≤ 4 → high ≤ 4 → (bit_and low high ≡ 4 → ⊥) → low + high < 8
not_eight low high l h n =
    by_test (ltb (low + high) 8) (λ t. ltb-true (low + high) 8 t)
    (λ t. let g = ltb-false (low + high) 8 t in let a : low ≡ 4 = omega arith in let b : high ≡ 4 = omega arith in absurd (n (rw (a, b))))

-- one block of a field, where m more may be read
module _ (w : List ℕ) (v : ℕ) where
  pub seek_out : (m k r : ℕ) → length w / 16 ≤ k → seek_blocks w v m k r ≡ None
  unfolding seek_blocks
  seek_out zero k r h = refl
  seek_out (suc m) k r h = let l : length w < 16 * k + 16 = omega arith in simp (lt-leb _ (length w) l)

  pub seek_spent : (m k r : ℕ) → m ≡ 0 → seek_blocks w v m k r ≡ None
  unfolding seek_blocks
  seek_spent m k r e = rw e

  module _ (m n k r j : ℕ) (q : m ≡ suc n) (h : k < length w / 16) (e : j ≡ rank_in w k v) where
    pub seek_all : 8 ≤ j → seek_blocks w v m k r ≡ None
    unfolding seek_blocks
    seek_all l = rw (q, le-leb (16 * k + 16) (length w) (omega arith), ← e, le-ltb j 8 l)

    pub seek_down : j < 8 → down_mark ≤ link_in w k j → seek_blocks w v m k r ≡ led_to (link_in w k j - down_mark) (r + 1)
    unfolding seek_blocks
    seek_down l d = rw (q, le-leb (16 * k + 16) (length w) (omega arith), ← e, lt-ltb j 8 l, le-ltb _ down_mark d)

    pub seek_next : j < 8 → link_in w k j < down_mark → seek_blocks w v m k r ≡ seek_blocks w v n (link_in w k j) (r + 1)
    unfolding seek_blocks
    seek_next l d = rw (q, le-leb (16 * k + 16) (length w) (omega arith), ← e, lt-ltb j 8 l, lt-ltb _ down_mark d)

  -- a field reads at most as many blocks as it may
  few : (m k r : ℕ) (w' : Walked) → seek_blocks w v m k r ≡ Some w' → w'.reads ≤ r + m
  unfolding seek_blocks
  few zero k r w' e = absurd (cc)
  few (suc m) k r w' e = go (link_in w k (rank_in w k v)) (λ l. few m l (r + 1) w') (leb (16 * k + 16) (length w)) (ltb (rank_in w k v) 8) (ltb (link_in w k (rank_in w k v)) down_mark) e
    where
      go : (l : ℕ) → ((l : ℕ) → seek_blocks w v m l (r + 1) ≡ Some w' → w'.reads ≤ r + 1 + m) → (b b' b'' : Bool) → cond b (cond b' (cond b'' (seek_blocks w v m l (r + 1)) (led_to (l - down_mark) (r + 1))) None) None ≡ Some w' → w'.reads ≤ r + suc m
      go l ih true true true e = omega (arith, ih l e)
      go l ih true true false e = let z : record { place = l - down_mark; reads = r + 1 } ≡ w' = cc in omega (arith, ap (λ (x : Walked). x.reads) z)
      go l ih true false b'' e = absurd (cc)
      go l ih false b' b'' e = absurd (cc)

  pub seek_few : (m k : ℕ) (w' : Walked) → Some w' ≡ seek_blocks w v m k 0 → w'.reads ≤ m
  seek_few m k w' e = omega (arith, few m k 0 w' (sym e))

-- over an image of a kind: too few words, another kind, and what the walk says
module _ (k : Kind) (w vs : List ℕ) where
  pub few_words : length w < front k → refused 9 ≡ image_in k w vs
  unfolding image_in
  few_words h = by_test (eqb (get_or w 2 0) k.mark) (λ m. simp (m, lt-leb (front k) (length w) h)) (λ m. simp m)

  pub no_kind : (get_or w 2 0 ≡ k.mark → ⊥) → refused 9 ≡ image_in k w vs
  unfolding image_in
  no_kind h = simp (ne_eqb _ k.mark h)

  pub front_there_lem : get_or w 2 0 ≡ k.mark → front k ≤ length w → found_in k w (walk_blocks (drop (front k) w) vs) ≡ image_in k w vs
  unfolding image_in
  front_there_lem m h = simp (eq-eqb _ k.mark m, le-leb (front k) (length w) h)

  -- the blocks, from a word up to the end
  pub walked_there : get_or w 2 0 ≡ k.mark → (from : ℕ) → from ≡ front k → from ≤ length w → found_in k w (walk_blocks (take (length w - from) (drop from w)) vs) ≡ image_in k w vs
  walked_there m from f h = rw (take_all (length w - from) (drop from w) (omega (arith, length-drop from w)), f) (front_there_lem m (omega arith))

  -- some values: one is above its top, or none is
  pub wrong_11 : packet_right k vs ≡ false → image_lookup k w vs ≡ refused 11
  unfolding image_lookup
  wrong_11 e = rw e

  pub right_in : packet_right k vs ≡ true → image_lookup k w vs ≡ image_in k w vs
  unfolding image_lookup
  right_in e = rw e

-- a packet, by what its header gives
module _ (w packet : List ℕ) where
  pub by_header : (h : Result Packet Refusal) → h ≡ header_of packet → image_header w h ≡ image_packet w packet
  unfolding image_packet
  by_header h e = ap (image_header w) e

  -- an answer 0 is of a header that is long enough to have a total length
  pub long : {f : Found} → f ≡ image_packet w packet → f.answer ≡ 0 → 20 ≤ length packet
  unfolding image_packet
  long is e = go (header_of packet) refl (ap (λ (g : Found). g.answer) (sym is) ∙ e)
    where
      go : (h : Result Packet Refusal) → header_of packet ≡ h → (image_header w h).answer ≡ 0 → 20 ≤ length packet
      go (Ok p) q e = (values_are packet p q).0.sound.long
      go (Err r) q e = absurd (numbered r e)

  -- counting what was found
  pub image_does : (f : Found) → f ≡ image_packet w packet → (t : Tallies) (g : Found) (u : Tallies) → Does packet f t g u → (g ≡ image_tally w packet t) × (u ≡ image_tallies w packet t)
  unfolding image_tally image_tallies
  image_does f is t g u d = rw (← is) d
