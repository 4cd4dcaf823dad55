-- The steps of a walk, as the code takes them: what the definitions say at each way on, and that a field reads no more cells than it may.
-- Assumes nothing.
use mathlib.Core.Path.{◌≡◌, refl, sym, ap, ◌∙◌}
use mathlib.Core.Bool.{Bool, true, false, cond}
use mathlib.Core.List.{List}
use Prim.Native.Nat.{ℕ, zero, suc, ◌+◌, ◌-◌, ◌*◌, ◌≤◌, ◌<◌}
use native.Mathlib.Omega.{arith}
use native.Mathlib.Nat.{add-zero}
use native.Mathlib.Numerals.{add-one}
use lib.Dec.{ltb, leb, eqb}
use lib.ListN.{length, get_or, take, drop, drop_of_length-le}
use lib.Seq.{drop-cons}
use borrow.Author.Tests.{lt-ltb, le-ltb, le-leb, lt-leb, leb-true, eq-eqb, ne_eqb}
use Rattle.model.specs.Table.{Kind, Shaped, row_words, packet_right}
use Rattle.model.proofs.Tests.{by_test, and_left}
use Rattle.header.specs.declared.Packet.{Packet}
use Rattle.header.specs.Header.{header_of}
use Rattle.std.specs.Prelude.{Option, Some, None, Result}
use Rattle.refusal.specs.declared.Refusal.{Refusal}
use Rattle.cells.specs.Text.{cell_word}
use Rattle.lookup.specs.declared.Walked.{Walked}
use Rattle.layout.specs.Store.{size, cells_in}
use Rattle.lookup.specs.Walk.{Field, led_to, seek_of, on_from, through, walk_of, refused, part_in, begins, found_in, lookup_in, lookup_values, lookup_header, lookup_packet}

module _ (w : List ℕ) (c v : ℕ) where
  -- one cell of a field, where m more may be read
  pub seek_lost : (m k r : ℕ) → c ≤ k → seek_of w c v m k r ≡ None
  unfolding seek_of
  seek_lost zero k r h = refl
  seek_lost (suc m) k r h = simp (le-ltb k c h)

  pub seek_here : (m k r : ℕ) → 0 < m → k < c → v ≤ get_or w (2 + 8 * k) 0 → seek_of w c v m k r ≡ led_to (cell_word w k 2) (r + 1)
  unfolding seek_of
  seek_here zero k r q h e = absurd (omega arith)
  seek_here (suc m) k r q h e = rw (lt-ltb k c h, add-zero, le-ltb _ v e)

  pub seek_next : (m n k r : ℕ) → m ≡ suc n → k < c → get_or w (2 + 8 * k) 0 < v → seek_of w c v m k r ≡ seek_of w c v n (cell_word w k 1) (r + 1)
  unfolding seek_of
  seek_next m n k r q h e = rw (q, lt-ltb k c h, add-zero, lt-ltb _ v e)

  pub seek_spent : (m k r : ℕ) → m ≡ 0 → seek_of w c v m k r ≡ None
  unfolding seek_of
  seek_spent m k r e = rw e

  -- a field reads at most as many cells as it may
  few : (m k r : ℕ) (l : Walked) → seek_of w c v m k r ≡ Some l → l.reads ≤ r + m
  unfolding seek_of
  few zero k r l e = absurd (cc)
  few (suc m) k r l e = go (few m (cell_word w k 1) (r + 1) l) (ltb k c) (ltb (cell_word w k 0) v) e
    where
      go : {s : Option Walked} → (s ≡ Some l → l.reads ≤ r + 1 + m) → (b b' : Bool) → cond b (cond b' s (led_to (cell_word w k 2) (r + 1))) None ≡ Some l → l.reads ≤ r + suc m
      go ih true true e = omega (arith, ih e)
      go ih true false e = let z : record { place = cell_word w k 2; reads = r + 1 } ≡ l = cc in omega (arith, ap (λ (x : Walked). x.reads) z)
      go ih false b' e = absurd (cc)

  pub seek_few : (m k : ℕ) (l : Walked) → Some l ≡ seek_of w c v m k 0 → l.reads ≤ m
  seek_few m k l e = omega (arith, few m k 0 l (sym e))

-- the fields from i on, by what the walk of one field comes to
module _ (f : Field) (vs : List ℕ) (i k r : ℕ) where
  field : i < length vs → through f (drop i vs) k r ≡ on_from (λ d n. through f (drop (i + 1) vs) d (r + n)) (f k (get_or vs i 0))
  unfolding through
  field h = rw (add-one, drop-cons vs i 0 h)

  pub field_led : (l : Walked) → i < length vs → Some l ≡ f k (get_or vs i 0) → through f (drop i vs) k r ≡ through f (drop (i + 1) vs) l.place (r + l.reads)
  field_led l h e = field h ∙ rw (← e)

  pub field_lost : i < length vs → None ≡ f k (get_or vs i 0) → through f (drop i vs) k r ≡ None
  field_lost h e = field h ∙ rw (← e)

  pub field_none : length vs ≤ i → through f (drop i vs) k r ≡ led_to k r
  unfolding through
  field_none h = rw (drop_of_length-le vs {i = i} h)

-- the refusals at once, and what is left, in a store of a kind
module _ (k : Kind) (w vs : List ℕ) where
  pub no_kind : (get_or w 2 0 ≡ k.mark → ⊥) → refused 9 ≡ lookup_in k w vs
  unfolding lookup_in
  no_kind h = simp (ne_eqb _ k.mark h)

  -- fewer than three words are no store
  pub no_word : Shaped k → length w < 3 → refused 9 ≡ lookup_in k w vs
  unfolding lookup_in
  no_word s h = by_test (eqb (get_or w 2 0) k.mark) (λ m. by_test (leb (length k.tops) (get_or w 0 0)) (λ a. by_test (leb (get_or w 0 0) 65536)
      (λ b. simp (m, a, b, lt-leb (size k (get_or w 0 0)) (length w) (omega (arith, s.three))))
      (λ b. simp (m, a, b))) (λ a. simp (m, a))) (λ m. simp m)

  module _ (m : get_or w 2 0 ≡ k.mark) where
    pub few_cells : get_or w 0 0 < length k.tops → refused 9 ≡ lookup_in k w vs
    unfolding lookup_in
    few_cells h = simp (eq-eqb _ k.mark m, lt-leb (length k.tops) _ h)

    module _ (a : length k.tops ≤ get_or w 0 0) where
      pub many_cells : 65536 < get_or w 0 0 → refused 9 ≡ lookup_in k w vs
      unfolding lookup_in
      many_cells h = simp (eq-eqb _ k.mark m, le-leb (length k.tops) _ a, lt-leb _ 65536 h)

      pub few_words : get_or w 0 0 ≤ 65536 → length w < size k (get_or w 0 0) → refused 9 ≡ lookup_in k w vs
      unfolding lookup_in
      few_words b h = simp (eq-eqb _ k.mark m, le-leb (length k.tops) _ a, le-leb _ 65536 b, lt-leb (size k (get_or w 0 0)) (length w) h)

      pub enough_words : get_or w 0 0 ≤ 65536 → size k (get_or w 0 0) ≤ length w → found_in k w (walk_of (part_in k w) (cells_in w) vs) ≡ lookup_in k w vs
      unfolding lookup_in
      enough_words b h = simp (eq-eqb _ k.mark m, le-leb (length k.tops) _ a, le-leb _ 65536 b, le-leb (size k (get_or w 0 0)) (length w) h)

-- the part of the words with the cells, from a word up to an end
pub part_is : (k : Kind) (w vs : List ℕ) (c from : ℕ) → c ≡ cells_in w → from ≡ k.head + row_words k → walk_of (take (from + (2 + 8 * c) - from) (drop from w)) c vs ≡ walk_of (part_in k w) c vs
part_is k w vs c from q f = let z : from + (2 + 8 * c) - from ≡ 2 + 8 * cells_in w = omega arith in rw (z, f)

-- a row that begins at a place begins before the last of them ends
pub begun : (k : Kind) (n p : ℕ) → begins k n p ≡ true → p ≤ k.width * k.most
begun k n p h = leb-true p (k.width * k.most) (and_left _ _ h)

-- some values: one is above its top, or none is
module _ (k : Kind) (w vs : List ℕ) where
  pub wrong_11 : packet_right k vs ≡ false → lookup_values k w vs ≡ refused 11
  unfolding lookup_values
  wrong_11 e = rw e

  pub right_in : packet_right k vs ≡ true → lookup_values k w vs ≡ lookup_in k w vs
  unfolding lookup_values
  right_in e = rw e

-- a packet, by what its header gives
pub by_header : (w packet : List ℕ) (h : Result Packet Refusal) → h ≡ header_of packet → lookup_header w h ≡ lookup_packet w packet
unfolding lookup_packet
by_header w packet h e = ap (lookup_header w) e
