-- The way along a chain, as the code goes it: what is found so far and the rest of the chain say what the whole says. And how far a walk can go.
-- Assumes nothing.
use mathlib.Core.Path.{◌≡◌, refl, sym, ap, ◌∙◌}
use mathlib.Core.Logic.{◌⊎◌, ⊎_elim}
use mathlib.Core.Bool.{true}
use mathlib.Core.List.{List, ◌∷◌}
use Prim.Native.Nat.{ℕ, zero, suc, ◌+◌, ◌-◌, ◌*◌, ◌%◌, ◌≤◌, ◌<◌}
use native.Mathlib.Omega.{arith}
use native.Mathlib.Nat.{add-zero, sub-zero}
use native.Mathlib.Numerals.{add-one}
use lib.Dec.{ltb, leb}
use lib.ListN.{get_or, length, set, length-set}
use borrow.Rule.Slice.PartMut.{mid_of, put_mid}
use borrow.Author.Tests.{ltb-true, ltb-false, leb-true, leb-false, le-leb, lt-leb}
use Rattle.model.specs.Rules.{Tree, stop, loc}
use Rattle.model.proofs.Tests.{by_test}
use Rattle.cells.specs.Text.{cell_word}
use Rattle.search.specs.Links.{chain_in, tree_in, cut}
use Rattle.search.proofs.Links.{chain_next, chain_out, chain_spent, tree_chain}
use Rattle.search.proofs.Written.{put_back, set_front, no_values}
use Rattle.best.specs.Best.{up, peak, summit, Climbed, ask_of}

up_some : (n : ℕ) → 0 < n → up n ≡ suc n
up_some zero h = absurd (omega arith)
up_some (suc n) h = refl

up_most : (n : ℕ) → up n ≤ suc n
up_most zero = omega arith
up_most (suc n) = omega arith

-- ONE LOCATION, whose values begin at l, by what is below it and behind it
module _ {B : Type 0} (l e : ℕ) (u t : Tree B) where
  pub climb_here : peak t ≤ peak u → 0 < peak u → (peak (loc e u t) ≡ suc (peak u)) × (summit l (loc e u t) ≡ l ∷ summit 0 u)
  unfolding peak summit
  climb_here h p = (rw (le-leb (peak t) (peak u) h) (up_some (peak u) p), rw (le-leb (peak t) (peak u) h))

  pub climb_past : peak u < peak t → (peak (loc e u t) ≡ suc (peak t)) × (summit l (loc e u t) ≡ summit (suc e) t)
  unfolding peak summit
  climb_past h = (rw (lt-leb (peak t) (peak u) h) (up_some (peak t) (omega arith)), rw (lt-leb (peak t) (peak u) h))

  pub climb_none : peak u ≡ 0 → peak t ≡ 0 → peak (loc e u t) ≡ 0
  unfolding peak
  climb_none p q = rw (p, q)

  -- what holds in each case holds
  pub by_climb : {X : Type 0} → (peak t ≤ peak u → 0 < peak u → X) → (peak u < peak t → X) → (peak u ≡ 0 → peak t ≡ 0 → X) → X
  by_climb f g h = by_test (leb (peak t) (peak u))
      (λ q. let k = leb-true (peak t) (peak u) q in by_test (ltb 0 (peak u)) (λ z. f k (ltb-true 0 (peak u) z)) (λ z. let y = ltb-false 0 (peak u) z in h (omega arith) (omega arith)))
      (λ q. g (leb-false (peak t) (peak u) q))

-- what is asked below location n, met or not
ask_met : (goal n p : ℕ) → ask_of goal n ≤ p → (goal ≤ n + p) × (0 < p)
ask_met goal n p h = by_test (ltb n goal)
    (λ z. let y = ltb-true n goal z in let x : goal - n ≤ p = rw z at h in (omega arith, omega arith))
    (λ z. let y = ltb-false n goal z in let x : 1 ≤ p = rw z at h in (omega arith, omega arith))

ask_not : (goal n p : ℕ) → p < ask_of goal n → 0 < p → n + p < goal
ask_not goal n p h q = by_test (ltb n goal)
    (λ z. let x : p < goal - n = rw z at h in omega arith)
    (λ z. let x : p < 1 = rw z at h in absurd (omega arith))

pub ask_some : (goal n : ℕ) → 0 < ask_of goal n
ask_some goal n = by_test (ltb n goal) (λ z. let y = ltb-true n goal z in rw z (omega arith)) (λ z. rw z (omega arith))

-- what a search tells by its number
module _ (t : Tree ℕ) (goal r : ℕ) (before after : List ℕ) (h : Climbed t goal r before after) where
  met : goal < r → (goal ≤ peak t) × (r ≡ suc (peak t)) × (after ≡ cut (summit 0 t))
  met l = by_test (leb goal (peak t))
      (λ z. (leb-true goal (peak t) z, h.next ∙ rw z, h.written ∙ rw z))
      (λ z. absurd (let y : r ≡ goal = h.next ∙ rw z in omega arith))

  not_met : r ≤ goal → (peak t < goal) × (after ≡ before)
  not_met l = by_test (leb goal (peak t))
      (λ z. absurd (let y : r ≡ suc (peak t) = h.next ∙ rw z in omega (arith, leb-true goal (peak t) z)))
      (λ z. (leb-false goal (peak t) z, h.written ∙ rw z))

-- OF THE CHAIN `whole` the part `rest` is left, behind n locations; `low` is the least value of the rest
pub data Seen (whole rest : Tree ℕ) (n goal next low : ℕ) (before out : List ℕ) : Type 0 where
  past : (0 < peak rest → n + peak rest < next) → Climbed whole goal next before out → Seen whole rest n goal next low before out
  ahead : 0 < peak rest → next ≤ n + peak rest → goal ≤ next → peak whole ≡ n + peak rest → summit 0 whole ≡ summit low rest → Seen whole rest n goal next low before out

seen_start : (whole : Tree ℕ) (goal : ℕ) (before : List ℕ) → 0 < goal → Seen whole whole 0 goal goal 0 before before
seen_start whole goal before h = by_test (leb goal (peak whole))
    (λ z. let y = leb-true goal (peak whole) z in ahead (omega arith) (omega arith) (omega arith) (omega arith) refl)
    (λ z. let y = leb-false goal (peak whole) z in past (λ p. omega arith) (record { next = rw z; written = rw z }))

module _ (whole : Tree ℕ) (e : ℕ) (u t : Tree ℕ) (n goal next low : ℕ) (before out : List ℕ) where
  -- more is found below the next location
  seen_better : Seen whole (loc e u t) n goal next low before out → ask_of next (n + 1) ≤ peak u → (after : List ℕ) → after ≡ cut (low ∷ summit 0 u) → Seen whole t (n + 1) goal (n + 1 + suc (peak u)) (suc e) before after
  seen_better (past f r) h after q =
      let a = ask_met next (n + 1) (peak u) h in
      absurd (by_climb low e u t
      (λ x y. let z = (climb_here low e u t x y).0 in omega (arith, f (omega arith)))
      (λ x. let z = (climb_past low e u t x).0 in omega (arith, f (omega arith)))
      (λ x y. omega arith))
  seen_better (ahead p l g m s) h after q =
      let a = ask_met next (n + 1) (peak u) h in
      by_climb low e u t
      (λ x y.
      let z = climb_here low e u t x y in
      let w : peak whole ≡ n + 1 + peak u = omega (arith, z.0) in
      let o : leb goal (peak whole) ≡ true = le-leb goal (peak whole) (omega arith) in
      let v : n + 1 + suc (peak u) ≡ suc (peak whole) = omega arith in
      past (λ k. omega arith) (record { next = rw o v; written = rw o (q ∙ ap cut (sym (s ∙ z.1))) }))
      (λ x. let z = climb_past low e u t x in ahead (omega arith) (omega arith) (omega arith) (omega (arith, z.0)) (s ∙ z.1))
      (λ x y. absurd (omega arith))

  -- no more is found there
  seen_worse : Seen whole (loc e u t) n goal next low before out → peak u < ask_of next (n + 1) → Seen whole t (n + 1) goal next (suc e) before out
  seen_worse (past f r) h = past
      (λ k. by_climb low e u t
      (λ x y. let z = (climb_here low e u t x y).0 in omega (arith, f (omega arith)))
      (λ x. let z = (climb_past low e u t x).0 in omega (arith, f (omega arith)))
      (λ x y. absurd (omega arith)))
      r
  seen_worse (ahead p l g m s) h = by_climb low e u t
      (λ x y. absurd (omega (arith, (climb_here low e u t x y).0, ask_not next (n + 1) (peak u) h y)))
      (λ x. let z = climb_past low e u t x in ahead (omega arith) (omega (arith, z.0)) (omega arith) (omega (arith, z.0)) (s ∙ z.1))
      (λ x y. absurd (omega (arith, climb_none low e u t x y)))

seen_end : (whole rest : Tree ℕ) (n goal next low : ℕ) (before out : List ℕ) → Seen whole rest n goal next low before out → rest ≡ stop → Climbed whole goal next before out
unfolding peak
seen_end whole rest n goal next low before out (past f r) q = r
seen_end whole rest n goal next low before out (ahead p l g m s) q = absurd (let z : 0 < 0 = rw q at p in omega arith)

module _ (part : List ℕ) (c : ℕ) where
  -- HOW FAR a walk can go: over c cells at most in each field
  chain_peak : (f : ℕ → Tree ℕ) (b : ℕ) → ((d : ℕ) → peak (f d) ≤ b) → (n k : ℕ) → peak (chain_in part c f n k) ≤ n + b
  unfolding chain_in peak
  chain_peak f b h zero k = omega arith
  chain_peak f b h (suc n) k = by_test (ltb k c)
      (λ z. rw z (by_test (leb (peak (chain_in part c f n (cell_word part k 1))) (peak (f (cell_word part k 2))))
      (λ y. rw y (omega (arith, up_most (peak (f (cell_word part k 2))), h (cell_word part k 2))))
      (λ y. rw y (omega (arith, up_most (peak (chain_in part c f n (cell_word part k 1))), chain_peak f b h n (cell_word part k 1))))))
      (λ z. rw z (omega arith))

  pub tree_peak : c ≤ 65536 → (left k : ℕ) → peak (tree_in part c left k) ≤ left * 65536 + 1
  unfolding tree_in peak
  tree_peak h zero k = omega arith
  tree_peak h (suc left) k = omega (arith, chain_peak (λ d. tree_in part c left d) (left * 65536 + 1) (tree_peak h left) c k)

module _ (part : List ℕ) (c left k goal : ℕ) where
  -- what stands below a cell
  abbrev below : ℕ → Tree ℕ
  below d = tree_in part c (left - 1) d

  -- the loop, with n cells of the chain passed and cell i the next
  pub record Going (before out : List ℕ) (next i n low : ℕ) : Type 0 where
    pub count : n ≤ c
    pub size : length out ≡ left
    pub seen : Seen (tree_in part c left k) (chain_in part c (λ d. tree_in part c (left - 1) d) (c - n) i) n goal next low before out

  -- no field is left
  pub leaf_met : (out : List ℕ) → left ≡ 0 → length out ≡ left → goal ≤ 1 → Climbed (tree_in part c left k) goal 2 out out
  unfolding peak summit tree_in
  leaf_met out q h l = record { next = rw (q, le-leb goal 1 l); written = rw (q, le-leb goal 1 l) (no_values out (omega arith)) }

  pub leaf_not : (out : List ℕ) → left ≡ 0 → 1 < goal → Climbed (tree_in part c left k) goal goal out out
  unfolding peak tree_in
  leaf_not out q l = record { next = rw (q, lt-leb goal 1 l); written = rw (q, lt-leb goal 1 l) }

  pub going_start : (out : List ℕ) → 0 < left → length out ≡ left → 0 < goal → Going out out goal k 0 0
  going_start out q l g = record { count = omega arith; size = l; seen = rw (sub-zero c, tree_chain part c left k q) (seen_start _ goal out g) }

  module _ (before out : List ℕ) (next i n low : ℕ) (s : Going before out next i n low) where
    -- the chain is at its end
    pub going_end : (c ≤ i) ⊎ (c ≤ n) → Climbed (tree_in part c left k) goal next before out
    going_end h = seen_end _ _ n goal next low before out s.seen
        (⊎_elim (λ (y : c ≤ i). chain_out part c below (c - n) i y) (λ (y : c ≤ n). chain_spent part c below (c - n) i (omega arith)) h)

    -- the cell, and what was found below it
    module _ (a : n < c) (b : i < c) (w : ℕ) (o : w ≡ ask_of next (n + 1)) (r : ℕ) (ys : List ℕ) (g : Climbed (tree_in part c (left - 1) (cell_word part i 2)) w r (mid_of 1 (length out - 1) out) ys) where
      here : Seen (tree_in part c left k) (loc (cell_word part i 0) (below (cell_word part i 2)) (chain_in part c below (c - (n + 1)) (cell_word part i 1))) n goal next low before out
      here = rw (chain_next part c below (c - n) (c - (n + 1)) i (omega arith) b) at s.seen

      low_next : get_or part (2 + 8 * i) 0 + 1 ≡ suc (cell_word part i 0)
      low_next = rw (add-zero (2 + 8 * i), add-one (get_or part (2 + 8 * i) 0))

      pub going_better : w < r → 0 < left → length (put_mid 1 (length out - 1) out ys) ≡ left → (v : ℕ) → v ≡ low % 4294967296 → Going before (set (put_mid 1 (length out - 1) out ys) 0 v) (n + 1 + r) (cell_word part i 1) (n + 1) (get_or part (2 + 8 * i) 0 + 1)
      going_better h l y v e =
          let m = met _ _ r _ ys g h in
          let f = set_front out ys v (omega (arith, s.size)) in
          record {
            count = omega arith;
            size = length-set (put_mid 1 (length out - 1) out ys) 0 v ∙ y;
            seen = rw (low_next, m.1) (seen_better _ _ _ _ n goal next low before out here (rw o at m.0) _ (f ∙ rw (e, m.2)));
          }

      pub going_worse : r ≤ w → Going before (put_mid 1 (length out - 1) out ys) next (cell_word part i 1) (n + 1) (get_or part (2 + 8 * i) 0 + 1)
      going_worse h =
          let m = not_met _ _ r _ ys g h in
          let e = put_back out ys m.1 in
          record {
            count = omega arith;
            size = ap length e ∙ s.size;
            seen = rw (low_next, e) (seen_worse _ _ _ _ n goal next low before out here (rw o at m.0));
          }

      pub got_small : c ≤ 65536 → left ≤ 64 → w < r → r ≤ 4259842
      got_small x y h = let m = met _ _ r _ ys g h in omega (arith, m.1, tree_peak part c x (left - 1) (cell_word part i 2))
