-- The way along a chain, as the code goes it: nothing is found before the rest of the chain, and so the first record of the rest is that of the whole.
-- Assumes nothing.
use mathlib.Core.Path.{◌≡◌, refl, sym, ap, ◌∙◌}
use mathlib.Core.Logic.{◌⊎◌, ⊎_elim}
use mathlib.Core.Bool.{Bool, true, false}
use mathlib.Core.List.{List, ◌∷◌}
use Prim.Native.Nat.{ℕ, suc, ◌+◌, ◌-◌, ◌*◌, ◌%◌, ◌≤◌, ◌<◌}
use native.Mathlib.Omega.{arith}
use native.Mathlib.Nat.{add-zero, sub-zero}
use native.Mathlib.Numerals.{add-one}
use lib.Dec.{leb, eqb}
use lib.ListN.{get_or, length, set}
use borrow.Rule.Slice.PartMut.{mid_of, put_mid}
use borrow.Author.Tests.{eqb-true, eqb-false}
use Rattle.model.specs.Rules.{Tree, names, stop, loc}
use Rattle.model.proofs.Tests.{by_test}
use Rattle.cells.specs.Text.{cell_word}
use Rattle.search.specs.Search.{most, first}
use Rattle.search.specs.Links.{chain_in, tree_in, is_place, record_in, cut}
use Rattle.search.proofs.First.{first_here, first_past, by_place}
use Rattle.search.proofs.Written.{put_back, set_front, no_values}
use Rattle.search.proofs.Links.{chain_next, chain_out, chain_spent, tree_chain}
use Rattle.reach.specs.Reach.{Reached}

-- a place is found once or not at all
pub most_one : (p : ℕ) (t : Tree ℕ) → most 0 (is_place p) t ≤ 1
unfolding most
most_one p (names x) = by_test (eqb x p) (λ z. rw z (omega arith)) (λ z. rw z (omega arith))
most_one p stop = omega arith
most_one p (loc e u t) = by_test (leb (most 0 (is_place p) t) (most 0 (is_place p) u)) (λ z. rw z (omega (arith, most_one p u))) (λ z. rw z (omega (arith, most_one p t)))

-- one location of a chain, whose values begin at low: nothing is found below it, or something is
module _ (p e low : ℕ) (u t : Tree ℕ) where
  passed : most 0 (is_place p) u ≡ 0 → (most 0 (is_place p) (loc e u t) ≡ most 0 (is_place p) t) × (0 < most 0 (is_place p) t → first 0 (is_place p) low (loc e u t) ≡ first 0 (is_place p) (suc e) t)
  passed z = by_place 0 (is_place p) low e u t
      (λ q. (omega (arith, (first_here 0 (is_place p) low e u t q).1), λ h. absurd (omega arith)))
      (λ q. (omega (arith, (first_past 0 (is_place p) low e u t q).1), λ h. (first_past 0 (is_place p) low e u t q).0))

  hit : most 0 (is_place p) u ≡ 1 → (most 0 (is_place p) (loc e u t) ≡ 1) × (first 0 (is_place p) low (loc e u t) ≡ low ∷ first 0 (is_place p) 0 u)
  hit z = let q : most 0 (is_place p) t ≤ most 0 (is_place p) u = omega (arith, most_one p t) in
      let h = first_here 0 (is_place p) low e u t q in (omega (arith, h.1), h.0)

module _ (place : ℕ) (part : List ℕ) (c left k : ℕ) where
  -- what stands below a cell
  abbrev below : ℕ → Tree ℕ
  below d = tree_in part c (left - 1) d

  -- the loop, with n cells of the chain passed and cell i the next
  pub record Going (before out : List ℕ) (i n low : ℕ) : Type 0 where
    pub count : n ≤ c
    pub same : out ≡ before
    pub size : length out ≡ left
    pub rest : most 0 (is_place place) (tree_in part c left k) ≡ most 0 (is_place place) (chain_in part c (λ d. tree_in part c (left - 1) d) (c - n) i)
    pub on : 0 < most 0 (is_place place) (chain_in part c (λ d. tree_in part c (left - 1) d) (c - n) i) → first 0 (is_place place) 0 (tree_in part c left k) ≡ first 0 (is_place place) low (chain_in part c (λ d. tree_in part c (left - 1) d) (c - n) i)

  -- no field is left
  pub leaf : (out : List ℕ) → left ≡ 0 → length out ≡ left → Reached place part c left k (eqb k place) out out
  unfolding most tree_in record_in first
  leaf out q h = record {
    found = rw q (by_test (eqb k place) (λ z. rw z) (λ z. rw z));
    written = rw (q, no_values out (omega arith)) (by_test (eqb k place) (λ z. rw z) (λ z. rw z));
  }

  pub going_start : (out : List ℕ) → 0 < left → length out ≡ left → Going out out k 0 0
  going_start out q l = record {
    count = omega arith;
    same = refl;
    size = l;
    rest = rw (sub-zero c, tree_chain part c left k q);
    on = λ h. rw (sub-zero c, tree_chain part c left k q);
  }

  module _ (before out : List ℕ) (i n low : ℕ) (s : Going before out i n low) where
    -- the chain is at its end
    pub going_end : (c ≤ i) ⊎ (c ≤ n) → Reached place part c left k false before out
    unfolding most
    going_end h =
        let z : chain_in part c below (c - n) i ≡ stop = ⊎_elim (λ (y : c ≤ i). chain_out part c below (c - n) i y) (λ (y : c ≤ n). chain_spent part c below (c - n) i (omega arith)) h in
        let y : most 0 (is_place place) (tree_in part c left k) ≡ 0 = s.rest ∙ rw z in
        record { found = rw y; written = s.same }

    module _ (a : n < c) (b : i < c) where
      next : chain_in part c below (c - n) i ≡ loc (cell_word part i 0) (below (cell_word part i 2)) (chain_in part c below (c - (n + 1)) (cell_word part i 1))
      next = chain_next part c below (c - n) (c - (n + 1)) i (omega arith) b

      -- nothing is found below the cell
      pub going_on : (r : Bool) (ys : List ℕ) → Reached place part c (left - 1) (cell_word part i 2) r (mid_of 1 (length out - 1) out) ys → r ≡ false → Going before (put_mid 1 (length out - 1) out ys) (cell_word part i 1) (n + 1) (get_or part (2 + 8 * i) 0 + 1)
      going_on r ys g f =
          let e = put_back out ys (g.written ∙ rw f) in
          let u = below (cell_word part i 2) in
          let z : most 0 (is_place place) u ≡ 0 = let x = eqb-false (most 0 (is_place place) u) 1 (sym g.found ∙ f) in omega (arith, most_one place u) in
          let w = passed place (cell_word part i 0) low u (chain_in part c below (c - (n + 1)) (cell_word part i 1)) z in
          let y : get_or part (2 + 8 * i) 0 + 1 ≡ suc (cell_word part i 0) = rw (add-zero (2 + 8 * i), add-one (get_or part (2 + 8 * i) 0)) in
          let o : most 0 (is_place place) (tree_in part c left k) ≡ most 0 (is_place place) (chain_in part c below (c - (n + 1)) (cell_word part i 1)) = s.rest ∙ rw next w.0 in
          record {
            count = omega arith;
            same = e ∙ s.same;
            size = ap length e ∙ s.size;
            rest = o;
            on = λ h. rw y (s.on (omega (arith, o, s.rest)) ∙ rw next (w.1 h));
          }

      -- the place is found below it
      pub going_found : (r : Bool) (ys : List ℕ) → Reached place part c (left - 1) (cell_word part i 2) r (mid_of 1 (length out - 1) out) ys → r ≡ true → 0 < left → (v : ℕ) → v ≡ low % 4294967296 → Reached place part c left k true before (set (put_mid 1 (length out - 1) out ys) 0 v)
      unfolding record_in
      going_found r ys g f l x e =
          let u = below (cell_word part i 2) in
          let z : most 0 (is_place place) u ≡ 1 = eqb-true (most 0 (is_place place) u) 1 (sym g.found ∙ f) in
          let w = hit place (cell_word part i 0) low u (chain_in part c below (c - (n + 1)) (cell_word part i 1)) z in
          let o : most 0 (is_place place) (tree_in part c left k) ≡ 1 = s.rest ∙ rw next w.0 in
          let v : first 0 (is_place place) 0 (tree_in part c left k) ≡ low ∷ first 0 (is_place place) 0 u = s.on (omega (arith, o, s.rest)) ∙ rw next w.1 in
          let y : ys ≡ cut (first 0 (is_place place) 0 u) = g.written ∙ rw f in
          record {
            found = rw o;
            written = set_front out ys x (omega (arith, s.size)) ∙ rw (v, y, e);
          }
