-- The tree of rules that are right, with one that has all full ranges among them, is a tree over the fields' tops; and the values of a record within the tops are those that are right.
-- Assumes nothing.
use mathlib.Core.Path.{◌≡◌, refl, sym, ap, subst}
use mathlib.Core.Logic.{inl, inr, ⊎_elim}
use mathlib.Core.Bool.{true, ◌&&◌}
use mathlib.Core.List.{List, [], ◌∷◌, map}
use Prim.Native.Nat.{ℕ, zero, suc, ◌+◌, ◌≤◌, ◌<◌}
use native.Mathlib.Nat.{add-zero, zero-add}
use native.Mathlib.Omega.{arith}
use lib.Dec.{leb, eqb}
use lib.ListN.{length, get_or}
use borrow.Author.Tests.{leb-true, le-leb, eqb-true, eq-eqb}
use Rattle.model.specs.Lists.{In, Rising, keep, least}
use Rattle.model.specs.Rules.{Field, covers, ends, Tree, chain, tree, within_tops, ranges_right}
use Rattle.model.specs.Table.{Kind, Rule, Table, number_of, fields_from, fields, default_rule, every_rule, tree_of, packet_right, within}
use Rattle.model.proofs.Tests.{and_left, and_right, and_both}
use Rattle.model.proofs.Keep.{in_keep, from_keep, in_right}
use Rattle.model.proofs.Ends.{from_ends, in_ends, ends_rising}
use Rattle.model.proofs.Walk.{full}
use Rattle.model.proofs.Decide.{default_full, every_right}
use Rattle.search.specs.Facts.{InTops}
use Rattle.search.proofs.First.{Fits, Topped, leaf, last, more}

abbrev tops : {P A : Type 0} → List (Field P A) → List ℕ
tops fs = map (λ f. f.top) fs

-- a chain of rising ends, the last of which is the top
topped_chain : {B : Type 0} (top : ℕ) (ts : List ℕ) (u : ℕ → Tree B) → ((e : ℕ) → e ≤ top → Topped ts 0 (u e))
    → (es : List ℕ) → Rising es → In top es → ((e : ℕ) → In e es → e ≤ top) → (l : ℕ) → ((e : ℕ) → In e es → l ≤ e) → Topped (top ∷ ts) l (chain u es)
topped_chain top ts u s [] r m a l b = absurd m
topped_chain top ts u s (e ∷ []) r m a l b =
    let q : top ≡ e = ⊎_elim (λ (q : top ≡ e). q) (λ (z : ⊥). absurd z) m in
    rw q (last (b e (inl refl)) (s e (a e (inl refl))))
topped_chain top ts u s (e ∷ d ∷ es) r m a l b =
    let k : e < top = omega (arith, r.0 d (inl refl), a d (inr (inl refl))) in
    more (b e (inl refl)) k (s e (omega arith))
    (topped_chain top ts u s (d ∷ es) r.1 (⊎_elim (λ (q : top ≡ e). absurd (omega arith)) (λ (n : In top (d ∷ es)). n) m) (λ x n. a x (inr n)) (suc e) (λ x n. r.0 x n))

module _ {P A B : Type 0} (g : List A → B) (d : A) where
  topped_tree : (fs : List (Field P A)) (rs : List A) → In d rs → full fs d ≡ true → ((r : A) → In r rs → ranges_right fs r ≡ true) → Topped (tops fs) 0 (tree g fs rs)
  topped_tree [] rs m h a = leaf
  topped_tree (f ∷ fs) rs m h a =
      topped_chain f.top (tops fs) (λ e. tree g fs (keep (covers f e) rs))
      (λ e k. topped_tree fs (keep (covers f e) rs) (in_keep (covers f e) rs d m (covered e k)) (and_right (eqb (f.high d) f.top) (full fs d) rest) (λ r n. right r (from_keep (covers f e) rs r n).0))
      (ends f rs) (ends_rising f rs) (in_ends f rs d f.top m (inl (sym high))) at_most 0 (λ e n. omega arith)
    where
      rest : (eqb (f.high d) f.top && full fs d) ≡ true
      rest = and_right (eqb (f.low d) 0) _ h

      low : f.low d ≡ 0
      low = eqb-true (f.low d) 0 (and_left (eqb (f.low d) 0) (eqb (f.high d) f.top && full fs d) h)

      high : f.high d ≡ f.top
      high = eqb-true (f.high d) f.top (and_left (eqb (f.high d) f.top) (full fs d) rest)

      covered : (e : ℕ) → e ≤ f.top → covers f e d ≡ true
      covered e k = and_both (leb (f.low d) e) (leb e (f.high d)) (le-leb (f.low d) e (omega (arith, low))) (le-leb e (f.high d) (omega (arith, high)))

      after : (r : A) → In r rs → (leb (f.high r) f.top && ranges_right fs r) ≡ true
      after r n = and_right (leb (f.low r) (f.high r)) _ (a r n)

      right : (r : A) → In r rs → ranges_right fs r ≡ true
      right r n = and_right (leb (f.high r) f.top) (ranges_right fs r) (after r n)

      at_most : (e : ℕ) → In e (ends f rs) → e ≤ f.top
      at_most e n =
          let t = from_ends f rs e n in
          let r = t.0 in
          let lh : f.low r ≤ f.high r = leb-true (f.low r) (f.high r) (and_left (leb (f.low r) (f.high r)) _ (a r t.1)) in
          let ht : f.high r ≤ f.top = leb-true (f.high r) f.top (and_left (leb (f.high r) f.top) _ (after r t.1)) in
          ⊎_elim (λ (q : e ≡ f.high r). omega arith) (λ (q : suc e ≡ f.low r). omega arith) t.2

-- OVER A KIND of store
tops_from : (i : ℕ) (ts : List ℕ) → tops (fields_from i ts) ≡ ts
tops_from i [] = refl
tops_from i (t ∷ ts) = ap (λ l. t ∷ l) (tops_from (suc i) ts)

pub topped_of : (k : Kind) (t : Table) → within k t ≡ true → Topped k.tops 0 (tree_of k t)
topped_of k t h = subst (λ (l : List ℕ). Topped l 0 (tree_of k t)) (tops_from 0 k.tops)
    (topped_tree (least number_of d) d (fields k) (every_rule k t) (in_right t.rules (d ∷ []) d (inl refl)) (default_full k t.action 0 k.tops refl) (every_right k t h))
  where
    d : Rule
    d = default_rule k t.action

-- THE VALUES OF A RECORD. Those that fit the tops are within them:
pub fits_length : (ts vs : List ℕ) → Fits ts vs → length vs ≡ length ts
fits_length [] [] f = refl
fits_length [] (v ∷ vs) f = absurd f
fits_length (t ∷ ts) [] f = absurd f
fits_length (t ∷ ts) (v ∷ vs) f = ap suc (fits_length ts vs f.1)

fits_low : (ts vs : List ℕ) → Fits ts vs → (i : ℕ) → i < length ts → get_or vs i 0 ≤ get_or ts i 0
fits_low [] vs f i l = absurd (omega arith)
fits_low (t ∷ ts) [] f i l = absurd f
fits_low (t ∷ ts) (v ∷ vs) f zero l = f.0
fits_low (t ∷ ts) (v ∷ vs) f (suc i) l = fits_low ts vs f.1 i (omega arith)

pub fits_in : (k : Kind) (vs : List ℕ) → Fits k.tops vs → InTops k vs
fits_in k vs f = record { each = fits_length k.tops vs f; low = fits_low k.tops vs f }

-- those within the tops are right, and back
module _ (vs : List ℕ) where
  -- of the fields from i on, none of the values is above its top
  abbrev Low : List ℕ → ℕ → Type 0
  Low ts i = (j : ℕ) → j < length ts → get_or vs (i + j) 0 ≤ get_or ts j 0

  low_right : (ts : List ℕ) (i : ℕ) → Low ts i → within_tops (fields_from i ts) vs ≡ true
  low_right [] i h = refl
  low_right (t ∷ ts) i h =
      and_both _ _ (le-leb _ _ (rw add-zero at (h 0 (omega arith))))
      (low_right ts (suc i) (λ j l. let z : i + suc j ≡ suc i + j = omega arith in subst (λ (n : ℕ). get_or vs n 0 ≤ get_or ts j 0) z (h (suc j) (omega arith))))

  right_low : (ts : List ℕ) (i : ℕ) → within_tops (fields_from i ts) vs ≡ true → Low ts i
  right_low [] i h j l = absurd (omega arith)
  right_low (t ∷ ts) i h zero l = rw add-zero (leb-true _ _ (and_left _ _ h))
  right_low (t ∷ ts) i h (suc j) l =
      let z : suc i + j ≡ i + suc j = omega arith in
      subst (λ (n : ℕ). get_or vs n 0 ≤ get_or ts j 0) z (right_low ts (suc i) (and_right (leb (get_or vs i 0) t) _ h) j (omega arith))

pub tops_right : (k : Kind) (vs : List ℕ) → InTops k vs → packet_right k vs ≡ true
tops_right k vs h = and_both _ _ (eq-eqb _ _ h.each) (low_right vs k.tops 0 (λ j l. rw zero-add (h.low j l)))

pub right_tops : (k : Kind) (vs : List ℕ) → packet_right k vs ≡ true → InTops k vs
right_tops k vs h = record { each = eqb-true _ _ (and_left _ _ h); low = λ i l. rw zero-add at (right_low vs k.tops 0 (and_right (eqb (length vs) (length k.tops)) _ h) i l) }
