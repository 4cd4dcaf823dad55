-- Counting the locations of a chain from its highest end down, with a stop: what the loop of `count_chain` keeps, and what its answer tells.
-- Assumes nothing.
use mathlib.Core.Path.{◌≡◌, refl, ap, ◌∙◌}
use mathlib.Core.List.{List, [], ◌∷◌}
use Prim.Native.Nat.{ℕ, zero, suc, ◌+◌, ◌-◌, ◌*◌, ◌≤◌, ◌<◌, min}
use native.Mathlib.Omega.{arith}
use lib.ListN.{length, get_or, take, drop}
use lib.Seq.{drop-length}
use borrow.Rule.Slice.PartMut.{mid_of, put_mid}
use Rattle.model.specs.Lists.{keep}
use Rattle.model.specs.Rules.{covers, ends as ends_of, Tree, chain, cells}
use Rattle.rows.specs.Rows.{field_at, tree_at, under_at, Flat, Scratch}
use Rattle.rows.proofs.Sets.{tree_none, tree_step}
use Rattle.rows.proofs.Insert.{back}
use Rattle.rows.proofs.Coming.{Coming, coming_start, next_end, lent, coming_on}

-- a chain of the last of the ends has no more locations
drop_fewer : (u : ℕ → Tree ℕ) (k : ℕ) (es : List ℕ) → cells (chain u (drop k es)) ≤ cells (chain u es)
drop_fewer u zero es = omega arith
drop_fewer u (suc k) [] = omega arith
drop_fewer u (suc k) (e ∷ es) = omega (arith, drop_fewer u k es)

-- a chain with nothing under its locations
bare : (u : ℕ → Tree ℕ) → ((e : ℕ) → cells (u e) ≡ 0) → (es : List ℕ) → cells (chain u es) ≡ length es
bare u h [] = refl
bare u h (e ∷ es) = omega (arith, h e, bare u h es)

-- the locations of the ends from the i-th on
unfoldable pub sofar : List ℕ → ℕ → ℕ → List ℕ → ℕ → ℕ
sofar rules f n ps i = cells (chain (under_at rules f n ps) (drop i (ends_of (field_at rules f) ps)))

module _ (rules ps : List ℕ) (f n : ℕ) where
  pub none : n ≡ 0 → cells (tree_at rules f n ps) ≡ 0
  none e = rw (tree_none rules f n ps e)

  -- in the last field there are as many locations as ends
  pub last : n ≡ 1 → cells (tree_at rules f n ps) ≡ length (ends_of (field_at rules f) ps)
  unfolding under_at
  last e = rw (tree_step rules f n ps (λ z. omega arith)) (bare (under_at rules f n ps) (λ x. rw (tree_none rules (f + 1) (n - 1) _ (omega arith))) (ends_of (field_at rules f) ps))

  -- where all rules have one range from 0 there is one location, and the same rules are under it
  pub only : {e : ℕ} → (n ≡ 0 → ⊥) → Flat rules f ps e → cells (tree_at rules f n ps) ≡ suc (cells (tree_at rules (f + 1) (n - 1) ps))
  unfolding under_at
  only nz l = rw (tree_step rules f n ps nz, l.one, l.all) (omega arith)

  -- from all ends on there are none, and from the first one on the whole tree's
  sofar_all : (i : ℕ) → i ≡ length (ends_of (field_at rules f) ps) → sofar rules f n ps i ≡ 0
  unfolding sofar
  sofar_all i q = rw (q, drop-length (ends_of (field_at rules f) ps))

  module _ (nz : n ≡ 0 → ⊥) where
    sofar_none : sofar rules f n ps 0 ≡ cells (tree_at rules f n ps)
    unfolding sofar
    sofar_none = rw (tree_step rules f n ps nz)

    sofar_most : (i : ℕ) → sofar rules f n ps i ≤ cells (tree_at rules f n ps)
    unfolding sofar
    sofar_most i = rw (tree_step rules f n ps nz) (drop_fewer (under_at rules f n ps) i (ends_of (field_at rules f) ps))

  -- one end more is counted: its location, and what is under it
  sofar_step : (i : ℕ) → 0 < i → i ≤ length (ends_of (field_at rules f) ps) → {e : ℕ} → e ≡ get_or (ends_of (field_at rules f) ps) (i - 1) 0 → {under : List ℕ} → under ≡ keep (covers (field_at rules f) e) ps
      → sofar rules f n ps (i - 1) ≡ suc (cells (tree_at rules (f + 1) (n - 1) under) + sofar rules f n ps i)
  unfolding sofar under_at
  sofar_step i p l q k = rw (back (ends_of (field_at rules f) ps) i p l, k, q)

-- WHERE `count_chain` STANDS in its loop: the locations of the ends that are no more to come are counted.
pub record Counted (rules sets₀ sets ends : List ℕ) (n f left room count i : ℕ) : Type 0 where
  pub coming : Coming rules sets₀ sets ends n f i
  pub is : count ≡ min (sofar rules f left (take n sets₀) i) (room + 1)

pub counted_start : {rules sets₀ ends₀ : List ℕ} {n f left room : ℕ} → Scratch n left sets₀ ends₀ → 0 < left → (ends : List ℕ) (r : ℕ) → length ends ≡ length ends₀
    → (r ≤ 2 * length (take n sets₀)) × (r ≡ length (ends_of (field_at rules f) (take n sets₀))) × (take r ends ≡ ends_of (field_at rules f) (take n sets₀)) → Counted rules sets₀ sets₀ ends n f left room 0 r
counted_start {rules} {sets₀} {n = n} {f} {left} s p ends r k o = record { coming = coming_start s p ends r k o; is = omega (arith, sofar_all rules (take n sets₀) f left r o.1) }

module _ {rules sets₀ sets ends : List ℕ} {n f left room count i : ℕ} (g : Counted rules sets₀ sets ends n f left room count i) (nz : left ≡ 0 → ⊥) where
  pub counted_end : i ≤ 0 → count ≡ min (cells (tree_at rules f left (take n sets₀))) (room + 1)
  counted_end l = let z : i ≡ 0 = omega arith in let q = rw z at g.is in omega (arith, q, sofar_none rules (take n sets₀) f left nz)

  module _ (h : 0 < i) where
    -- where an end is left and the room is full, the tree has more locations
    pub counted_full : room ≤ count → room + 1 ≡ min (cells (tree_at rules f left (take n sets₀))) (room + 1)
    counted_full l = omega (arith, g.is, sofar_step rules (take n sets₀) f left i h g.coming.most refl refl, sofar_most rules (take n sets₀) f left nz (i - 1))

    pub counted_on : {m : ℕ} (under : List ℕ) → length under ≡ length sets → (m ≤ n) × (take n under ≡ take n sets) × (take m (drop n under) ≡ keep (covers (field_at rules f) (get_or ends (i - 1) 0)) (take n sets))
        → (ys zs : List ℕ) {below : ℕ} → count < room → below ≡ min (cells (tree_at rules (f + 1) (left - 1) (take m (mid_of n (length under - n) under)))) (room - 1 - count + 1)
        → length ys ≡ length (mid_of n (length under - n) under) → length zs ≡ length (mid_of (i - 1) (length ends - (i - 1)) ends)
        → Counted rules sets₀ (put_mid n (length under - n) under ys) (put_mid (i - 1) (length ends - (i - 1)) ends zs) n f left room (count + (1 + below)) (i - 1)
    counted_on under kept w ys zs l b u v =
        record {
          coming = coming_on g.coming h under kept w ys zs u v;
          is = omega (arith, g.is, b, l, sofar_step rules (take n sets₀) f left i h g.coming.most (next_end g.coming h) (lent g.coming h under kept w));
        }
