-- The count of reads in plain words: in each field, the distinct ends below the packet's value of the rules that hold its earlier values.
-- Assumes nothing.
use mathlib.Core.Path.{◌≡◌, refl, ap}
use mathlib.Core.Logic.{inl, inr}
use mathlib.Core.List.{List, [], ◌∷◌}
use Prim.Native.Nat.{ℕ, zero, suc, ◌+◌, ◌<◌}
use native.Mathlib.Omega.{arith}
use native.Mathlib.Nat.{add-zero, zero-add}
use lib.Dec.{ltb}
use lib.ListN.{length}
use borrow.Author.Tests.{ltb-true, lt-ltb}
use Rattle.model.specs.Lists.{In, Rising, keep, below, sum, up_to}
use Rattle.model.specs.Rules.{ends, reads_each, reads_sum}
use Rattle.model.specs.Table.{Kind, Rule, fields_from, fields, field_of}
use Rattle.model.proofs.Tests.{by_test}
use Rattle.model.proofs.Keep.{in_keep, from_keep}
use Rattle.model.proofs.Ends.{ends_rising}
use Rattle.demands.specs.Calls.{field_count, value_at}
use Rattle.demands.specs.Demand3.{Reads}
use Rattle.demands.proofs.Left.{next, back, left, ends_left, from_left, to_left}

-- the part of a rising list that is below v
module _ (v : ℕ) where
  keep_rising : (es : List ℕ) → Rising es → Rising (keep (λ e. ltb e v) es)
  keep_rising [] r = tt
  keep_rising (e ∷ es) r = by_test (ltb e v) (λ q. rw q ((λ y m. r.0 y (from_keep (λ x. ltb x v) es y m).0), keep_rising es r.1)) (λ q. rw q (keep_rising es r.1))

  pub keep_below : (es : List ℕ) → length (keep (λ e. ltb e v) es) ≡ below v es
  keep_below [] = refl
  keep_below (e ∷ es) = by_test (ltb e v) (λ q. rw q (ap suc (keep_below es))) (λ q. rw q (keep_below es))

module _ (vs : List ℕ) where
  -- the ends that are counted in the field j behind field i, over the rules rs that are left there
  abbrev ends_at : List ℕ → ℕ → List Rule → ℕ → List ℕ
  ends_at [] i rs j = []
  ends_at (t ∷ ts) i rs zero = keep (λ e. ltb e (value_at vs i)) (ends (field_of i t) rs)
  ends_at (t ∷ ts) i rs (suc j) = ends_at ts (suc i) (left vs i t rs) j

  ends_at_rising : (ts : List ℕ) (i : ℕ) (rs : List Rule) (j : ℕ) → Rising (ends_at ts i rs j)
  ends_at_rising [] i rs j = tt
  ends_at_rising (t ∷ ts) i rs zero = keep_rising (value_at vs i) (ends (field_of i t) rs) (ends_rising (field_of i t) rs)
  ends_at_rising (t ∷ ts) i rs (suc j) = ends_at_rising ts (suc i) (left vs i t rs) j

  -- they are those of its ends that are below the value
  from_ends_at : (ts : List ℕ) (i : ℕ) (rs : List Rule) (j e : ℕ) → In e (ends_at ts i rs j) → (e < value_at vs (i + j)) × In e (ends_left vs ts i rs j)
  from_ends_at [] i rs j e m = absurd m
  from_ends_at (t ∷ ts) i rs zero e m =
      let a = from_keep (λ x. ltb x (value_at vs i)) (ends (field_of i t) rs) e m in
      rw add-zero (ltb-true e (value_at vs i) a.1, a.0)
  from_ends_at (t ∷ ts) i rs (suc j) e m =
      let a = from_ends_at ts (suc i) (left vs i t rs) j e m in
      (next (λ n. e < value_at vs n) i j a.0, a.1)

  to_ends_at : (ts : List ℕ) (i : ℕ) (rs : List Rule) (j e : ℕ) → e < value_at vs (i + j) → In e (ends_left vs ts i rs j) → In e (ends_at ts i rs j)
  to_ends_at [] i rs j e l m = m
  to_ends_at (t ∷ ts) i rs zero e l m = in_keep (λ x. ltb x (value_at vs i)) (ends (field_of i t) rs) e m (lt-ltb e (value_at vs i) (rw add-zero at l))
  to_ends_at (t ∷ ts) i rs (suc j) e l m = to_ends_at ts (suc i) (left vs i t rs) j e (back (λ n. e < value_at vs n) i j l) m

  sum_ends_at : (ts : List ℕ) (i : ℕ) (rs : List Rule) → reads_sum (fields_from i ts) vs rs ≡ sum (up_to (length ts) (λ j. 1 + length (ends_at ts i rs j)))
  unfolding up_to
  sum_ends_at [] i rs = refl
  sum_ends_at (t ∷ ts) i rs = omega (arith, keep_below (value_at vs i) (ends (field_of i t) rs), sum_ends_at ts (suc i) (left vs i t rs))

  -- one more than these ends is what the field counts
  each_ends_at : (ts : List ℕ) (i : ℕ) (rs : List Rule) (j : ℕ) → j < length ts → In (1 + length (ends_at ts i rs j)) (reads_each (fields_from i ts) vs rs)
  each_ends_at [] i rs j l = absurd (omega arith)
  each_ends_at (t ∷ ts) i rs zero l = inl (omega (arith, keep_below (value_at vs i) (ends (field_of i t) rs)))
  each_ends_at (t ∷ ts) i rs (suc j) l = inr (each_ends_at ts (suc i) (left vs i t rs) j (omega arith))

-- THE COUNT over all fields
module _ (k : Kind) (vs : List ℕ) (rs : List Rule) where
  pub counts : Reads k rs vs (reads_sum (fields k) vs rs)
  counts =
      record {
        ends = ends_at vs k.tops 0 rs;
        counted = λ i l e. (
          λ m. let a = from_ends_at vs k.tops 0 rs i e m in (rw zero-add at a.0, simp zero-add at (from_left vs k.tops 0 rs i e a.1)),
          λ h. to_ends_at vs k.tops 0 rs i e (rw zero-add h.0) (to_left vs k.tops 0 rs i e l (simp zero-add h.1)),
        );
        distinct = λ i l. ends_at_rising vs k.tops 0 rs i;
        summed = sum_ends_at vs k.tops 0 rs;
      }

  pub counts_each : (i : ℕ) → i < field_count k → In (1 + length (counts.ends i)) (reads_each (fields k) vs rs)
  unfolding counts
  counts_each i l = each_ends_at vs k.tops 0 rs i l
