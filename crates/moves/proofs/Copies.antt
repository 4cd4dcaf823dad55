-- Words that are copied one after the other, and words that are moved up or down by as many as a row has.
-- Assumes nothing.
use mathlib.Core.Path.{◌≡◌, refl, sym, ◌∙◌}
use mathlib.Core.List.{List, []}
use Prim.Native.Nat.{ℕ, ◌+◌, ◌-◌, ◌≤◌, ◌<◌}
use native.Mathlib.Omega.{arith}
use lib.Dec.{ltb}
use lib.ListN.{length, get_or, set, get_or-eq_default}
use lib.Seq.{get_or-set_same, get_or-set_other}
use borrow.Author.Tests.{ltb-true, ltb-false, lt-ltb, le-ltb}
use Rattle.model.specs.Lists.{up_to}
use Rattle.model.proofs.Tests.{by_test}
use Rattle.model.proofs.UpTo.{up_to_is}
use Rattle.table.specs.Rows.{Copied, Raised, put_word, take_word}

pub copied_start : (from : List ℕ) (start : ℕ) (b : List ℕ) (at : ℕ) → Copied from start b b at at
copied_start from start b at = record { new = λ i l h. absurd (omega arith); kept = λ i h. refl; behind = λ i h. refl }

-- one word more
pub copied_on : {from b out : List ℕ} {start at i : ℕ} {x : ℕ} → Copied from start b out at i → at ≤ i → i < length out → x ≡ get_or from (start + (i - at)) 0 → Copied from start b (set out i x) at (i + 1)
copied_on {from} {b} {out} {start} {at} {i} {x} c l h q = record {
  new = λ k u v. by_test (ltb k i)
      (λ t. let w = ltb-true k i t in get_or-set_other out i k x 0 (λ e. omega arith) ∙ c.new k u w)
      (λ t. let e : k ≡ i = omega (arith, ltb-false k i t) in rw e (get_or-set_same out i x 0 h ∙ q));
  kept = λ k v. get_or-set_other out i k x 0 (λ e. omega arith) ∙ c.kept k v;
  behind = λ k v. get_or-set_other out i k x 0 (λ e. omega arith) ∙ c.behind k (omega arith);
}

-- zeros behind what was there
pub copied_all : {from a b out : List ℕ} {start at stop end : ℕ} → Copied from start a b at stop → Copied [] 0 b out stop end → at ≤ stop → stop ≤ end → (stop < end → length from ≤ start + (stop - at)) → Copied from start a out at end
copied_all {from} {a} {b} {out} {start} {at} {stop} {end} c z l g h = record {
  new = λ k u v. by_test (ltb k stop)
      (λ t. let w = ltb-true k stop t in z.kept k w ∙ c.new k u w)
      (λ t. let w = ltb-false k stop t in z.new k w v ∙ sym (get_or-eq_default from 0 {n = start + (k - at)} (omega (arith, h (omega arith)))));
  kept = λ k v. z.kept k (omega arith) ∙ c.kept k v;
  behind = λ k v. z.behind k v ∙ c.behind k (omega arith);
}

-- WORDS MOVED UP, from the last one down: as far as word i they stand higher
pub record Rising (before out : List ℕ) (w i : ℕ) : Type 0 where
  pub still : (j : ℕ) → j < i → get_or out j 0 ≡ get_or before j 0
  pub moved : (j : ℕ) → i ≤ j → j < length before → get_or out j 0 ≡ get_or before (j - w) 0

pub rising_start : (b : List ℕ) (w : ℕ) → Rising b b w (length b)
rising_start b w = record { still = λ j h. refl; moved = λ j u v. absurd (omega arith) }

pub rising_on : {b out : List ℕ} {w i : ℕ} → Rising b out w i → 0 < i → i ≤ length out → Rising b (set out (i - 1) (get_or out (i - 1 - w) 0)) w (i - 1)
rising_on {b} {out} {w} {i} r p l = record {
  still = λ j h. get_or-set_other out (i - 1) j (get_or out (i - 1 - w) 0) 0 (λ e. omega arith) ∙ r.still j (omega arith);
  moved = λ j u v. by_test (ltb j i)
      (λ t. let e : j ≡ i - 1 = omega (arith, ltb-true j i t) in rw e (get_or-set_same out (i - 1) (get_or out (i - 1 - w) 0) 0 (omega arith) ∙ r.still (i - 1 - w) (omega arith)))
      (λ t. let z = ltb-false j i t in get_or-set_other out (i - 1) j (get_or out (i - 1 - w) 0) 0 (λ e. omega arith) ∙ r.moved j z v);
}

pub raised : {b out : List ℕ} {w i : ℕ} (at : ℕ) → Rising b out w i → i ≡ at + w → Raised b out at w
raised at r e = record { low = λ j h. r.still j (omega arith); high = λ j u v. r.moved j (omega arith) v }

-- and a row written where they were
pub put_moved : {rows row a out : List ℕ} (w p : ℕ) → Raised rows a p w → Copied row 0 a out p (p + w) → length out ≡ length rows → out ≡ up_to (length rows) (put_word w rows p row)
put_moved {rows} {row} {a} {out} w p x y l = up_to_is 0 out (length rows) (put_word w rows p row) l (λ i h. by_test (ltb i p)
    (λ t. let u = ltb-true i p t in rw t (y.kept i u ∙ x.low i u))
    (λ t. let u = ltb-false i p t in by_test (ltb i (p + w))
    (λ s. let v = ltb-true i (p + w) s in let q : 0 + (i - p) ≡ i - p = omega arith in rw (t, s, ← q) (y.new i u v))
    (λ s. let v = ltb-false i (p + w) s in rw (t, s) (y.behind i v ∙ x.high i v h))))

-- WORDS MOVED DOWN, from a place on: as far as word i they stand lower
pub record Sinking (before out : List ℕ) (w p i : ℕ) : Type 0 where
  pub moved : (j : ℕ) → j < i → get_or out j 0 ≡ take_word w before p j
  pub still : (j : ℕ) → i ≤ j → get_or out j 0 ≡ get_or before j 0

pub sinking_start : (b : List ℕ) (w p : ℕ) → Sinking b b w p p
sinking_start b w p = record { moved = λ j h. rw (lt-ltb j p h); still = λ j h. refl }

pub sinking_on : {b out : List ℕ} {w p i x : ℕ} → Sinking b out w p i → p ≤ i → i < length out → x ≡ get_or out (i + w) 0 → Sinking b (set out i x) w p (i + 1)
sinking_on {b} {out} {w} {p} {i} {x} s u h e = record {
  moved = λ j v. by_test (ltb j i)
      (λ t. let z = ltb-true j i t in get_or-set_other out i j x 0 (λ q. omega arith) ∙ s.moved j z)
      (λ t. let q : j ≡ i = omega (arith, ltb-false j i t) in rw (q, le-ltb i p u) (get_or-set_same out i x 0 h ∙ e ∙ s.still (i + w) (omega arith)));
  still = λ j v. get_or-set_other out i j x 0 (λ q. omega arith) ∙ s.still j (omega arith);
}

pub sunk : {b out : List ℕ} {w p i : ℕ} → Sinking b out w p i → length out ≡ length b → length b ≤ i → out ≡ up_to (length b) (take_word w b p)
sunk {b} {out} {w} {p} {i} s l h = up_to_is 0 out (length b) (take_word w b p) l (λ j v. s.moved j (omega arith))
