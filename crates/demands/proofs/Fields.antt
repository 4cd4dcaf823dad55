-- The fields one by one: a rule holds a packet's values exactly where each of its ranges holds the value, its ranges are right exactly where each of them is, its ports are where it asks for them only of packets that have them, and values are right where none is above its top.
-- Assumes nothing.
use mathlib.Core.Path.{◌≡◌, refl, sym, subst, ◌∙◌}
use mathlib.Core.Logic.{◌⊎◌, inl, inr}
use mathlib.Core.Bool.{Bool, true, false, ◌&&◌}
use mathlib.Core.List.{List, [], ◌∷◌}
use Prim.Native.Nat.{ℕ, zero, suc, ◌+◌, ◌≤◌, ◌<◌}
use native.Mathlib.Omega.{arith}
use native.Mathlib.Nat.{add-zero, zero-add}
use lib.Dec.{leb, eqb}
use lib.ListN.{length, get_or}
use borrow.Author.Tests.{leb-true, leb-false, le-leb, eqb-true, eq-eqb}
use Rattle.model.specs.Rules.{holds, ranges_right, within_tops}
use Rattle.model.specs.Table.{Kind, Rule, fields_from, fields, asks_for, ports_right, packet_right}
use Rattle.model.proofs.Tests.{by_test, never, and_left, and_right, and_both}
use Rattle.header.specs.Says.{Says, says_eq, says_or, says_and}
use Rattle.demands.specs.Calls.{field_count, value_at, low_at, high_at, top_at, HoldsAll, AsksTo, FullPorts, PortsOnly, AboveTop}

-- THE RANGES of a rule and a packet's values
module _ (vs : List ℕ) (r : Rule) where
  -- the range of field i holds its value
  abbrev pub At : ℕ → Type 0
  At i = (low_at r i ≤ value_at vs i) × (value_at vs i ≤ high_at r i)

  pub covered : (i : ℕ) → (leb (low_at r i) (value_at vs i) && leb (value_at vs i) (high_at r i)) ≡ true → At i
  covered i h = (leb-true _ _ (and_left (leb (low_at r i) (value_at vs i)) _ h), leb-true _ _ (and_right (leb (low_at r i) (value_at vs i)) _ h))

  pub covering : (i : ℕ) → At i → (leb (low_at r i) (value_at vs i) && leb (value_at vs i) (high_at r i)) ≡ true
  covering i a = and_both _ _ (le-leb _ _ a.0) (le-leb _ _ a.1)

  from_holds : (ts : List ℕ) (i : ℕ) → holds (fields_from i ts) vs r ≡ true → (j : ℕ) → j < length ts → At (i + j)
  from_holds [] i h j l = absurd (omega arith)
  from_holds (t ∷ ts) i h zero l = rw add-zero (covered i (and_left _ _ h))
  from_holds (t ∷ ts) i h (suc j) l =
      let z : suc i + j ≡ i + suc j = omega arith in
      subst At z (from_holds ts (suc i) (and_right (leb (low_at r i) (value_at vs i) && leb (value_at vs i) (high_at r i)) _ h) j (omega arith))

  to_holds : (ts : List ℕ) (i : ℕ) → ((j : ℕ) → j < length ts → At (i + j)) → holds (fields_from i ts) vs r ≡ true
  to_holds [] i h = refl
  to_holds (t ∷ ts) i h =
      and_both _ _ (covering i (rw add-zero at (h 0 (omega arith))))
      (to_holds ts (suc i) (λ j l. let z : i + suc j ≡ suc i + j = omega arith in subst At z (h (suc j) (omega arith))))

module _ (k : Kind) (vs : List ℕ) (r : Rule) where
  pub all_held : holds (fields k) vs r ≡ true → HoldsAll k vs r
  all_held h i l = rw zero-add at (from_holds vs r k.tops 0 h i l)

  pub held_all : HoldsAll k vs r → holds (fields k) vs r ≡ true
  held_all h = to_holds vs r k.tops 0 (λ j l. rw zero-add (h j l))

-- THE RANGES of a rule over the fields from i on: a wrong one, or all right
module _ (r : Rule) where
  pub wrong_from : (ts : List ℕ) (i : ℕ) → ranges_right (fields_from i ts) r ≡ false → (j : ℕ) × (j < length ts) × ((high_at r (i + j) < low_at r (i + j)) ⊎ (get_or ts j 0 < high_at r (i + j)))
  wrong_from [] i h = never h
  wrong_from (t ∷ ts) i h = go (wrong_from ts (suc i)) (leb (low_at r i) (high_at r i)) refl (leb (high_at r i) t) refl h
    where
      go : (ranges_right (fields_from (suc i) ts) r ≡ false → (j : ℕ) × (j < length ts) × ((high_at r (suc i + j) < low_at r (suc i + j)) ⊎ (get_or ts j 0 < high_at r (suc i + j))))
          → (a : Bool) → leb (low_at r i) (high_at r i) ≡ a → (b : Bool) → leb (high_at r i) t ≡ b → (a && (b && ranges_right (fields_from (suc i) ts) r)) ≡ false
          → (j : ℕ) × (j < suc (length ts)) × ((high_at r (i + j) < low_at r (i + j)) ⊎ (get_or (t ∷ ts) j 0 < high_at r (i + j)))
      go ih false p b q e = (0, omega arith, inl (rw add-zero (leb-false (low_at r i) (high_at r i) p)))
      go ih true p false q e = (0, omega arith, inr (rw add-zero (leb-false (high_at r i) t q)))
      go ih true p true q e =
          let w = ih e in
          let z : suc i + w.0 ≡ i + suc w.0 = omega arith in
          (suc w.0, omega (arith, w.1), subst (λ (n : ℕ). (high_at r n < low_at r n) ⊎ (get_or ts w.0 0 < high_at r n)) z w.2)

  pub right_from : (ts : List ℕ) (i : ℕ) → ranges_right (fields_from i ts) r ≡ true → (j : ℕ) → j < length ts → (low_at r (i + j) ≤ high_at r (i + j)) × (high_at r (i + j) ≤ get_or ts j 0)
  right_from [] i h j l = absurd (omega arith)
  right_from (t ∷ ts) i h zero l =
      let g = and_right (leb (low_at r i) (high_at r i)) _ h in
      rw add-zero (leb-true _ _ (and_left (leb (low_at r i) (high_at r i)) _ h), leb-true _ _ (and_left (leb (high_at r i) t) _ g))
  right_from (t ∷ ts) i h (suc j) l =
      let g = and_right (leb (high_at r i) t) _ (and_right (leb (low_at r i) (high_at r i)) _ h) in
      let z : suc i + j ≡ i + suc j = omega arith in
      subst (λ (n : ℕ). (low_at r n ≤ high_at r n) × (high_at r n ≤ get_or ts j 0)) z (right_from ts (suc i) g j (omega arith))

-- THE PORTS of a rule
module _ (k : Kind) (r : Rule) where
  asks_say : (i n : ℕ) → Says (asks_for r i 0 n) (AsksTo r i n)
  asks_say i n = says_and _ _ (says_eq _ _) (says_eq _ _)

  pub ports_say : Says (ports_right k r) (PortsOnly k r ⊎ FullPorts k r)
  ports_say = says_or _ _ (asks_say _ _) (says_and _ _ (asks_say _ _) (asks_say _ _))

-- what a test says that is false does not hold
pub says_no : {P : Type 0} (b : Bool) → Says b P → b ≡ false → P → ⊥
says_no b s e p = never (sym (s.1 p) ∙ e)

-- THE TOPS: values over the fields from i on, none above its top
module _ (vs : List ℕ) where
  tops_from : (ts : List ℕ) (i : ℕ) → within_tops (fields_from i ts) vs ≡ true → (j : ℕ) → j < length ts → value_at vs (i + j) ≤ get_or ts j 0
  tops_from [] i h j l = absurd (omega arith)
  tops_from (t ∷ ts) i h zero l = rw add-zero (leb-true _ _ (and_left (leb (value_at vs i) t) _ h))
  tops_from (t ∷ ts) i h (suc j) l =
      let z : suc i + j ≡ i + suc j = omega arith in
      subst (λ (n : ℕ). value_at vs n ≤ get_or ts j 0) z (tops_from ts (suc i) (and_right (leb (value_at vs i) t) _ h) j (omega arith))

  above_from : (ts : List ℕ) (i : ℕ) → within_tops (fields_from i ts) vs ≡ false → (j : ℕ) × (j < length ts) × (get_or ts j 0 < value_at vs (i + j))
  above_from [] i h = never h
  above_from (t ∷ ts) i h = by_test (leb (value_at vs i) t)
      (λ q.
      let w = above_from ts (suc i) (rw q at h) in
      let z : suc i + w.0 ≡ i + suc w.0 = omega arith in
      (suc w.0, omega (arith, w.1), subst (λ (n : ℕ). get_or ts w.0 0 < value_at vs n) z w.2))
      (λ q. (0, omega arith, rw add-zero (leb-false (value_at vs i) t q)))

module _ (k : Kind) (vs : List ℕ) where
  pub right_length : packet_right k vs ≡ true → length vs ≡ field_count k
  right_length h = eqb-true (length vs) (field_count k) (and_left _ _ h)

  pub right_tops : packet_right k vs ≡ true → (i : ℕ) → i < field_count k → value_at vs i ≤ top_at k i
  right_tops h i l = rw zero-add at (tops_from vs k.tops 0 (and_right (eqb (length vs) (field_count k)) _ h) i l)

  -- so as many values as fields are right, or one is above its top
  pub not_above : packet_right k vs ≡ true → AboveTop k vs → ⊥
  not_above h a = omega (arith, right_tops h a.0 a.1, a.2)

  pub one_above : length vs ≡ field_count k → packet_right k vs ≡ false → AboveTop k vs
  one_above l h = simp zero-add at (above_from vs k.tops 0 (sym (rw (eq-eqb (length vs) (field_count k) l)) ∙ h))
