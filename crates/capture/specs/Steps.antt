-- Reading a capture step by step gives the records of the whole: a record header of at most 16 bytes by `next_of`,
-- then at most as many bytes as it says, and then the same with what is left.
-- Assumes nothing.
use Rattle.std.specs.Prelude.{ℕ, zero, suc, ◌+◌, ◌-◌, ◌≤◌, min, ◌≡◌, refl, Bool, cond, List, [], ◌∷◌, ltb, leb, eqb, length, take, drop}
use Rattle.std.proofs.Common.{◌∙◌, arith, le-leb, eq-eqb, ltb-true, ltb-false, eqb-true, lit<, length-take, length-drop, get_or-take, drop-drop}
use Rattle.std.proofs.Math.Bool.{true, false}
use Rattle.std.proofs.lemmas.Bool.{lt-leb, eqb-false}
use Rattle.octets.specs.declared.Order.{Order}
use Rattle.octets.specs.Octets.{word}
use Rattle.capture.specs.Pcap.{next_of, Listing, ended, listed, records_in, records, after}
use Rattle.capture.specs.Cases.{edge, cut, long, whole}

-- more turns than bytes change nothing
enough : (m n : ℕ) (o : Order) (s : List ℕ) → length s ≤ m → length s ≤ n → records_in m o s ≡ records_in n o s
unfolding records_in
enough zero zero o s h k = refl
enough zero (suc n) o s h k = rw (eq-eqb (length s) 0 (omega arith))
enough (suc m) zero o s h k = rw (eq-eqb (length s) 0 (omega arith))
enough (suc m) (suc n) o s h k =
    rw (enough m n o (drop (16 + word o s 8) s) (rw length-drop (omega arith)) (rw length-drop (omega arith)))

-- the tests of one record, with what is left of the bytes behind it
unrolled : Order → List ℕ → Listing
unrolled o s =
    cond (eqb (length s) 0) (ended 0)
    (cond (ltb (length s) 16) (ended 1)
    (cond (ltb 16384 (word o s 8)) (ended 2)
    (cond (ltb (length s) (16 + word o s 8)) (ended 1)
    (listed (take (word o s 8) (drop 16 s)) (records o (drop (16 + word o s 8) s))))))

unroll : (o : Order) (s : List ℕ) → records o s ≡ unrolled o s
unfolding records_in records unrolled
unroll o [] = refl
unroll o (x ∷ s) =
    rw (enough (length s) (length (drop (16 + word o (x ∷ s) 8) (x ∷ s))) o (drop (16 + word o (x ∷ s) 8) (x ∷ s)) (rw length-drop (omega arith)) (omega arith))

got : (s : List ℕ) (n : ℕ) → length (take n (drop 16 s)) ≡ min n (length s - 16)
got s n = simp (length-take, length-drop)

-- a record is cut short if and only if fewer bytes of its data can be read than were captured
short : (s : List ℕ) (n : ℕ) (x y : Listing) → 16 ≤ length s → (d : Bool) → ltb (length s) (16 + n) ≡ d → cond (ltb (length s) (16 + n)) x y ≡ cond (leb n (length (take n (drop 16 s)))) y x
short s n x y h true t = rw (t, lt-leb n (length (take n (drop 16 s))) (omega (arith, got s n, ltb-true)))
short s n x y h false t = rw (t, le-leb n (length (take n (drop 16 s))) (omega (arith, got s n, ltb-false)))

module _ (o : Order) (s : List ℕ) where
  word_take : word o (take 16 s) 8 ≡ word o s 8
  word_take =
      rw (get_or-take 16 s 8 0 (lit< tt), get_or-take 16 s 9 0 (lit< tt), get_or-take 16 s 10 0 (lit< tt), get_or-take 16 s 11 0 (lit< tt))

  size : length (take 16 s) ≡ min 16 (length s)
  size = length-take 16 s

  some : eqb (length s) 0 ≡ false → length (take 16 s) ≡ 0 → ⊥
  some p e = eqb-false (length s) 0 p (omega (arith, size))

  full : ltb (length s) 16 ≡ false → 16 ≤ length (take 16 s)
  full q = omega (arith, size, ltb-false)

  by_tests : (a b c d : Bool) → eqb (length s) 0 ≡ a → ltb (length s) 16 ≡ b → ltb 16384 (word o s 8) ≡ c → ltb (length s) (16 + word o s 8) ≡ d → unrolled o s ≡ after o (drop 16 s) (next_of o (take 16 s))
  unfolding unrolled
  by_tests true b c d p q r t = rw (p, ← edge o (take 16 s) (omega (arith, size, eqb-true)))
  by_tests false true c d p q r t = rw (p, q, ← cut o (take 16 s) (some p) (omega (arith, size, ltb-true)))
  by_tests false false true d p q r t = rw (p, q, r, ← long o (take 16 s) (some p) (full q) (rw word_take (ltb-true _ _ r)))
  by_tests false false false d p q r t =
      rw (p, q, r, ← whole o (take 16 s) (some p) (full q) (rw word_take (ltb-false _ _ r)), word_take, drop-drop) (short s (word o s 8) _ _ (ltb-false _ _ q) d t)

  -- The records of some bytes begin with what the first 16 of them decide, and go on with the rest.
  pub step : records o s ≡ after o (drop 16 s) (next_of o (take 16 s))
  step = unroll o s ∙ by_tests _ _ _ _ refl refl refl refl
