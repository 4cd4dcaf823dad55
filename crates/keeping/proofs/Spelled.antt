-- The number that digits spell, one law for each way that a byte of them goes.
-- Assumes nothing.
use mathlib.Core.Path.{◌≡◌, refl}
use mathlib.Core.Bool.{Bool, true, false, cond}
use mathlib.Core.List.{List}
use Prim.Native.Nat.{ℕ, ◌+◌, ◌-◌, ◌*◌, ◌≤◌, ◌<◌}
use native.Mathlib.Numerals.{add-one}
use native.Mathlib.Omega.{arith}
use borrow.Author.Tests.{lt-ltb, le-ltb, ltb-false}
use lib.Dec.{ltb}
use lib.ListN.{length, get_or, drop}
use lib.Seq.{drop-cons, drop-length}
use Rattle.std.proofs.Common.{inl, inr}
use Rattle.std.specs.Prelude.{Option, Some, None}
use Rattle.std.specs.Char.{digit_value, IsDigitOf, NotDecimalDigitIn}
use Rattle.keeping.specs.Keep.{spelled}

-- a character that is read as a digit below 10 is one of 48 to 57
decimal_digit : (c d : ℕ) → IsDigitOf c d → d < 10 → (48 ≤ c) × (c ≤ 57) × (c - 48 ≡ d)
decimal_digit c d (inl k) l = omega (arith, k.0, k.1)
decimal_digit c d (inr (inl k)) l = omega (arith, k.0, k.1)
decimal_digit c d (inr (inr k)) l = omega (arith, k.0, k.1)

module _ (t : List ℕ) (i v c : ℕ) (h : i < length t) (e : c ≡ get_or t i 0) where
  pub no_digit : NotDecimalDigitIn 10 c → None ≡ spelled v (drop i t)
  unfolding spelled
  no_digit n = rw (drop-cons t i 0 h, ← e) (by_tests (ltb c 48) (ltb 57 c) _ refl refl)
    where
      by_tests : (a b : Bool) (rest : Option ℕ) → ltb c 48 ≡ a → ltb 57 c ≡ b → None ≡ cond a None (cond b None rest)
      by_tests true b rest p q = refl
      by_tests false true rest p q = refl
      by_tests false false rest p q = absurd (omega (arith, n (ltb-false _ _ p) (ltb-false _ _ q), ltb-false 57 c q))

  module _ (d : ℕ) (k : IsDigitOf c d) (small : (digit_value c < 10) × (d ≡ digit_value c)) where
    one_digit : spelled v (drop i t) ≡ cond (ltb 4294967295 (v * 10 + d)) None (spelled (v * 10 + d) (drop (i + 1) t))
    unfolding spelled
    one_digit =
        let l : d < 10 = rw small.1 small.0 in
        let p : (48 ≤ c) × (c ≤ 57) × (c - 48 ≡ d) = decimal_digit c d k l in
        rw (drop-cons t i 0 h, ← e, le-ltb _ _ p.0, le-ltb _ _ p.1, p.2, add-one)

    pub over : 4294967295 < v * 10 + d → None ≡ spelled v (drop i t)
    over m = rw (one_digit, lt-ltb _ _ m)

    pub more : v * 10 + d ≤ 4294967295 → spelled v (drop i t) ≡ spelled (v * 10 + d) (drop (i + 1) t)
    more m = rw (one_digit, le-ltb _ _ m)

-- all digits are read
pub done : (t : List ℕ) (i v : ℕ) → i ≡ length t → Some v ≡ spelled v (drop i t)
unfolding spelled
done t i v e = rw (e, drop-length t)
