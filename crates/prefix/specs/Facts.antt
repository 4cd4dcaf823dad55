-- What `range_of` says, in plain facts: when it answers 10, and which numbers a range holds.
-- Assumes nothing.
use Rattle.std.specs.Prelude.{ℕ, ◌+◌, ◌-◌, ◌*◌, ◌/◌, ◌%◌, ◌^◌, ◌<◌, ◌≤◌, ◌≡◌, refl, Bool, true, false, ◌↔◌, ◌⊎◌, ltb, eqb}
use Rattle.std.proofs.Common.{sym, ap, ◌∙◌, inl, inr, ⊎_elim, add-mul, div-add-mod', div-mul-le_self, arith, pow_pos, pow-add, shr_lt}
use Rattle.std.proofs.Math.Bool.{or-true}
use Rattle.std.proofs.Math.Nat.{div-eq_of_lt-le, lt-div-mul-add, mul-mod_left}
use borrow.Author.Tests.{lt-ltb, le-ltb, eq-eqb, ne_eqb, ltb-true, ltb-false, eqb-true, eqb-false}
use Rattle.std.proofs.Math.Arith.{digits_lt}
use Rattle.std.proofs.Math.Pow.{ones_lt}
use Rattle.prefix.specs.Prefix.{block_size, refuses, no_range, block, range_of}

-- a is n taken some number of times
abbrev pub Multiple : ℕ → ℕ → Type 0
Multiple a n = (k : ℕ) × (a ≡ k * n)

-- the two cases of a prefix
record NoBlock (address length : ℕ) : Type 0 where
  why : (32 < length) ⊎ (address % block_size length ≡ 0 → ⊥)
  is : no_range ≡ range_of address length

record OneBlock (address length : ℕ) : Type 0 where
  short : length ≤ 32
  even : address % block_size length ≡ 0
  is : block address length ≡ range_of address length

module _ (address length : ℕ) where
  pub when_long : 32 < length → no_range ≡ range_of address length
  unfolding refuses range_of
  when_long h = simp (lt-ltb _ _ h)

  pub when_apart : (address % block_size length ≡ 0 → ⊥) → no_range ≡ range_of address length
  unfolding refuses range_of
  when_apart h = simp (ne_eqb _ _ h, or-true)

  pub when_whole : length ≤ 32 → address % block_size length ≡ 0 → block address length ≡ range_of address length
  unfolding refuses range_of
  when_whole h e = simp (le-ltb _ _ h, eq-eqb _ _ e)

  case : NoBlock address length ⊎ OneBlock address length
  case = pick (ltb 32 length) (eqb (address % block_size length) 0) refl refl
    where
      pick : (a b : Bool) → ltb 32 length ≡ a → eqb (address % block_size length) 0 ≡ b → NoBlock address length ⊎ OneBlock address length
      pick true b e f = let h : 32 < length = ltb-true _ _ e in inl (record { why = inl h; is = when_long h })
      pick false false e f = let n : address % block_size length ≡ 0 → ⊥ = eqb-false _ _ f in inl (record { why = inr n; is = when_apart n })
      pick false true e f =
          let h : length ≤ 32 = ltb-false _ _ e in
          let z : address % block_size length ≡ 0 = eqb-true _ _ f in
          inr (record { short = h; even = z; is = when_whole h z })

  whole_blocks : address % block_size length ≡ 0 → address ≡ address / block_size length * block_size length
  whole_blocks e = omega (arith, div-add-mod' address (block_size length))

  -- an address of 32 bits that is a multiple of the block's size has its whole block within 32 bits
  pub fits : address < 2 ^ 32 → address % block_size length ≡ 0 → address + (block_size length - 1) < 2 ^ 32
  fits h e =
      let k : ℕ = 32 - length in
      let j : ℕ = 32 - k in
      let s : j + k ≡ 32 = omega arith in
      let q : address / 2 ^ k < 2 ^ j = shr_lt j k (rw s h) in
      let p : 2 ^ j * 2 ^ k ≡ 2 ^ 32 = sym (pow-add 2 j k) ∙ ap (λ (n : ℕ). 2 ^ n) s in
      omega (arith, p, digits_lt q (ones_lt k), whole_blocks e)

  -- The answer is 10 if and only if the length is above 32 or the address is no multiple of 2^(32 − length).
  pub ten : ((range_of address length).answer ≡ 10) ↔ ((32 < length) ⊎ (Multiple address (2 ^ (32 - length)) → ⊥))
  ten =
      ⊎_elim
      (λ c. rw (← c.is) (λ _. ⊎_elim inl (λ n. inr (λ m. n (rw m.1 (mul-mod_left m.0 (block_size length))))) c.why, λ _. refl))
      (λ c. rw (← c.is)
      (λ a. absurd (omega arith), λ s. absurd (⊎_elim (λ l. omega arith) (λ n. n (address / block_size length, whole_blocks c.even)) s)))
      case

  -- With 10 come two zeros.
  pub zeros : (range_of address length).answer ≡ 10 → range_of address length ≡ no_range
  zeros = ⊎_elim (λ c _. sym c.is) (λ c. rw (← c.is) (λ a. absurd (omega arith))) case

  -- Otherwise the answer is 0, and the range holds exactly the numbers that have the address's first `length` bits of 32.
  pub exact : ((range_of address length).answer ≡ 10 → ⊥) → (v : ℕ) → ((range_of address length).answer ≡ 0) × ((((range_of address length).low ≤ v) × (v ≤ (range_of address length).high)) ↔ (v / 2 ^ (32 - length) ≡ address / 2 ^ (32 - length)))
  exact n v = ⊎_elim (λ c. absurd (n (rw (← c.is)))) (λ c. rw (← c.is) (refl, (into c.even, out c.even))) case
    where
      into : address % block_size length ≡ 0 → (address ≤ v) × (v ≤ address + (block_size length - 1)) → v / block_size length ≡ address / block_size length
      into e b =
          div-eq_of_lt-le (block_size length) (omega (arith, whole_blocks e))
          (rw add-mul (omega (arith, whole_blocks e, pow_pos (32 - length))))

      out : address % block_size length ≡ 0 → v / block_size length ≡ address / block_size length → (address ≤ v) × (v ≤ address + (block_size length - 1))
      out e q =
          let f : v / block_size length * block_size length ≡ address = rw q (sym (whole_blocks e)) in
          omega (arith, f, div-mul-le_self v (block_size length), lt-div-mul-add {a = v} (pow_pos (32 - length)))

  -- For an address of 32 bits both ends have 32 bits, and the low one comes first.
  pub ordered : address ≤ 4294967295 → ((range_of address length).low ≤ (range_of address length).high) × ((range_of address length).high ≤ 4294967295)
  ordered b =
      ⊎_elim (λ c. rw (← c.is) (omega arith)) (λ c. rw (← c.is) (omega (arith, fits (omega arith) c.even))) case
