-- `prefix::high_end` meets its contract. The bits of an address behind the prefix are its remainder by the block's size.
-- Assumes nothing.
use Prim.Native.Nat.{ℕ, ◌-◌, ◌%◌}
use mathlib.Core.Path.{◌≡◌, ◌∙◌, sym}
use native.Mathlib.Omega.{arith}
use lib.Bits.{bit_and, and_mask}
use Rattle.prefix.specs.Prefix.{block_size}
use Rattle.prefix.specs.Facts.{when_long, when_apart, when_whole, fits}
use Rattle.prefix.proofs.high_end.Goals as goal

masked : (address length last : ℕ) → last ≡ block_size length - 1 → bit_and address last ≡ address % block_size length
masked address length last e = rw e (and_mask address (32 - length))

pub returns-in_err-last : goal.returns-in_err-last
returns-in_err-last c = rw c.from_residual.ensures (when_long _ _ (omega (arith, c.in_err-last.ensures)))

pub returns-then-address-last-ne0 : goal.returns-then-address-last-ne0
returns-then-address-last-ne0 c = when_apart _ _ (λ e. c.if-address-last-ne0.true (masked _ _ _ c.in_ok-last.ensures.1 ∙ e))

-- the address is a multiple of the block's size
even : (c : goal.Else-address-last-ne0) → c.args.address % block_size c.args.length ≡ 0
even c = sym (masked _ _ _ c.in_ok-last.ensures.1) ∙ c.if-address-last-ne0.false

pub overflow_add-result : goal.overflow_add-result
overflow_add-result c = omega (arith, fits _ _ c.ranges.address.fits (even c))

pub returns : goal.returns
returns c = rw c.in_ok-last.ensures.1 (when_whole _ _ c.in_ok-last.ensures.0 (even c))
