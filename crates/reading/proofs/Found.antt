-- What a call says of words that it read something of, besides a refusal; and the rule that C is given.
-- Assumes nothing.
use mathlib.Core.Path.{◌≡◌, ap, ◌∙◌}
use mathlib.Core.List.{List}
use Prim.Native.Nat.{ℕ, ◌≤◌}
use native.Mathlib.Omega.{arith}
use lib.ListN.{length}
use Rattle.std.specs.Prelude.{Result, Ok, Err, IfOk, IfErr}
use Rattle.std.specs.Result.{result_unwrap_or}
use Rattle.model.specs.Table.{Kind, Shaped, front}
use Rattle.model.specs.Ipv4.{large}
use Rattle.model.proofs.Tests.{by_test}
use Rattle.refusal.specs.declared.Refusal.{Refusal}
use Rattle.ipv4.specs.declared.Rule.{Rule}
use Rattle.ipv4.specs.Rule.{given}
use Rattle.refusal.specs.Refusals.{answer_of}
use Rattle.refusal.proofs.Numbers.{refuses}
use Rattle.layout.specs.Store.{passes, checked, zero_rule, cells_says, cells_gives}
use Rattle.layout.proofs.Sound.{sound}
use Rattle.layout.proofs.Passed.{sound_room}

-- a store of which something is said besides 9 passes, so that it has its front
pub found_front : (k : Kind) → Shaped k → (ws : List ℕ) (a : ℕ) → 0 ≡ checked k ws a → front k ≤ length ws
found_front k s ws a e = by_test (passes k ws)
    (λ h. let w = (sound_room k s ws (sound k s ws h)).long in omega arith)
    (λ h. absurd (let z : 0 ≡ 9 = e ∙ rw h in omega arith))

-- the rule that was read, and zeros in place of a refusal
pub zeros_or : (read : Result Rule Refusal) (zeros : Rule) → given zeros ≡ zero_rule large → (r : Rule) → r ≡ result_unwrap_or read zeros → IfOk read (λ rule. r ≡ rule) × IfErr read (λ refusal. given r ≡ zero_rule large)
zeros_or (Ok rule) zeros h r e = (e, tt)
zeros_or (Err refusal) zeros h r e = (tt, ap given e ∙ h)

-- the cells that were counted, and 0 in place of a refusal
pub cells_or : (k : Kind) (ws : List ℕ) (n : Result ℕ Refusal) → answer_of n ≡ cells_says k ws → IfOk n (λ x. x ≡ cells_gives k ws) → result_unwrap_or n 0 ≡ cells_gives k ws
cells_or k ws (Ok x) e h = h
cells_or k ws (Err r) e h = by_test (passes k ws) (λ p. absurd (refuses r (e ∙ rw p))) (λ p. rw p)
