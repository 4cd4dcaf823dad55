-- What C is given of a rule that is read: the rule, or the number of the refusal and zeros.
-- Assumes nothing.
use mathlib.Core.Path.{◌≡◌, sym, ◌∙◌}
use mathlib.Core.Bool.{cond}
use Prim.Native.Nat.{ℕ}
use lib.Dec.{eqb}
use Rattle.std.specs.Prelude.{Result, Ok, Err, IfOk, IfErr}
use Rattle.std.proofs.lemmas.Bool.{ne_eqb}
use Rattle.refusal.specs.declared.Refusal.{Refusal}
use Rattle.refusal.specs.Refusals.{number_of, answer_of}
use Rattle.refusal.proofs.Numbers.{refuses}
use Rattle.model.specs.Table.{Rule}
use Rattle.ipv4.specs.declared.Rule.{Rule as Given}
use Rattle.ipv4.specs.Rule.{given}

-- a number that is not 0 leaves the second
not_done : (n : ℕ) (r z : Rule) → (n ≡ 0 → ⊥) → z ≡ cond (eqb n 0) r z
not_done n r z h = rw (ne_eqb n 0 h)

pub given_to_c : (says : ℕ) (r z x : Rule) (a : ℕ) (read : Result Given Refusal) → (answer_of read ≡ says) × IfOk read (λ rule. given rule ≡ cond (eqb says 0) r z) → (a ≡ answer_of read) × IfOk read (λ rule. x ≡ given rule) × IfErr read (λ refusal. x ≡ z) → (a ≡ says) × (x ≡ cond (eqb says 0) r z)
given_to_c says r z x a (Ok rule) e c = (c.0 ∙ e.0, c.1 ∙ e.1)
given_to_c says r z x a (Err refusal) e c = (c.0 ∙ e.0, c.2 ∙ not_done says r z (λ h. refuses refusal (e.0 ∙ h)))
