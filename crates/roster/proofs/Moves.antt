-- A number taken out of a set, and the numbers of a set copied.
-- Assumes nothing.
use mathlib.Core.Path.{◌≡◌, sym, ap, ap₂, ◌∙◌}
use mathlib.Core.List.{List, [], ◌∷◌, ◌++◌}
use Prim.Native.Nat.{ℕ, ◌+◌, ◌-◌, ◌<◌}
use native.Mathlib.Omega.{arith}
use native.Mathlib.Numerals.{add-one}
use lib.ListN.{length, get_or, take, drop, set, length-drop}
use lib.Seq.{take-suc, take-suc-set}
use Rattle.std.specs.List.{copy_within}
use Rattle.std.proofs.lemmas.List.Edits.{take-paste}
use Rattle.std.proofs.lemmas.Slice.{between_is}

-- the numbers behind place p moved down by one, of the n + 1 first
pub moved_down : (l new : List ℕ) (p n : ℕ) → p < n → n < length l → new ≡ copy_within l (p + 1) (n + 1) p → take (n + 1 - 1) new ≡ take p l ++ drop (p + 1) (take (n + 1) l)
moved_down l new p n h k e =
    let m : n + 1 - 1 ≡ p + (n + 1 - (p + 1)) = omega arith in
    ap₂ take m e ∙ (take-paste l p (drop (p + 1) l) (n + 1 - (p + 1)) (omega arith) (omega (arith, length-drop (p + 1) l)) ∙ ap (λ ys. take p l ++ ys) (between_is l (p + 1) (n + 1)))

-- a number copied
pub copied_on : (from out : List ℕ) (i : ℕ) → i < length from → i < length out → take i out ≡ take i from → take (i + 1) (set out i (get_or from i 0)) ≡ take (i + 1) from
copied_on from out i h k e =
    ap (λ j. take j (set out i (get_or from i 0))) (add-one i)
    ∙ (take-suc-set out i (get_or from i 0) k
    ∙ (ap (λ ys. ys ++ (get_or from i 0 ∷ [])) e
    ∙ (sym (take-suc from i 0 h) ∙ ap (λ j. take j from) (sym (add-one i)))))
