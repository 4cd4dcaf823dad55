-- What a number that is put leaves in the lines: its decimal digits, and the byte behind them.
-- Assumes nothing.
use Rattle.std.proofs.Common.{◌≡◌, ℕ, ◌+◌, ◌^◌, ◌≤◌, ◌<◌, List, [], ◌∷◌, ◌++◌, length, take, set, ap, ◌∙◌, arith, add-one, append_assoc, take-suc-set, take_all}
use Rattle.std.proofs.Math.Seq.{paste, take-paste, length-paste}
use Rattle.std.proofs.lemmas.Fmt.{length-decimal-le}
use Rattle.std.specs.Fmt.{decimal}
use Rattle.listing.specs.Lines.{item}

-- a number put at a place, with one byte behind it
pub put_text : (l d : List ℕ) (at n behind : ℕ) → n < 2 ^ 64 → at + 21 ≤ length l → d ≡ decimal n
    → (length d ≤ 20) × (take (at + length d + 1) (set (paste l at d (length d)) (at + length d) behind) ≡ take at l ++ item n behind)
put_text l d at n behind w i e =
    let few : length d ≤ 20 = rw e (length-decimal-le 20 n (omega arith) (omega arith) w) in
    let k = length d in
    let p = paste l at d k in
    let y : at + k < length p = omega (arith, length-paste l at d k (omega arith) (omega arith)) in (
      few,
      rw (add-one (at + k), take-suc-set p (at + k) behind y, take-paste l at d k (omega arith) (omega arith), append_assoc)
          (ap (λ x. take at l ++ (x ++ (behind ∷ []))) (take_all k d (omega arith) ∙ e)),
    )
