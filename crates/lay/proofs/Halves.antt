-- A block whose halves are filled, the ends with one word and the links with another.
-- Assumes nothing.
use mathlib.Core.Path.{◌≡◌, refl, sym, ap, ◌∙◌}
use mathlib.Core.List.{List, ◌++◌, append_assoc}
use Prim.Native.Nat.{ℕ, ◌+◌, ◌-◌, ◌*◌, ◌≤◌}
use native.Mathlib.Omega.{arith}
use lib.ListN.{length, take, drop, replicate, length-replicate}
use lib.Seq.{drop_at, drop-drop, length-take-le}
use borrow.Rule.Slice.PartMut.{mid_of, put_mid, mid_len, same_len_mid}
use Rattle.std.proofs.lemmas.Slice.{take-put_mid_below, take-put_mid, drop-put_mid}
use Rattle.blocks.specs.Blocks.{each_of, level}
use Rattle.blocks.specs.Written.{Level}

-- eight words and eight more are written from place a on
module _ (w es ls : List ℕ) (a k k' : ℕ) (h : a + 16 ≤ length w) (p : length es ≡ 8) (q : length ls ≡ 8) (d : k ≡ 8) (d' : k' ≡ 8) (m : length (mid_of a k w) ≡ 8) (m' : length (mid_of (a + 8) k' (put_mid a k w es)) ≡ 8) where
  first_long : length (put_mid a k w es) ≡ length w
  first_long = same_len_mid a k w es (omega arith)

  both_long : length (put_mid (a + 8) k' (put_mid a k w es) ls) ≡ length w
  both_long = same_len_mid (a + 8) k' (put_mid a k w es) ls (omega arith) ∙ first_long

  both_before : take a (put_mid (a + 8) k' (put_mid a k w es) ls) ≡ take a w
  both_before = take-put_mid_below (a + 8) k' (put_mid a k w es) ls a (omega arith) (omega (arith, first_long)) ∙ take-put_mid_below a k w es a (omega arith) (omega arith)

  both_are : drop a (put_mid (a + 8) k' (put_mid a k w es) ls) ≡ es ++ (ls ++ drop (a + 16) w)
  both_are =
      let w₁ = put_mid a k w es in
      let z : a + 8 + k' ≡ a + 16 = omega arith in
      let behind : drop k' (drop (a + 8) w₁) ≡ drop (a + 16) w = drop-drop k' (a + 8) w₁ ∙ ap (λ n. drop n w₁) z ∙ drop-put_mid a k w es (a + 16) (omega arith) (omega arith) (omega arith) in
      let t : take (a + 8) w₁ ≡ take a w ++ es = take-put_mid a k w es (a + 8) (omega arith) (omega arith) in
      ap (drop a) (ap (λ x. x ++ (ls ++ drop k' (drop (a + 8) w₁))) t ∙ append_assoc (take a w) es (ls ++ drop k' (drop (a + 8) w₁)))
      ∙ drop_at (take a w) (es ++ (ls ++ drop k' (drop (a + 8) w₁))) a (length-take-le a w (omega arith))
      ∙ ap (λ r. es ++ (ls ++ r)) behind

one_level : (x y : ℕ) (r : List ℕ) → replicate 8 x ++ (replicate 8 y ++ r) ≡ level 1 (λ i. x) (λ i. y) r
unfolding each_of level
one_level x y r = refl

pub halves_filled : {w es ls : List ℕ} {b x y : ℕ} → 16 * (b + 1) ≤ length w → es ≡ replicate (length (mid_of (16 * b) (16 * b + 8 - 16 * b) w)) x
    → ls ≡ replicate (length (mid_of (16 * b + 8) (16 * b + 8 + 8 - (16 * b + 8)) (put_mid (16 * b) (16 * b + 8 - 16 * b) w es))) y
    → Level w (put_mid (16 * b + 8) (16 * b + 8 + 8 - (16 * b + 8)) (put_mid (16 * b) (16 * b + 8 - 16 * b) w es) ls) b 1 (λ i. x) (λ i. y)
halves_filled {w} {es} {ls} {b} {x} {y} h p q = filled (16 * b + 8 - 16 * b) (16 * b + 8 + 8 - (16 * b + 8)) refl refl p q
  where
    filled : (k k' : ℕ) → k ≡ 16 * b + 8 - 16 * b → k' ≡ 16 * b + 8 + 8 - (16 * b + 8) → es ≡ replicate (length (mid_of (16 * b) k w)) x → ls ≡ replicate (length (mid_of (16 * b + 8) k' (put_mid (16 * b) k w es))) y
        → Level w (put_mid (16 * b + 8) k' (put_mid (16 * b) k w es) ls) b 1 (λ i. x) (λ i. y)
    filled k k' e e' p q =
        let a : ℕ = 16 * b in
        let fits : a + 16 ≤ length w = omega arith in
        let d : k ≡ 8 = omega arith in
        let d' : k' ≡ 8 = omega arith in
        let m₀ : length (mid_of a k w) ≡ k = rw e (mid_len a (a + 8) w (omega arith)) in
        let m : length (mid_of a k w) ≡ 8 = m₀ ∙ d in
        let n : es ≡ replicate 8 x = p ∙ ap (λ z. replicate z x) m in
        let n₁ : length es ≡ 8 = ap length n ∙ length-replicate 8 x in
        let l : length (put_mid a k w es) ≡ length w = same_len_mid a k w es (n₁ ∙ sym m) in
        let m₁ : length (mid_of (a + 8) k' (put_mid a k w es)) ≡ k' = rw e' (mid_len (a + 8) (a + 8 + 8) (put_mid a k w es) (omega arith)) in
        let m' : length (mid_of (a + 8) k' (put_mid a k w es)) ≡ 8 = m₁ ∙ d' in
        let n' : ls ≡ replicate 8 y = q ∙ ap (λ z. replicate z y) m' in
        let n₂ : length ls ≡ 8 = ap length n' ∙ length-replicate 8 y in
        let z : a + 16 ≡ 16 * (b + 1) = omega arith in
        record {
          long = both_long w es ls a k k' fits n₁ n₂ d d' m m';
          before = both_before w es ls a k k' fits n₁ n₂ d d' m m';
          is = both_are w es ls a k k' fits n₁ n₂ d d' m m' ∙ rw (n, n', z) (one_level x y (drop (16 * (b + 1)) w));
        }
