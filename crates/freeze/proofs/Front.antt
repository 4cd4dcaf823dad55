-- The front of an image, word by word: 0, the words behind a store's first, 0 and 0.
-- Assumes nothing.
use mathlib.Core.Path.{◌≡◌, refl, sym, ap, ◌∙◌}
use mathlib.Core.List.{List, [], ◌∷◌, ◌++◌, append_assoc}
use Prim.Native.Nat.{ℕ, suc, ◌+◌, ◌≤◌, ◌<◌}
use native.Mathlib.Omega.{arith}
use native.Mathlib.Numerals.{add-one}
use lib.ListN.{length, get_or, set, take, drop, length-set, length-take}
use lib.Seq.{take-suc-set, take-suc, take_all, drop-append-le}

-- i words are written
pub record Fronted (front words : List ℕ) (i : ℕ) : Type 0 where
  pub some : 1 ≤ i
  pub most : i ≤ length words
  pub long : length front ≡ length words + 2
  pub is : take i front ≡ 0 ∷ drop 1 (take i words)

none : (ws : List ℕ) → drop 1 (take 1 ws) ≡ []
none [] = refl
none (w ∷ ws) = refl

pub fronted_start : (front words : List ℕ) → length front ≡ length words + 2 → 0 < length words → Fronted (set front 0 0) words 1
fronted_start front words l h = record { some = omega arith; most = omega arith; long = simp length-set l; is = take-suc-set front 0 0 (omega arith) ∙ rw (none words) }

module _ (front words : List ℕ) (i : ℕ) (o : Fronted front words i) where
  pub fronted_on : i < length words → Fronted (set front i (get_or words i 0)) words (i + 1)
  fronted_on h =
      let z : take (i + 1) words ≡ take i words ++ (get_or words i 0 ∷ []) = rw add-one (take-suc words i 0 h) in
      let new : take (i + 1) (set front i (get_or words i 0)) ≡ take i front ++ (get_or words i 0 ∷ []) = rw add-one (take-suc-set front i (get_or words i 0) (omega (arith, o.long))) in
      let y : 1 ≤ length (take i words) = simp length-take (omega (arith, o.some)) in
      record {
        some = omega arith;
        most = omega arith;
        long = simp length-set o.long;
        is = new ∙ rw (o.is, z, drop-append-le 1 (take i words) (get_or words i 0 ∷ []));
      }

  pub fronted_done : length words ≤ i → (n : ℕ) → n ≡ length words → set (set front n 0) (n + 1) 0 ≡ (0 ∷ drop 1 words) ++ (0 ∷ 0 ∷ [])
  fronted_done h n e =
      let f = set front n 0 in
      let long : length (set f (n + 1) 0) ≡ suc (n + 1) = simp (length-set, length-set) (omega (arith, o.long)) in
      let new : take (n + 1) f ≡ take n front ++ (0 ∷ []) = rw add-one (take-suc-set front n 0 (omega (arith, o.long))) in
      let at : n ≡ i = omega (arith, o.most) in
      sym (take_all (suc (n + 1)) (set f (n + 1) 0) (omega arith))
      ∙ take-suc-set f (n + 1) 0 (simp length-set (omega (arith, o.long)))
      ∙ ap (λ x. x ++ (0 ∷ [])) new
      ∙ append_assoc (take n front) (0 ∷ []) (0 ∷ [])
      ∙ ap (λ x. x ++ (0 ∷ 0 ∷ [])) (ap (λ j. take j front) at ∙ o.is ∙ ap (λ x. 0 ∷ drop 1 x) (take_all i words h))
