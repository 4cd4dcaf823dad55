-- Lists that are made by place, and lists that are equal number for number.
-- Assumes nothing.
use mathlib.Core.Path.{◌≡◌, refl, sym, ap, ◌∙◌}
use mathlib.Core.Logic.{inl, inr}
use mathlib.Core.Bool.{true, false}
use mathlib.Core.List.{List, [], ◌∷◌, ◌++◌}
use Prim.Native.Nat.{ℕ, zero, suc, ◌+◌, ◌≤◌, ◌<◌}
use native.Mathlib.Omega.{arith}
use native.Mathlib.Numerals.{add-one}
use lib.Dec.{eqb}
use lib.ListN.{length, get_or, take, set}
use lib.Seq.{take-suc-set, take-length}
use borrow.Author.Tests.{eqb-true, eq-eqb}
use Rattle.model.specs.Lists.{In, same, up_to}
use Rattle.model.proofs.Tests.{by_test, never, and_left, and_right}

pub same_true : (xs ys : List ℕ) → same xs ys ≡ true → xs ≡ ys
unfolding same
same_true [] [] h = refl
same_true [] (y ∷ ys) h = never (sym h)
same_true (x ∷ xs) [] h = never (sym h)
same_true (x ∷ xs) (y ∷ ys) h = rw (eqb-true x y (and_left _ _ h), same_true xs ys (and_right (eqb x y) _ h))

pub same_refl : (xs : List ℕ) → same xs xs ≡ true
unfolding same
same_refl [] = refl
same_refl (x ∷ xs) = rw (eq-eqb x x refl) (same_refl xs)

pub true_same : (xs ys : List ℕ) → xs ≡ ys → same xs ys ≡ true
true_same xs ys h = rw h (same_refl ys)

pub same_false : (xs ys : List ℕ) → (xs ≡ ys → ⊥) → same xs ys ≡ false
same_false xs ys h = by_test (same xs ys) (λ q. absurd (h (same_true xs ys q))) (λ q. q)

module _ {A : Type 0} where
  pub length_up_to : (n : ℕ) (f : ℕ → A) → length (up_to n f) ≡ n
  unfolding up_to
  length_up_to zero f = refl
  length_up_to (suc n) f = ap suc (length_up_to n (λ i. f (suc i)))

  pub get_d_up_to : (n : ℕ) (f : ℕ → A) (i : ℕ) (d : A) → i < n → get_or (up_to n f) i d ≡ f i
  unfolding up_to
  get_d_up_to zero f i d h = absurd (omega arith)
  get_d_up_to (suc n) f zero d h = refl
  get_d_up_to (suc n) f (suc i) d h = get_d_up_to n (λ i. f (suc i)) i d (omega arith)

  pub up_to_same : (n : ℕ) (f g : ℕ → A) → ((i : ℕ) → i < n → f i ≡ g i) → up_to n f ≡ up_to n g
  unfolding up_to
  up_to_same zero f g h = refl
  up_to_same (suc n) f g h = rw (h 0 (omega arith), up_to_same n (λ i. f (suc i)) (λ i. g (suc i)) (λ i l. h (suc i) (omega arith)))

  -- a list is made of what stands at its places
  pub up_to_is : (d : A) (xs : List A) (n : ℕ) (f : ℕ → A) → length xs ≡ n → ((i : ℕ) → i < n → get_or xs i d ≡ f i) → xs ≡ up_to n f
  unfolding up_to
  up_to_is d [] zero f l h = refl
  up_to_is d [] (suc n) f l h = absurd (omega arith)
  up_to_is d (x ∷ xs) zero f l h = absurd (omega arith)
  up_to_is d (x ∷ xs) (suc n) f l h = rw (h 0 (omega arith)) (ap (λ ys. f 0 ∷ ys) (up_to_is d xs n (λ i. f (suc i)) (omega arith) (λ i k. h (suc i) (omega arith))))

  pub up_to_snoc : (n : ℕ) (f : ℕ → A) → up_to (suc n) f ≡ up_to n f ++ (f n ∷ [])
  unfolding up_to
  up_to_snoc zero f = refl
  up_to_snoc (suc n) f = ap (λ ys. f 0 ∷ ys) (up_to_snoc n (λ i. f (suc i)))

  pub in_up_to : (n : ℕ) (f : ℕ → A) (x : A) → In x (up_to n f) → (i : ℕ) × (i < n) × (x ≡ f i)
  unfolding up_to
  in_up_to zero f x m = absurd m
  in_up_to (suc n) f x (inl e) = (0, omega arith, e)
  in_up_to (suc n) f x (inr m) = let t = in_up_to n (λ i. f (suc i)) x m in (suc t.0, omega (arith, t.1), t.2)

-- a loop that fills a slice from its front: what it wrote is `up_to i f`, and then one place more
module _ (f : ℕ → ℕ) (out : List ℕ) (i : ℕ) (inv : take i out ≡ up_to i f) where
  pub fill_step : i < length out → take (i + 1) (set out i (f i)) ≡ up_to (i + 1) f
  fill_step h = rw (add-one i, up_to_snoc i f, take-suc-set out i (f i) h, inv)

pub fill_start : (f : ℕ → ℕ) → [] ≡ up_to 0 f
unfolding up_to
fill_start f = refl

-- and when it is full
pub fill_end : (f : ℕ → ℕ) (out : List ℕ) (i n : ℕ) → take i out ≡ up_to i f → n ≡ length out → n ≤ i → i ≤ n → out ≡ up_to n f
fill_end f out i n h l a b = let z : i ≡ length out = omega arith in let y : i ≡ n = omega arith in sym (take-length out) ∙ rw (← z, ← y) h
