-- What stands in a list: the part that passes a test, and places.
-- Assumes nothing.
use mathlib.Core.Path.{◌≡◌, refl, sym}
use mathlib.Core.Logic.{◌⊎◌, inl, inr, ⊎_elim}
use mathlib.Core.Bool.{Bool, true, false, cond, ◌&&◌}
use mathlib.Core.List.{List, [], ◌∷◌, ◌++◌}
use Prim.Native.Nat.{ℕ, zero, suc, ◌≤◌, ◌<◌}
use native.Mathlib.Omega.{arith}
use lib.ListN.{length, get_or}
use Rattle.model.specs.Lists.{In, Sub, Same, keep}
use Rattle.model.proofs.Tests.{by_test}

module _ {A : Type 0} (p : A → Bool) where
  pub in_keep : (xs : List A) (x : A) → In x xs → p x ≡ true → In x (keep p xs)
  in_keep [] x h t = h
  in_keep (y ∷ ys) x (inl e) t = let q : p y ≡ true = cc in simp q (inl e)
  in_keep (y ∷ ys) x (inr m) t = by_test (p y) (λ q. simp q (inr (in_keep ys x m t))) (λ q. simp q (in_keep ys x m t))

  pub from_keep : (xs : List A) (x : A) → In x (keep p xs) → In x xs × (p x ≡ true)
  from_keep [] x h = absurd h
  from_keep (y ∷ ys) x h = go (from_keep ys x) (p y) refl h
    where
      go : (In x (keep p ys) → In x ys × (p x ≡ true)) → (b : Bool) → p y ≡ b → In x (cond b (y ∷ keep p ys) (keep p ys)) → In x (y ∷ ys) × (p x ≡ true)
      go ih true q (inl e) = (inl e, cc)
      go ih true q (inr m) = (inr (ih m).0, (ih m).1)
      go ih false q m = (inr (ih m).0, (ih m).1)

  pub length_keep : (xs : List A) → length (keep p xs) ≤ length xs
  length_keep [] = omega arith
  length_keep (x ∷ xs) = by_test (p x) (λ t. simp t (omega (arith, length_keep xs))) (λ t. simp t (omega (arith, length_keep xs)))

  pub keep_every : (xs : List A) → ((x : A) → In x xs → p x ≡ true) → keep p xs ≡ xs
  keep_every [] h = refl
  keep_every (x ∷ xs) h = rw (h x (inl refl), keep_every xs (λ y m. h y (inr m)))

  pub keep_none : (xs : List A) → ((x : A) → In x xs → p x ≡ false) → keep p xs ≡ []
  keep_none [] h = refl
  keep_none (x ∷ xs) h = rw (h x (inl refl)) (keep_none xs (λ y m. h y (inr m)))

  pub keep_append : (xs ys : List A) → keep p (xs ++ ys) ≡ keep p xs ++ keep p ys
  keep_append [] ys = refl
  keep_append (x ∷ xs) ys = by_test (p x) (λ t. simp (t, keep_append xs ys)) (λ t. simp (t, keep_append xs ys))

  pub keep_sub : (xs ys : List A) → Sub xs ys → Sub (keep p xs) (keep p ys)
  keep_sub xs ys h x m = let t = from_keep xs x m in in_keep ys x (h x t.0) t.1

  -- the same set keeps the same set
  pub keep_set : (xs ys : List A) → Same xs ys → Same (keep p xs) (keep p ys)
  keep_set xs ys h = (keep_sub xs ys h.0, keep_sub ys xs h.1)

module _ {A : Type 0} where
  -- two tests that agree on the list keep the same part
  pub keep_same : (p q : A → Bool) (xs : List A) → ((x : A) → In x xs → p x ≡ q x) → keep p xs ≡ keep q xs
  keep_same p q [] h = refl
  keep_same p q (x ∷ xs) h = rw (h x (inl refl), keep_same p q xs (λ y m. h y (inr m)))

  -- one test after another
  pub keep_keep : (p q : A → Bool) (xs : List A) → keep q (keep p xs) ≡ keep (λ x. p x && q x) xs
  keep_keep p q [] = refl
  keep_keep p q (x ∷ xs) = by_test (p x) (λ t. simp (t, keep_keep p q xs)) (λ t. simp (t, keep_keep p q xs))

  pub in_left : (xs ys : List A) (x : A) → In x xs → In x (xs ++ ys)
  in_left [] ys x m = absurd m
  in_left (y ∷ xs) ys x (inl e) = inl e
  in_left (y ∷ xs) ys x (inr m) = inr (in_left xs ys x m)

  pub in_right : (xs ys : List A) (x : A) → In x ys → In x (xs ++ ys)
  in_right [] ys x m = m
  in_right (y ∷ xs) ys x m = inr (in_right xs ys x m)

  pub from_append : (xs ys : List A) (x : A) → In x (xs ++ ys) → In x xs ⊎ In x ys
  from_append [] ys x m = inr m
  from_append (y ∷ xs) ys x (inl e) = inl (inl e)
  from_append (y ∷ xs) ys x (inr m) = ⊎_elim (λ (n : In x xs). inl (inr n)) (λ (n : In x ys). inr n) (from_append xs ys x m)

-- what stands at a place below the length stands in the list
pub in_get_d : {A : Type 0} (xs : List A) (i : ℕ) (d : A) → i < length xs → In (get_or xs i d) xs
in_get_d [] i d h = absurd (omega arith)
in_get_d (x ∷ xs) zero d h = inl refl
in_get_d (x ∷ xs) (suc i) d h = inr (in_get_d xs i d (omega arith))

-- what stands in a list stands at a place of it
pub at_place : {A : Type 0} (xs : List A) (d x : A) → In x xs → (i : ℕ) × (i < length xs) × (get_or xs i d ≡ x)
at_place [] d x m = absurd m
at_place (y ∷ xs) d x (inl e) = (0, omega arith, sym e)
at_place (y ∷ xs) d x (inr m) = let t = at_place xs d x m in (suc t.0, omega (arith, t.1), t.2)
