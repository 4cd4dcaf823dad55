-- Fewer rules have no more locations, so a delete never needs more cells; and a rule alone that has the whole range takes one cell for each field.
-- Assumes nothing.
use mathlib.Core.Path.{◌≡◌, refl, subst}
use mathlib.Core.Logic.{inl, inr, ⊎_elim}
use mathlib.Core.Bool.{true}
use mathlib.Core.List.{List, [], ◌∷◌}
use Prim.Native.Nat.{ℕ, ◌≤◌}
use native.Mathlib.Omega.{arith}
use lib.Dec.{eqb, leb}
use lib.ListN.{length}
use borrow.Author.Tests.{eqb-true, eqb-false, le-leb}
use Rattle.model.specs.Lists.{In, Sub, Rising, keep}
use Rattle.model.specs.Rules.{Field, covers, ends, Tree, chain, tree, cells_by, cells}
use Rattle.model.proofs.Tests.{by_test}
use Rattle.model.proofs.Keep.{keep_sub}
use Rattle.model.proofs.Ends.{ends_rising, ends_sub}
use Rattle.model.proofs.Bound.{Lowest}

module _ {B C : Type 0} (w : B → ℕ) (v : C → ℕ) (g : ℕ → Tree B) (h : ℕ → Tree C) (le : (e : ℕ) → cells_by w (g e) ≤ cells_by v (h e)) where
  chain_fewer : (ys xs : List ℕ) → Rising xs → Rising ys → Sub xs ys → cells_by w (chain g xs) ≤ cells_by v (chain h ys)
  chain_fewer ys [] rx ry s = omega arith
  chain_fewer [] (x ∷ xs) rx ry s = absurd (s x (inl refl))
  chain_fewer (y ∷ ys) (x ∷ xs) rx ry s = by_test (eqb x y)
      (λ t.
      let e = eqb-true x y t in
      let i = chain_fewer ys xs rx.1 ry.1 (λ z m. ⊎_elim (λ (q : z ≡ y). absurd (let a = rx.0 z m in omega arith)) (λ (n : In z ys). n) (s z (inr m))) in
      let j = subst (λ (k : ℕ). cells_by w (g x) ≤ cells_by v (h k)) e (le x) in
      omega arith)
      (λ t.
      let n = eqb-false x y t in
      let m = ⊎_elim (λ (q : x ≡ y). absurd (n q)) (λ (u : In x ys). u) (s x (inl refl)) in
      let l = ry.0 x m in
      let i = chain_fewer ys (x ∷ xs) rx ry.1 (λ z u. ⊎_elim (λ (q : z ≡ y). absurd (⊎_elim (λ (a : z ≡ x). omega arith) (λ (a : In z xs). let b = rx.0 z a in omega arith) u)) (λ (m : In z ys). m) (s z u)) in
      omega arith)

-- a part of the rules takes no more cells, whatever is named, where what is named of a part weighs no more
module _ {P A B C : Type 0} (w : B → ℕ) (v : C → ℕ) (g : List A → B) (k : List A → C) (lighter : (xs ys : List A) → Sub xs ys → w (g xs) ≤ v (k ys)) where
  pub fewer : (fs : List (Field P A)) (xs ys : List A) → Sub xs ys → cells_by w (tree g fs xs) ≤ cells_by v (tree k fs ys)
  fewer [] xs ys s = lighter xs ys s
  fewer (f ∷ fs) xs ys s =
      chain_fewer w v (λ e. tree g fs (keep (covers f e) xs)) (λ e. tree k fs (keep (covers f e) ys))
      (λ e. fewer fs (keep (covers f e) xs) (keep (covers f e) ys) (keep_sub (covers f e) xs ys s))
      (ends f ys) (ends f xs) (ends_rising f xs) (ends_rising f ys) (ends_sub f xs ys s)

-- a rule alone whose low ends are 0 takes one cell for each field
pub alone : {P A B : Type 0} (g : List A → B) (fs : List (Field P A)) (d : A) → Lowest fs d → cells (tree g fs (d ∷ [])) ≡ length fs
alone g [] d z = refl
alone g (f ∷ fs) d z =
    let l : leb 0 (f.high d) ≡ true = le-leb 0 (f.high d) (omega arith) in
    let m : leb (f.high d) (f.high d) ≡ true = le-leb (f.high d) (f.high d) (omega arith) in
    rw z.0 (simp (l, m) (omega (arith, alone g fs d z.1)))
