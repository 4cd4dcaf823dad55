-- Values that are written into a lent slice: the first of them before the others, which are written into the slice without its first place; and values that fit their tops are words.
-- Assumes nothing.
use mathlib.Core.Path.{◌≡◌, refl, ap, ap₂, ◌∙◌}
use mathlib.Core.List.{List, [], ◌∷◌, ◌++◌, append-nil}
use Prim.Native.Nat.{ℕ, suc, ◌-◌, ◌%◌, ◌≤◌, ◌<◌}
use native.Mathlib.Omega.{arith}
use lib.ListN.{get_or, length, set, drop_of_length-le}
use borrow.Rule.Slice.PartMut.{mid_of, post_of, put_mid, put_same, Post-is}
use Rattle.search.specs.Links.{cut}
use Rattle.search.proofs.First.{Fits}

pub some : (n : ℕ) → (n ≡ 0 → ⊥) → 0 < n
some n h = omega arith

-- the values behind the first as they were, and the first value written before others
pub put_back : (out ys : List ℕ) → ys ≡ mid_of 1 (length out - 1) out → put_mid 1 (length out - 1) out ys ≡ out
put_back out ys e = rw e (put_same 1 (length out - 1) out)

pub set_front : (out ys : List ℕ) (v : ℕ) → 0 < length out → set (put_mid 1 (length out - 1) out ys) 0 v ≡ v ∷ ys
set_front [] ys v h = absurd (omega arith)
set_front (x ∷ out) ys v h =
    let z : post_of 1 (length (x ∷ out) - 1) (x ∷ out) ≡ [] = Post-is 1 (length (x ∷ out)) (x ∷ out) (omega arith) ∙ drop_of_length-le (x ∷ out) {i = length (x ∷ out)} (omega arith) in
    ap (λ l. v ∷ l) (ap (λ l. ys ++ l) z ∙ append-nil ys)

pub no_values : (out : List ℕ) → length out ≡ 0 → out ≡ []
no_values [] h = refl
no_values (x ∷ out) h = absurd (omega arith)

-- values that fit tops which are words are words, so that nothing of them is cut
pub cut_fits : (ts vs : List ℕ) → ((i : ℕ) → get_or ts i 0 ≤ 4294967295) → Fits ts vs → cut vs ≡ vs
cut_fits [] [] h f = refl
cut_fits [] (v ∷ vs) h f = absurd f
cut_fits (t ∷ ts) [] h f = absurd f
cut_fits (t ∷ ts) (v ∷ vs) h f = let z : v % 4294967296 ≡ v = omega (arith, f.0, h 0) in ap₂ ◌∷◌ z (cut_fits ts vs (λ i. h (suc i)) f.1)
