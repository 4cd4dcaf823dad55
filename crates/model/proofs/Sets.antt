-- The tree, so its cells and its walks, the count of reads and the winner depend on the set of rules alone: not on their order, and not on how often one stands in the list. The winner is what its name says.
-- Assumes nothing.
use mathlib.Core.Path.{◌≡◌, refl, ap, ap₂, fun_ext}
use mathlib.Core.Logic.{inl, inr, ⊎_elim}
use mathlib.Core.Bool.{Bool, true, false, cond}
use mathlib.Core.List.{List, [], ◌∷◌}
use Prim.Native.Nat.{ℕ, ◌≤◌}
use native.Mathlib.Omega.{arith}
use lib.Dec.{leb}
use borrow.Author.Tests.{leb-true, leb-false, le-leb}
use Rattle.model.specs.Lists.{In, Same, keep, least}
use Rattle.model.specs.Rules.{Field, covers, holds, winner, reads_sum, names, chain, tree}
use Rattle.model.proofs.Keep.{from_keep, in_keep, keep_set}
use Rattle.model.proofs.Ends.{ends_same}

-- the tree depends on the set of rules alone, where what is named does
pub tree_same : {P A B : Type 0} (g : List A → B) → ((xs ys : List A) → Same xs ys → g xs ≡ g ys)
    → (fs : List (Field P A)) (rs ss : List A) → Same rs ss → tree g fs rs ≡ tree g fs ss
tree_same g e [] rs ss h = ap names (e rs ss h)
tree_same g e (f ∷ fs) rs ss h =
    ap₂ chain (fun_ext (λ x. tree_same g e fs (keep (covers f x) rs) (keep (covers f x) ss) (keep_set (covers f x) rs ss h))) (ends_same f rs ss h)

-- and so does the count of reads
pub reads_same : {P A : Type 0} (fs : List (Field P A)) (p : P) (rs ss : List A) → Same rs ss → reads_sum fs p rs ≡ reads_sum fs p ss
reads_same [] p rs ss h = refl
reads_same (f ∷ fs) p rs ss h =
    rw (ends_same f rs ss h, reads_same fs p (keep (covers f (f.value p)) rs) (keep (covers f (f.value p)) ss) (keep_set (covers f (f.value p)) rs ss h))

module _ {A : Type 0} (number : A → ℕ) (d : A) where
  -- `least` is one of the list or d, and no other has a lesser number
  pub least_in : (rs : List A) → In (least number d rs) (d ∷ rs)
  least_in [] = inl refl
  least_in (r ∷ rs) = go (leb (number r) (number (least number d rs))) (least_in rs)
    where
      go : (b : Bool) → In (least number d rs) (d ∷ rs) → In (cond b r (least number d rs)) (d ∷ r ∷ rs)
      go true ih = inr (inl refl)
      go false (inl q) = inl q
      go false (inr m) = inr (inr m)

  pub least_most : (rs : List A) (r : A) → In r (d ∷ rs) → number (least number d rs) ≤ number r
  least_most [] r (inl q) = omega (arith, ap number q)
  least_most [] r (inr m) = absurd m
  least_most (s ∷ rs) r m = go (least_most rs r) (least_most rs d (inl refl)) (leb (number s) (number (least number d rs))) refl m
    where
      go : (In r (d ∷ rs) → number (least number d rs) ≤ number r) → number (least number d rs) ≤ number d → (b : Bool) → leb (number s) (number (least number d rs)) ≡ b → In r (d ∷ s ∷ rs)
          → number (cond b s (least number d rs)) ≤ number r
      go ih base true t (inl q) = omega (arith, leb-true (number s) (number (least number d rs)) t, ap number q)
      go ih base true t (inr (inl q)) = omega (arith, ap number q)
      go ih base true t (inr (inr m)) = omega (arith, leb-true (number s) (number (least number d rs)) t, ih (inr m))
      go ih base false t (inl q) = omega (arith, ap number q)
      go ih base false t (inr (inl q)) = omega (arith, leb-false (number s) (number (least number d rs)) t, ap number q)
      go ih base false t (inr (inr m)) = ih (inr m)

  -- where the first of a list has the least number, it is the least
  pub least_first : (r : A) (rs : List A) → number r ≤ number d → ((s : A) → In s rs → number r ≤ number s) → least number d (r ∷ rs) ≡ r
  least_first r rs h up = simp (le-leb (number r) (number (least number d rs)) (⊎_elim (λ (q : least number d rs ≡ d). omega (arith, ap number q)) (λ (m : In (least number d rs) rs). up (least number d rs) m) (least_in rs)))

  -- equal numbers are the same rule, here
  abbrev pub Distinct : List A → Type 0
  Distinct rs = (r s : A) → In r (d ∷ rs) → In s (d ∷ rs) → number r ≡ number s → r ≡ s

  pub least_same : (rs ss : List A) → Distinct rs → Same rs ss → least number d rs ≡ least number d ss
  least_same rs ss u h =
      u (least number d rs) (least number d ss) (least_in rs) (back (least number d ss) (least_in ss))
      (omega (arith, least_most rs (least number d ss) (back (least number d ss) (least_in ss)), least_most ss (least number d rs) (there (least number d rs) (least_in rs))))
    where
      back : (x : A) → In x (d ∷ ss) → In x (d ∷ rs)
      back x (inl q) = inl q
      back x (inr m) = inr (h.1 x m)

      there : (x : A) → In x (d ∷ rs) → In x (d ∷ ss)
      there x (inl q) = inl q
      there x (inr m) = inr (h.0 x m)

module _ {P A : Type 0} (number : A → ℕ) (d : A) (fs : List (Field P A)) (p : P) where
  -- THE WINNER: where d is one of the rules and holds the packet, the winner is a rule of the list, it holds the packet, and no other that does has a lesser number
  module _ (rs : List A) (m : In d rs) (h : holds fs p d ≡ true) where
    winner_kept : In (winner number d fs p rs) (keep (holds fs p) rs)
    winner_kept = ⊎_elim
        (λ (q : winner number d fs p rs ≡ d). rw q (in_keep (holds fs p) rs d m h))
        (λ (k : In (winner number d fs p rs) (keep (holds fs p) rs)). k)
        (least_in number d (keep (holds fs p) rs))

    pub winner_in : In (winner number d fs p rs) rs
    winner_in = (from_keep (holds fs p) rs (winner number d fs p rs) winner_kept).0

    pub winner_holds : holds fs p (winner number d fs p rs) ≡ true
    winner_holds = (from_keep (holds fs p) rs (winner number d fs p rs) winner_kept).1

  pub winner_least : (rs : List A) (r : A) → In r rs → holds fs p r ≡ true → number (winner number d fs p rs) ≤ number r
  winner_least rs r m h = least_most number d (keep (holds fs p) rs) r (inr (in_keep (holds fs p) rs r m h))

  -- the winner depends on the set of rules alone
  pub winner_same : (rs ss : List A) → Distinct number d rs → Same rs ss → winner number d fs p rs ≡ winner number d fs p ss
  winner_same rs ss u h = least_same number d (keep (holds fs p) rs) (keep (holds fs p) ss) (λ r s a b. u r s (up r a) (up s b)) (keep_set (holds fs p) rs ss h)
    where
      up : (x : A) → In x (d ∷ keep (holds fs p) rs) → In x (d ∷ rs)
      up x (inl q) = inl q
      up x (inr m) = inr (from_keep (holds fs p) rs x m).0
