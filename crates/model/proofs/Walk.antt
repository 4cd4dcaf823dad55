-- A walk of the tree finds what the rules say, and reads as many cells as the rules say. The reason: no rule tells a value from the first end that is not below it.
-- Assumes nothing.
use mathlib.Core.Path.{◌≡◌, refl, sym, ap, ap₂, ◌∙◌}
use mathlib.Core.Logic.{inl, inr}
use mathlib.Core.Bool.{Bool, true, false, cond, ◌&&◌}
use mathlib.Core.List.{List, [], ◌∷◌}
use mathlib.Core.Option.{some}
use Prim.Native.Nat.{ℕ, zero, suc, ◌+◌, ◌≤◌}
use native.Mathlib.Omega.{arith}
use lib.Dec.{ltb, leb, eqb}
use borrow.Author.Tests.{ltb-true, ltb-false, le-ltb, leb-true, le-leb, eqb-true}
use Rattle.model.specs.Lists.{In, Rising, keep, below}
use Rattle.model.specs.Rules.{Field, covers, holds, ends, Tree, chain, tree, found, reads, values, reads_sum, within_tops, ranges_right}
use Rattle.model.proofs.Tests.{by_test, and_left, and_right, and_both, leb_same}
use Rattle.model.proofs.Keep.{in_keep, keep_same, keep_every, keep_keep}
use Rattle.model.proofs.Ends.{End, in_ends, ends_rising}

-- the first of a rising list that is not below v
abbrev pub next : ℕ → List ℕ → ℕ
next v [] = 0
next v (e ∷ es) = cond (ltb e v) (next v es) e

-- where some number of a rising list is not below v, next is the least such
module _ (v : ℕ) where
  pub next_above : (es : List ℕ) (x : ℕ) → In x es → v ≤ x → v ≤ next v es
  next_above [] x m h = absurd m
  next_above (e ∷ es) x m h = go (λ n. next_above es x n h) (ltb e v) refl m
    where
      go : (In x es → v ≤ next v es) → (b : Bool) → ltb e v ≡ b → In x (e ∷ es) → v ≤ cond b (next v es) e
      go ih true t (inl q) = omega (arith, ltb-true e v t)
      go ih true t (inr n) = ih n
      go ih false t n = ltb-false e v t

  pub next_least : (es : List ℕ) → Rising es → (x : ℕ) → In x es → v ≤ x → next v es ≤ x
  next_least [] r x m h = absurd m
  next_least (e ∷ es) r x m h = go (λ n. next_least es r.1 x n h) (ltb e v) refl m
    where
      go : (In x es → next v es ≤ x) → (b : Bool) → ltb e v ≡ b → In x (e ∷ es) → cond b (next v es) e ≤ x
      go ih true t (inl q) = omega (arith, ltb-true e v t)
      go ih true t (inr n) = ih n
      go ih false t (inl q) = omega arith
      go ih false t (inr n) = omega (arith, r.0 x n)

  below_none : (es : List ℕ) → ((y : ℕ) → In y es → v ≤ y) → below v es ≡ 0
  below_none [] h = refl
  below_none (e ∷ es) h = simp (le-ltb e v (h e (inl refl))) (below_none es (λ y m. h y (inr m)))

module _ {P A : Type 0} (f : Field P A) where
  -- no rule tells v from the first end that is not below it
  pub covers_next : (v : ℕ) (rs : List A) (d : A) → In d rs → v ≤ f.high d → (r : A) → In r rs → covers f (next v (ends f rs)) r ≡ covers f v r
  covers_next v rs d md hd r m =
      ap₂ ◌&&◌
      (leb_same (f.low r) (next v (ends f rs)) (f.low r) v (low_case (f.low r) refl) (λ h. omega (arith, above)))
      (leb_same (next v (ends f rs)) (f.high r) v (f.high r) (λ h. omega (arith, above)) (λ h. at_most (f.high r) (inl refl) h))
    where
      above : v ≤ next v (ends f rs)
      above = next_above v (ends f rs) (f.high d) (in_ends f rs d (f.high d) md (inl refl)) hd

      at_most : (x : ℕ) → End f r x → v ≤ x → next v (ends f rs) ≤ x
      at_most x e = next_least v (ends f rs) (ends_rising f rs) x (in_ends f rs r x m e)

      low_case : (l : ℕ) → l ≡ f.low r → l ≤ next v (ends f rs) → l ≤ v
      low_case zero q h = omega arith
      low_case (suc l) q h = by_test (ltb l v) (λ t. ltb-true l v t) (λ t. absurd (omega (arith, at_most l (inr q) (ltb-false l v t))))

-- a chain is walked to the first end that is not below the value
module _ {B : Type 0} (u : ℕ → Tree B) (v : ℕ) (vs : List ℕ) where
  found_chain : (es : List ℕ) (x : ℕ) → In x es → v ≤ x → found (chain u es) (v ∷ vs) ≡ found (u (next v es)) vs
  found_chain [] x m h = absurd m
  found_chain (e ∷ es) x m h = go (λ n. found_chain es x n h) (ltb e v) refl m
    where
      go : (In x es → found (chain u es) (v ∷ vs) ≡ found (u (next v es)) vs) → (b : Bool) → ltb e v ≡ b → In x (e ∷ es)
          → cond b (found (chain u es) (v ∷ vs)) (found (u e) vs) ≡ found (u (cond b (next v es) e)) vs
      go ih true t (inl q) = absurd (omega (arith, ltb-true e v t))
      go ih true t (inr n) = ih n
      go ih false t n = refl

  reads_chain : (es : List ℕ) → Rising es → (x : ℕ) → In x es → v ≤ x → reads (chain u es) (v ∷ vs) ≡ suc (below v es) + reads (u (next v es)) vs
  reads_chain [] r x m h = absurd m
  reads_chain (e ∷ es) r x m h = go (λ n. reads_chain es r.1 x n h) (ltb e v) refl m
    where
      go : (In x es → reads (chain u es) (v ∷ vs) ≡ suc (below v es) + reads (u (next v es)) vs) → (b : Bool) → ltb e v ≡ b → In x (e ∷ es)
          → suc (cond b (reads (chain u es) (v ∷ vs)) (reads (u e) vs)) ≡ suc (cond b (suc (below v es)) (below v es)) + reads (u (cond b (next v es) e)) vs
      go ih true t (inl q) = absurd (omega (arith, ltb-true e v t))
      go ih true t (inr n) = omega (arith, ih n)
      go ih false t n = omega (arith, below_none v es (λ y k. omega (arith, ltb-false e v t, r.0 y k)))

-- what is known of a rule d of the list that holds the packet: its high end is at or above the packet's value, the rules under the location where the walk goes down are those that cover the value, and d is one of them, and holds the packet in the fields that are left
module _ {P A : Type 0} (p : P) (f : Field P A) (fs : List (Field P A)) (rs : List A) (d : A) (m : In d rs) (h : holds (f ∷ fs) p d ≡ true) where
  pub reach : f.value p ≤ f.high d
  reach = leb-true (f.value p) (f.high d) (and_right (leb (f.low d) (f.value p)) _ (and_left (covers f (f.value p) d) (holds fs p d) h))

  pub high_in_lem : In (f.high d) (ends f rs)
  high_in_lem = in_ends f rs d (f.high d) m (inl refl)

  under : keep (covers f (next (f.value p) (ends f rs))) rs ≡ keep (covers f (f.value p)) rs
  under = keep_same (covers f (next (f.value p) (ends f rs))) (covers f (f.value p)) rs (covers_next f (f.value p) rs d m reach)

  pub still_in : In d (keep (covers f (f.value p)) rs)
  still_in = in_keep (covers f (f.value p)) rs d m (and_left (covers f (f.value p) d) (holds fs p d) h)

  pub still_holds : holds fs p d ≡ true
  still_holds = and_right (covers f (f.value p) d) (holds fs p d) h

-- With a rule in the list that holds the packet, the walk ends at what g says of the rules that hold it, and its reads are the sum of demand 3.
module _ {P A B : Type 0} (g : List A → B) (p : P) where
  pub walk_finds : (fs : List (Field P A)) (rs : List A) (d : A) → In d rs → holds fs p d ≡ true
      → found (tree g fs rs) (values fs p) ≡ some (g (keep (holds fs p) rs))
  walk_finds [] rs d m h = ap (λ (l : List A). some (g l)) (sym (keep_every (λ r. true) rs (λ r k. refl)))
  walk_finds (f ∷ fs) rs d m h =
      found_chain (λ e. tree g fs (keep (covers f e) rs)) (f.value p) (values fs p) (ends f rs) (f.high d) (high_in_lem p f fs rs d m h) (reach p f fs rs d m h)
      ∙ ap (λ (l : List A). found (tree g fs l) (values fs p)) (under p f fs rs d m h)
      ∙ walk_finds fs (keep (covers f (f.value p)) rs) d (still_in p f fs rs d m h) (still_holds p f fs rs d m h)
      ∙ ap (λ (l : List A). some (g l)) (keep_keep (covers f (f.value p)) (holds fs p) rs)

  pub walk_reads : (fs : List (Field P A)) (rs : List A) (d : A) → In d rs → holds fs p d ≡ true
      → reads (tree g fs rs) (values fs p) ≡ reads_sum fs p rs
  walk_reads [] rs d m h = refl
  walk_reads (f ∷ fs) rs d m h =
      reads_chain (λ e. tree g fs (keep (covers f e) rs)) (f.value p) (values fs p) (ends f rs) (ends_rising f rs) (f.high d) (high_in_lem p f fs rs d m h) (reach p f fs rs d m h)
      ∙ ap (λ (n : ℕ). suc (below (f.value p) (ends f rs)) + n)
      (ap (λ (l : List A). reads (tree g fs l) (values fs p)) (under p f fs rs d m h)
      ∙ walk_reads fs (keep (covers f (f.value p)) rs) d (still_in p f fs rs d m h) (still_holds p f fs rs d m h))

-- the rule d has the whole range of each field
abbrev pub full : {P A : Type 0} → List (Field P A) → A → Bool
full [] d = true
full (f ∷ fs) d = eqb (f.low d) 0 && (eqb (f.high d) f.top && full fs d)

-- such a rule holds every packet whose values are within the tops
pub full_holds : {P A : Type 0} (fs : List (Field P A)) (p : P) (d : A) → full fs d ≡ true → within_tops fs p ≡ true → holds fs p d ≡ true
full_holds [] p d h w = refl
full_holds (f ∷ fs) p d h w =
    and_both (covers f (f.value p) d) (holds fs p d)
    (and_both (leb (f.low d) (f.value p)) (leb (f.value p) (f.high d)) (le-leb (f.low d) (f.value p) (omega (arith, low0))) (le-leb (f.value p) (f.high d) (omega (arith, high0, in_top))))
    (full_holds fs p d (and_right (eqb (f.high d) f.top) (full fs d) rest) (and_right (leb (f.value p) f.top) (within_tops fs p) w))
  where
    rest : (eqb (f.high d) f.top && full fs d) ≡ true
    rest = and_right (eqb (f.low d) 0) _ h

    low0 : f.low d ≡ 0
    low0 = eqb-true (f.low d) 0 (and_left (eqb (f.low d) 0) (eqb (f.high d) f.top && full fs d) h)

    high0 : f.high d ≡ f.top
    high0 = eqb-true (f.high d) f.top (and_left (eqb (f.high d) f.top) (full fs d) rest)

    in_top : f.value p ≤ f.top
    in_top = leb-true (f.value p) f.top (and_left (leb (f.value p) f.top) (within_tops fs p) w)

-- and its ranges are right
pub full_right : {P A : Type 0} (fs : List (Field P A)) (d : A) → full fs d ≡ true → ranges_right fs d ≡ true
full_right [] d h = refl
full_right (f ∷ fs) d h =
    let r = and_right (eqb (f.low d) 0) (eqb (f.high d) f.top && full fs d) h in
    let l : f.low d ≡ 0 = eqb-true (f.low d) 0 (and_left (eqb (f.low d) 0) (eqb (f.high d) f.top && full fs d) h) in
    let k : f.high d ≡ f.top = eqb-true (f.high d) f.top (and_left (eqb (f.high d) f.top) (full fs d) r) in
    rw (le-leb (f.low d) (f.high d) (omega arith), le-leb (f.high d) f.top (omega arith)) (full_right fs d (and_right (eqb (f.high d) f.top) (full fs d) r))
