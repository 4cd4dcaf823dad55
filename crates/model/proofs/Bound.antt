-- With n rules besides the default at most 2 × n + 1 cells are read in each field, and over k fields at most k + (k + 1) × n.
-- Assumes nothing.
use mathlib.Core.Path.{◌≡◌, refl, subst}
use mathlib.Core.Logic.{inl, inr}
use mathlib.Core.Bool.{Bool, true, false, cond}
use mathlib.Core.List.{List, [], ◌∷◌}
use Prim.Native.Nat.{ℕ, zero, suc, ◌+◌, ◌-◌, ◌*◌, ◌≤◌, ◌<◌}
use native.Mathlib.Omega.{arith}
use lib.Dec.{ltb, leb}
use lib.ListN.{length}
use native.Mathlib.Nat.{mul-le-mul_left}
use borrow.Author.Tests.{ltb-true, le-ltb, leb-true}
use Rattle.model.specs.Lists.{In, keep, insert, below}
use Rattle.model.specs.Rules.{Field, covers, holds, insert_before, ends, reads_each, reads_sum}
use Rattle.model.proofs.Tests.{by_test, and_left, and_right}
use Rattle.model.proofs.Keep.{length_keep}
use Rattle.model.proofs.Ends.{length_ends_zero}
use Rattle.model.proofs.Walk.{reach, high_in_lem, still_in, still_holds}

below_all : (v : ℕ) (es : List ℕ) → below v es ≤ length es
below_all v [] = omega arith
below_all v (e ∷ es) = by_test (ltb e v) (λ q. simp q (omega (arith, below_all v es))) (λ q. simp q (omega (arith, below_all v es)))

-- where some number is not below v, fewer are below than there are
below_length : (v : ℕ) (es : List ℕ) (x : ℕ) → In x es → v ≤ x → below v es < length es
below_length v [] x m h = absurd m
below_length v (e ∷ es) x m h = go (λ n. below_length v es x n h) (ltb e v) refl m
  where
    go : (In x es → below v es < length es) → (b : Bool) → ltb e v ≡ b → In x (e ∷ es) → cond b (suc (below v es)) (below v es) < suc (length es)
    go ih true t (inl q) = omega (arith, ltb-true e v t)
    go ih true t (inr n) = omega (arith, ih n)
    go ih false t n = omega (arith, below_all v es)

-- the low ends of d are 0, as the default's are
abbrev pub Lowest : {P A : Type 0} → List (Field P A) → A → Type 0
Lowest [] d = Unit {0}
Lowest (f ∷ fs) d = (f.low d ≡ 0) × Lowest fs d

-- in each field, with n rules and d
pub each_bound : {P A : Type 0} (fs : List (Field P A)) (p : P) (n : ℕ) (rs : List A) → length rs ≤ n + 1 → (d : A) → In d rs → holds fs p d ≡ true → Lowest fs d
    → (x : ℕ) → In x (reads_each fs p rs) → x ≤ 2 * n + 1
each_bound [] p n rs h d m t z x i = absurd i
each_bound (f ∷ fs) p n rs h d m t z x (inl q) =
    omega (arith, below_length (f.value p) (ends f rs) (f.high d) (high_in_lem p f fs rs d m t) (reach p f fs rs d m t), length_ends_zero f rs d m z.0)
each_bound (f ∷ fs) p n rs h d m t z x (inr i) =
    each_bound fs p n (keep (covers f (f.value p)) rs) (omega (arith, length_keep (covers f (f.value p)) rs)) d (still_in p f fs rs d m t) (still_holds p f fs rs d m t) z.1 x i

-- and for a whole lookup
pub sum_bound : {P A : Type 0} (fs : List (Field P A)) (p : P) (n : ℕ) (rs : List A) → length rs ≤ n + 1 → (d : A) → In d rs → holds fs p d ≡ true → Lowest fs d
    → reads_sum fs p rs ≤ length fs * (2 * n + 1)
sum_bound [] p n rs h d m t z = omega arith
sum_bound (f ∷ fs) p n rs h d m t z =
    omega (
      arith,
      below_length (f.value p) (ends f rs) (f.high d) (high_in_lem p f fs rs d m t) (reach p f fs rs d m t),
      length_ends_zero f rs d m z.0,
      sum_bound fs p n (keep (covers f (f.value p)) rs) (omega (arith, length_keep (covers f (f.value p)) rs)) d (still_in p f fs rs d m t) (still_holds p f fs rs d m t) z.1,
    )

-- A TIGHTER BOUND for a whole lookup. A rule that covers the value has at most one end below it, its low end less 1; any other rule has at most two, and is not kept for the next field.
-- an end adds one where it is below v, and where it is put in it adds no more
abbrev one : ℕ → ℕ → ℕ
one v x = cond (ltb x v) 1 0

below_cons : (v x : ℕ) (es : List ℕ) → below v (x ∷ es) ≡ below v es + one v x
below_cons v x es = by_test (ltb x v) (λ q. simp q (omega arith)) (λ q. simp q (omega arith))

below_insert : (v x : ℕ) (es : List ℕ) → below v (insert x es) ≤ below v es + one v x
below_insert v x [] = omega (arith, below_cons v x [])
below_insert v x (e ∷ es) = go (below_insert v x es) (ltb x e) (ltb e x)
  where
    go : below v (insert x es) ≤ below v es + one v x → (a b : Bool) → below v (cond a (x ∷ e ∷ es) (cond b (e ∷ insert x es) (e ∷ es))) ≤ below v (e ∷ es) + one v x
    go ih true b = omega (arith, below_cons v x (e ∷ es))
    go ih false true = omega (arith, below_cons v e (insert x es), below_cons v e es)
    go ih false false = omega arith

one_most : (v x : ℕ) → one v x ≤ 1
one_most v x = by_test (ltb x v) (λ q. simp q (omega arith)) (λ q. simp q (omega arith))

below_before : (v l : ℕ) (es : List ℕ) → below v (insert_before l es) ≤ below v es + 1
below_before v zero es = omega arith
below_before v (suc l) es = omega (arith, below_insert v l es, one_most v l)

nothing_before : (v l : ℕ) (es : List ℕ) → l ≡ 0 → below v (insert_before l es) ≤ below v es
nothing_before v zero es z = omega arith
nothing_before v (suc l) es z = absurd (omega arith)

module _ {P A : Type 0} (f : Field P A) (v : ℕ) where
  -- of a rule that covers v the high end is not below v
  high_not : (r : A) → covers f v r ≡ true → one v (f.high r) ≡ 0
  high_not r c = rw (le-ltb (f.high r) v (leb-true v (f.high r) (and_right (leb (f.low r) v) _ c)))

  -- one rule more: with its ends, and whether it is kept
  one_more : (r : A) (rs : List A) → below v (ends f (r ∷ rs)) + length (keep (covers f v) (r ∷ rs)) ≤ below v (ends f rs) + length (keep (covers f v) rs) + 2
  one_more r rs = by_test (covers f v r)
      (λ c. simp c (omega (arith, below_insert v (f.high r) (insert_before (f.low r) (ends f rs)), below_before v (f.low r) (ends f rs), high_not r c)))
      (λ c. simp c (omega (arith, below_insert v (f.high r) (insert_before (f.low r) (ends f rs)), below_before v (f.low r) (ends f rs), one_most v (f.high r))))

  -- so of n rules at most two for each are below v or kept
  pub all_below : (rs : List A) → below v (ends f rs) + length (keep (covers f v) rs) ≤ 2 * length rs
  all_below [] = omega arith
  all_below (r ∷ rs) = omega (arith, one_more r rs, all_below rs)

  -- d covers v, and has no end below it
  with_default : (rs : List A) (d : A) → In d rs → covers f v d ≡ true → f.low d ≡ 0 → below v (ends f rs) + length (keep (covers f v) rs) + 1 ≤ 2 * length rs
  with_default [] d m c z = absurd m
  with_default (r ∷ rs) d (inr m) c z = omega (arith, one_more r rs, with_default rs d m c z)
  with_default (r ∷ rs) d (inl q) c z = subst (λ (s : A). below v (ends f (s ∷ rs)) + length (keep (covers f v) (s ∷ rs)) + 1 ≤ 2 * length (s ∷ rs)) q itself
    where
      itself : below v (ends f (d ∷ rs)) + length (keep (covers f v) (d ∷ rs)) + 1 ≤ 2 * suc (length rs)
      itself = simp c (omega (arith, below_insert v (f.high d) (insert_before (f.low d) (ends f rs)), nothing_before v (f.low d) (ends f rs) z, high_not d c, all_below rs))

pub tight_bound : {P A : Type 0} (fs : List (Field P A)) (p : P) (n : ℕ) (rs : List A) → length rs ≡ n + 1 → (d : A) → In d rs → holds fs p d ≡ true → Lowest fs d
    → reads_sum fs p rs ≤ length fs + (length fs + 1) * n
tight_bound [] p n rs h d m t z = omega arith
tight_bound (f ∷ fs) p n rs h d m t z =
    let kept = keep (covers f (f.value p)) rs in
    let in_kept = still_in p f fs rs d m t in
    let k = length kept - 1 in
    let most : k ≤ n = omega (arith, length_keep (covers f (f.value p)) rs) in
    omega (
      arith,
      with_default f (f.value p) rs d m (and_left (covers f (f.value p) d) _ t) z.0,
      in_length kept d in_kept,
      tight_bound fs p k kept (omega (arith, in_length kept d in_kept)) d in_kept (still_holds p f fs rs d m t) z.1,
      mul-le-mul_left (length fs) most,
    )
  where
    in_length : {A : Type 0} (xs : List A) (x : A) → In x xs → 1 ≤ length xs
    in_length [] x m = absurd m
    in_length (y ∷ xs) x m = omega arith
