-- Of a tree over some tops: the first record fits them and gathers the most, no record gathers more, and every lesser one gathers less.
-- Assumes nothing.
use mathlib.Core.Path.{◌≡◌, refl}
use mathlib.Core.Logic.{⊎_elim}
use mathlib.Core.List.{List, [], ◌∷◌}
use Prim.Native.Nat.{ℕ, suc, ◌+◌, ◌≤◌, ◌<◌}
use native.Mathlib.Omega.{arith}
use lib.Dec.{ltb, leb}
use borrow.Author.Tests.{ltb-true, ltb-false, lt-ltb, le-ltb, leb-true, leb-false, le-leb, lt-leb}
use Rattle.model.specs.Rules.{Tree, names, stop, loc}
use Rattle.model.proofs.Tests.{by_test}
use Rattle.search.specs.Search.{Less, greater, score, most, first}

-- one value for each top, and none above it
abbrev pub Fits : List ℕ → List ℕ → Type 0
Fits [] [] = Unit {0}
Fits [] (v ∷ vs) = ⊥
Fits (t ∷ ts) [] = ⊥
Fits (t ∷ ts) (v ∷ vs) = (v ≤ t) × Fits ts vs

-- A tree over the fields with these tops, whose first chain has the values from l on: in each chain the ends rise, and the last is the field's top.
pub data Topped {B : Type 0} : List ℕ → ℕ → Tree B → Type 0 where
  leaf : {l : ℕ} {b : B} → Topped [] l (names b)
  last : {e l : ℕ} {ts : List ℕ} {u : Tree B} → l ≤ e → Topped ts 0 u → Topped (e ∷ ts) l (loc e u stop)
  more : {top e l : ℕ} {ts : List ℕ} {u t : Tree B} → l ≤ e → e < top → Topped ts 0 u → Topped (top ∷ ts) (suc e) t → Topped (top ∷ ts) l (loc e u t)

-- the record begins with a value of at least l, where it has one
abbrev pub From : ℕ → List ℕ → Type 0
From l [] = Unit {0}
From l (v ∷ vs) = l ≤ v

pub from_zero : (vs : List ℕ) → From 0 vs
from_zero [] = tt
from_zero (v ∷ vs) = omega arith

-- the same, and it has one
abbrev Begins : ℕ → List ℕ → Type 0
Begins l [] = ⊥
Begins l (v ∷ vs) = l ≤ v

greater_left : (a b : ℕ) → a ≤ greater a b
greater_left a b = by_test (leb b a) (λ q. simp q (omega arith)) (λ q. simp q (omega (arith, leb-false b a q)))

greater_right : (a b : ℕ) → b ≤ greater a b
greater_right a b = by_test (leb b a) (λ q. simp q (leb-true b a q)) (λ q. simp q (omega arith))

module _ {B : Type 0} (w : ℕ) (g : B → ℕ) where
  -- a walk passes an end below the value, and goes down at another
  score_past : (e : ℕ) (u t : Tree B) (v : ℕ) (vs : List ℕ) → e < v → score w g (loc e u t) (v ∷ vs) ≡ w + score w g t (v ∷ vs)
  unfolding score
  score_past e u t v vs h = rw (lt-ltb e v h)

  score_down : (e : ℕ) (u t : Tree B) (v : ℕ) (vs : List ℕ) → v ≤ e → score w g (loc e u t) (v ∷ vs) ≡ w + score w g u vs
  unfolding score
  score_down e u t v vs h = rw (le-ltb e v h)

  -- NO RECORD GATHERS MORE
  pub score_most : (t : Tree B) (vs : List ℕ) → score w g t vs ≤ most w g t
  unfolding score most
  score_most (names b) vs = omega arith
  score_most stop vs = omega arith
  score_most (loc e u t) [] = omega arith
  score_most (loc e u t) (v ∷ vs) = by_test (ltb e v)
      (λ q. simp q (omega (arith, greater_right (most w g u) (most w g t), score_most t (v ∷ vs))))
      (λ q. simp q (omega (arith, greater_left (most w g u) (most w g t), score_most u vs)))

  past_begins : (e : ℕ) (u t : Tree B) (vs : List ℕ) → Begins (suc e) vs → score w g (loc e u t) vs ≡ w + score w g t vs
  past_begins e u t [] h = absurd h
  past_begins e u t (v ∷ vs) h = score_past e u t v vs h

  -- where the first record goes down at a location, and where it passes it
  module _ (l e : ℕ) (u t : Tree B) where
    pub first_here : most w g t ≤ most w g u → (first w g l (loc e u t) ≡ l ∷ first w g 0 u) × (most w g (loc e u t) ≡ w + most w g u)
    unfolding first most
    first_here h = (rw (le-leb (most w g t) (most w g u) h), rw (le-leb (most w g t) (most w g u) h))

    pub first_past : most w g u < most w g t → (first w g l (loc e u t) ≡ first w g (suc e) t) × (most w g (loc e u t) ≡ w + most w g t)
    unfolding first most
    first_past h = (rw (lt-leb (most w g t) (most w g u) h), rw (lt-leb (most w g t) (most w g u) h))

    -- what holds in both cases holds
    pub by_place : {X : Type 0} → (most w g t ≤ most w g u → X) → (most w g u < most w g t → X) → X
    by_place f k = by_test (leb (most w g t) (most w g u)) (λ q. f (leb-true (most w g t) (most w g u) q)) (λ q. k (leb-false (most w g t) (most w g u) q))

  stop_most : (u : Tree B) → most w g stop ≤ most w g u
  unfolding most
  stop_most u = omega arith

  first_begins : {top : ℕ} {ts : List ℕ} {l : ℕ} {t : Tree B} → Topped (top ∷ ts) l t → Begins l (first w g l t)
  first_begins {l = l} (last {e = e} {u = u} h s) = rw (first_here l e u stop (stop_most u)).0 (omega arith)
  first_begins {l = l} (more {e = e} {u = u} {t = t} h k s r) = by_place l e u t
      (λ q. rw (first_here l e u t q).0 (omega arith))
      (λ q. rw (first_past l e u t q).0 (later (first w g (suc e) t) (first_begins r)))
    where
      later : (vs : List ℕ) → Begins (suc e) vs → Begins l vs
      later [] z = z
      later (v ∷ vs) z = omega (arith, z)

  -- THE FIRST RECORD FITS
  pub first_fits : {ts : List ℕ} {l : ℕ} {t : Tree B} → Topped ts l t → Fits ts (first w g l t)
  unfolding first
  first_fits leaf = tt
  first_fits {l = l} (last {e = e} {u = u} h s) = rw (first_here l e u stop (stop_most u)).0 (h, first_fits s)
  first_fits {l = l} (more {e = e} {u = u} {t = t} h k s r) = by_place l e u t
      (λ q. rw (first_here l e u t q).0 (omega arith, first_fits s))
      (λ q. rw (first_past l e u t q).0 (first_fits r))

  -- IT GATHERS THE MOST
  at_leaf : (l : ℕ) (b : B) → score w g (names b) (first w g l (names b)) ≡ most w g (names b)
  unfolding score most
  at_leaf l b = refl

  here_most : (l e : ℕ) (u t : Tree B) → l ≤ e → most w g t ≤ most w g u → score w g u (first w g 0 u) ≡ most w g u
      → score w g (loc e u t) (first w g l (loc e u t)) ≡ most w g (loc e u t)
  here_most l e u t h q ih = rw ((first_here l e u t q).0, (first_here l e u t q).1, score_down e u t l (first w g 0 u) h, ih)

  pub first_most : {ts : List ℕ} {l : ℕ} {t : Tree B} → Topped ts l t → score w g t (first w g l t) ≡ most w g t
  first_most {l = l} (leaf {b = b}) = at_leaf l b
  first_most {l = l} (last {e = e} {u = u} h s) = here_most l e u stop h (stop_most u) (first_most s)
  first_most {l = l} (more {e = e} {u = u} {t = t} h k s r) = by_place l e u t
      (λ q. here_most l e u t h q (first_most s))
      (λ q. rw ((first_past l e u t q).0, (first_past l e u t q).1, past_begins e u t (first w g (suc e) t) (first_begins r), first_most r))

  -- EVERY LESSER RECORD GATHERS LESS
  no_less : (l : ℕ) (b : B) (vs : List ℕ) → Less vs (first w g l (names b)) → ⊥
  unfolding first
  no_less l b [] h = h
  no_less l b (v ∷ vs) h = h

  here_lesser : (l e : ℕ) (u t : Tree B) → l ≤ e → most w g t ≤ most w g u → ((vs : List ℕ) → Less vs (first w g 0 u) → score w g u vs < most w g u)
      → (vs : List ℕ) → From l vs → Less vs (first w g l (loc e u t)) → score w g (loc e u t) vs < most w g (loc e u t)
  here_lesser l e u t h q ih [] f m = absurd m
  here_lesser l e u t h q ih (v ∷ vs) f m = ⊎_elim
      (λ (k : v < l). absurd (omega (arith, f)))
      (λ (k : (v ≡ l) × Less vs (first w g 0 u)). rw (score_down e u t v vs (omega (arith, k.0)), (first_here l e u t q).1) (omega (arith, ih vs k.1)))
      (rw (first_here l e u t q).0 at m)

  pub lesser : {ts : List ℕ} {l : ℕ} {t : Tree B} → Topped ts l t → (vs : List ℕ) → From l vs → Less vs (first w g l t) → score w g t vs < most w g t
  lesser {l = l} (leaf {b = b}) vs f h = absurd (no_less l b vs h)
  lesser {l = l} (last {e = e} {u = u} k s) vs f h = here_lesser l e u stop k (stop_most u) (λ xs m. lesser s xs (from_zero xs) m) vs f h
  lesser {l = l} (more {e = e} {u = u} {t = t} k n s r) vs f h = by_place l e u t
      (λ q. here_lesser l e u t k q (λ xs m. lesser s xs (from_zero xs) m) vs f h)
      (λ q. past (λ xs. lesser r xs) q vs (rw (first_past l e u t q).0 at h))
    where
      past : ((xs : List ℕ) → From (suc e) xs → Less xs (first w g (suc e) t) → score w g t xs < most w g t) → most w g u < most w g t → (xs : List ℕ) → Less xs (first w g (suc e) t) → score w g (loc e u t) xs < most w g (loc e u t)
      past ih q [] m = absurd m
      past ih q (x ∷ xs) m = by_test (ltb e x)
          (λ z. rw (score_past e u t x xs (ltb-true e x z), (first_past l e u t q).1) (omega (arith, ih (x ∷ xs) (ltb-true e x z) m)))
          (λ z. rw (score_down e u t x xs (ltb-false e x z), (first_past l e u t q).1) (omega (arith, score_most u xs)))
