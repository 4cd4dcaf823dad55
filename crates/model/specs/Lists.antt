-- Lists: what stands in one, the part that passes a test, and rising lists of distinct numbers.
-- Assumes nothing: these are definitions.
use Rattle.std.specs.Prelude.{◌≡◌, ◌⊎◌, Bool, true, false, cond, ◌&&◌, List, [], ◌∷◌, ◌++◌, ℕ, zero, suc, ◌+◌, ◌<◌, ltb, leb, eqb}

-- x stands in the list
abbrev pub In : {A : Type 0} → A → List A → Type 0
In x [] = ⊥
In x (y ∷ ys) = (x ≡ y) ⊎ In x ys

-- all of xs stands in ys too
abbrev pub Sub : {A : Type 0} → List A → List A → Type 0
Sub {A} xs ys = (x : A) → In x xs → In x ys

-- the two lists are the same set, in whatever order and however often
abbrev pub Same : {A : Type 0} → List A → List A → Type 0
Same xs ys = Sub xs ys × Sub ys xs

-- each number is below those behind it
abbrev pub Rising : List ℕ → Type 0
Rising [] = Unit {0}
Rising (x ∷ xs) = ((y : ℕ) → In y xs → x < y) × Rising xs

-- the part of a list that passes a test, in the same order
abbrev pub keep : {A : Type 0} → (A → Bool) → List A → List A
keep p [] = []
keep p (x ∷ xs) = cond (p x) (x ∷ keep p xs) (keep p xs)

-- a number put into a rising list, unless it stands there: equal numbers count once
abbrev pub insert : ℕ → List ℕ → List ℕ
insert x [] = x ∷ []
insert x (y ∷ ys) = cond (ltb x y) (x ∷ y ∷ ys) (cond (ltb y x) (y ∷ insert x ys) (y ∷ ys))

-- how many numbers of the list are below v
abbrev pub below : ℕ → List ℕ → ℕ
below v [] = 0
below v (e ∷ es) = cond (ltb e v) (suc (below v es)) (below v es)

abbrev pub sum : List ℕ → ℕ
sum [] = 0
sum (x ∷ xs) = x + sum xs

-- of the list, and of d behind it, the one with the least number; of several such, the first
abbrev pub least : {A : Type 0} → (A → ℕ) → A → List A → A
least number d [] = d
least number d (r ∷ rs) = cond (leb (number r) (number (least number d rs))) r (least number d rs)

-- the two lists are equal, number for number
unfoldable pub same : List ℕ → List ℕ → Bool
same [] [] = true
same [] (y ∷ ys) = false
same (x ∷ xs) [] = false
same (x ∷ xs) (y ∷ ys) = eqb x y && same xs ys

-- f 0, f 1, .., f (n - 1)
unfoldable pub up_to : {A : Type 0} → ℕ → (ℕ → A) → List A
up_to zero f = []
up_to (suc n) f = f 0 ∷ up_to n (λ i. f (suc i))

-- n rows of w numbers, one row behind the other: f p 0, .., f p (w - 1) is row p
unfoldable pub grid : {A : Type 0} → ℕ → ℕ → (ℕ → ℕ → A) → List A
grid w zero f = []
grid w (suc n) f = up_to w (f 0) ++ grid w n (λ p. f (suc p))
