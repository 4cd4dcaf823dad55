-- The words of a store as a list: its head, its rows and its part, taken apart and put together.
-- Assumes nothing.
use mathlib.Core.Path.{◌≡◌, refl, sym, ap, ap₂, ◌∙◌}
use mathlib.Core.Bool.{Bool, true, false, not, ◌&&◌}
use mathlib.Core.List.{List, [], ◌∷◌, ◌++◌}
use Prim.Native.Nat.{ℕ, suc, ◌+◌, ◌-◌, ◌*◌, ◌≤◌, min}
use native.Mathlib.Nat.{mul-le-mul_left}
use native.Mathlib.Omega.{arith}
use lib.Dec.{leb}
use lib.ListN.{length, get_or, take, drop, replicate, length-take, length-drop, length-replicate}
use lib.Seq.{length-take-le, take_at, drop_at, take-add, drop-drop}
use borrow.Author.Tests.{not-true, not-false}
use Rattle.model.specs.Table.{Kind, Shaped, row_words}
use Rattle.model.proofs.Tests.{leb_same}
use Rattle.rows.specs.Rows.{Scratch}
use Rattle.table.specs.Rows.{places}
use Rattle.layout.specs.Store.{size, head_text, rows_of, part_of}

-- rows of tests: the first that fails, and all that hold
pub first_fails : {a A : Bool} (X : Bool) → a ≡ A → not a ≡ true → false ≡ (A && X)
first_fails {a} X e t = rw (← e, not-true a t)

pub second_fails : {a A b B : Bool} (X : Bool) → a ≡ A → not a ≡ false → b ≡ B → not b ≡ true → false ≡ (A && (B && X))
second_fails {a} {A} {b} X e t f u = rw (← e, ← f, not-false a t, not-true b u)

pub third_says : {a A b B d D : Bool} → a ≡ A → not a ≡ false → b ≡ B → not b ≡ false → d ≡ D → d ≡ (A && (B && D))
third_says {a} {A} {b} e t f u g = rw (← e, ← f, not-false a t, not-false b u) g

-- a count with a stop at room + 1 is at most room exactly where the whole count is
pub counted : (r n room : ℕ) → r ≡ min n (room + 1) → leb r room ≡ leb n room
counted r n room e = leb_same r room n room (λ h. omega arith) (λ h. omega arith)

-- scratch for many rules is enough for few
pub scratch_few : {m d : ℕ} {sets ends : List ℕ} (n : ℕ) → Scratch m d sets ends → n ≤ m → Scratch n d sets ends
scratch_few {m} {d} n s h = let z = mul-le-mul_left (suc d) h in record { places = omega (arith, z, s.places); room = omega (arith, z, s.room) }

-- the head of a store, and what stands behind it
module _ (k : Kind) (s : Shaped k) (c n : ℕ) (r : List ℕ) where
  pub head_length : length (head_text k c n) ≡ k.head
  unfolding head_text
  head_length = omega (arith, length-replicate {A = ℕ} (k.head - 3) 0, s.three)

-- two lists of equal first parts' lengths are equal where their parts are
pub split_equal : (a b x y : List ℕ) → length a ≡ length b → a ++ x ≡ b ++ y → (a ≡ b) × (x ≡ y)
split_equal a b x y l e = (
  sym (take_at a x (length a) refl) ∙ ap (take (length a)) e ∙ take_at b y (length a) (sym l),
  sym (drop_at a x (length a) refl) ∙ ap (drop (length a)) e ∙ drop_at b y (length a) (sym l),
)

-- the words of a store of c cells: its head, its rows, and its part
pub in_three : (k : Kind) (ws : List ℕ) (c : ℕ) → take (size k c) ws ≡ take k.head ws ++ (rows_of k ws ++ part_of k c ws)
in_three k ws c =
    let R = row_words k in
    let y : size k c ≡ k.head + (R + (2 + 8 * c)) = omega arith in
    ap (λ n. take n ws) y
    ∙ take-add k.head (R + (2 + 8 * c)) ws
    ∙ ap (λ l. take k.head ws ++ l) (take-add R (2 + 8 * c) (drop k.head ws) ∙ ap (λ l. rows_of k ws ++ take (2 + 8 * c) l) (drop-drop R k.head ws))

module _ (k : Kind) (ws : List ℕ) (c : ℕ) (h : size k c ≤ length ws) where
  pub rows_long : length (rows_of k ws) ≡ row_words k
  rows_long = simp (length-take, length-drop) (omega arith)

  pub part_long : length (part_of k c ws) ≡ 2 + 8 * c
  part_long = simp (length-take, length-drop) (omega arith)

-- THE SLICES that the code takes of these words: E is its end of the rows
module _ (k : Kind) (ws : List ℕ) (E : ℕ) (f : E ≡ k.head + row_words k) where
  pub rows_slice : take (E - k.head) (drop k.head ws) ≡ rows_of k ws
  rows_slice = let z : E - k.head ≡ row_words k = omega arith in ap (λ m. take m (drop k.head ws)) z

  pub part_slice : (c : ℕ) → take (E + (2 + 8 * c) - E) (drop E ws) ≡ part_of k c ws
  part_slice c = let z : E + (2 + 8 * c) - E ≡ 2 + 8 * c = omega arith in ap₂ (λ m i. take m (drop i ws)) z f

-- the part from the links on is as long as its cells are many
pub part_here : (c E : ℕ) (ws : List ℕ) → E + (2 + 8 * c) ≤ length ws → length (take (E + (2 + 8 * c) - E) (drop E ws)) ≡ 2 + 8 * c
part_here c E ws h = simp (length-take, length-drop) (omega arith)

three : (ws : List ℕ) → 3 ≤ length ws → take 3 ws ≡ get_or ws 0 0 ∷ get_or ws 1 0 ∷ get_or ws 2 0 ∷ []
three [] h = absurd (omega arith)
three (a ∷ []) h = absurd (omega arith)
three (a ∷ b ∷ []) h = absurd (omega arith)
three (a ∷ b ∷ d ∷ ws) h = refl

-- words with the kind's mark, and zeros behind it, begin with a head
module _ (k : Kind) (s : Shaped k) (ws : List ℕ) (h : k.head ≤ length ws) where
  head_parts : take k.head ws ≡ take 3 ws ++ take (k.head - 3) (drop 3 ws)
  head_parts = let y : k.head ≡ 3 + (k.head - 3) = omega (arith, s.three) in ap (λ n. take n ws) y ∙ take-add 3 (k.head - 3) ws

  pub head_of : get_or ws 2 0 ≡ k.mark → take (k.head - 3) (drop 3 ws) ≡ replicate (k.head - 3) 0 → take k.head ws ≡ head_text k (get_or ws 0 0) (get_or ws 1 0)
  unfolding head_text
  head_of m e = head_parts ∙ ap₂ ◌++◌ (three ws (omega (arith, s.three)) ∙ ap (λ x. get_or ws 0 0 ∷ get_or ws 1 0 ∷ x ∷ []) m) e

  pub of_head : (c n : ℕ) → take k.head ws ≡ head_text k c n → (get_or ws 2 0 ≡ k.mark) × (take (k.head - 3) (drop 3 ws) ≡ replicate (k.head - 3) 0)
  unfolding head_text
  of_head c n e =
      let b = split_equal (take 3 ws) (c ∷ n ∷ k.mark ∷ []) (take (k.head - 3) (drop 3 ws)) (replicate (k.head - 3) 0) (length-take-le 3 ws (omega (arith, s.three))) (sym head_parts ∙ e) in
      (ap (λ xs. get_or xs 2 0) (sym (three ws (omega (arith, s.three))) ∙ b.0), b.1)
