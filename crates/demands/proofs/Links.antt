-- The cells of a store by their links: from the first chain they give the tree in its cells, and from the free chain all other cells.
-- Assumes nothing.
use mathlib.Core.Path.{◌≡◌, refl, sym, ap}
use mathlib.Core.Logic.{◌⊎◌, inl, inr, ⊎_elim}
use mathlib.Core.List.{List, [], ◌∷◌, ◌++◌}
use Prim.Native.Nat.{ℕ, zero, suc, ◌+◌, ◌-◌, ◌*◌, ◌≤◌, ◌<◌}
use native.Mathlib.Omega.{arith}
use lib.Dec.{ltb, eqb}
use lib.ListN.{length, drop, length-append}
use borrow.Author.Tests.{ltb-true, ltb-false, eqb-true, eqb-false}
use Rattle.model.specs.Lists.{In}
use Rattle.model.specs.Rules.{Tree, names, stop, loc, cells}
use Rattle.model.specs.Table.{Kind, Rule, front}
use Rattle.model.proofs.Tests.{by_test}
use Rattle.model.proofs.Keep.{in_left, in_right}
use Rattle.cells.specs.Text.{frees, width, under, first}
use Rattle.cells.specs.Planted.{Deep}
use Rattle.cells.proofs.From.{Stands, end_here, next_here, down_here, rest_stands, under_stands, free_next, free_rest}
use Rattle.table.specs.Rows.{rule_in}
use Rattle.layout.specs.Named.{rename}
use Rattle.layout.specs.Store.{cells_in, rows_of}
use Rattle.demands.specs.Calls.{field_count}
use Rattle.demands.specs.Links.{next_at, down_at}
use Rattle.demands.specs.Check.{TreeFrom, cells_from, ChainFrom}

-- n cells from j on
abbrev pub cells_on : ℕ → ℕ → List ℕ
cells_on j zero = []
cells_on j (suc n) = j ∷ cells_on (j + 1) n

pub length_on : (j n : ℕ) → length (cells_on j n) ≡ n
length_on j zero = refl
length_on j (suc n) = ap suc (length_on (j + 1) n)

pub in_on : (j n x : ℕ) → j ≤ x → x < j + n → In x (cells_on j n)
in_on j zero x a b = absurd (omega arith)
in_on j (suc n) x a b = by_test (eqb x j) (λ z. inl (eqb-true x j z)) (λ z. inr (in_on (j + 1) n x (let y = eqb-false x j z in omega arith) (omega arith)))

-- The words of a store of a kind, which have c cells behind their front.
module _ (k : Kind) (ws : List ℕ) (c : ℕ) where
  -- a chain that stands in the cells
  abbrev pub Laid : Tree ℕ → ℕ → ℕ → Type 0
  Laid = Stands (front k) ws c

  -- the rule whose row begins at a word of the rows
  abbrev pub rule_on : ℕ → Rule
  rule_on = rule_in (field_count k) (rows_of k ws)

  -- THE TREE by its links
  pub gives : cells_in ws ≡ c → (t : Tree ℕ) (d a b : ℕ) → Deep t d → Laid t a b → TreeFrom k ws (first c t a).down (rename rule_on t)
  unfolding first Deep width
  gives q (names x) d a b h o = refl
  gives q stop d a b h o = sym q
  gives q (loc e u t) d a b h o = (
    omega (arith, o.wide),
    end_here (front k) ws c o,
    rw (down_here (front k) ws c o) (gives q u (d - 1) (b + under t) (b + under t + width u) h.1 (under_stands (front k) ws c o)),
    rw (next_here (front k) ws c o h.2 h.0) (gives q t d a b h.2 (rest_stands (front k) ws c o)),
  )

  -- all cells of its chains are on the way
  abbrev Inside : Tree ℕ → ℕ → ℕ → ℕ → Type 0
  Inside t a b j = ((a ≤ j) × (j < a + width t)) ⊎ ((b ≤ j) × (j < b + under t))

  pub reaches : (t : Tree ℕ) (d a b : ℕ) → Deep t d → Laid t a b → (j : ℕ) → Inside t a b j → In j (cells_from k ws (first c t a).down (rename rule_on t))
  unfolding first Deep width under
  reaches (names x) d a b h o j i = absurd (⊎_elim (λ y. omega (arith, y.0, y.1)) (λ y. omega (arith, y.0, y.1)) i)
  reaches stop d a b h o j i = absurd (⊎_elim (λ y. omega (arith, y.0, y.1)) (λ y. omega (arith, y.0, y.1)) i)
  reaches (loc e u t) d a b h o j i =
      rw (down_here (front k) ws c o, next_here (front k) ws c o h.2 h.0)
      (on (reaches t d a b h.2 (rest_stands (front k) ws c o) j) (reaches u (d - 1) (b + under t) (b + under t + width u) h.1 (under_stands (front k) ws c o) j) i)
    where
      X : List ℕ
      X = cells_from k ws (first c u (b + under t)).down (rename rule_on u)

      Y : List ℕ
      Y = cells_from k ws (first c t a).down (rename rule_on t)

      on : (Inside t a b j → In j Y) → (Inside u (b + under t) (b + under t + width u) j → In j X) → Inside (loc e u t) a b j → In j ((a + width t) ∷ (X ++ Y))
      on f g (inl y) = by_test (ltb j (a + width t)) (λ z. inr (in_right X Y j (f (inl (y.0, ltb-true j _ z))))) (λ z. inl (omega (arith, y.1, ltb-false j _ z)))
      on f g (inr y) = by_test (ltb j (b + under t))
          (λ z. inr (in_right X Y j (f (inr (y.0, ltb-true j _ z)))))
          (λ z. inr (in_left X Y j (g (by_test (ltb j (b + under t + width u))
          (λ x. inl (ltb-false j _ z, ltb-true j _ x))
          (λ x. inr (ltb-false j _ x, omega (arith, y.1)))))))

  -- and they are as many as the tree has locations
  pub many : (t : Tree ℕ) (j : ℕ) → length (cells_from k ws j (rename rule_on t)) ≡ cells t
  many (names x) j = refl
  many stop j = refl
  many (loc e u t) j = simp length-append (omega (arith, many u (down_at k ws j), many t (next_at k ws j)))

  -- THE FREE CHAIN from cell j on
  pub follows : cells_in ws ≡ c → (j n : ℕ) (r : List ℕ) → drop (front k + 8 * j) ws ≡ frees j n ++ r → j + n ≡ c → ChainFrom k ws j (cells_on j n)
  follows q j zero r h e = omega arith
  follows q j (suc n) r h e = (refl, omega arith, rw (free_next (front k) ws c j n r h) (follows q (j + 1) n r (free_rest (front k) ws c j n r h) (omega arith)))
