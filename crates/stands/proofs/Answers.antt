-- Rows of tests, and what an answer says of its test.
-- Assumes nothing.
use mathlib.Core.Path.{◌≡◌, refl, sym, ap}
use mathlib.Core.Bool.{Bool, true, false, ◌&&◌}
use Prim.Native.Nat.{ℕ}
use lib.Dec.{eqb}
use borrow.Author.Tests.{eq-eqb, ne_eqb}
use Rattle.model.proofs.Tests.{never}
use Rattle.cells.specs.declared.Below.{Below}
use Rattle.std.specs.Prelude.{Some, None}
use Rattle.stands.specs.declared.Stands.{Stands}
use Rattle.stands.specs.Stands.{answer}

-- a row of tests of which one more holds, or does not
pub more : {x y : ℕ} {a b : Bool} → x ≡ y → a ≡ b → a ≡ (eqb x y && b)
more {x} {y} h g = rw (eq-eqb x y h) g

pub fails : {x y : ℕ} (b : Bool) → (x ≡ y → ⊥) → false ≡ (eqb x y && b)
fails {x} {y} b h = rw (ne_eqb x y h)

-- the answer of a comparison, and its test
pub answer_no : (b : Bool) (p : ℕ) (l : Below) → (b ≡ true → ⊥) → answer b p l ≡ None
answer_no true p l h = absurd (h refl)
answer_no false p l h = refl

pub answer_none : (b : Bool) (p : ℕ) (l : Below) → answer b p l ≡ None → b ≡ true → ⊥
answer_none true p l d h = cc
answer_none false p l d h = never (sym h)

pub answer_some : (b : Bool) (p : ℕ) (l : Below) {u : Stands} → answer b p l ≡ Some u → (b ≡ true) × (u.past ≡ p) × (u.says ≡ l)
answer_some true p l {u} h = let e : u ≡ record { past = p; says = l } = cc in (refl, ap (λ x. x.past) e, ap (λ x. x.says) e)
answer_some false p l h = absurd (cc)
